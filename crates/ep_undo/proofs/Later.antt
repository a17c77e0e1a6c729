-- One edit, and then nothing but what is heard: what takes it back.
use Rattle.std.proofs.Common.{◌≡◌, ℕ, suc, Bool, true, false, ◌||◌, nat_lt, if◌then◌else◌, List, [], ◌∷◌, map, length, take, Option, Some, None, refl, sym, ap, ◌∙◌, subst}
use Rattle.ep_units.specs.declared.session.Session.{Session}
use Rattle.ep_cs.specs.Change.{Change}
use Rattle.ep_cs.specs.Doc.{Cell, Doc}
use Rattle.ep_cs.specs.Edit.{Place, Edit, apply, identity, pieces}
use Rattle.ep_cs.specs.EditFits.{fits}
use Rattle.ep_cs.specs.Fits.{is_identity}
use Rattle.ep_cs.specs.Follow.{follow}
use Rattle.ep_cs.proofs.EditFits.{IsFit, fits_true, fit-follow, length-follow}
use Rattle.ep_cs.proofs.Identity.{apply-identity, only_identity}
use Rattle.ep_history.specs.Kept.{IfKept, IsKeptSound, KeptClient, is_kept_own, is_kept_spent, kept_dropped, kept_edited, kept_lost, kept_nop, kept_other, kept_own, kept_resumed, kept_submitted, kept_submitted_from}
use Rattle.ep_history.specs.History.{is_session}
use Rattle.ep_history.specs.Lists.{or_else}
use Rattle.ep_history.proofs.Equations.{equations}
use Rattle.ep_invert.specs.Inverse.{inverse}
use Rattle.ep_client.specs.declared.heard.Heard.TheVariants.{Commit, Nop, Rev}
use Rattle.ep_undo.specs.Undo.{UndoState, with_client, top, pushed, undo_edited, undo_other, undo_hears_rev, undo_submitted, undo_lost, undo_resumes, down}
use Rattle.ep_client.specs.Hearing.{shown_change}
use Rattle.ep_undo.specs.Calls.{Call, called, all_called, IsLater, AreLater, heard_rev, call_changes, changes_heard}
use Rattle.ep_undo.specs.Calls.Call.{Edits, Hears, Submits, Loses, Resumes, Undoes, Redoes}
use Rattle.ep_undo.specs.Tracing.{Origin, origins, traced, all_traced, due, dropped_by}
use Rattle.ep_undo.specs.Taken.{TakesBack}
use Rattle.ep_undo.proofs.Tracing.{fates, pieces-follow, pieces-inverse, due-first, due-next}
use Rattle.ep_invert.proofs.Undone.{length-inverse}

-- the last edit can be taken back by u, which does to each unit of the view what is due to it
pub record IsTracked (k : KeptClient) (us : List Edit) (os : List Origin) (cells : List Cell) : Type 0 where
  pub sound : IsKeptSound k
  pub u : Edit
  pub below : List Edit
  pub is : us ≡ u ∷ below
  pub long : length k.view ≡ length u.places
  pub all : length os ≡ length u.places
  pub does : fates u.places ≡ map due os
  pub puts : pieces u.places u.last ≡ cells

abbrev Tracked : UndoState → List Origin → List Cell → Type 0
Tracked s os cells = IsTracked s.client s.undos os cells

count : {A B : Type 0} (f : A → B) (xs : List A) → length (map f xs) ≡ length xs
count f [] = refl
count f (x ∷ xs) = ap suc (count f xs)

as_many : (u : Edit) (os : List Origin) → fates u.places ≡ map due os → length os ≡ length u.places
as_many u os e = sym (count due os) ∙ sym (ap length e) ∙ count (λ (p : Place). p.fate) u.places

-- ---- the edit itself

pub first-tracked : (e : Edit) (s : UndoState) → IsKeptSound s.client → fits e s.client.view ≡ true → is_identity e ≡ false
    → Tracked (undo_edited e s) (origins e s.client.view) (dropped_by e s.client.view)
first-tracked e s g f alters =
    let fit = fits_true e s.client.view f in
    let back = inverse e s.client.view in
    let does = due-first e s.client.view fit.long in
    let made : Tracked (record { client = kept_edited e s.client; undos = pushed back s.undos; redos = [] }) (origins e s.client.view) (dropped_by e s.client.view) = record {
      sound = equations.edit s.client e g f;
      u = back;
      below = take 99 s.undos;
      is = refl;
      long = sym (length-inverse e s.client.view fit.long);
      all = as_many back (origins e s.client.view) does;
      does = does;
      puts = pieces-inverse e s.client.view fit.long;
    } in
    subst (λ (b : Bool). Tracked (if b then with_client s (kept_edited e s.client) else record { client = kept_edited e s.client; undos = pushed back s.undos; redos = [] }) (origins e s.client.view) (dropped_by e s.client.view)) (sym alters) made

-- ---- what leaves the view as it is

same-view : (k k' : KeptClient) (us : List Edit) (os : List Origin) (cells : List Cell) → IsTracked k us os cells → IsKeptSound k' → k'.view ≡ k.view → IsTracked k' us os cells
same-view k k' us os cells t g e = record {
  sound = g;
  u = t.u;
  below = t.below;
  is = t.is;
  long = ap length e ∙ t.long;
  all = t.all;
  does = t.does;
  puts = t.puts;
}

pub dropped-view : (k : KeptClient) → (kept_dropped k).view ≡ k.view
dropped-view k = go (is_kept_spent k)
  where
    go : (t : Bool) → (if t then kept_nop k else k).view ≡ k.view
    go true = refl
    go false = refl

pub nothing-done : (e : Edit) (doc : Doc) → is_identity e ≡ true → IsFit e doc → apply e doc ≡ doc
nothing-done e doc i f =
    let n : e ≡ identity (length doc) = only_identity e i ∙ ap identity (sym f.long) in
    ap (λ x. apply x doc) n ∙ apply-identity doc

-- ---- another's revision

pub fit-shown : (b : Edit) (k : KeptClient) → IsKeptSound k → fits b k.doc ≡ true → IsFit (shown_change b k) k.view
fit-shown b k g f =
    let mine = fits_true k.sent k.doc g.sent_fits in
    let rest = fits_true k.local (apply k.sent k.doc) g.local_fits in
    let below = fit-follow false k.sent b k.doc mine (fits_true b k.doc f) in
    subst (IsFit (shown_change b k)) (sym g.view) (fit-follow true k.local (follow false k.sent b) (apply k.sent k.doc) rest below)

other-tracked : (b : Edit) (s : UndoState) (os : List Origin) (cells : List Cell) → fits b s.client.doc ≡ true → Tracked s os cells
    → Tracked (undo_other b s) (traced (shown_change b s.client) os) cells
other-tracked b s os cells f t =
    let k = s.client in
    let d = shown_change b k in
    let fit = fit-shown b k t.sound f in
    let u = follow true d t.u in
    let n : length d.places ≡ length t.u.places = sym fit.long ∙ t.long in
    let does = due-next true d t.u os n t.all t.does in
    record {
      sound = equations.dropped (kept_other b k) (equations.other k b t.sound f);
      u = u;
      below = down (follow false t.u d) t.below;
      is = ap (down d) t.is;
      long = ap length (dropped-view (kept_other b k)) ∙ length-follow true d t.u k.view fit.long t.long;
      all = as_many u (traced d os) does;
      does = does;
      puts = pieces-follow true d t.u n ∙ t.puts;
    }

rev-tracked : (change : Change) (session : Session) (s : UndoState) (os : List Origin) (cells : List Cell)
    → (is_kept_own session s.client.sent_in ≡ false → fits change.edit s.client.doc ≡ true) → Tracked s os cells
    → Tracked (undo_hears_rev change session s) (all_traced (heard_rev change session s []) os) cells
rev-tracked change session s os cells f t = go (is_kept_own session s.client.sent_in) f
  where
    go : (own : Bool) → (own ≡ false → fits change.edit s.client.doc ≡ true)
        → Tracked (if own then with_client s (kept_own s.client) else undo_other change.edit s) (all_traced (if own then [] else shown_change change.edit s.client ∷ []) os) cells
    go true f = same-view s.client (kept_own s.client) s.undos os cells t (equations.own s.client t.sound).0 (equations.own s.client t.sound).1
    go false f = other-tracked change.edit s os cells (f refl) t

-- ---- each call, and all of them

edits-tracked : (c : Change) (s : UndoState) (os : List Origin) (cells : List Cell) → is_identity c.edit ≡ true → fits c.edit s.client.view ≡ true → Tracked s os cells
    → Tracked (undo_edited c.edit s) os cells
edits-tracked c s os cells i f t =
    subst (λ (b : Bool). Tracked (if b then with_client s (kept_edited c.edit s.client) else record { client = kept_edited c.edit s.client; undos = pushed (inverse c.edit s.client.view) s.undos; redos = [] }) os cells) (sym i)
    (same-view s.client (kept_edited c.edit s.client) s.undos os cells t (equations.edit s.client c.edit t.sound f) (nothing-done c.edit s.client.view i (fits_true c.edit s.client.view f)))

pub submitted-view : (k : KeptClient) → (or_else (kept_submitted k) k).view ≡ k.view
submitted-view k = connected k.connected
  where
    first : (t : Bool) → (or_else (if t then None else Some (record k { sent = k.local; sent_in = Some k.session; local = identity (length k.view) })) k).view ≡ k.view
    first true = refl
    first false = refl

    again : (t : Bool) → (or_else (if t then None else Some (record k { sent_in = Some k.session })) k).view ≡ k.view
    again true = refl
    again false = refl

    from : (o : Option Session) → (or_else (kept_submitted_from k o) k).view ≡ k.view
    from None = first (is_identity k.local)
    from (Some s) = again (is_session s k.session || nat_lt k.rev k.told)

    connected : (t : Bool) → (or_else (if t then kept_submitted_from k k.sent_in else None) k).view ≡ k.view
    connected true = from k.sent_in
    connected false = refl

submitted-sound : (k : KeptClient) → IsKeptSound k → IsKeptSound (or_else (kept_submitted k) k)
submitted-sound k g = go (kept_submitted k) (equations.submit k g)
  where
    go : (o : Option KeptClient) → IfKept o → IsKeptSound (or_else o k)
    go None h = g
    go (Some k') h = h

submits-tracked : (s : UndoState) (os : List Origin) (cells : List Cell) → Tracked s os cells → Tracked (undo_submitted s) os cells
submits-tracked s os cells t = same-view s.client (or_else (kept_submitted s.client) s.client) s.undos os cells t (submitted-sound s.client t.sound) (submitted-view s.client)

lost-tracked : (s : UndoState) (os : List Origin) (cells : List Cell) → Tracked s os cells → Tracked (undo_lost s) os cells
lost-tracked s os cells t = same-view s.client (kept_lost s.client) s.undos os cells t (record { sent_fits = t.sound.sent_fits; local_fits = t.sound.local_fits; view = t.sound.view; nothing_sent = t.sound.nothing_sent }) refl

resumes-tracked : (session : Session) (told : ℕ) (s : UndoState) (os : List Origin) (cells : List Cell) → Tracked s os cells → Tracked (undo_resumes session told s) os cells
resumes-tracked session told s os cells t =
    let k = kept_resumed session told s.client in
    let g : IsKeptSound k = record { sent_fits = t.sound.sent_fits; local_fits = t.sound.local_fits; view = t.sound.view; nothing_sent = t.sound.nothing_sent } in
    same-view s.client (kept_dropped k) s.undos os cells t (equations.dropped k g) (dropped-view k)

call-tracked : (c : Call) (s : UndoState) (os : List Origin) (cells : List Cell) → IsLater c s → Tracked s os cells
    → Tracked (called c s) (all_traced (call_changes c s []) os) cells
call-tracked (Edits c) s os cells l t = edits-tracked c s os cells l.0 l.1 t
call-tracked (Hears (Commit rev)) s os cells l t = same-view s.client (kept_own s.client) s.undos os cells t (equations.own s.client t.sound).0 (equations.own s.client t.sound).1
call-tracked (Hears (Nop rev)) s os cells l t = same-view s.client (kept_nop s.client) s.undos os cells t (equations.nop s.client t.sound l) refl
call-tracked (Hears (Rev rev change session)) s os cells l t = rev-tracked change session s os cells l t
call-tracked Submits s os cells l t = submits-tracked s os cells t
call-tracked Loses s os cells l t = lost-tracked s os cells t
call-tracked (Resumes session told) s os cells l t = resumes-tracked session told s os cells t
call-tracked Undoes s os cells l t = absurd l
call-tracked Redoes s os cells l t = absurd l

-- what others changed first is traced first
traced-first : (c : Call) (s : UndoState) (ds : List Edit) (os : List Origin) → all_traced (call_changes c s ds) os ≡ all_traced ds (all_traced (call_changes c s []) os)
traced-first (Edits c) s ds os = refl
traced-first (Hears (Commit rev)) s ds os = refl
traced-first (Hears (Nop rev)) s ds os = refl
traced-first (Hears (Rev rev change session)) s ds os = go (is_kept_own session s.client.sent_in)
  where
    go : (own : Bool) → all_traced (if own then ds else shown_change change.edit s.client ∷ ds) os ≡ all_traced ds (all_traced (if own then [] else shown_change change.edit s.client ∷ []) os)
    go true = refl
    go false = refl
traced-first Submits s ds os = refl
traced-first Loses s ds os = refl
traced-first (Resumes session told) s ds os = refl
traced-first Undoes s ds os = refl
traced-first Redoes s ds os = refl

pub later-tracked : (cs : List Call) (s : UndoState) (os : List Origin) (cells : List Cell) → AreLater cs s → Tracked s os cells
    → Tracked (all_called cs s) (all_traced (changes_heard cs s) os) cells
later-tracked [] s os cells l t = t
later-tracked (c ∷ cs) s os cells l t =
    subst (λ (xs : List Origin). Tracked (all_called cs (called c s)) xs cells) (sym (traced-first c s (changes_heard cs (called c s)) os))
    (later-tracked cs (called c s) _ cells l.1 (call-tracked c s os cells l.0 t))

pub taken-back : (e : Edit) (calls : List Call) (s : UndoState) → IsKeptSound s.client → fits e s.client.view ≡ true → is_identity e ≡ false → AreLater calls (undo_edited e s)
    → (u : Edit) × (top (all_called calls (undo_edited e s)).undos ≡ Some u) × TakesBack e s.client.view (changes_heard calls (undo_edited e s)) u
taken-back e calls s g f alters l =
    let t = later-tracked calls (undo_edited e s) (origins e s.client.view) (dropped_by e s.client.view) l (first-tracked e s g f alters) in
    (t.u, ap top t.is, record { units = t.does; texts = t.puts })
