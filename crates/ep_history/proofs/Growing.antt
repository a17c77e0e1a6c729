-- Through each step births grow at their end, and sessions that ended stay so.
use Rattle.std.proofs.Common.{◌≡◌, ℕ, zero, suc, ◌≤◌, Bool, true, false, ◌==◌, if◌then◌else◌, List, [], ◌∷◌, ◌++◌, ◌⊎◌, inl, inr, map, length, take, Option, Some, None, refl, sym, ap, ◌∙◌, subst, T, arith}
use Rattle.std.proofs.lemmas.List.{append_assoc, append-nil, length-append, take-append-le}
use Rattle.ep_units.specs.Text.{Text, text_eq}
use Rattle.ep_units.specs.declared.session.Session.{Session}
use Rattle.ep_units.specs.declared.grant.Grant.{Grant}
use Rattle.ep_cs.specs.Edit.{Edit}
use Rattle.ep_cs.specs.Fits.{is_identity}
use Rattle.ep_history.specs.Lists.{at, numbered, or_else}
use Rattle.ep_history.specs.History.{By, Birth, nop_by, first_rev, head, first_doc, head_doc, doc_at, made, step_revs}
use Rattle.ep_history.specs.Pad.{PadState, birth_at, create, delete, end_at, end_numbered, ended, is_live, leave, live_count, newest, next_session, no_birth, replaced, reopened, set_public, with_nops, with_revs, with_session}
use Rattle.ep_history.specs.Refusals.{login_fault, resume_fault}
use Rattle.ep_history.specs.Accept.{at_head, by_session, made_at_head, refusal}
use Rattle.ep_history.specs.Server.{create_fault, create_faults, gone_fault, set_fault, set_text}
use Rattle.ep_history.specs.Readings.{dead_fault, fetch_fault, history_fault, text_fault, welcome}
use Rattle.ep_history.specs.Records.{IsKept, IsSoundPad, create_record, next_pad, told_from}
use Rattle.ep_history.specs.Entries.{Entry, Outcome, Reply, is_recordable, logs_in, outcome, unless}
use Rattle.ep_history.specs.Entries.Answer.{LoginAnswer}
use Rattle.ep_history.specs.Entries.Entry.{Login, Resume, Accept, Fetch, Leave, Create, SetText, Delete, SetPublic, ReadText, ReadHistory, ReadStatus}
use Rattle.ep_history.specs.Entries.Outcome.{Refuses, Answers, Records}
use Rattle.ep_history.specs.Machine.{Call, IsClosedStep, IsFoundStep, IsKeptState, IsOpenStep, IsStep, IsStepAs, IsThen, MachineState, Runs, Size, closed, journal_fault, keeping, open_record, reopening, settled, turn, turn_of}
use Rattle.ep_history.specs.Machine.IsOpenStep.{Does, Lacks, Fails}
use Rattle.ep_history.specs.Machine.IsFoundStep.{Opens, IsFull, FailsOpened}
use Rattle.ep_history.specs.Machine.IsClosedStep.{Finds, LacksOpening, FailsOpening}
use Rattle.ep_history.specs.declared.nop.Nop.{Nop}
use Rattle.ep_history.specs.declared.pad_bad.PadBad.{PadBad}
use Rattle.ep_history.specs.declared.pad_bad.PadBad.TheVariants.{Exists}
use Rattle.ep_history.specs.declared.record.Record.{Record}
use Rattle.ep_history.specs.declared.record.Record.TheVariants as record_of
use Rattle.ep_history.specs.declared.rev.Rev.{Rev}
use Rattle.ep_history.specs.declared.seat.Seat.{Seat}
use Rattle.ep_history.specs.declared.seat.Why.{Why}
use Rattle.ep_history.specs.declared.seat.Why.TheVariants.{Left, Replaced}
use Rattle.ep_history.proofs.Lists.{at-left, none_some, some_same}
use Rattle.ep_history.proofs.Refused.{none-of, not-if}
use Rattle.ep_history.proofs.Births.{created-at, longer, noting, nops-at, nops-count, revs-at, revs-count}
use Rattle.ep_history.proofs.Sound.{end-ends}
use Rattle.ep_history.proofs.Recorded.{at-live}
use Rattle.ep_history.proofs.Steps.{IsGoodOutcome, next-epoch, outcome-good, reopening-kept, settled-kept, step-kept}

-- ---- births

-- a birth with more revisions and more edits that became nothing, if any
pub record IsGrown (b c : Birth) : Type 0 where
  pub more : List Rev
  pub notes : List Nop
  pub first : c.first ≡ b.first
  pub later : c.later ≡ b.later ++ more
  pub nops : c.nops ≡ b.nops ++ notes

grown-same : (b c : Birth) → c ≡ b → IsGrown b c
grown-same b c e = record {
  more = [];
  notes = [];
  first = ap (λ (x : Birth). x.first) e;
  later = ap (λ (x : Birth). x.later) e ∙ sym (append-nil b.later);
  nops = ap (λ (x : Birth). x.nops) e ∙ sym (append-nil b.nops);
}

grown-twice : (b c d : Birth) → IsGrown b c → IsGrown c d → IsGrown b d
grown-twice b c d g h = record {
  more = g.more ++ h.more;
  notes = g.notes ++ h.notes;
  first = h.first ∙ g.first;
  later = h.later ∙ ap (λ vs. vs ++ h.more) g.later ∙ append_assoc b.later g.more h.more;
  nops = h.nops ∙ ap (λ xs. xs ++ h.notes) g.nops ∙ append_assoc b.nops g.notes h.notes;
}

pub grown-doc : (b c : Birth) → IsGrown b c → (r : ℕ) → r ≤ head b → doc_at c r ≡ doc_at b r
grown-doc b c g r h =
    ap (λ (v : Rev). made (first_doc (record { first = v; later = []; nops = [] })) (take r c.later)) g.first
    ∙ ap (λ vs. made (first_doc b) (take r vs)) g.later
    ∙ ap (made (first_doc b)) (take-append-le r b.later g.more h)

-- a pad with more births, if any, in which each has grown
pub record AreLater (pad next : PadState) : Type 0 where
  pub count : length pad.births ≤ length next.births
  pub births : (k : ℕ) → k ≤ length pad.births → IsGrown (birth_at pad k) (birth_at next k)

pub later-same : (pad next : PadState) → next.births ≡ pad.births → AreLater pad next
later-same pad next e = record {
  count = let n : length next.births ≡ length pad.births = ap (λ (bs : List Birth). length bs) e in omega (arith, n);
  births = λ k h. grown-same (birth_at pad k) (birth_at next k) (ap (λ (bs : List Birth). or_else (numbered bs k) no_birth) e);
}

pub later-twice : (a b c : PadState) → AreLater a b → AreLater b c → AreLater a c
later-twice a b c f g = record {
  count = let n = f.count in let m = g.count in omega (arith, n, m);
  births = λ k h. let n = f.count in grown-twice (birth_at a k) (birth_at b k) (birth_at c k) (f.births k h) (g.births k (omega (arith, h, n)));
}

with-revs-later : (pad : PadState) (vs : List Rev) → AreLater pad (with_revs pad vs)
with-revs-later pad vs = record {
  count = let n = revs-count pad vs in omega (arith, n);
  births = λ k h. go k (revs-at pad vs k);
}
  where
    go : (k : ℕ) → ((1 ≤ length pad.births) × (k ≡ length pad.births) × (birth_at (with_revs pad vs) k ≡ longer (birth_at pad k) vs)) ⊎ (birth_at (with_revs pad vs) k ≡ birth_at pad k) → IsGrown (birth_at pad k) (birth_at (with_revs pad vs) k)
    go k (inl z) = record {
      more = vs;
      notes = [];
      first = ap (λ (x : Birth). x.first) z.2;
      later = ap (λ (x : Birth). x.later) z.2;
      nops = ap (λ (x : Birth). x.nops) z.2 ∙ sym (append-nil (birth_at pad k).nops);
    }
    go k (inr z) = grown-same (birth_at pad k) (birth_at (with_revs pad vs) k) z

with-nops-later : (pad : PadState) (xs : List Nop) → AreLater pad (with_nops pad xs)
with-nops-later pad xs = record {
  count = let n = nops-count pad xs in omega (arith, n);
  births = λ k h. go k (nops-at pad xs k);
}
  where
    go : (k : ℕ) → ((1 ≤ length pad.births) × (k ≡ length pad.births) × (birth_at (with_nops pad xs) k ≡ noting (birth_at pad k) xs)) ⊎ (birth_at (with_nops pad xs) k ≡ birth_at pad k) → IsGrown (birth_at pad k) (birth_at (with_nops pad xs) k)
    go k (inl z) = record {
      more = [];
      notes = xs;
      first = ap (λ (x : Birth). x.first) z.2;
      later = ap (λ (x : Birth). x.later) z.2 ∙ sym (append-nil (birth_at pad k).later);
      nops = ap (λ (x : Birth). x.nops) z.2;
    }
    go k (inr z) = grown-same (birth_at pad k) (birth_at (with_nops pad xs) k) z

create-later : (pad : PadState) (now : ℕ) (text : Text) → AreLater pad (create pad now text)
create-later pad now text = record {
  count = let n = length-append pad.births (new ∷ []) in omega (arith, n);
  births = λ k h. go k h (created-at pad now text k);
}
  where
    new : Birth
    new = record { first = first_rev now text; later = []; nops = [] }

    go : (k : ℕ) → k ≤ length pad.births → ((k ≡ suc (length pad.births)) × (birth_at (create pad now text) k ≡ new)) ⊎ (birth_at (create pad now text) k ≡ birth_at pad k) → IsGrown (birth_at pad k) (birth_at (create pad now text) k)
    go k h (inl z) = let n = z.0 in absurd (omega (arith, h, n))
    go k h (inr z) = grown-same (birth_at pad k) (birth_at (create pad now text) k) z

next-later : (pad : PadState) (r : Record) → AreLater pad (next_pad pad r)
next-later pad (record_of.Open epoch) = later-same pad (reopened pad) refl
next-later pad (record_of.Create birth time text) = create-later pad time text
next-later pad (record_of.Rev by time author fixed change) = with-revs-later pad _
next-later pad (record_of.Delete time) = later-same pad (delete pad) refl
next-later pad (record_of.Public on) = later-same pad (set_public pad on) refl
next-later pad (record_of.Nop by time) = with-nops-later pad _

-- ---- sessions

-- each session is there still, and where it is live it was so, and no birth came
pub record AreSeated (pad next : PadState) : Type 0 where
  pub epoch : next.epoch ≡ pad.epoch
  pub seats : (c : ℕ) (l : Seat) → numbered pad.sessions c ≡ Some l
      → (m : Seat) × (numbered next.sessions c ≡ Some m) × (is_live m ≡ true → (is_live l ≡ true) × (length next.births ≡ length pad.births))

seated-same : (pad next : PadState) → next.epoch ≡ pad.epoch → next.sessions ≡ pad.sessions → length next.births ≡ length pad.births → AreSeated pad next
seated-same pad next e s n = record {
  epoch = e;
  seats = λ c l h. (l, ap (λ (ls : List Seat). numbered ls c) s ∙ h, λ v. (v, n));
}

at-map : {A B : Type 0} (f : A → B) (xs : List A) (i : ℕ) (x : A) → at xs i ≡ Some x → at (map f xs) i ≡ Some (f x)
at-map f [] i x e = none_some e
at-map f (y ∷ xs) zero x e = ap (λ z. Some (f z)) (some_same e)
at-map f (y ∷ xs) (suc i) x e = at-map f xs i x e

numbered-map : {A B : Type 0} (f : A → B) (xs : List A) (c : ℕ) (x : A) → numbered xs c ≡ Some x → numbered (map f xs) c ≡ Some (f x)
numbered-map f xs zero x e = none_some e
numbered-map f xs (suc i) x e = at-map f xs i x e

numbered-left : {A : Type 0} (xs ys : List A) (c : ℕ) (x : A) → numbered xs c ≡ Some x → numbered (xs ++ ys) c ≡ Some x
numbered-left xs ys zero x e = none_some e
numbered-left xs ys (suc i) x e = at-left xs ys i x e

live-ended : {P : Type 0} (why : Why) (l : Seat) → is_live (ended why l) ≡ true → P
live-ended why l v = absurd (subst T (sym v ∙ end-ends why l) tt)

live-replaced : (pad : PadState) (author : Text) (l : Seat) → is_live (replaced pad author l) ≡ true → is_live l ≡ true
live-replaced pad author l = go (text_eq l.author author)
  where
    go : (b : Bool) → is_live (if b then ended (Replaced (next_session pad)) l else l) ≡ true → is_live l ≡ true
    go true v = live-ended (Replaced (next_session pad)) l v
    go false v = v

entered-seat : (pad : PadState) (author : Text) (read_only : Bool) (c : ℕ) (l : Seat) → numbered pad.sessions c ≡ Some l
    → numbered (with_session pad author read_only).sessions c ≡ Some (replaced pad author l)
entered-seat pad author read_only c l h =
    numbered-left (map (replaced pad author) pad.sessions) _ c (replaced pad author l) (numbered-map (replaced pad author) pad.sessions c l h)

enter-seated : (pad : PadState) (author : Text) (read_only : Bool) → AreSeated pad (with_session pad author read_only)
enter-seated pad author read_only = record {
  epoch = refl;
  seats = λ c l h. (replaced pad author l, entered-seat pad author read_only c l h, λ v. (live-replaced pad author l v, refl));
}

-- where no session is live a birth may come
none-live-seated : (pad next : PadState) → IsSoundPad pad → pad.present ≡ false → next.epoch ≡ pad.epoch
    → ((c : ℕ) (l : Seat) → numbered pad.sessions c ≡ Some l → (m : Seat) × (numbered next.sessions c ≡ Some m) × (is_live m ≡ true → is_live l ≡ true)) → AreSeated pad next
none-live-seated pad next s a e f = record {
  epoch = e;
  seats = λ c l h. let m = f c l h in (m.0, m.1, λ v. alive pad.sessions c l h (m.2 v) (s.absent a));
}
  where
    alive : {P : Type 0} (ls : List Seat) (c : ℕ) (l : Seat) → numbered ls c ≡ Some l → is_live l ≡ true → live_count ls ≡ 0 → P
    alive ls zero l h v n = none_some h
    alive ls (suc i) l h v n = let m = at-live ls i l h v in absurd (omega (arith, m, n))

at-end : (ls : List Seat) (i j : ℕ) (l : Seat) → at ls j ≡ Some l → (m : Seat) × (at (end_at i ls) j ≡ Some m) × (is_live m ≡ true → is_live l ≡ true)
at-end [] i j l h = none_some h
at-end (x ∷ ls) zero zero l h = (ended Left x, refl, λ v. live-ended Left x v)
at-end (x ∷ ls) zero (suc j) l h = (l, h, λ v. v)
at-end (x ∷ ls) (suc i) zero l h = (l, h, λ v. v)
at-end (x ∷ ls) (suc i) (suc j) l h = at-end ls i j l h

leave-seated : (pad : PadState) (t : Session) → AreSeated pad (leave pad t)
leave-seated pad t = record { epoch = refl; seats = λ c l h. add c l (go (t.epoch == pad.epoch) t.count c l h) }
  where
    go : (b : Bool) (k c : ℕ) (l : Seat) → numbered pad.sessions c ≡ Some l
        → (m : Seat) × (numbered (if b then end_numbered k pad.sessions else pad.sessions) c ≡ Some m) × (is_live m ≡ true → is_live l ≡ true)
    go b k zero l h = none_some h
    go false k (suc j) l h = (l, h, λ v. v)
    go true zero (suc j) l h = (l, h, λ v. v)
    go true (suc i) (suc j) l h = at-end pad.sessions i j l h

    add : (c : ℕ) (l : Seat) → (m : Seat) × (numbered (leave pad t).sessions c ≡ Some m) × (is_live m ≡ true → is_live l ≡ true)
        → (m : Seat) × (numbered (leave pad t).sessions c ≡ Some m) × (is_live m ≡ true → (is_live l ≡ true) × (length pad.births ≡ length pad.births))
    add c l m = (m.0, m.1, λ v. (m.2 v, refl))

delete-seated : (pad : PadState) → AreSeated pad (delete pad)
delete-seated pad = record {
  epoch = refl;
  seats = λ c l h. (ended _ l, numbered-map (ended _) pad.sessions c l h, λ v. live-ended _ l v);
}

commit-seated : (pad : PadState) (by : By) (e : Edit) → AreSeated pad (made_at_head pad by e)
commit-seated pad by e = go (is_identity e)
  where
    go : (b : Bool) → AreSeated pad (if b then with_nops pad (nop_by by (head (newest pad)) ∷ []) else with_revs pad (step_revs by e (head_doc (newest pad))))
    go true = seated-same pad (with_nops pad _) refl refl (nops-count pad _)
    go false = seated-same pad (with_revs pad _) refl refl (revs-count pad _)

-- an outcome leaves sessions so
abbrev IsSeated : PadState → Outcome → Type 0
IsSeated pad (Refuses bad) = Unit {0}
IsSeated pad (Answers answer next) = AreSeated pad next
IsSeated pad (Records r answer next) = AreSeated pad next

unless-seated : (pad : PadState) (f : Option PadBad) (o : Outcome) → (f ≡ None → IsSeated pad o) → IsSeated pad (unless f o)
unless-seated pad None o g = g refl
unless-seated pad (Some bad) o g = tt

login-seated : (pad : PadState) (g : Grant) (now : ℕ) → IsSoundPad pad → IsSeated pad (logs_in pad g now)
login-seated pad g now s = go pad.present refl
  where
    there : Bool → PadState
    there b = if b then pad else create pad now []

    go : (b : Bool) → pad.present ≡ b
        → IsSeated pad (if b then Answers (LoginAnswer (welcome (there b) g)) (with_session (there b) g.author g.read_only)
        else Records (create_record pad now []) (LoginAnswer (welcome (there b) g)) (with_session (there b) g.author g.read_only))
    go true p = enter-seated pad g.author g.read_only
    go false p = none-live-seated pad (with_session (create pad now []) g.author g.read_only) s p refl (λ c l h.
        (replaced (create pad now []) g.author l, entered-seat (create pad now []) g.author g.read_only c l h, live-replaced (create pad now []) g.author l))

outcome-seated : (pad : PadState) (e : Entry) → IsSoundPad pad → IsSeated pad (outcome pad e)
outcome-seated pad (Login g now) s = unless-seated pad (login_fault pad g) (logs_in pad g now) (λ f. login-seated pad g now s)
outcome-seated pad (Resume g rev birth author now) s = unless-seated pad (resume_fault pad g rev birth author) _ (λ f. enter-seated pad g.author g.read_only)
outcome-seated pad (Accept t base c now) s =
    unless-seated pad (refusal pad t base c) _ (λ f. commit-seated pad (by_session pad t now) (at_head pad base c.edit))
outcome-seated pad (Fetch t from told) s = unless-seated pad (fetch_fault pad t from) _ (λ f. seated-same pad pad refl refl refl)
outcome-seated pad (Leave t) s = unless-seated pad (dead_fault pad t) _ (λ f. leave-seated pad t)
outcome-seated pad (Create text now) s = unless-seated pad (create_fault pad text) _ (λ f.
    none-live-seated pad (create pad now text) s (not-if pad.present Exists (none-of (create_faults pad text) f).0) refl (λ c l h. (l, h, λ v. v)))
outcome-seated pad (SetText text now) s = unless-seated pad (set_fault pad text) _ (λ f. seated-same pad (set_text pad now text) refl refl (revs-count pad _))
outcome-seated pad (Delete now) s = unless-seated pad (gone_fault pad) _ (λ f. delete-seated pad)
outcome-seated pad (SetPublic on) s = unless-seated pad (gone_fault pad) _ (λ f. seated-same pad (set_public pad on) refl refl refl)
outcome-seated pad (ReadText rev) s = unless-seated pad (text_fault pad rev) _ (λ f. seated-same pad pad refl refl refl)
outcome-seated pad (ReadHistory t start count) s = unless-seated pad (history_fault pad t start) _ (λ f. seated-same pad pad refl refl refl)
outcome-seated pad ReadStatus s = unless-seated pad (gone_fault pad) _ (λ f. seated-same pad pad refl refl refl)

-- ---- steps

-- a turn's pad is later, and seated
turn-later : (size : Size) (st : MachineState) (can : Bool) (o : Outcome) → IsGoodOutcome st.pad can o → IsSeated st.pad o
    → AreLater st.pad (turn_of size st can o).state.pad × AreSeated st.pad (turn_of size st can o).state.pad
turn-later size st can (Refuses bad) g s = (later-same st.pad st.pad refl, seated-same st.pad st.pad refl refl refl)
turn-later size st can (Answers answer next) g s = (later-same st.pad next (ap (λ (p : PadState). p.births) g.0), s)
turn-later size st false (Records r answer next) g s = (later-same st.pad st.pad refl, seated-same st.pad st.pad refl refl refl)
turn-later size st true (Records r answer next) g s = go (journal_fault size st r)
  where
    go : (f : Option PadBad) → AreLater st.pad (keeping st f r answer next).state.pad × AreSeated st.pad (keeping st f r answer next).state.pad
    go (Some full) = (later-same st.pad st.pad refl, seated-same st.pad st.pad refl refl refl)
    go None =
        let n = g refl in
        (later-twice st.pad (next_pad st.pad r) next (next-later st.pad r) (later-same (next_pad st.pad r) next (ap (λ (p : PadState). p.births) n.1)), s)

turned-later : (size : Size) (st : MachineState) (e : Entry) → IsKept st.records st.pad → AreLater st.pad (turn size st e).state.pad × AreSeated st.pad (turn size st e).state.pad
turned-later size st e k =
    turn-later size st (is_recordable e) (outcome st.pad e) (outcome-good st.pad e k.sound k.opened) (outcome-seated st.pad e k.sound)

then-later : (pad : PadState) (st new : MachineState) → AreLater pad st.pad → IsThen st new → AreLater pad new.pad
then-later pad st new l t = subst (λ (x : MachineState). AreLater pad x.pad) (sym t.0) l

open-later : (size : Size) (st : MachineState) (e : Entry) (reply : Reply) (new : MachineState) → IsKept st.records st.pad → IsOpenStep size st e reply new → AreLater st.pad new.pad
open-later size st e reply new k (Does r t) = then-later st.pad (turn size st e).state new (turned-later size st e k).0 t
open-later size st e reply new k (Lacks r t) = then-later st.pad st new (later-same st.pad st.pad refl) t
open-later size st e reply new k (Fails count r adds q h t) = then-later st.pad (closed r st) new (later-same st.pad st.pad refl) t

found-later : (size : Size) (st : MachineState) (e : Entry) (reply : Reply) (new : MachineState) → IsKept st.records st.pad → IsFoundStep size st e reply new → AreLater st.pad new.pad
found-later size st e reply new k (Opens f step) =
    later-twice st.pad (reopening st).pad new.pad (later-same st.pad (reopening st).pad refl) (open-later size (reopening st) e reply new (reopening-kept st k) step)
found-later size st e reply new k (IsFull full f r t) = then-later st.pad st new (later-same st.pad st.pad refl) t
found-later size st e reply new k (FailsOpened count f r h t) = then-later st.pad (closed (open_record st) st) new (later-same st.pad st.pad refl) t

all-later : (pad : PadState) (rs : List Record) → AreLater pad (told_from pad rs)
all-later pad [] = later-same pad pad refl
all-later pad (r ∷ rs) = later-twice pad (next_pad pad r) (told_from (next_pad pad r) rs) (next-later pad r) (all-later (next_pad pad r) rs)

pub settled-later : (kept : Bool) (st : MachineState) → AreLater st.pad (settled kept st).pad
settled-later true st = all-later st.pad st.pending
settled-later false st = later-same st.pad st.pad refl

closed-later : (size : Size) (st : MachineState) (e : Entry) (reply : Reply) (new : MachineState) → IsKeptState st → IsClosedStep size st e reply new → AreLater st.pad new.pad
closed-later size st e reply new k (Finds kept step) =
    later-twice st.pad (settled kept st).pad new.pad (settled-later kept st) (found-later size (settled kept st) e reply new (settled-kept st kept k).kept step)
closed-later size st e reply new k (LacksOpening r t) = then-later st.pad st new (later-same st.pad st.pad refl) t
closed-later size st e reply new k (FailsOpening count r h t) = then-later st.pad st new (later-same st.pad st.pad refl) t

pub step-later : (size : Size) (st : MachineState) (e : Entry) (reply : Reply) (new : MachineState) → IsKeptState st → IsStep size st e reply new → AreLater st.pad new.pad
step-later size st e reply new k = go st.is_open
  where
    go : (b : Bool) → IsStepAs b size st e reply new → AreLater st.pad new.pad
    go true step = open-later size st e reply new k.kept step
    go false step = closed-later size st e reply new k step

pub runs-later : (size : Size) (st : MachineState) (calls : List Call) (last : MachineState) → IsKeptState st → Runs size st calls last → AreLater st.pad last.pad
runs-later size st [] last k r = later-same st.pad last.pad (ap (λ (x : MachineState). x.pad.births) r)
runs-later size st (c ∷ cs) last k r =
    later-twice st.pad r.0.pad last.pad (step-later size st c.entry c.reply r.0 k r.1) (runs-later size r.0 cs last (step-kept size st c.entry c.reply r.0 k r.1) r.2)

-- ---- a session of a birth

-- a session that was made, of this opening or an older one; while it is live this birth of its is the last one
pub record IsOf (s : Session) (k : ℕ) (pad : PadState) (is_open : Bool) : Type 0 where
  pub past : s.epoch ≤ pad.epoch
  pub there : k ≤ length pad.births
  pub seat : is_open ≡ true → s.epoch ≡ pad.epoch → (l : Seat) × (numbered pad.sessions s.count ≡ Some l) × (is_live l ≡ true → k ≡ length pad.births)

of-later : (s : Session) (k : ℕ) (pad next : PadState) (b : Bool) → IsOf s k pad true → AreLater pad next → AreSeated pad next → IsOf s k next b
of-later s k pad next b o l t = record {
  past = let p = o.past in let e = t.epoch in omega (arith, p, e);
  there = let p = o.there in let n = l.count in omega (arith, p, n);
  seat = λ _ e.
      let old = o.seat refl (e ∙ t.epoch) in
      let m = t.seats s.count old.0 old.1 in
      (m.0, m.1, λ v. old.2 (m.2 v).0 ∙ sym (m.2 v).1);
}

pub of-closed : (s : Session) (k : ℕ) (pad : PadState) (b : Bool) → IsOf s k pad b → IsOf s k pad false
of-closed s k pad b o = record { past = o.past; there = o.there; seat = λ e. absurd (subst T (sym e) tt) }

pub of-reopened : (s : Session) (k : ℕ) (pad : PadState) (b c : Bool) → IsOf s k pad b → IsOf s k (reopened pad) c
of-reopened s k pad b c o = record {
  past = let p = o.past in omega (arith, p);
  there = o.there;
  seat = λ _ e. let p = o.past in absurd (omega (arith, p, e));
}

-- the epoch never falls
all-past : (pad : PadState) (rs : List Record) → pad.epoch ≤ (told_from pad rs).epoch
all-past pad [] = omega arith
all-past pad (r ∷ rs) = let a = next-epoch pad r in let b = all-past (next_pad pad r) rs in omega (arith, a, b)

pub settled-past : (kept : Bool) (st : MachineState) → st.pad.epoch ≤ (settled kept st).pad.epoch
settled-past true st = all-past st.pad st.pending
settled-past false st = omega arith

-- of a closed machine, whatever its opening finds
settled-of : (s : Session) (k : ℕ) (kept : Bool) (st : MachineState) → IsOf s k st.pad false → IsOf s k (settled kept st).pad false
settled-of s k kept st o = record {
  past = let p = o.past in let e = settled-past kept st in omega (arith, p, e);
  there = let p = o.there in let n = (settled-later kept st).count in omega (arith, p, n);
  seat = λ e. absurd (subst T (sym e) tt);
}

then-of : (s : Session) (k : ℕ) (st new : MachineState) → IsOf s k st.pad st.is_open → IsThen st new → IsOf s k new.pad new.is_open
then-of s k st new o t = subst (λ (x : MachineState). IsOf s k x.pad x.is_open) (sym t.0) o

pub open-of : (size : Size) (s : Session) (k : ℕ) (st : MachineState) (e : Entry) (reply : Reply) (new : MachineState) → IsKept st.records st.pad → IsOf s k st.pad true → st.is_open ≡ true
    → IsOpenStep size st e reply new → IsOf s k new.pad new.is_open
open-of size s k st e reply new g o b step = go step
  where
    turned : (c : Bool) → IsOf s k (turn size st e).state.pad c
    turned c = let l = turned-later size st e g in of-later s k st.pad (turn size st e).state.pad c o l.0 l.1

    go : IsOpenStep size st e reply new → IsOf s k new.pad new.is_open
    go (Does r t) = then-of s k (turn size st e).state new (turned (turn size st e).state.is_open) t
    go (Lacks r t) = then-of s k st new (subst (λ c. IsOf s k st.pad c) (sym b) o) t
    go (Fails count r adds q h t) = then-of s k (closed r st) new (of-closed s k st.pad true o) t

found-of : (size : Size) (s : Session) (k : ℕ) (st : MachineState) (e : Entry) (reply : Reply) (new : MachineState) → IsKept st.records st.pad → IsOf s k st.pad false → st.is_open ≡ false
    → IsFoundStep size st e reply new → IsOf s k new.pad new.is_open
found-of size s k st e reply new g o b (Opens f step) =
    open-of size s k (reopening st) e reply new (reopening-kept st g) (of-reopened s k st.pad false true o) refl step
found-of size s k st e reply new g o b (IsFull full f r t) = then-of s k st new (subst (λ c. IsOf s k st.pad c) (sym b) o) t
found-of size s k st e reply new g o b (FailsOpened count f r h t) = then-of s k (closed (open_record st) st) new o t

settled-shut : (kept : Bool) (st : MachineState) → (settled kept st).is_open ≡ st.is_open
settled-shut true st = refl
settled-shut false st = refl

closed-of : (size : Size) (s : Session) (k : ℕ) (st : MachineState) (e : Entry) (reply : Reply) (new : MachineState) → IsKeptState st → IsOf s k st.pad st.is_open → st.is_open ≡ false
    → IsClosedStep size st e reply new → IsOf s k new.pad new.is_open
closed-of size s k st e reply new g o b (Finds kept step) =
    found-of size s k (settled kept st) e reply new (settled-kept st kept g).kept (settled-of s k kept st (of-closed s k st.pad st.is_open o)) (settled-shut kept st ∙ b) step
closed-of size s k st e reply new g o b (LacksOpening r t) = then-of s k st new o t
closed-of size s k st e reply new g o b (FailsOpening count r h t) = then-of s k st new o t

pub step-of : (size : Size) (s : Session) (k : ℕ) (st : MachineState) (e : Entry) (reply : Reply) (new : MachineState) → IsKeptState st → IsOf s k st.pad st.is_open
    → IsStep size st e reply new → IsOf s k new.pad new.is_open
step-of size s k st e reply new g o step = go st.is_open refl step
  where
    go : (b : Bool) → st.is_open ≡ b → IsStepAs b size st e reply new → IsOf s k new.pad new.is_open
    go true b step = open-of size s k st e reply new g.kept (subst (λ c. IsOf s k st.pad c) b o) b step
    go false b step = closed-of size s k st e reply new g o b step
