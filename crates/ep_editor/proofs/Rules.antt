-- What an editor does to its client, and what it answers.
use Rattle.std.specs.Prelude.{IfSome}
use Rattle.std.proofs.Common.{◌≡◌, ℕ, ◌+◌, ◌==◌, nat_lt, Bool, true, false, ◌||◌, if◌then◌else◌, List, [], ◌∷◌, ◌++◌, length, Option, Some, None, Result, Ok, Err, refl, sym, ap, ◌∙◌, subst}
use Rattle.ep_units.specs.Text.{Text, is_well_formed}
use Rattle.ep_units.specs.declared.session.Session.{Session}
use Rattle.ep_attr.specs.AttrMap.{AttrMap, after, none}
use Rattle.ep_cs.specs.Doc.{Doc}
use Rattle.ep_cs.specs.Edit.{Edit, identity, apply, compose}
use Rattle.ep_cs.proofs.Composed.{apply-compose}
use Rattle.ep_sign.specs.Signing.{inserts_another, signing}
use Rattle.ep_cs.specs.EditFits.{fits}
use Rattle.ep_cs.specs.Fits.{is_identity}
use Rattle.ep_history.specs.History.{is_session}
use Rattle.ep_history.specs.Kept.{KeptClient, kept_edited, is_kept_own, is_kept_spent, kept_dropped, kept_nop, kept_other, kept_own, kept_resumed, kept_resumes, kept_submitted, kept_submitted_from}
use Rattle.ep_history.specs.Lists.{or_else}
use Rattle.ep_invert.specs.Inverse.{inverse}
use Rattle.ep_invert.specs.Paint.{paint}
use Rattle.ep_invert.specs.Refusal.{splice_bad}
use Rattle.ep_invert.specs.declared.bad.SpliceBad.{SpliceBad}
use Rattle.ep_client.specs.Hearing.{kept_hears, shown_change, told_of, view_change}
use Rattle.ep_client.specs.Refusals.{hear_fault}
use Rattle.ep_client.specs.declared.bad.ClientBad.{ClientBad}
use Rattle.ep_client.specs.declared.heard.Heard.{Heard}
use Rattle.ep_client.specs.declared.heard.Heard.TheVariants as heard
use Rattle.ep_client.specs.declared.heard.Told.{Told}
use Rattle.ep_client.specs.declared.heard.Told.TheVariants as told
use Rattle.ep_hearing.specs.Meaning.{accepted, heard_of, meant}
use Rattle.ep_hearing.specs.declared.meaning.Back.{Back}
use Rattle.ep_hearing.specs.declared.meaning.Meaning.{Meaning}
use Rattle.ep_hearing.specs.declared.meaning.Meaning.TheVariants as means
use Rattle.ep_hearing.specs.declared.meaning.News.{News}
use Rattle.ep_wire_words.specs.declared.server.ServerMsg.{ServerMsg}
use Rattle.ep_wire_words.specs.declared.server.ServerMsg.TheVariants as msg
use Rattle.ep_undo.specs.Undo.{UndoState, redone_by, top, undo_edited, undo_hears, undo_other, undone_by, edited_beside}
use Rattle.ep_undo.specs.Undo as undo
use Rattle.ep_hearing.specs.declared.meaning.Slid.{Slid}
use Rattle.ep_editor.specs.Inside.{comes_back, cut_off, edited, formatted, hears, hears_back, hears_more, hears_now, hears_own, hears_unless, is_busy_inside, is_due, is_long, is_renewed, kept_of, loses, makes, own_map, owns_unless, put_by, redoes, remade, resume_of, resumed_with, returns, submits, submitted, told_reply, undoes, with_client}
use Rattle.ep_editor.specs.Kept.{keeps}
use Rattle.ep_timeslider.specs.Steps.{answers, steps_of, walked}
use Rattle.ep_editor.specs.Past.{hears_slid, slides, slides_by, slid_by, slid_for, stands}
use Rattle.ep_editor.specs.Replies.{Reply, Sends, Paints, Closes, Renewed, Nothing, ready, refuses}
use Rattle.ep_editor.specs.Requests.{Request, answer}
use Rattle.ep_editor.specs.Requests as request
use Rattle.ep_editor.specs.Rules.{IsOfChange, IsRemaking, Step, IfInside, IsFitting, IsOfConnection, IsOfPad, IsSameWork, KeepsRules, MayTakeAll, all_sent, all_taken, edits_sent, message_of, shown_after, shown_by}
use Rattle.ep_editor.specs.Rules.{Edits, Hears, Submits, Loses, Resumes}
use Rattle.ep_editor.specs.declared.bad.EditorBad.{EditorBad}
use Rattle.ep_editor.specs.declared.bad.EditorBad.TheVariants as bad
use Rattle.ep_editor.specs.declared.editor.Editor.{Editor}
use Rattle.ep_editor.specs.declared.editor.Editor.TheVariants.{Entering, Inside}
use Rattle.ep_editor.specs.declared.editor.Wanted.{Wanted}
use Rattle.ep_editor.specs.declared.entered.Entered.{Entered}
use Rattle.ep_timeslider.specs.declared.slider.Asked.{Asked}
use Rattle.ep_timeslider.specs.declared.slider.Place.{Place}
use Rattle.ep_timeslider.specs.declared.slider.Step.{Step as SliderStep}
use Rattle.ep_editor.proofs.Signing.{change_fits, signing_fits}
use Rattle.ep_editor.proofs.Fitting.{paint_fits, put_fits}

-- ---- the client within, of one with stacks

edited-client : (e : Edit) (s : UndoState) → (undo_edited e s).client ≡ kept_edited e s.client
edited-client e s = go (is_identity e)
  where
    go : (t : Bool) → (if t then undo.with_client s (kept_edited e s.client) else record { client = kept_edited e s.client; undos = undo.pushed (inverse e s.client.view) s.undos; redos = [] }).client ≡ kept_edited e s.client
    go true = refl
    go false = refl

hears-client : (h : Heard) (s : UndoState) → (undo_hears h s).client ≡ kept_hears h s.client
hears-client (heard.Commit rev) s = refl
hears-client (heard.Nop rev) s = refl
hears-client (heard.Rev rev change session) s = go (is_kept_own session s.client.sent_in)
  where
    go : (t : Bool) → (if t then undo.with_client s (kept_own s.client) else undo_other change.edit s).client ≡ (if t then kept_own s.client else kept_dropped (kept_other change.edit s.client))
    go true = refl
    go false = refl

-- ---- the client rules, of what comes of a request

-- what comes of it is by the rules
record Right (p : Entered) (out : Reply × Entered) : Type 0 where
  pub steps : List Step
  pub may : MayTakeAll steps (kept_of p)
  pub client : kept_of out.1 ≡ all_taken steps (kept_of p)
  pub sent : edits_sent out.0 ≡ all_sent steps (kept_of p)

-- a refusal, and what leaves the client
right_same : (p : Entered) (out : Reply × Entered) → kept_of out.1 ≡ kept_of p → edits_sent out.0 ≡ [] → Right p out
right_same p out c s = record { steps = []; may = tt; client = c; sent = s }

right_if : (p : Entered) (t : Bool) (a b : Reply × Entered) → (t ≡ true → Right p a) → (t ≡ false → Right p b) → Right p (if t then a else b)
right_if p true a b f g = f refl
right_if p false a b f g = g refl

right_refused : (p : Entered) (why : EditorBad) → Right p (refuses why p)
right_refused p why = right_same p (refuses why p) refl refl

right_makes : (p : Entered) (said : Reply) (e : Edit) (o : Option SpliceBad) → edits_sent said ≡ [] → (o ≡ None → fits e (kept_of p).view ≡ true) → Right p (makes said o e p)
right_makes p said e None s f = record { steps = Edits e ∷ []; may = (f refl, tt); client = edited-client e p.client; sent = s }
right_makes p said e (Some why) s f = right_refused p _

right_edited : (at drop : ℕ) (put : Text) (with_ : AttrMap) (p : Entered) → is_well_formed put ≡ true → Right p (edited at drop put with_ p)
right_edited at drop put with_ p w =
    right_if p p.read_only _ _ (λ _. right_refused p bad.ReadOnly)
    (λ _. right_if p (is_long (kept_of p).view drop put) _ _ (λ _. right_refused p bad.Long)
    (λ _. right_makes p Nothing (put_by at drop put with_ p) (splice_bad (put_by at drop put with_ p) (at + drop) (kept_of p).view) refl
    (put_fits at drop put (after none (own_map p.author with_)) (kept_of p).view w)))

right_formatted : (at count : ℕ) (attrs : AttrMap) (p : Entered) → Right p (formatted at count attrs p)
right_formatted at count attrs p =
    right_if p p.read_only _ _ (λ _. right_refused p bad.ReadOnly)
    (λ _. let e = paint (length (kept_of p).view) at count attrs in
    right_makes p (Paints e) e (splice_bad e (at + count) (kept_of p).view) refl (paint_fits at count attrs (kept_of p).view))

right_submits : (p : Entered) (o : Option KeptClient) → kept_submitted (kept_of p) ≡ o → Right p (submits p o)
right_submits p None h = right_same p (Nothing, p) refl refl
right_submits p (Some k) h = record {
  steps = Submits ∷ [];
  may = (tt, tt);
  client = sym (ap (λ o. or_else o (kept_of p)) h);
  sent = sym (ap (λ o. message_of o ++ []) h);
}

right_cut : (p : Entered) (said : Reply) → edits_sent said ≡ [] → Right p (said, cut_off p)
right_cut p said s = record { steps = Loses ∷ []; may = (tt, tt); client = refl; sent = s }

told_sends : (t : Told) (e : Edit) (by : Text) → edits_sent (told_reply t e by) ≡ []
told_sends told.Commit e by = refl
told_sends told.News e by = refl

right_hears : (n : News) (p : Entered) (o : Option ClientBad) → (kept_of p).connected ≡ true → hear_fault (heard_of n) (kept_of p) ≡ o → Right p (hears_unless o n p p)
right_hears n p None c h = record { steps = Hears (heard_of n) ∷ []; may = ((c, h), tt); client = hears-client (heard_of n) p.client; sent = told_sends (told_of (heard_of n) (kept_of p)) (view_change (heard_of n) (kept_of p)) n.by }
right_hears n p (Some why) c h = right_refused p _

right_owns : (h : Heard) (p : Entered) (o : Option ClientBad) → (kept_of p).connected ≡ true → hear_fault h (kept_of p) ≡ o → Right p (owns_unless o h p)
right_owns h p None c f = record { steps = Hears h ∷ []; may = ((c, f), tt); client = hears-client h p.client; sent = refl }
right_owns h p (Some why) c f = right_refused p _

right_more : (b : Back) (n : Option News) (p : Entered) → (kept_of p).connected ≡ true → Right p (hears_more b n p)
right_more b None p c = right_refused p bad.Turn
right_more b (Some n) p c = right_if p (b.birth == p.birth) _ _ (λ _. right_hears n p (hear_fault (heard_of n) (kept_of p)) c refl) (λ _. right_refused p bad.Turn)

-- who comes back is connected, and shows what it showed
back-connected : (session : Session) (head : ℕ) (k : KeptClient) → (kept_resumes session head k).connected ≡ true
back-connected session head k = go (is_kept_spent (kept_resumed session head k))
  where
    go : (t : Bool) → (if t then kept_nop (kept_resumed session head k) else kept_resumed session head k).connected ≡ true
    go true = refl
    go false = refl

back-view : (session : Session) (head : ℕ) (k : KeptClient) → (kept_resumes session head k).view ≡ k.view
back-view session head k = go (is_kept_spent (kept_resumed session head k))
  where
    go : (t : Bool) → (if t then kept_nop (kept_resumed session head k) else kept_resumed session head k).view ≡ k.view
    go true = refl
    go false = refl

right_resumed : (b : Back) (n : Option News) (p : Entered) → (kept_of p).connected ≡ false → Right p (resumed_with b n p)
right_resumed b None p off = record { steps = Resumes b.session b.head ∷ []; may = (off, tt); client = refl; sent = refl }
right_resumed b (Some n) p off = go (hear_fault (heard_of n) (kept_of (comes_back b p))) refl
  where
    go : (o : Option ClientBad) → hear_fault (heard_of n) (kept_of (comes_back b p)) ≡ o → Right p (hears_unless o n (comes_back b p) p)
    go None h = record {
      steps = Resumes b.session b.head ∷ (Hears (heard_of n) ∷ []);
      may = (off, ((back-connected b.session b.head (kept_of p), h), tt));
      client = hears-client (heard_of n) (comes_back b p).client;
      sent = told_sends (told_of (heard_of n) (kept_of (comes_back b p))) (view_change (heard_of n) (kept_of (comes_back b p))) n.by;
    }
    go (Some why) h = right_refused p _

right_back : (b : Back) (n : Option News) (p : Entered) → Right p (hears_back b n p)
right_back b n p =
    right_if p (kept_of p).connected _ _ (right_more b n p)
    (λ off. right_if p (is_due b n p) _ _ (λ _. right_resumed b n p off)
    (λ _. right_if p (is_renewed b p) _ _ (λ _. right_cut p Renewed refl) (λ _. right_refused p bad.Turn)))

-- the timeslider leaves the client
right_stands : (at : Place) (steps : List SliderStep) (to : ℕ) (p : Entered) → Right p (stands at steps to p)
right_stands at steps to p = right_if p (at.rev == to) _ _ (λ _. right_same p _ refl refl) (λ _. right_same p _ refl refl)

right_slides_by : (r : Result Place ClientBad) (to : ℕ) (p : Entered) → Right p (slides_by r to p)
right_slides_by (Ok at) to p = right_if p (at.rev == to || (kept_of p).connected) _ _ (λ _. right_stands at p.slider.steps to p) (λ _. right_refused p bad.Turn)
right_slides_by (Err why) to p = right_refused p _

right_slides : (to : ℕ) (p : Entered) → Right p (slides to p)
right_slides to p =
    right_if p (nat_lt (kept_of p).rev to) _ _ (λ _. right_refused p bad.Place) (λ _. right_slides_by (walked to p.slider.steps p.slider.place) to p)

right_slid_by : (r : Result Place ClientBad) (steps : List SliderStep) (to : ℕ) (p : Entered) → Right p (slid_by r steps to p)
right_slid_by (Ok at) steps to p = right_if p (at.rev == p.slider.place.rev) _ _ (λ _. right_refused p bad.Turn) (λ _. right_stands at steps to p)
right_slid_by (Err why) steps to p = right_refused p _

right_slid_for : (s : Slid) (o : Option Asked) (p : Entered) → Right p (slid_for s o p)
right_slid_for s None p = right_refused p bad.Turn
right_slid_for s (Some q) p =
    right_if p (answers s q) _ _ (λ _. right_slid_by (walked q.to (steps_of s) p.slider.place) (steps_of s) q.to p) (λ _. right_refused p bad.Turn)

right_slid : (s : Slid) (p : Entered) → Right p (hears_slid s p)
right_slid s p = right_slid_for s p.slider.asked p

-- what is taken back, and made again
right_signed : (e : Edit) (s : UndoState) (p : Entered) → IsOfChange (kept_of p).view e → s.client ≡ kept_edited e (kept_of p) → Right p (remade (Some e) s p)
right_signed e s p (c, is, n, f) k = go (inserts_another p.author e)
  where
    view : Doc
    view = (kept_of p).view

    one : fits e view ≡ true
    one = subst (λ d. fits d view ≡ true) is (change_fits c view n f)

    two : fits (signing p.author e) (apply e view) ≡ true
    two = subst (λ d. fits (signing p.author d) (apply d view) ≡ true) is (signing_fits p.author c view n f)

    go : (t : Bool) → Right p (Paints (if t then compose e (signing p.author e) else e), with_client p (if t then edited_beside (signing p.author e) s else s))
    go true = record { steps = Edits e ∷ (Edits (signing p.author e) ∷ []); may = (one, (two, tt)); client = ap (kept_edited (signing p.author e)) k; sent = refl }
    go false = record { steps = Edits e ∷ []; may = (one, tt); client = k; sent = refl }

right_undone : (us : List Edit) (p : Entered) → IfSome (top us) (IsOfChange (kept_of p).view) → Right p (remade (top us) (undone_by p.client us) p)
right_undone [] p f = right_same p _ refl refl
right_undone (u ∷ us) p f = right_signed u (undone_by p.client (u ∷ us)) p f refl

right_redone : (us : List Edit) (p : Entered) → IfSome (top us) (IsOfChange (kept_of p).view) → Right p (remade (top us) (redone_by p.client us) p)
right_redone [] p f = right_same p _ refl refl
right_redone (u ∷ us) p f = right_signed u (redone_by p.client (u ∷ us)) p f refl

right_heard : (m : Meaning) (p : Entered) → Right p (hears m p)
right_heard (means.Own h) p = right_if p (kept_of p).connected _ _ (λ c. right_owns h p (hear_fault h (kept_of p)) c refl) (λ _. right_refused p bad.Turn)
right_heard (means.News n) p = right_if p (kept_of p).connected _ _ (λ c. right_hears n p (hear_fault (heard_of n) (kept_of p)) c refl) (λ _. right_refused p bad.Turn)
right_heard (means.Back b n) p = right_back b n p
right_heard (means.Closing word) p = right_if p (is_busy_inside p) _ _ (λ _. right_cut p (Closes word) refl) (λ _. right_refused p bad.Turn)
right_heard (means.Welcome w) p = right_refused p bad.Turn
right_heard (means.Slid s) p = right_slid s p

-- an answer inside of a pad is by the rules where what comes of it is
rules_within : (r : Request) (p : Entered) (out : Reply × Entered) → answer r (Inside p) ≡ (out.0, Inside out.1) → Right p out → KeepsRules r p
rules_within r p out e x = record {
  steps = x.steps;
  may = x.may;
  client = subst (λ (a : Reply × Editor). IfInside a.1 (λ q. kept_of q ≡ all_taken x.steps (kept_of p))) (sym e) x.client;
  sent = ap (λ (a : Reply × Editor). edits_sent a.0) e ∙ x.sent;
}

rules_entering : (wanted : Wanted) (p : Entered) → KeepsRules (request.Enters wanted) p
rules_entering wanted p = record { steps = []; may = tt; client = leaves (is_busy_inside p); sent = nothing_sent (is_busy_inside p) }
  where
    leaves : (t : Bool) → IfInside (if t then refuses bad.Turn (Inside p) else (Sends (ready wanted None), Entering wanted)).1 (λ q. kept_of q ≡ kept_of p)
    leaves true = refl
    leaves false = tt

    nothing_sent : (t : Bool) → edits_sent (if t then refuses bad.Turn (Inside p) else (Sends (ready wanted None), Entering wanted)).0 ≡ []
    nothing_sent true = refl
    nothing_sent false = refl

pub keeps-rules : (r : Request) (p : Entered) → IsOfPad r → IsFitting r p → KeepsRules r p
keeps-rules (request.Enters wanted) p o t = rules_entering wanted p
keeps-rules (request.EntersAgain wanted k) p o t = absurd o
keeps-rules (request.Hears (Ok m)) p o t = rules_within (request.Hears (Ok m)) p (hears (meant (kept_of p).rev m) p) refl (right_heard (meant (kept_of p).rev m) p)
keeps-rules (request.Hears (Err why)) p o t = record { steps = []; may = tt; client = refl; sent = refl }
keeps-rules (request.Edits at drop put with_) p o t = rules_within (request.Edits at drop put with_) p (edited at drop put with_ p) refl (right_edited at drop put with_ p t)
keeps-rules (request.Formats at count attrs) p o t = rules_within (request.Formats at count attrs) p (formatted at count attrs p) refl (right_formatted at count attrs p)
keeps-rules request.Undoes p o t = rules_within request.Undoes p (undoes p) refl (right_undone p.client.undos p t)
keeps-rules request.Redoes p o t = rules_within request.Redoes p (redoes p) refl (right_redone p.client.redos p t)
keeps-rules request.Submits p o t = rules_within request.Submits p (submitted p) refl (right_submits p (kept_submitted (kept_of p)) refl)
keeps-rules request.Loses p o t =
    rules_within request.Loses p (loses p) refl (right_if p (is_busy_inside p) _ _ (λ _. right_cut p Nothing refl) (λ _. right_refused p bad.Turn))
keeps-rules request.Returns p o t =
    rules_within request.Returns p (returns p) refl
    (right_if p (is_busy_inside p) _ _ (λ _. right_refused p bad.Turn) (λ _. right_same p (Sends (ready p.wanted (Some (resume_of p))), record p { returning = true }) refl refl))
keeps-rules request.Keeps p o t = rules_within request.Keeps p (keeps p) refl (right_same p (keeps p) refl refl)
keeps-rules (request.Slides to) p o t = rules_within (request.Slides to) p (slides to p) refl (right_slides to p)

-- ---- what is shown, of what comes of a request

-- a reply tells what has changed of the view
abbrev Shown : Request → Entered → Reply × Entered → Type 0
Shown r p out = (kept_of out.1).view ≡ shown_after p.author r out.0 (kept_of p).view

abbrev Tells : Entered → Reply × Entered → Type 0
Tells p out = (kept_of out.1).view ≡ shown_by out.0 (kept_of p).view

holds_if : (P : Reply × Entered → Type 0) (t : Bool) (a b : Reply × Entered) → P a → P b → P (if t then a else b)
holds_if P true a b f g = f
holds_if P false a b f g = g

shown_edited : (at drop : ℕ) (put : Text) (with_ : AttrMap) (p : Entered) → Shown (request.Edits at drop put with_) p (edited at drop put with_ p)
shown_edited at drop put with_ p =
    let r = request.Edits at drop put with_ in
    holds_if (Shown r p) p.read_only _ _ refl
    (holds_if (Shown r p) (is_long (kept_of p).view drop put) _ _ refl (go (splice_bad (put_by at drop put with_ p) (at + drop) (kept_of p).view)))
  where
    go : (o : Option SpliceBad) → Shown (request.Edits at drop put with_) p (makes Nothing o (put_by at drop put with_ p) p)
    go None = ap (λ (k : KeptClient). k.view) (edited-client (put_by at drop put with_ p) p.client)
    go (Some why) = refl

tells_painted : (at count : ℕ) (attrs : AttrMap) (p : Entered) → Tells p (formatted at count attrs p)
tells_painted at count attrs p = holds_if (Tells p) p.read_only _ _ refl (go (splice_bad (paint (length (kept_of p).view) at count attrs) (at + count) (kept_of p).view))
  where
    go : (o : Option SpliceBad) → Tells p (makes (Paints (paint (length (kept_of p).view) at count attrs)) o (paint (length (kept_of p).view) at count attrs) p)
    go None = ap (λ (k : KeptClient). k.view) (edited-client (paint (length (kept_of p).view) at count attrs) p.client)
    go (Some why) = refl

-- who submits shows what it showed
abbrev IsSeenAs : Doc → Option KeptClient → Type 0
IsSeenAs doc None = Unit {0}
IsSeenAs doc (Some k) = k.view ≡ doc

submitted-view : (k : KeptClient) → IsSeenAs k.view (kept_submitted k)
submitted-view k = on k.connected
  where
    first : (t : Bool) → IsSeenAs k.view (if t then None else Some (record k { sent = k.local; sent_in = Some k.session; local = identity (length k.view) }))
    first true = tt
    first false = refl

    again : (t : Bool) → IsSeenAs k.view (if t then None else Some (record k { sent_in = Some k.session }))
    again true = tt
    again false = refl

    from : (o : Option Session) → IsSeenAs k.view (kept_submitted_from k o)
    from None = first (is_identity k.local)
    from (Some s) = again (is_session s k.session || nat_lt k.rev k.told)

    on : (t : Bool) → IsSeenAs k.view (if t then kept_submitted_from k k.sent_in else None)
    on true = from k.sent_in
    on false = tt

tells_submits : (p : Entered) (o : Option KeptClient) → IsSeenAs (kept_of p).view o → Tells p (submits p o)
tells_submits p None s = refl
tells_submits p (Some k) s = s

dropped-view : (k : KeptClient) → (kept_dropped k).view ≡ k.view
dropped-view k = go (is_kept_spent k)
  where
    go : (t : Bool) → (if t then kept_nop k else k).view ≡ k.view
    go true = refl
    go false = refl

-- what is heard changes the view as is told
told-view : (h : Heard) (by : Text) (k : KeptClient) → (kept_hears h k).view ≡ shown_by (told_reply (told_of h k) (view_change h k) by) k.view
told-view (heard.Commit rev) by k = refl
told-view (heard.Nop rev) by k = refl
told-view (heard.Rev rev change session) by k = go (is_kept_own session k.sent_in)
  where
    go : (t : Bool) → (if t then kept_own k else kept_dropped (kept_other change.edit k)).view
        ≡ shown_by (told_reply (if t then told.Commit else told.News) (if t then identity (length k.view) else shown_change change.edit k) by) k.view
    go true = refl
    go false = dropped-view (kept_other change.edit k)

tells_hears : (n : News) (q p : Entered) (o : Option ClientBad) → (kept_of q).view ≡ (kept_of p).view → Tells p (hears_unless o n q p)
tells_hears n q p None v =
    ap (λ (k : KeptClient). k.view) (hears-client (heard_of n) q.client) ∙ told-view (heard_of n) n.by (kept_of q)
    ∙ ap (shown_by (told_reply (told_of (heard_of n) (kept_of q)) (view_change (heard_of n) (kept_of q)) n.by)) v
tells_hears n q p (Some why) v = refl

tells_more : (b : Back) (n : Option News) (p : Entered) → Tells p (hears_more b n p)
tells_more b None p = refl
tells_more b (Some n) p = holds_if (Tells p) (b.birth == p.birth) _ _ (tells_hears n p p (hear_fault (heard_of n) (kept_of p)) refl) refl

tells_resumed : (b : Back) (n : Option News) (p : Entered) → Tells p (resumed_with b n p)
tells_resumed b None p = back-view b.session b.head (kept_of p)
tells_resumed b (Some n) p = tells_hears n (comes_back b p) p (hear_fault (heard_of n) (kept_of (comes_back b p))) (back-view b.session b.head (kept_of p))

tells_back : (b : Back) (n : Option News) (p : Entered) → Tells p (hears_back b n p)
tells_back b n p = holds_if (Tells p) (kept_of p).connected _ _ (tells_more b n p) (holds_if (Tells p) (is_due b n p) _ _ (tells_resumed b n p) (holds_if (Tells p) (is_renewed b p) _ _ refl refl))

tells_news : (n : News) (p : Entered) → Tells p (hears_now n p)
tells_news n p = holds_if (Tells p) (kept_of p).connected _ _ (tells_hears n p p (hear_fault (heard_of n) (kept_of p)) refl) refl

tells_own : (rev : ℕ) (p : Entered) → Tells p (hears_own (accepted (kept_of p).rev rev) p)
tells_own rev p = go (rev == (kept_of p).rev)
  where
    owned : (h : Heard) → (undo_hears h p.client).client.view ≡ (kept_of p).view → Tells p (hears_own h p)
    owned h v = holds_if (Tells p) (kept_of p).connected _ _ (faulty (hear_fault h (kept_of p))) refl
      where
        faulty : (o : Option ClientBad) → Tells p (owns_unless o h p)
        faulty None = v
        faulty (Some why) = refl

    go : (t : Bool) → Tells p (hears_own (if t then heard.Nop rev else heard.Commit rev) p)
    go true = owned (heard.Nop rev) refl
    go false = owned (heard.Commit rev) refl

tells_stands : (at : Place) (steps : List SliderStep) (to : ℕ) (p : Entered) → Tells p (stands at steps to p)
tells_stands at steps to p = holds_if (Tells p) (at.rev == to) _ _ refl refl

tells_slides_by : (r : Result Place ClientBad) (to : ℕ) (p : Entered) → Tells p (slides_by r to p)
tells_slides_by (Ok at) to p = holds_if (Tells p) (at.rev == to || (kept_of p).connected) _ _ (tells_stands at p.slider.steps to p) refl
tells_slides_by (Err why) to p = refl

tells_slides : (to : ℕ) (p : Entered) → Tells p (slides to p)
tells_slides to p = holds_if (Tells p) (nat_lt (kept_of p).rev to) _ _ refl (tells_slides_by (walked to p.slider.steps p.slider.place) to p)

tells_slid_by : (r : Result Place ClientBad) (steps : List SliderStep) (to : ℕ) (p : Entered) → Tells p (slid_by r steps to p)
tells_slid_by (Ok at) steps to p = holds_if (Tells p) (at.rev == p.slider.place.rev) _ _ refl (tells_stands at steps to p)
tells_slid_by (Err why) steps to p = refl

tells_slid : (s : Slid) (o : Option Asked) (p : Entered) → Tells p (slid_for s o p)
tells_slid s None p = refl
tells_slid s (Some q) p = holds_if (Tells p) (answers s q) _ _ (tells_slid_by (walked q.to (steps_of s) p.slider.place) (steps_of s) q.to p) refl

tells_signed : (e : Edit) (s : UndoState) (p : Entered) → IsOfChange (kept_of p).view e → s.client ≡ kept_edited e (kept_of p) → Tells p (remade (Some e) s p)
tells_signed e s p (c, is, n, f) k = go (inserts_another p.author e)
  where
    go : (t : Bool) → Tells p (Paints (if t then compose e (signing p.author e) else e), with_client p (if t then edited_beside (signing p.author e) s else s))
    go true =
        ap (λ (q : KeptClient). apply (signing p.author e) q.view) k
        ∙ sym (apply-compose e (signing p.author e) (kept_of p).view (f.length ∙ ap (λ (d : Edit). length d.places) is))
    go false = ap (λ (q : KeptClient). q.view) k

tells_undone : (us : List Edit) (p : Entered) → IfSome (top us) (IsOfChange (kept_of p).view) → Tells p (remade (top us) (undone_by p.client us) p)
tells_undone [] p f = refl
tells_undone (u ∷ us) p f = tells_signed u (undone_by p.client (u ∷ us)) p f refl

tells_redone : (us : List Edit) (p : Entered) → IfSome (top us) (IsOfChange (kept_of p).view) → Tells p (remade (top us) (redone_by p.client us) p)
tells_redone [] p f = refl
tells_redone (u ∷ us) p f = tells_signed u (redone_by p.client (u ∷ us)) p f refl

tells_message : (m : ServerMsg) (p : Entered) → Tells p (hears (meant (kept_of p).rev m) p)
tells_message (msg.Vars pad author read_only session birth rev doc time) p = refl
tells_message (msg.Accepted rev session) p = tells_own rev p
tells_message (msg.News rev change author session time delta) p = tells_news (record { rev = rev; change = change; session = session; by = author }) p
tells_message (msg.Reconnect current birth head rev change author session time) p =
    tells_back (record { session = current; birth = birth; head = head }) (Some (record { rev = rev; change = change; session = session; by = author })) p
tells_message (msg.ReconnectNone current birth head rev) p = tells_back (record { session = current; birth = birth; head = head }) None p
tells_message (msg.Slid start reached granularity request forward backward) p =
    tells_slid (record { start = start; reached = reached; granularity = granularity; request = request; forward = forward; backward = backward }) p.slider.asked p
tells_message (msg.Closing word) p = holds_if (Tells p) (is_busy_inside p) _ _ refl refl

shows_entering : (wanted : Wanted) (p : Entered) (t : Bool)
    → IfInside (if t then refuses bad.Turn (Inside p) else (Sends (ready wanted None), Entering wanted)).1 (λ q. (kept_of q).view ≡ shown_after p.author (request.Enters wanted) (if t then refuses bad.Turn (Inside p) else (Sends (ready wanted None), Entering wanted)).0 (kept_of p).view)
shows_entering wanted p true = refl
shows_entering wanted p false = tt

pub shows-each : (r : Request) (p : Entered) → IsOfPad r → IsRemaking r p → IfInside (answer r (Inside p)).1 (λ q. (kept_of q).view ≡ shown_after p.author r (answer r (Inside p)).0 (kept_of p).view)
shows-each (request.Enters wanted) p o f = shows_entering wanted p (is_busy_inside p)
shows-each (request.EntersAgain wanted k) p o f = absurd o
shows-each (request.Hears (Ok m)) p o f = tells_message m p
shows-each (request.Hears (Err why)) p o f = refl
shows-each (request.Edits at drop put with_) p o f = shown_edited at drop put with_ p
shows-each (request.Formats at count attrs) p o f = tells_painted at count attrs p
shows-each request.Undoes p o f = tells_undone p.client.undos p f
shows-each request.Redoes p o f = tells_redone p.client.redos p f
shows-each request.Submits p o f = tells_submits p (kept_submitted (kept_of p)) (submitted-view (kept_of p))
shows-each request.Loses p o f = holds_if (Tells p) (is_busy_inside p) _ _ refl refl
shows-each request.Returns p o f = holds_if (Tells p) (is_busy_inside p) _ _ refl refl
shows-each request.Keeps p o f = refl
shows-each (request.Slides to) p o f = tells_slides to p

-- ---- what isn't lost

same_if : (k : KeptClient) (t : Bool) (a b : Reply × Entered) → IsSameWork k (kept_of a.1) → IsSameWork k (kept_of b.1) → IsSameWork k (kept_of (if t then a else b).1)
same_if k true a b f g = f
same_if k false a b f g = g

same : (k : KeptClient) → IsSameWork k k
same k = (refl, refl, refl, refl, refl, refl)

same_slides_by : (r : Result Place ClientBad) (to : ℕ) (p : Entered) → IsSameWork (kept_of p) (kept_of (slides_by r to p).1)
same_slides_by (Ok at) to p =
    same_if (kept_of p) (at.rev == to || (kept_of p).connected) _ _ (same_if (kept_of p) (at.rev == to) _ _ (same (kept_of p)) (same (kept_of p))) (same (kept_of p))
same_slides_by (Err why) to p = same (kept_of p)

pub keeps-work : (r : Request) (p : Entered) → IsOfConnection r → IfInside (answer r (Inside p)).1 (λ q. IsSameWork (kept_of p) (kept_of q))
keeps-work request.Loses p c = same_if (kept_of p) (is_busy_inside p) _ _ (refl, refl, refl, refl, refl, refl) (same (kept_of p))
keeps-work request.Returns p c = same_if (kept_of p) (is_busy_inside p) _ _ (same (kept_of p)) (refl, refl, refl, refl, refl, refl)
keeps-work request.Keeps p c = same (kept_of p)
keeps-work (request.Slides to) p c = same_if (kept_of p) (nat_lt (kept_of p).rev to) _ _ (same (kept_of p)) (same_slides_by (walked to p.slider.steps p.slider.place) to p)
keeps-work (request.Enters wanted) p c = absurd c
keeps-work (request.EntersAgain wanted k) p c = absurd c
keeps-work (request.Hears read) p c = absurd c
keeps-work (request.Edits at drop put with_) p c = absurd c
keeps-work (request.Formats at count attrs) p c = absurd c
keeps-work request.Undoes p c = absurd c
keeps-work request.Redoes p c = absurd c
keeps-work request.Submits p c = absurd c
