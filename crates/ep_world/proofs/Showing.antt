-- What reading a world comes to.
use Rattle.std.proofs.Common.{◌≡◌, ℕ, Bool, List, true, false, not, [], ◌∷◌, Option, Some, None, Result, Ok, Err, inl, inr, if◌then◌else◌, refl, sym, ap, ◌∙◌, subst}
use Rattle.std.specs.Prelude.{IfErr, IfOk, is_some, nat_le, nat_lt}
use Rattle.std.proofs.lemmas.Bool.Decides.{nat_tests}
use Rattle.std.proofs.Common.{arith}
use Rattle.ep_outside.specs.Disk.{Contents}
use Rattle.ep_cs.specs.Doc.{Doc}
use Rattle.ep_cs.specs.Fits.{is_identity}
use Rattle.ep_history.specs.Client.{has_local, has_sent}
use Rattle.ep_history.specs.Entries.{unless}
use Rattle.ep_history.specs.Entries.Answer.{StatusAnswer, TextAnswer}
use Rattle.ep_history.specs.Entries.Entry.{ReadStatus, ReadText}
use Rattle.ep_history.specs.Entries.Outcome.{Answers}
use Rattle.ep_history.specs.History.{doc_at, head, head_doc}
use Rattle.ep_history.specs.Kept.{KeptClient, Keeps, sent_session}
use Rattle.ep_history.specs.Pad.{PadState, birth_at, newest}
use Rattle.ep_history.specs.Readings.{text, text_fault}
use Rattle.ep_history.specs.Refusals.{fault_if, first_fault}
use Rattle.ep_history.specs.declared.pad_bad.PadBad.{PadBad}
use Rattle.ep_history.specs.declared.pad_bad.PadBad.TheVariants as bad
use Rattle.ep_history.specs.declared.submission.Submission.{Submission}
use Rattle.ep_history.proofs.Lists.{none_some, some_same}
use Rattle.ep_schedule.specs.Kepts.{KeepsActor}
use Rattle.ep_undo.specs.Undo.{UndoState}
use Rattle.ep_world.specs.Kepts.{Kepts}
use Rattle.ep_schedule.specs.World.{Name, Actor as AnActor, Member as AMember, WorldState}
use Rattle.ep_schedule.specs.World.Actor.{Nobody, Guest, Named}
use Rattle.ep_pad.specs.Held.{Held}
use Rattle.ep_pad.specs.Standing.{replied}
use Rattle.ep_pad_file.specs.Standing.{Holds, MayHold}
use Rattle.ep_pad_state.specs.Answering.{status_of}
use Rattle.ep_pad_state.specs.declared.answers.PadStatus.{PadStatus}
use Rattle.ep_event.specs.declared.shown.Shown.{Shown}
use Rattle.ep_event.specs.declared.shown.Shown.TheVariants as shown
use Rattle.ep_event.specs.declared.shown.Verb.{Verb}
use Rattle.ep_event.specs.declared.shown.Verb.TheVariants as verb
use Rattle.ep_world.specs.declared.reading.Top.TheVariants as top
use Rattle.ep_world.specs.declared.bad.WorldBad.{WorldBad}
use Rattle.ep_world.specs.declared.bad.WorldBad.TheVariants as world_bad
use Rattle.ep_world.specs.declared.world.World.{World}
use Rattle.ep_world.specs.Actors.{actor_of}
use Rattle.ep_members.specs.Actors.{found}
use Rattle.ep_world.specs.Events.{of_client, view_of}
use Rattle.ep_world.specs.Reading.{ShowsClient, ShowsPad, TellsHead, client_kept, head_there}
use Rattle.ep_world.specs.Shows.{pad_refuses, shows_client, shows_head, shows_marks, shows_text, shows_text_if, shows_view, shows_view_marks, state_of}
use Rattle.ep_world.specs.Journal.{behind, full_in, reads_as, reads_if, record_in}
use Rattle.ep_world.specs.Standing.{IsAnswered, IsAt, IsLent, IsRun, StandsFor, answer_of, pad_after}
use Rattle.ep_world.proofs.Brought.{unless-answers, unless-refuses-answer}
use Rattle.ep_world.proofs.Calls.{MakesMarked, answered}
use Rattle.ep_world.proofs.Crashes.{status-gone, status-shut, status-there}
use Rattle.ep_world.proofs.Leading.{kept}
use Rattle.ep_history.specs.declared.record.Record.{Record}

-- ---- clients

pub kept-named : (a : AnActor) (k c : KeptClient) → of_client None (λ m. Some k) a ≡ Some c → (m : AMember) × (a ≡ Named m) × (c ≡ k)
kept-named Nobody k c e = none_some e
kept-named (Guest x) k c e = none_some e
kept-named (Named m) k c e = (m, refl, sym (some_same e))

no-view : (a : AnActor) (k : KeptClient) (f : AMember → Option Shown) → of_client None (λ m. Some k) a ≡ None → of_client None f a ≡ None
no-view Nobody k f e = refl
no-view (Guest x) k f e = refl
no-view (Named m) k f e = none_some (sym e)

-- whom a name stands for
pub client-of : (a : AnActor) (k : KeptClient) (m : AMember) → a ≡ Named m → of_client None (λ m. Some k) a ≡ Some k
client-of a k m e = ap (of_client None (λ m. Some k)) e

pub client-none : (a : AnActor) (k : UndoState) → actor_of a k ≡ None → of_client None (λ m. Some k.client) a ≡ None
client-none Nobody k e = refl
client-none (Guest x) k e = refl
client-none (Named m) k e = none_some (sym e)

pub unshown : (w : WorldState) (ks : Kepts) (n : Name) (r : Result Shown WorldBad) → client_kept w ks n ≡ None → r ≡ Err world_bad.Unknown
    → ShowsClient (shows_view w n) r × ShowsClient (shows_view_marks w n) r
unshown w ks n r e q =
    (subst (λ o. ShowsClient o r) (sym (no-view (w.actors n) (ks n).client _ e)) q, subst (λ o. ShowsClient o r) (sym (no-view (w.actors n) (ks n).client _ e)) q)

-- the client of a run
record Sees (w : WorldState) (n : Name) (k : KeptClient) : Type 0 where
  pub member : AMember
  pub is : w.actors n ≡ Named member
  pub keeps : Keeps (birth_at w.pad member.birth) member.client k

sees : (w : WorldState) (ks : Kepts) (n : Name) (k : KeptClient) → IsRun w ks → client_kept w ks n ≡ Some k → Sees w n k
sees w ks n k run e =
    let h = kept-named (w.actors n) (ks n).client k e in
    record {
      member = h.0;
      is = h.1;
      keeps = subst (λ x. Keeps (birth_at w.pad h.0.birth) h.0.client x) (sym h.2) (subst (λ a. KeepsActor w.pad a (ks n).client) h.1 (kept w ks run n));
    }

pending-of : (s : Option Submission) → is_some (sent_session s) ≡ is_some s
pending-of None = refl
pending-of (Some s) = refl

pub shows-client : (w : WorldState) (ks : Kepts) (n : Name) (k : KeptClient) → IsRun w ks → client_kept w ks n ≡ Some k
    → shows_view w n ≡ Some (shown.View n k.rev (state_of (is_some k.sent_in) (not (is_identity k.local))) k.view)
shows-client w ks n k run e =
    let s = sees w ks n k run e in
    let m = s.member in
    ap (of_client None (λ m. Some (shows_client n w.pad m))) s.is
    ∙ ap (λ r. Some (shown.View n r (state_of (has_sent m.client) (has_local m.client)) (view_of w.pad m))) (sym s.keeps.rev)
    ∙ ap (λ b. Some (shown.View n k.rev (state_of b (has_local m.client)) (view_of w.pad m))) (sym (ap is_some s.keeps.sent_in ∙ pending-of m.client.sent))
    ∙ ap (λ l. Some (shown.View n k.rev (state_of (is_some k.sent_in) (not (is_identity l))) (view_of w.pad m))) (sym s.keeps.local)
    ∙ ap (λ d. Some (shown.View n k.rev (state_of (is_some k.sent_in) (not (is_identity k.local))) d)) (sym s.keeps.view)

pub shows-client-marks : (w : WorldState) (ks : Kepts) (n : Name) (k : KeptClient) → IsRun w ks → client_kept w ks n ≡ Some k
    → shows_view_marks w n ≡ Some (shown.ViewMarks n k.view)
shows-client-marks w ks n k run e =
    let s = sees w ks n k run e in
    ap (of_client None (λ m. Some (shown.ViewMarks n (view_of w.pad m)))) s.is ∙ ap (λ d. Some (shown.ViewMarks n d)) (sym s.keeps.view)

-- what is shown, or fails
pub shows-result : (o : Option Shown) (s : Shown) (r : Result Shown WorldBad) → o ≡ Some s → IfOk r (λ x. x ≡ s) → IfErr r (λ b. b ≡ world_bad.NoMemory) → ShowsClient o r
shows-result o s r e h f = subst (λ y. ShowsClient y r) (sym e) (go r h f)
  where
    go : (r : Result Shown WorldBad) → IfOk r (λ x. x ≡ s) → IfErr r (λ b. b ≡ world_bad.NoMemory) → ShowsClient (Some s) r
    go (Ok x) h f = h
    go (Err b) h f = f

-- ---- the pad

-- a revision that is asked for
text-free : (b c : Bool) (h : ℕ) → first_fault (fault_if (not b) bad.Gone ∷ fault_if c (bad.NoRev h) ∷ []) ≡ None → (b ≡ true) × (c ≡ false)
text-free true false h e = (refl, refl)
text-free true true h e = none_some (sym e)
text-free false c h e = none_some (sym e)

text-gone : (b c : Bool) (h : ℕ) → first_fault (fault_if (not b) bad.Gone ∷ fault_if c (bad.NoRev h) ∷ []) ≡ Some bad.Gone → b ≡ false
text-gone true false h e = none_some e
text-gone true true h e = absurd cc
text-gone false c h e = refl

text-none : (b c : Bool) (h k : ℕ) → first_fault (fault_if (not b) bad.Gone ∷ fault_if c (bad.NoRev h) ∷ []) ≡ Some (bad.NoRev k) → (b ≡ true) × (c ≡ true) × (k ≡ h)
text-none true false h k e = none_some e
text-none true true h k e = (refl, refl, cc)
text-none false c h k e = absurd cc

within : (a b : ℕ) → nat_lt b a ≡ false → nat_le a b ≡ true
within a b e = grind (arith, nat_tests)

beyond : (a b : ℕ) → nat_lt b a ≡ true → nat_le a b ≡ false
beyond a b e = grind (arith, nat_tests)

module _ (pad : PadState) (r : ℕ) where
  abbrev IfThere : Bool → Shown
  IfThere b = if b then shows_text_if pad r (nat_le r (head (newest pad))) else shown.TextGone r

  text-shown : pad.present ≡ true → nat_lt (head (newest pad)) r ≡ false → shows_text pad r ≡ shown.Text r (doc_at (newest pad) r)
  text-shown p h = ap IfThere p ∙ ap (shows_text_if pad r) (within r (head (newest pad)) h)

  none-shown : pad.present ≡ true → nat_lt (head (newest pad)) r ≡ true → shows_text pad r ≡ shown.NoRev r (head (newest pad))
  none-shown p h = ap IfThere p ∙ ap (shows_text_if pad r) (beyond r (head (newest pad)) h)

module _ {D : Type 0} (told_by : D → Option Contents) (failures : D → ℕ) (stops_alone : D → Bool) (alone : Bool) (rs : List Record) where
  -- a document is asked for
  pub text-asked : (old new : Held D) (pad : PadState) (o : Option ℕ) (r x : Result Doc PadBad) → IsAt told_by failures stops_alone alone rs old pad → MakesMarked told_by failures stops_alone alone old (ReadText o) (replied TextAnswer r) new → r ≡ x
      → IsAnswered told_by failures stops_alone alone rs old pad (ReadText o) (replied TextAnswer x) new
  text-asked old new pad o r x a makes is =
      answered told_by failures stops_alone alone rs old new pad (ReadText o) (replied TextAnswer x) a (subst (λ y. MakesMarked told_by failures stops_alone alone old (ReadText o) (replied TextAnswer y) new) is makes)

  -- a document is told
  text-told : (old new : Held D) (pad : PadState) (o : Option ℕ) (doc : Doc) → IsAnswered told_by failures stops_alone alone rs old pad (ReadText o) (Ok (TextAnswer doc)) new
      → (text_fault pad o ≡ None) × (doc ≡ text pad o) × IsAt told_by failures stops_alone alone rs new pad × (full_in rs pad None ≡ None)
  text-told old new pad o doc a =
      let u = unless-answers (text_fault pad o) (Answers (TextAnswer (text pad o)) pad) _ a.0 in
      (u.0, same (sym (ap answer_of u.1) ∙ a.0), subst (λ x. IsAt told_by failures stops_alone alone (behind rs (record_in x)) new (pad_after pad x)) u.1 a.1, subst (λ x. full_in rs pad (record_in x) ≡ None) u.1 a.2)
    where
      same : Some (TextAnswer (text pad o)) ≡ Some (TextAnswer doc) → doc ≡ text pad o
      same e = cc

  pub head-told : (old new : Held D) (pad : PadState) (r : ℕ) (doc : Doc) → pad.present ≡ true → r ≡ head (newest pad)
      → IsAnswered told_by failures stops_alone alone rs old pad (ReadText None) (Ok (TextAnswer doc)) new → TellsHead told_by failures stops_alone alone rs pad (Ok (top.There r doc)) new
  head-told old new pad r doc there e a =
      let t = text-told old new pad None doc a in (
        (
          ap (λ b. if b then Some (both (head (newest pad)) (head_doc (newest pad))) else None) there
              ∙ sym (ap (λ x. Some (both x doc)) e ∙ ap (λ x. Some (both (head (newest pad)) x)) t.1),
          t.3,
        ),
        t.2,
      )
    where
      both : ℕ → Doc → ℕ × Doc
      both a b = (a, b)

  pub head-gone : (new : Held D) (pad : PadState) → pad.present ≡ false → IsAt told_by failures stops_alone alone rs new pad → full_in rs pad None ≡ None
      → TellsHead told_by failures stops_alone alone rs pad (Ok top.Gone) new
  head-gone new pad gone a f = ((ap (λ b. if b then Some (both (head (newest pad)) (head_doc (newest pad))) else None) gone, f), a)
    where
      both : ℕ → Doc → ℕ × Doc
      both a b = (a, b)

  abbrev Reads : Held D → Result PadStatus PadBad → Held D → Type 0
  Reads old r new = MakesMarked told_by failures stops_alone alone old ReadStatus (replied (λ x. StatusAnswer (status_of x)) r) new

  pub head-of : (old mid new : Held D) (pad : PadState) (st : PadStatus) (doc : Doc) (r : Result PadStatus PadBad) (x : Result Doc PadBad) → IsAt told_by failures stops_alone alone rs old pad
      → Reads old r mid → r ≡ Ok st → MakesMarked told_by failures stops_alone alone mid (ReadText None) (replied TextAnswer x) new → x ≡ Ok doc → TellsHead told_by failures stops_alone alone rs pad (Ok (top.There st.head doc)) new
  head-of old mid new pad st doc r x a reads is texts iz =
      let h = status-there told_by failures stops_alone alone rs old mid pad st
      (answered told_by failures stops_alone alone rs old mid pad ReadStatus (Ok (StatusAnswer (status_of st))) a (subst (λ y. Reads old y mid) is reads)) in
      head-told mid new pad st.head doc h.0 h.1 (text-asked mid new pad None x (Ok doc) h.2 texts iz)

  pub head-off : (old new : Held D) (pad : PadState) (r : Result PadStatus PadBad) → IsAt told_by failures stops_alone alone rs old pad → Reads old r new → r ≡ Err bad.Gone → TellsHead told_by failures stops_alone alone rs pad (Ok top.Gone) new
  head-off old new pad r a reads is =
      let h = status-gone told_by failures stops_alone alone rs old new pad (answered told_by failures stops_alone alone rs old new pad ReadStatus (Err bad.Gone) a (subst (λ y. Reads old y new) is reads)) in
      head-gone new pad h.0 h.1 h.2

  pub head-shut : (old new : Held D) (pad : PadState) (n : ℕ) (r : Result PadStatus PadBad) → IsAt told_by failures stops_alone alone rs old pad → Reads old r new → r ≡ Err (bad.JournalFull n)
      → TellsHead told_by failures stops_alone alone rs pad (Ok (top.Shut n)) new
  head-shut old new pad n r a reads is =
      status-shut told_by failures stops_alone alone rs old new pad n
      (answered told_by failures stops_alone alone rs old new pad ReadStatus (Err (bad.JournalFull n)) a (subst (λ y. Reads old y new) is reads))

  -- ---- the world

  -- another state of the machine at the same pad
  pub reads-stands : (old new : World D) (w : WorldState) (ks : Kepts) → StandsFor told_by failures stops_alone alone rs old w ks → IsAt told_by failures stops_alone alone rs new.machine w.pad → new.id ≡ old.id
      → new.actors ≡ old.actors → StandsFor told_by failures stops_alone alone rs new w ks
  reads-stands old new w ks s m i e = record { machine = m; id = i ∙ s.id; actors = λ q. ap (λ x. found x q) e ∙ s.actors q }

  head-shows : (w : WorldState) (o : Option (ℕ × Doc)) → o ≡ head_there w.pad → (r : ℕ) (doc : Doc) → o ≡ Some (r, doc)
      → (shown.Head r doc ≡ shows_head w.pad) × (shown.HeadMarks r doc ≡ shows_marks w.pad)
  head-shows w o e r doc h = go w.pad.present refl
    where
      both : ℕ × Doc
      both = (head (newest w.pad), head_doc (newest w.pad))

      go : (b : Bool) → w.pad.present ≡ b → (shown.Head r doc ≡ shows_head w.pad) × (shown.HeadMarks r doc ≡ shows_marks w.pad)
      go false p = none_some (sym (sym h ∙ e ∙ ap (λ b. if b then Some both else None) p))
      go true p =
          let q = some_same (sym h ∙ e ∙ ap (λ b. if b then Some both else None) p) in (
            ap (λ (x : ℕ × Doc). shown.Head x.0 x.1) q ∙ sym (ap (λ b. if b then shown.Head (head (newest w.pad)) (head_doc (newest w.pad)) else shown.Gone verb.Head) p),
            ap (λ (x : ℕ × Doc). shown.HeadMarks x.0 x.1) q ∙ sym (ap (λ b. if b then shown.HeadMarks (head (newest w.pad)) (head_doc (newest w.pad)) else shown.Gone verb.Marks) p),
          )

  gone-shows : (w : WorldState) (o : Option (ℕ × Doc)) → o ≡ head_there w.pad → o ≡ None
      → (shown.Gone verb.Head ≡ shows_head w.pad) × (shown.Gone verb.Marks ≡ shows_marks w.pad)
  gone-shows w o e h = go w.pad.present refl
    where
      both : ℕ × Doc
      both = (head (newest w.pad), head_doc (newest w.pad))

      go : (b : Bool) → w.pad.present ≡ b → (shown.Gone verb.Head ≡ shows_head w.pad) × (shown.Gone verb.Marks ≡ shows_marks w.pad)
      go true p = none_some (sym h ∙ e ∙ ap (λ b. if b then Some both else None) p)
      go false p = (
        sym (ap (λ b. if b then shown.Head (head (newest w.pad)) (head_doc (newest w.pad)) else shown.Gone verb.Head) p),
        sym (ap (λ b. if b then shown.HeadMarks (head (newest w.pad)) (head_doc (newest w.pad)) else shown.Gone verb.Marks) p),
      )

  -- where nothing hinders, what is read is shown
  reads-free : (pad : PadState) (v : Verb) (said : Shown) → full_in rs pad None ≡ None → reads_as rs pad v said ≡ said
  reads-free pad v said f = ap (reads_if v said) f

  pub reads-shut : (pad : PadState) (v : Verb) (said : Shown) (n : ℕ) → full_in rs pad None ≡ Some (bad.JournalFull n) → pad_refuses v None (bad.JournalFull n) ≡ reads_as rs pad v said
  reads-shut pad v said n f = sym (ap (reads_if v said) f)

  pub head-reads : (w : WorldState) (r : ℕ) (doc : Doc) → (head_there w.pad ≡ Some (r, doc)) × (full_in rs w.pad None ≡ None)
      → (shown.Head r doc ≡ reads_as rs w.pad verb.Head (shows_head w.pad)) × (shown.HeadMarks r doc ≡ reads_as rs w.pad verb.Marks (shows_marks w.pad))
  head-reads w r doc h =
      let x = head-shows w (head_there w.pad) refl r doc h.0 in
      (x.0 ∙ sym (reads-free w.pad verb.Head (shows_head w.pad) h.1), x.1 ∙ sym (reads-free w.pad verb.Marks (shows_marks w.pad) h.1))

  pub gone-reads : (w : WorldState) → (head_there w.pad ≡ None) × (full_in rs w.pad None ≡ None)
      → (shown.Gone verb.Head ≡ reads_as rs w.pad verb.Head (shows_head w.pad)) × (shown.Gone verb.Marks ≡ reads_as rs w.pad verb.Marks (shows_marks w.pad))
  gone-reads w h =
      let x = gone-shows w (head_there w.pad) refl h.0 in
      (x.0 ∙ sym (reads-free w.pad verb.Head (shows_head w.pad) h.1), x.1 ∙ sym (reads-free w.pad verb.Marks (shows_marks w.pad) h.1))

  -- a revision is shown, and nothing else of the world changed
  pub text-shows : (before : ℕ) (old new : World D) (w : WorldState) (ks : Kepts) (r : ℕ) (doc : Doc) → StandsFor told_by failures stops_alone alone rs old w ks
      → IsAnswered told_by failures stops_alone alone rs old.machine w.pad (ReadText (Some r)) (Ok (TextAnswer doc)) new.machine → new.id ≡ old.id → new.actors ≡ old.actors
      → ShowsPad told_by failures stops_alone alone rs before w ks (reads_as rs w.pad verb.Text (shows_text w.pad r)) (Ok (shown.Text r doc)) new
  text-shows before old new w ks r doc s a i e =
      let t = text-told old.machine new.machine w.pad (Some r) doc a in
      let f = text-free w.pad.present (nat_lt (head (newest w.pad)) r) (head (newest w.pad)) t.0 in
      (ap (shown.Text r) t.1 ∙ sym (text-shown w.pad r f.0 f.1) ∙ sym (reads-free w.pad verb.Text (shows_text w.pad r) t.3), reads-stands old new w ks s t.2 i e)

  pub gone-text-shows : (before : ℕ) (old new : World D) (w : WorldState) (ks : Kepts) (r : ℕ) → StandsFor told_by failures stops_alone alone rs old w ks
      → IsAnswered told_by failures stops_alone alone rs old.machine w.pad (ReadText (Some r)) (Err bad.Gone) new.machine → new.id ≡ old.id → new.actors ≡ old.actors
      → ShowsPad told_by failures stops_alone alone rs before w ks (reads_as rs w.pad verb.Text (shows_text w.pad r)) (Ok (shown.TextGone r)) new
  gone-text-shows before old new w ks r s a i e =
      let f = text-gone w.pad.present (nat_lt (head (newest w.pad)) r) (head (newest w.pad)) (unless-refuses-answer (text_fault w.pad (Some r)) _ _ bad.Gone a.0) in
      (sym (ap (IfThere w.pad r) f) ∙ sym (reads-free w.pad verb.Text (shows_text w.pad r) a.2), reads-stands old new w ks s a.1 i e)

  pub no-rev-shows : (before : ℕ) (old new : World D) (w : WorldState) (ks : Kepts) (r h : ℕ) → StandsFor told_by failures stops_alone alone rs old w ks
      → IsAnswered told_by failures stops_alone alone rs old.machine w.pad (ReadText (Some r)) (Err (bad.NoRev h)) new.machine → new.id ≡ old.id → new.actors ≡ old.actors
      → ShowsPad told_by failures stops_alone alone rs before w ks (reads_as rs w.pad verb.Text (shows_text w.pad r)) (Ok (shown.NoRev r h)) new
  no-rev-shows before old new w ks r h s a i e =
      let f = text-none w.pad.present (nat_lt (head (newest w.pad)) r) (head (newest w.pad)) h (unless-refuses-answer (text_fault w.pad (Some r)) _ _ (bad.NoRev h) a.0) in
      (ap (shown.NoRev r) f.2 ∙ sym (none-shown w.pad r f.0 f.1) ∙ sym (reads-free w.pad verb.Text (shows_text w.pad r) a.2), reads-stands old new w ks s a.1 i e)

  pub shut-text-shows : (before : ℕ) (old new : World D) (w : WorldState) (ks : Kepts) (r n : ℕ) → StandsFor told_by failures stops_alone alone rs old w ks
      → IsAnswered told_by failures stops_alone alone rs old.machine w.pad (ReadText (Some r)) (Err (bad.JournalFull n)) new.machine → new.id ≡ old.id → new.actors ≡ old.actors
      → ShowsPad told_by failures stops_alone alone rs before w ks (reads_as rs w.pad verb.Text (shows_text w.pad r)) (Ok (pad_refuses verb.Text None (bad.JournalFull n))) new
  shut-text-shows before old new w ks r n s a i e =
      (reads-shut w.pad verb.Text (shows_text w.pad r) n (ap (full_in rs w.pad) (sym (nothing (text_fault w.pad (Some r)))) ∙ a.1), reads-stands old new w ks s a.0 i e)
    where
      nothing : (f : Option PadBad) → record_in (unless f (Answers (TextAnswer (text w.pad (Some r))) w.pad)) ≡ None
      nothing None = refl
      nothing (Some b) = refl

  -- the machine for which the world stands, whose file has the records
  pub lends : (world : World D) (w : WorldState) (ks : Kepts) → StandsFor told_by failures stops_alone alone rs world w ks → IsLent told_by failures stops_alone alone rs world.machine w.pad
  lends world w ks s = go s.machine
    where
      go : IsAt told_by failures stops_alone alone rs world.machine w.pad → IsLent told_by failures stops_alone alone rs world.machine w.pad
      go (inl m) = inl (m, subst (Holds (told_by world.machine.disk)) m.records (m.stands.open_has (sym m.stands.is_open ∙ m.is_open)).holds)
      go (inr m) =
          inr (
            m,
            subst (λ q. MayHold (told_by world.machine.disk) q []) m.records
                (subst (MayHold (told_by world.machine.disk) m.state.records) m.settled (m.stands.closed_has (sym m.stands.is_open ∙ m.is_closed))),
          )
