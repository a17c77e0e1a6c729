-- What a crash comes to, and an opening.
use Rattle.std.proofs.Common.{◌≡◌, ℕ, suc, ◌<◌, Bool, true, false, not, List, [], ◌∷◌, ◌++◌, length, Option, Some, None, Result, Ok, Err, ◌⊎◌, inl, inr, if◌then◌else◌, refl, sym, ap, ◌∙◌, subst, arith}
use Rattle.std.specs.Option.{option_map}
use Rattle.std.specs.Prelude.{◌&&◌, IfOk, MatchResult, is_none, IfErr}
use Rattle.std.proofs.lemmas.List.{length-append}
use Rattle.ep_units.specs.Text.{text_eq}
use Rattle.ep_units.specs.declared.session.Session.{Session}
use Rattle.ep_outside.specs.Disk.{Contents}
use Rattle.ep_outside.specs.declared.image.Image.{Image}
use Rattle.ep_csread.specs.declared.bad.ReadBad.{ReadBad}
use Rattle.ep_cs.specs.Change.{Change}
use Rattle.ep_cs.specs.EditFits.{is_edit}
use Rattle.ep_cs.specs.NormalRuns.{IsNormal}
use Rattle.ep_cs.specs.Fits.{is_identity}
use Rattle.ep_history.specs.Accept.{at_head, by_session, committed, refusal, seat_fault}
use Rattle.ep_history.specs.declared.seat.Why.TheVariants as end
use Rattle.ep_history.specs.Entries.{Answer, Entry, Reply, unless}
use Rattle.ep_history.specs.Entries.Answer.{CommitAnswer, StatusAnswer}
use Rattle.ep_history.specs.Entries.Entry.{Accept, ReadStatus}
use Rattle.ep_history.specs.Entries.Outcome.{Answers, Records}
use Rattle.ep_history.specs.History.{head, head_doc, nop_by, step_revs}
use Rattle.ep_undo.specs.Undo.{UndoState, undo_lost}
use Rattle.ep_history.specs.Machine.{MachineState, Turn, IsKeptState, IsOpenStep, IsStepAs, IsStep, IsThen, closed, journal_fault, keeping, open_record, reopening, settled, turn, turn_of}
use Rattle.ep_history.specs.Machine.IsOpenStep.{Does, Lacks, Fails}
use Rattle.ep_history.specs.Pad.{PadState, newest, reopened, with_nops, with_revs}
use Rattle.ep_history.specs.Readings.{PadStatus as APadStatus, commit, status}
use Rattle.ep_history.specs.Records.{accept_record, next_pad, told_from}
use Rattle.ep_history.specs.Refusals.{fault_if}
use Rattle.ep_history.specs.Server.{gone_fault}
use Rattle.ep_history.specs.declared.pad_bad.PadBad.{PadBad}
use Rattle.ep_history.specs.declared.pad_bad.PadBad.TheVariants as bad
use Rattle.ep_history.specs.declared.record.Record.{Record}
use Rattle.ep_history.proofs.Answered.{normal-edit}
use Rattle.ep_history.proofs.Births.{decide-name}
use Rattle.ep_history.proofs.Lists.{none_some, some_same}
use Rattle.ep_history.proofs.Recorded.{accept-recorded}
use Rattle.ep_history.proofs.Steps.{reopening-kept, settled-kept, step-kept}
use Rattle.ep_schedule.specs.Headline.{first_sent, next_up}
use Rattle.ep_world.specs.Kepts.{Kepts}
use Rattle.ep_schedule.specs.World.{Name, Actor as AnActor, Conn, Member as AMember, Message, Reason as AReason, WorldState, crashed, cut_off, reason, stop_as, stop_by, stop_conn, stopped as stops}
use Rattle.ep_schedule.specs.World.Reason.{Refused}
use Rattle.ep_schedule.specs.World.Actor.{Nobody, Guest, Named}
use Rattle.ep_pad.specs.Held.{Held}
use Rattle.ep_pad.specs.Opening.{IsFullThen, IsWoken, Sleeps, stopped}
use Rattle.ep_pad.specs.Opening.IsWoken.{Was, Opened}
use Rattle.ep_pad.specs.Standing.{Stands, opening, replied}
use Rattle.ep_pad.specs.Stopping.{HasNoRoom as NoRoomBehind, StaysStopped, StopsIn}
use Rattle.ep_pad.specs.Stopping.HasNoRoom.{FullBefore, FullBehind}
use Rattle.ep_pad.specs.Stopping.StaysStopped.{Before, Behind}
use Rattle.ep_pad_file.specs.Stopping.{gate_behind, is_kept}
use Rattle.ep_pad_file.specs.Standing.{size}
use Rattle.ep_pad_state.specs.Answering.{status_of}
use Rattle.ep_pad_state.specs.declared.answers.PadStatus.{PadStatus}
use Rattle.ep_event.specs.declared.event.Event.{Event as Told}
use Rattle.ep_event.specs.declared.event.Event.TheVariants as told
use Rattle.ep_event.specs.declared.event.StopAt.{StopAt}
use Rattle.ep_event.specs.declared.shown.Shown.{Shown}
use Rattle.ep_event.specs.declared.shown.Shown.TheVariants as shown
use Rattle.ep_event.specs.declared.shown.Verb.TheVariants as verb
use Rattle.ep_members.specs.declared.actors.Actor.{Actor}
use Rattle.ep_members.specs.declared.actors.Actor.TheVariants as actor
use Rattle.ep_members.specs.declared.actors.Slot.{Slot}
use Rattle.ep_world.specs.declared.bad.WorldBad.{WorldBad}
use Rattle.ep_world.specs.declared.bad.WorldBad.TheVariants as world_bad
use Rattle.ep_members.specs.declared.message.Sent.{Sent}
use Rattle.ep_world.specs.declared.world.World.{World}
use Rattle.ep_world.specs.Actors.{IsSame, actor_of, member_of}
use Rattle.ep_members.specs.Actors.{IsWithout, PutsActor, found, kept_cut_off}
use Rattle.ep_world.specs.Events.{is_known, is_nobody, stopped_name}
use Rattle.ep_members.specs.Conns.{KeptConn, kept_cut}
use Rattle.ep_world.specs.Conns.{conn_of, sent_of}
use Rattle.ep_world.specs.Failing.{IsFailure}
use Rattle.ep_world.specs.Journal.{Decides, behind, full_by, full_in, is_shut, journal_left, kept_record, keeps_record, no_room, record_if, record_in, record_taken, shows_full, unopened}
use Rattle.ep_world.specs.Shows.{pad_refuses, shows_opening}
use Rattle.ep_world.specs.Standing.{Comes, IsAnswered, IsAt, IsOpenAt, IsShutAt, StandsFor, answer_of, pad_after}
use Rattle.ep_world.specs.Standing.IsPlayed.{IsEvent, HasNoRoom}
use Rattle.ep_world.specs.Stopping.{BreaksOff, FindsFirst, Reopens, Starts, broken_by, broken_off, journal_broken, shows_start, shows_start_if, taken_if, taken_of}
use Rattle.ep_members.specs.Actors.{TakesFirst, TakesSent}
use Rattle.ep_world.proofs.Brought.{reason-of, reason-unread, sent-read, sent-unread, unless-answers, unless-refuses-answer}
use Rattle.ep_world.proofs.Conns.{takes-message, takes-none}
use Rattle.ep_world.proofs.Counting.{IsAsleep, sleeps-full}
use Rattle.ep_world.proofs.Seating.{is-nobody, same-stands}
use Rattle.ep_world.proofs.Shut.{full-shut, none-pending, open-full, open-shut, opens-free, settled-closed, settled-records, settled-whole, shut-again, shut-full, shut-seat, unopened-alike}

-- what is there where a call is done may be told otherwise
pub if-ok : {A E : Type 0} (r : Result A E) (P Q : Type 0) → (P → Q) → IfOk r (λ _. P) → IfOk r (λ _. Q)
if-ok (Ok x) P Q f p = f p
if-ok (Err e) P Q f p = tt

-- what is said of a refusal holds where it was this one
pub behind-full : {A : Type 0} (P : PadBad → Type 0) (r : Result A PadBad) (b : PadBad) → r ≡ Err b → IfErr r (λ x. x ≡ b → P x) → P b
behind-full P r b is h = subst (λ y. IfErr y (λ x. x ≡ b → P x)) is h refl

-- a program's answer that isn't want of memory is none by the rules
pub not-lacking : {A : Type 0} (f : A → Answer) (r : Result A PadBad) → (r ≡ Err bad.NoMemory → ⊥) → replied f r ≡ Err bad.NoMemory → ⊥
not-lacking f (Ok x) h e = cc
not-lacking f (Err b) h e = let same : b ≡ bad.NoMemory = cc in h (ap Err same)

-- ---- what is pending

settled-then : (kept : Bool) (t new : MachineState) → IsThen t new → (settled kept new).pad ≡ (settled kept t).pad
settled-then true t new h = ap (λ (x : MachineState). told_from x.pad x.pending) h.0
settled-then false t new h = ap (λ (x : MachineState). x.pad) h.0

settled-records-then : (kept : Bool) (t new : MachineState) → IsThen t new → (settled kept new).records ≡ (settled kept t).records
settled-records-then true t new h = ap (λ (x : MachineState). x.records ++ x.pending) h.0
settled-records-then false t new h = ap (λ (x : MachineState). x.records) h.0

-- ---- a take that is broken off

none-added : (rs : List Record) (r : Record) → rs ≡ rs ++ r ∷ [] → ⊥
none-added rs r e = let n : length rs ≡ length (rs ++ r ∷ []) = ap (λ (xs : List Record). length xs) e in let m = length-append rs (r ∷ []) in omega (arith, n, m)

same-added : (rs : List Record) (q r : Record) → rs ++ q ∷ [] ≡ rs ++ r ∷ [] → q ≡ r
same-added [] q r e = cc
same-added (x ∷ rs) q r e = same-added rs q r cc

-- of a machine in this state, the message of a session
module _ (st : MachineState) (s : Session) (now : ℕ) (msg : Message) where
  abbrev taken : Record
  taken = accept_record st.pad s now msg.base msg.change

  abbrev answered : Answer
  answered = CommitAnswer (commit st.pad (at_head st.pad msg.base msg.change.edit))

  abbrev turned : Bool → Option PadBad → Turn
  turned can f = turn_of size st can (unless f (Records taken answered (committed st.pad s now msg.base msg.change)))

  -- what it records
  abbrev recorded : Option Record
  recorded = record_if st.pad s now msg (reason st.pad s msg)

  abbrev SettlesTo : Bool → MachineState → Type 0
  SettlesTo kept next =
      (b : Bool) × ((settled kept next).pad ≡ broken_off st.pad s now msg b) × ((settled kept next).records ≡ behind st.records (kept_record b recorded))

  taken-records : is_edit msg.change.edit ≡ true → refusal st.pad s msg.base msg.change ≡ None → st.records ++ taken ∷ [] ≡ behind st.records (kept_record true recorded)
  taken-records i h = sym (ap (λ w. behind st.records (record_if st.pad s now msg w)) (reason-of st.pad s msg None i h))

  taken-off : is_edit msg.change.edit ≡ true → refusal st.pad s msg.base msg.change ≡ None → committed st.pad s now msg.base msg.change ≡ broken_off st.pad s now msg true
  taken-off i h = sym (ap (taken_if st.pad s now msg) (reason-of st.pad s msg None i h))

  -- what it is to do
  turn-settles : is_edit msg.change.edit ≡ true → st.pending ≡ [] → (kept : Bool) → SettlesTo kept (turn size st (Accept s msg.base msg.change now)).state
  turn-settles i p kept = go (refusal st.pad s msg.base msg.change) refl
    where
      keeps : (f : Option PadBad) → refusal st.pad s msg.base msg.change ≡ None
          → SettlesTo kept (keeping st f taken answered (committed st.pad s now msg.base msg.change)).state
      keeps (Some full) h = (false, settled-whole kept st p, settled-records kept st p)
      keeps None h = (true, settled-whole kept _ p ∙ taken-off i h, settled-records kept (keeping st None taken answered (committed st.pad s now msg.base msg.change)).state p ∙ taken-records i h)

      go : (f : Option PadBad) → refusal st.pad s msg.base msg.change ≡ f → SettlesTo kept (turned (is_edit msg.change.edit) (refusal st.pad s msg.base msg.change)).state
      go (Some b) h =
          subst (λ (x : Option PadBad). SettlesTo kept (turned (is_edit msg.change.edit) x).state) (sym h) (false, settled-whole kept st p, settled-records kept st p)
      go None h =
          subst (λ (x : Option PadBad). SettlesTo kept (turned (is_edit msg.change.edit) x).state) (sym h)
          (subst (λ can. SettlesTo kept (turned can None).state) (sym i) (keeps (journal_fault size st taken) h))

  -- what it was to keep
  turn-adds : (q : Record) → is_edit msg.change.edit ≡ true → (turn size st (Accept s msg.base msg.change now)).state.records ≡ st.records ++ q ∷ []
      → (refusal st.pad s msg.base msg.change ≡ None) × (q ≡ taken)
  turn-adds q i adds = go (refusal st.pad s msg.base msg.change) refl adds
    where
      keeps : (f : Option PadBad) → refusal st.pad s msg.base msg.change ≡ None
          → (keeping st f taken answered (committed st.pad s now msg.base msg.change)).state.records ≡ st.records ++ q ∷ []
          → (refusal st.pad s msg.base msg.change ≡ None) × (q ≡ taken)
      keeps (Some full) h e = absurd (none-added st.records q e)
      keeps None h e = (h, sym (same-added st.records taken q e))

      go : (f : Option PadBad) → refusal st.pad s msg.base msg.change ≡ f
          → (turned (is_edit msg.change.edit) (refusal st.pad s msg.base msg.change)).state.records ≡ st.records ++ q ∷ []
          → (refusal st.pad s msg.base msg.change ≡ None) × (q ≡ taken)
      go (Some b) h e =
          absurd (none-added st.records q (subst (λ (x : Option PadBad). (turned (is_edit msg.change.edit) x).state.records ≡ st.records ++ q ∷ []) h e))
      go None h e =
          keeps (journal_fault size st taken) h
          (subst (λ can. (turned can None).state.records ≡ st.records ++ q ∷ []) i
          (subst (λ (x : Option PadBad). (turned (is_edit msg.change.edit) x).state.records ≡ st.records ++ q ∷ []) h e))

  pub step-settles : (reply : Reply) (new : MachineState) → is_edit msg.change.edit ≡ true → IsKeptState st → st.is_open ≡ true
      → IsOpenStep size st (Accept s msg.base msg.change now) reply new → (kept : Bool) → SettlesTo kept new
  step-settles reply new i k o step kept = go step kept
    where
      go : IsOpenStep size st (Accept s msg.base msg.change now) reply new → (kept : Bool) → SettlesTo kept new
      go (Does r t) kept =
          let x = turn-settles i (k.whole o) kept in
          let y = (turn size st (Accept s msg.base msg.change now)).state in
          (x.0, settled-then kept y new t ∙ x.1, settled-records-then kept y new t ∙ x.2)
      go (Lacks r t) kept =
          (false, settled-then kept st new t ∙ settled-whole kept st (k.whole o), settled-records-then kept st new t ∙ settled-records kept st (k.whole o))
      go (Fails count q adds r h t) false = (false, settled-then false (closed q st) new t, settled-records-then false (closed q st) new t)
      go (Fails count q adds r h t) true =
          let x = turn-adds q i adds in (
            true,
            settled-then true (closed q st) new t ∙ ap (next_pad st.pad) x.1
                ∙ (accept-recorded st.pad s now msg.base msg.change k.kept.sound x.0 i).1 ∙ taken-off i x.0,
            settled-records-then true (closed q st) new t ∙ ap (λ y. st.records ++ y ∷ []) x.1 ∙ taken-records i x.0,
          )

  -- on a disk that fails in a stop alone: the state that is found, where the image has the record or hasn't
  abbrev found-at : Bool → MachineState
  found-at has = if has then (turn size st (Accept s msg.base msg.change now)).state else st

  abbrev decided : Bool → Bool
  decided has = has && is_none (full_by st.records st.pad recorded)

  pub record IsFound (b : Bool) (at : MachineState) : Type 0 where
    pub settled : at.pending ≡ []
    pub pad : at.pad ≡ broken_off st.pad s now msg b
    pub records : at.records ≡ behind st.records (kept_record b recorded)

  abbrev whether : Option AReason → Bool
  whether w = is_none (full_by st.records st.pad (record_if st.pad s now msg w))

  abbrev off : Option AReason → Bool → PadState
  off w true = taken_if st.pad s now msg w
  off w false = st.pad

  off-is : (b : Bool) → off (reason st.pad s msg) b ≡ broken_off st.pad s now msg b
  off-is true = refl
  off-is false = refl

  turn-found : is_edit msg.change.edit ≡ true → st.pending ≡ [] → (has : Bool) → IsFound (decided has) (found-at has)
  turn-found i p false = record { settled = p; pad = refl; records = refl }
  turn-found i p true = let x = go (refusal st.pad s msg.base msg.change) refl in
      record { settled = x.0; pad = x.1 ∙ off-is (whether (reason st.pad s msg)); records = x.2 }
    where
      goal : Option AReason → Turn → Type 0
      goal w t =
          (t.state.pending ≡ []) × (t.state.pad ≡ off w (whether w))
          × (t.state.records ≡ behind st.records (kept_record (whether w) (record_if st.pad s now msg w)))

      keeps : (f : Option PadBad) → journal_fault size st taken ≡ f → goal None (keeping st f taken answered (committed st.pad s now msg.base msg.change))
      keeps (Some full) h = (
        p,
        sym (ap (λ o. off None (is_none o)) h),
        sym (ap (λ o. behind st.records (kept_record (is_none o) (Some taken))) h),
      )
      keeps None h = (
        p,
        sym (ap (λ o. off None (is_none o)) h),
        sym (ap (λ o. behind st.records (kept_record (is_none o) (Some taken))) h),
      )

      go : (f : Option PadBad) → refusal st.pad s msg.base msg.change ≡ f → goal (reason st.pad s msg) (turned (is_edit msg.change.edit) (refusal st.pad s msg.base msg.change))
      go (Some b) h =
          subst (λ w. goal w (turned (is_edit msg.change.edit) (refusal st.pad s msg.base msg.change))) (sym (reason-of st.pad s msg (Some b) i h))
          (subst (λ (x : Option PadBad). goal (Some (Refused b)) (turned (is_edit msg.change.edit) x)) (sym h) (p, refl, refl))
      go None h =
          subst (λ w. goal w (turned (is_edit msg.change.edit) (refusal st.pad s msg.base msg.change))) (sym (reason-of st.pad s msg None i h))
          (subst (λ (x : Option PadBad). goal None (turned (is_edit msg.change.edit) x)) (sym h)
          (subst (λ can. goal None (turned can None)) (sym i) (keeps (journal_fault size st taken) refl)))

-- a state in which nothing is pending, whose journal has no room for its opening
full-asleep : (at next : MachineState) (n : ℕ) → at.pending ≡ [] → IsFullThen (stopped at) (bad.JournalFull n) next → IsAsleep (stopped at) n next
full-asleep at next n none h =
    let same : settled false (stopped at) ≡ stopped at = ap (λ (rs : List Record). record (stopped at) { pending = rs }) (sym none) in (
      false,
      subst (λ (m : MachineState). journal_fault size m (open_record m) ≡ Some (bad.JournalFull n)) (sym same) h.0,
      subst (λ (m : MachineState). IsThen m next) (sym same) h.1,
    )

-- where nothing would be recorded, nothing is changed
nothing-kept : (k : Bool) → kept_record k None ≡ None
nothing-kept true = refl
nothing-kept false = refl

pub nothing-broken : (rs : List Record) (pad : PadState) (now : ℕ) (x : Option (Session × Message)) (k : Bool) → record_taken pad now x ≡ None
    → (broken_by pad now x k ≡ pad) × (journal_broken rs pad now x k ≡ rs)
nothing-broken rs pad now x k e =
    (go x e, ap (λ o. behind rs (kept_record k o)) e ∙ ap (behind rs) (nothing-kept k))
  where
    why : (y : Session × Message) (w : Option AReason) → record_if pad y.0 now y.1 w ≡ None → taken_if pad y.0 now y.1 w ≡ pad
    why y None h = none_some (sym h)
    why y (Some r) h = refl

    broken : (y : Session × Message) (k : Bool) → record_if pad y.0 now y.1 (reason pad y.0 y.1) ≡ None → broken_off pad y.0 now y.1 k ≡ pad
    broken y true h = why y (reason pad y.0 y.1) h
    broken y false h = refl

    go : (x : Option (Session × Message)) → record_taken pad now x ≡ None → broken_by pad now x k ≡ pad
    go None h = refl
    go (Some y) h = broken y k h

-- the number of the opening is that of the pad before
pub opening-off : (pad : PadState) (s : Session) (now : ℕ) (msg : Message) (b : Bool) → opening (broken_off pad s now msg b) ≡ opening pad
opening-off pad s now msg false = refl
opening-off pad s now msg true = go (reason pad s msg)
  where
    one-of : (b : Bool) (x y : PadState) → opening x ≡ opening pad → opening y ≡ opening pad → opening (if b then x else y) ≡ opening pad
    one-of true x y e f = e
    one-of false x y e f = f

    go : (w : Option AReason) → opening (taken_if pad s now msg w) ≡ opening pad
    go None =
        let e = at_head pad msg.base msg.change.edit in
        one-of (is_identity e) (with_nops pad (nop_by (by_session pad s now) (head (newest pad)) ∷ [])) (with_revs pad (step_revs (by_session pad s now) e (head_doc (newest pad)))) refl refl
    go (Some why) = refl

-- the limit of a pad after a take that was broken off is that of the pad before
pub limits-off : (pad : PadState) (s : Session) (now : ℕ) (msg : Message) (b : Bool) → (broken_off pad s now msg b).limits ≡ pad.limits
limits-off pad s now msg false = refl
limits-off pad s now msg true = go (reason pad s msg)
  where
    one-of : (b : Bool) (x y : PadState) → x.limits ≡ pad.limits → y.limits ≡ pad.limits → (if b then x else y).limits ≡ pad.limits
    one-of true x y e f = e
    one-of false x y e f = f

    go : (w : Option AReason) → (taken_if pad s now msg w).limits ≡ pad.limits
    go None =
        let e = at_head pad msg.base msg.change.edit in
        one-of (is_identity e) (with_nops pad (nop_by (by_session pad s now) (head (newest pad)) ∷ [])) (with_revs pad (step_revs (by_session pad s now) e (head_doc (newest pad)))) refl refl
    go (Some why) = refl

-- a state that stopped is one whose records tell it
stopped-kept : (st : MachineState) → IsKeptState st → IsKeptState (stopped st)
stopped-kept st k = record { kept = k.kept; pending = k.pending; whole = λ e. absurd cc }

-- the change of a message whose text spells one
pub spelled : (msg : Message) (x : Sent) (c : Change) → x ≡ sent_of msg → x.change ≡ Ok c → msg.change ≡ c
spelled msg x c e h = (sent-read x msg c e h).change

-- ---- who is cut off

pub cut-member : (a : AnActor) (k : UndoState) → option_map kept_cut_off (actor_of a k) ≡ actor_of (cut_off a) (undo_lost k)
cut-member Nobody k = refl
cut-member (Guest c) k = refl
cut-member (Named m) k = refl

pub record TakesOne (a : AnActor) (x : Option (Session × Sent)) (old new : Actor) : Type 0 where
  pub first : x ≡ option_map taken_of (next_up a)
  pub cut : kept_cut_off new ≡ kept_cut_off old

takes-conn : (c : Conn) (x : Option (Session × Sent)) (new : KeptConn) → TakesSent (conn_of c) x new
    → (x ≡ option_map taken_of (first_sent c.session c.up)) × (kept_cut new ≡ kept_cut (conn_of c))
takes-conn c None new t =
    let h = takes-none c new t in
    (ap (λ us. option_map taken_of (first_sent c.session us)) (sym h.0), ap kept_cut h.1)
takes-conn c (Some x) new t =
    let h = takes-message c x.1 new t.1 in
    (ap Some (pair x.0 c.session x.1 (sent_of h.msg) t.0 h.sent) ∙ ap (λ us. option_map taken_of (first_sent c.session us)) (sym h.up), ap kept_cut h.after)
  where
    both : Session → Sent → Session × Sent
    both s a = (s, a)

    pair : (s t : Session) (a b : Sent) → s ≡ t → a ≡ b → both s a ≡ both t b
    pair s t a b e f = ap (λ y. both y a) e ∙ ap (both t) f

pub takes-one : (a : AnActor) (k : UndoState) (x : Option (Session × Sent)) (old new : Actor) → actor_of a k ≡ Some old → TakesFirst old x new → TakesOne a x old new
takes-one a k x old new e t = go a e
  where
    guest : (c : Conn) (new : Actor) → TakesFirst (actor.Guest (conn_of c)) x new → TakesOne (Guest c) x (actor.Guest (conn_of c)) new
    guest c (actor.Guest d) t = let h = takes-conn c x d t in record { first = h.0; cut = ap actor.Guest h.1 }
    guest c (actor.Named n) t = absurd t

    named : (m : AMember) (new : Actor) → TakesFirst (actor.Named (member_of m k)) x new → TakesOne (Named m) x (actor.Named (member_of m k)) new
    named m (actor.Guest d) t = absurd t
    named m (actor.Named n) t =
        let h = takes-conn m.conn x t.0 t.1 in
        record {
          first = h.0;
          cut = ap (λ z. kept_cut_off (actor.Named z)) t.2 ∙ ap (λ c. actor.Named (record { client = undo_lost k; birth = m.birth; conn = c; earlier = None })) h.1;
        }

    go : (a : AnActor) → actor_of a k ≡ Some old → TakesOne a x old new
    go Nobody q = none_some q
    go (Guest c) q = subst (λ o. TakesOne (Guest c) x o new) (some_same q) (guest c new (subst (λ o. TakesFirst o x new) (sym (some_same q)) t))
    go (Named m) q = subst (λ o. TakesOne (Named m) x o new) (some_same q) (named m new (subst (λ o. TakesFirst o x new) (sym (some_same q)) t))

-- somebody who is put back and then cut off is cut off as he was
pub cut-after : (old mid new : List Slot) (n : Name) (a b : Actor) → found old n ≡ Some a → kept_cut_off b ≡ kept_cut_off a → PutsActor old n b mid
    → ((q : Name) → found new q ≡ option_map kept_cut_off (found mid q)) → (q : Name) → found new q ≡ option_map kept_cut_off (found old q)
cut-after old mid new n a b is same p cut q = cut q ∙ go (decide-name q n)
  where
    go : ((text_eq q n ≡ true) × (q ≡ n)) ⊎ ((text_eq q n ≡ false) × (q ≡ n → ⊥)) → option_map kept_cut_off (found mid q) ≡ option_map kept_cut_off (found old q)
    go (inl z) =
        ap (option_map kept_cut_off) (p q ∙ ap (λ t. if t then Some b else found old q) z.0) ∙ ap Some same
        ∙ sym (ap (option_map kept_cut_off) (ap (found old) z.1 ∙ is))
    go (inr z) = ap (option_map kept_cut_off) (p q ∙ ap (λ t. if t then Some b else found old q) z.0)

-- who was taken out is put back in another shape
pub puts-back : (old mid new : List Slot) (n : Name) (b : Actor) → IsWithout old n mid → PutsActor mid n b new → PutsActor old n b new
puts-back old mid new n b w p q = p q ∙ go (text_eq q n) refl
  where
    go : (t : Bool) → text_eq q n ≡ t → (if text_eq q n then Some b else found mid q) ≡ (if text_eq q n then Some b else found old q)
    go true z = ap (λ t. if t then Some b else found mid q) z ∙ sym (ap (λ t. if t then Some b else found old q) z)
    go false z =
        ap (λ t. if t then Some b else found mid q) z ∙ (w q ∙ ap (λ t. if t then None else found old q) z)
        ∙ sym (ap (λ t. if t then Some b else found old q) z)

-- ---- the world that was stopped

pub record IsStopped (w v : WorldState) (now : ℕ) (x : Option (Session × Message)) (kept : Bool) : Type 0 where
  pub pad : v.pad ≡ broken_by w.pad now x kept
  pub id : v.id ≡ w.id
  pub actors : v.actors ≡ w.actors

stopped-at : (w : WorldState) (now : ℕ) (s : Session) (up : List Message) → IsStopped w (stop_conn w now s up) now (first_sent s up) true
stopped-at w now s [] = record { pad = refl; id = refl; actors = refl }
stopped-at w now s (msg ∷ up) = let h = go (reason w.pad s msg) in record { pad = h.0; id = h.1; actors = h.2 }
  where
    go : (r : Option AReason) → ((stop_as w now s msg r).pad ≡ taken_if w.pad s now msg r) × ((stop_as w now s msg r).id ≡ w.id) × ((stop_as w now s msg r).actors ≡ w.actors)
    go None = (refl, refl, refl)
    go (Some why) = (refl, refl, refl)

pub is-stopped : (w : WorldState) (now : ℕ) (n : Name) (kept : Bool) → IsStopped w (stops w now (Some n) kept) now (next_up (w.actors n)) kept
is-stopped w now n false = record { pad = go (next_up (w.actors n)); id = refl; actors = refl }
  where
    go : (x : Option (Session × Message)) → w.pad ≡ broken_by w.pad now x false
    go None = refl
    go (Some x) = refl
is-stopped w now n true = go (w.actors n)
  where
    go : (a : AnActor) → IsStopped w (stop_by w now a) now (next_up a) true
    go Nobody = record { pad = refl; id = refl; actors = refl }
    go (Guest c) = stopped-at w now c.session c.up
    go (Named m) = stopped-at w now m.conn.session m.conn.up

module _ {D : Type 0} (told_by : D → Option Contents) (failures : D → ℕ) (stops_alone : D → Bool) (alone : Bool) where
  -- ---- the machine

  pub reopens : (new : Held D) (st mid : MachineState) → IsKeptState st → IsWoken (stopped st) mid → Stands told_by failures new mid → stops_alone new.disk ≡ alone
      → Reopens told_by failures stops_alone alone st new
  reopens new st mid k (Was on is) s m = absurd cc
  reopens new st mid k (Opened kept off fits t) s m = (
    kept,
    inl (
      free kept fits,
      record {
        state = mid;
        stands = s;
        kept = subst IsKeptState (sym t.0) (is-kept kept);
        is_open = ap (λ (x : MachineState). x.is_open) t.0;
        records = ap (λ (x : MachineState). x.records) t.0 ∙ same-records kept;
        pad = ap (λ (x : MachineState). x.pad) t.0 ∙ same kept;
        mark = m;
      },
    ),
  )
    where
      free : (kept : Bool) → journal_fault size (settled kept (stopped st)) (open_record (settled kept (stopped st))) ≡ None → unopened (settled kept st).records (settled kept st).pad ≡ None
      free true e = e
      free false e = e

      same : (kept : Bool) → reopened (settled kept (stopped st)).pad ≡ reopened (settled kept st).pad
      same true = refl
      same false = refl

      same-records : (kept : Bool) → (reopening (settled kept (stopped st))).records ≡ (settled kept st).records ++ opening (settled kept st).pad ∷ []
      same-records true = refl
      same-records false = refl

      is-kept : (kept : Bool) → IsKeptState (record (reopening (settled kept (stopped st))) { faults = mid.faults })
      is-kept true = let x = settled-kept (stopped st) true (stopped-kept st k) in
          record { kept = reopening-kept (settled true (stopped st)) x.kept; pending = tt; whole = λ e. refl }
      is-kept false = let x = settled-kept (stopped st) false (stopped-kept st k) in
          record { kept = reopening-kept (settled false (stopped st)) x.kept; pending = tt; whole = λ e. refl }

  -- one whose journal has no room for the opening
  stays-shut : (new : Held D) (st next : MachineState) (n : ℕ) → IsKeptState st → IsAsleep (stopped st) n next → Stands told_by failures new next → stops_alone new.disk ≡ alone
      → Reopens told_by failures stops_alone alone st new
  stays-shut new st next n k f s m = (
    f.0,
    inr (
      n,
      full f.0 f.1,
      record {
        state = next;
        stands = s;
        kept = subst IsKeptState (sym f.2.0) (is-kept f.0);
        is_closed = ap (λ (x : MachineState). x.is_open) f.2.0 ∙ settled-closed f.0 (stopped st);
        settled = ap (λ (x : MachineState). x.pending) f.2.0 ∙ none-pending f.0 (stopped st);
        records = ap (λ (x : MachineState). x.records) f.2.0 ∙ same-records f.0;
        pad = ap (λ (q : PadState). record q { epoch = suc (settled f.0 st).pad.epoch; sessions = [] }) (sym same);
        older = subst (λ (q : PadState). q.epoch < suc (settled f.0 st).pad.epoch) (sym same) (omega arith);
        bytes = n;
        full = unopened-alike (settled f.0 st).records (reopened (settled f.0 st).pad) (settled f.0 st).pad refl ∙ full f.0 f.1;
        mark = m;
      },
    ),
  )
    where
      full : (kept : Bool) → journal_fault size (settled kept (stopped st)) (open_record (settled kept (stopped st))) ≡ Some (bad.JournalFull n)
          → unopened (settled kept st).records (settled kept st).pad ≡ Some (bad.JournalFull n)
      full true e = e
      full false e = e

      same-records : (kept : Bool) → (settled kept (stopped st)).records ≡ (settled kept st).records
      same-records true = refl
      same-records false = refl

      same-pad : (kept : Bool) → (settled kept (stopped st)).pad ≡ (settled kept st).pad
      same-pad true = refl
      same-pad false = refl

      same : next.pad ≡ (settled f.0 st).pad
      same = ap (λ (x : MachineState). x.pad) f.2.0 ∙ same-pad f.0

      is-kept : (kept : Bool) → IsKeptState (record (settled kept (stopped st)) { faults = next.faults })
      is-kept true = let x = settled-kept (stopped st) true (stopped-kept st k) in record { kept = x.kept; pending = tt; whole = λ e. refl }
      is-kept false = let x = settled-kept (stopped st) false (stopped-kept st k) in record { kept = x.kept; pending = tt; whole = λ e. refl }

  pub sleeps : (new : Held D) (st next : MachineState) (n : ℕ) → IsKeptState st → Sleeps (stopped st) (bad.JournalFull n) next → Stands told_by failures new next → stops_alone new.disk ≡ alone
      → Reopens told_by failures stops_alone alone st new
  sleeps new st next n k z s m = stays-shut new st next n k (sleeps-full (stopped st) next n z) s m

  -- a state with these records and this pad is one with those
  pub opens-as : (new : Held D) (st : MachineState) (rs : List Record) (pad : PadState) → (r : Reopens told_by failures stops_alone alone st new)
      → (settled r.0 st).pad ≡ pad → (settled r.0 st).records ≡ rs → Starts told_by failures stops_alone alone rs pad new
  opens-as new st rs pad r p q =
      subst (λ x. Starts told_by failures stops_alone alone x pad new) q
      (subst (λ x. Starts told_by failures stops_alone alone (settled r.0 st).records x new) p r.1)

  -- nothing is pending
  pub opens-whole : (old new : Held D) (rs : List Record) (pad : PadState) → (a : IsOpenAt told_by failures stops_alone alone rs old pad)
      → Reopens told_by failures stops_alone alone a.state new → Starts told_by failures stops_alone alone rs pad new
  opens-whole old new rs pad a r =
      let p = a.kept.whole a.is_open in
      opens-as new a.state rs pad r (settled-whole r.0 a.state p ∙ a.pad) (settled-records r.0 a.state p ∙ a.records)

  -- where it was started again it is there
  pub starts-at : (new : Held D) (rs : List Record) (pad : PadState) → Starts told_by failures stops_alone alone rs pad new
      → (qs : List Record) × IsAt told_by failures stops_alone alone qs new (reopened pad)
  starts-at new rs pad (inl x) = (rs ++ opening pad ∷ [], inl x.1)
  starts-at new rs pad (inr x) = (rs, inr x.2)

  -- one that is shut stays so
  pub shut-starts : (new : Held D) (rs : List Record) (pad : PadState) → IsShutAt told_by failures stops_alone alone rs new pad → Starts told_by failures stops_alone alone rs pad new
  shut-starts new rs pad a = inr (a.bytes, a.full, shut-again told_by failures stops_alone alone rs new pad a)

  -- a take that never came to the pad
  pub breaks-started : (new : Held D) (rs : List Record) (pad : PadState) (now : ℕ) (first : Option (Session × Message)) (calls : ℕ) (image : Image) → record_taken pad now first ≡ None
      → Starts told_by failures stops_alone alone rs pad new → BreaksOff told_by failures stops_alone alone rs pad now first calls image new
  breaks-started new rs pad now first calls image none starts =
      let k = keeps_record rs pad now first calls image in
      let n = nothing-broken rs pad now first k none in (
        k,
        subst (λ x. Starts told_by failures stops_alone alone (journal_broken rs pad now first k) x new) (sym n.0)
            (subst (λ x. Starts told_by failures stops_alone alone x pad new) (sym n.1) starts),
        λ _. refl,
      )

  pub breaks-nothing : (old new : Held D) (rs : List Record) (pad : PadState) (now : ℕ) (first : Option (Session × Message)) (calls : ℕ) (image : Image) → record_taken pad now first ≡ None
      → (a : IsOpenAt told_by failures stops_alone alone rs old pad) → Reopens told_by failures stops_alone alone a.state new
      → BreaksOff told_by failures stops_alone alone rs pad now first calls image new
  breaks-nothing old new rs pad now first calls image none a r = breaks-started new rs pad now first calls image none (opens-whole old new rs pad a r)

  -- so of a pad that is shut
  pub breaks-shut : (new : Held D) (rs : List Record) (pad : PadState) (now : ℕ) (first : Option (Session × Message)) (calls : ℕ) (image : Image) → IsShutAt told_by failures stops_alone alone rs new pad
      → BreaksOff told_by failures stops_alone alone rs pad now first calls image new
  breaks-shut new rs pad now first calls image a = breaks-started new rs pad now first calls image (none first) (shut-starts new rs pad a)
    where
      refused : (x : Session × Message) (b : Bool) → is_edit x.1.change.edit ≡ b → record_if pad x.0 now x.1 (reason pad x.0 x.1) ≡ None
      refused x true e =
          ap (record_if pad x.0 now x.1)
          (reason-of pad x.0 x.1 (Some (bad.Dead (end.Reopened pad.epoch))) e (ap (λ o. seat_fault pad o x.1.base x.1.change) (shut-seat told_by failures stops_alone alone rs new pad x.0 a)))
      refused x false e = ap (record_if pad x.0 now x.1) (reason-unread pad x.0 x.1 e)

      none : (first : Option (Session × Message)) → record_taken pad now first ≡ None
      none None = refl
      none (Some x) = refused x (is_edit x.1.change.edit) refl

  -- an open machine is awake
  pub awake : (st mid : MachineState) → st.is_open ≡ true → IsWoken st mid → mid ≡ st
  awake st mid o (Was on is) = is
  awake st mid o (Opened kept off fits t) = absurd (let e : true ≡ false = sym o ∙ off in cc)

  -- what a stopped take comes to, over any disk, and over one that fails in a stop alone
  abbrev pub Broken : MachineState → Entry → Reply → Held D → Type 0
  Broken st e reply new =
      (mid next last : MachineState) × IsWoken st mid × IsStep size mid e reply next × IsWoken (stopped next) last × Stands told_by failures new last

  abbrev pub BrokenAlone : MachineState → Entry → Reply → ℕ → Image → Held D → Type 0
  BrokenAlone st e reply calls image new =
      (mid at last : MachineState) × IsWoken st mid × StopsIn mid e reply (is_kept (gate_behind mid.records) calls image) at × IsWoken at last × Stands told_by failures new last

  -- the same where the journal has no room for the opening behind it
  abbrev pub StaysFull : MachineState → Entry → ℕ → Held D → Type 0
  StaysFull st e n new = (last : MachineState) × StaysStopped st e (bad.JournalFull n) last × Stands told_by failures new last

  abbrev pub FullAlone : MachineState → Entry → ℕ → ℕ → Image → Held D → Type 0
  FullAlone st e n calls image new =
      (last : MachineState) × NoRoomBehind st e (λ mid. is_kept (gate_behind mid.records) calls image) (bad.JournalFull n) last × Stands told_by failures new last

  -- of this state
  module _ (new : Held D) (st : MachineState) (s : Session) (now : ℕ) (msg : Message) (reply : Reply) (calls : ℕ) (image : Image) (i : is_edit msg.change.edit ≡ true) (k : IsKeptState st)
      (o : st.is_open ≡ true) (mark : stops_alone new.disk ≡ alone) where
    abbrev BreaksAt : Type 0
    BreaksAt = BreaksOff told_by failures stops_alone alone st.records st.pad now (Some (s, msg)) calls image new

    breaks-at : (next : MachineState) (b : Bool) (r : Reopens told_by failures stops_alone alone next new) → (settled r.0 next).pad ≡ broken_off st.pad s now msg b
        → (settled r.0 next).records ≡ behind st.records (kept_record b (record_if st.pad s now msg (reason st.pad s msg)))
        → (alone ≡ true → b ≡ keeps_record st.records st.pad now (Some (s, msg)) calls image) → BreaksAt
    breaks-at next b r p q d = (b, opens-as new next _ (broken_off st.pad s now msg b) r p q, d)

    breaks-open : (alone ≡ false) → Broken st (Accept s msg.base msg.change now) reply new → BreaksAt
    breaks-open f x =
        let e = awake st x.0 o x.3 in
        let is : IsOpenStep size st (Accept s msg.base msg.change now) reply x.1 = subst (λ b. IsStepAs b size st (Accept s msg.base msg.change now) reply x.1) o
        (subst (λ m. IsStep size m (Accept s msg.base msg.change now) reply x.1) e x.4) in
        let kept = step-kept size st (Accept s msg.base msg.change now) reply x.1 k (subst (λ m. IsStep size m (Accept s msg.base msg.change now) reply x.1) e x.4) in
        let r = reopens new x.1 x.2 kept x.5 x.6 mark in
        let t = step-settles st s now msg reply x.1 i k o is r.0 in
        breaks-at x.1 t.0 r t.1 t.2 (λ a. absurd (let z : true ≡ false = sym a ∙ f in cc))

    found-kept : (has : Bool) → IsKeptState (found-at st s now msg has)
    found-kept true =
        let t = turn size st (Accept s msg.base msg.change now) in
        step-kept size st (Accept s msg.base msg.change now) t.reply t.state k
        (subst (λ b. IsStepAs b size st (Accept s msg.base msg.change now) t.reply t.state) (sym o) (Does refl (refl, omega arith)))
    found-kept false = k

    breaks-alone : (reply ≡ Err bad.NoMemory → ⊥) → BrokenAlone st (Accept s msg.base msg.change now) reply calls image new → BreaksAt
    breaks-alone heard x =
        let e = awake st x.0 o x.3 in
        let has = is_kept (gate_behind st.records) calls image in
        let stop : StopsIn st (Accept s msg.base msg.change now) reply has x.1 =
        subst (λ (m : MachineState). StopsIn m (Accept s msg.base msg.change now) reply (is_kept (gate_behind m.records) calls image) x.1) e x.4 in
        let at = found-at st s now msg has in
        let r = reopens new at x.2 (found-kept has) (subst (λ m. IsWoken m x.2) (stop.does heard) x.5) x.6 mark in
        let f = turn-found st s now msg i (k.whole o) has in
        breaks-at at (decided st s now msg has) r (settled-whole r.0 at f.settled ∙ f.pad) (settled-records r.0 at f.settled ∙ f.records) (λ _. refl)

  -- of this state, where the journal has no room for the opening behind the take
  module _ (new : Held D) (st : MachineState) (s : Session) (now : ℕ) (msg : Message) (n calls : ℕ) (image : Image) (i : is_edit msg.change.edit ≡ true) (k : IsKeptState st)
      (o : st.is_open ≡ true) (mark : stops_alone new.disk ≡ alone) where
    not-before : (last : MachineState) → Sleeps st (bad.JournalFull n) last → ⊥
    not-before last z = let q : true ≡ false = sym o ∙ z.0 in cc

    full-open : alone ≡ false → StaysFull st (Accept s msg.base msg.change now) n new → BreaksOff told_by failures stops_alone alone st.records st.pad now (Some (s, msg)) calls image new
    full-open f x = go x.1
      where
        go : StaysStopped st (Accept s msg.base msg.change now) (bad.JournalFull n) x.0 → BreaksOff told_by failures stops_alone alone st.records st.pad now (Some (s, msg)) calls image new
        go (Before z) = absurd (not-before x.0 z)
        go (Behind mid next reply w step z) =
            let same = subst (λ m. IsStep size m (Accept s msg.base msg.change now) reply next) (awake st mid o w) step in
            let is : IsOpenStep size st (Accept s msg.base msg.change now) reply next = subst (λ b. IsStepAs b size st (Accept s msg.base msg.change now) reply next) o same in
            let r = sleeps new next x.0 n (step-kept size st (Accept s msg.base msg.change now) reply next k same) z x.2 mark in
            let t = step-settles st s now msg reply next i k o is r.0 in
            breaks-at new st s now msg reply calls image i k o mark next t.0 r t.1 t.2 (λ a. absurd (let q : true ≡ false = sym a ∙ f in cc))

    full-alone : FullAlone st (Accept s msg.base msg.change now) n calls image new → BreaksOff told_by failures stops_alone alone st.records st.pad now (Some (s, msg)) calls image new
    full-alone x = go x.1
      where
        has : Bool
        has = is_kept (gate_behind st.records) calls image

        at : MachineState
        at = found-at st s now msg has

        go : NoRoomBehind st (Accept s msg.base msg.change now) (λ mid. is_kept (gate_behind mid.records) calls image) (bad.JournalFull n) x.0
            → BreaksOff told_by failures stops_alone alone st.records st.pad now (Some (s, msg)) calls image new
        go (FullBefore z) = absurd (not-before x.0 z)
        go (FullBehind mid w full) =
            let f = turn-found st s now msg i (k.whole o) has in
            let asleep : IsFullThen (stopped at) (bad.JournalFull n) x.0 =
            subst (λ (m : MachineState). IsFullThen (stopped (if is_kept (gate_behind m.records) calls image then (turn size m (Accept s msg.base msg.change now)).state else m)) (bad.JournalFull n) x.0)
            (awake st mid o w) full in
            let r = stays-shut new at x.0 n (found-kept new st s now msg (Err bad.NoMemory) calls image i k o mark has) (full-asleep at x.0 n f.settled asleep) x.2 mark in
            breaks-at new st s now msg (Err bad.NoMemory) calls image i k o mark at (decided st s now msg has) r (settled-whole r.0 at f.settled ∙ f.pad) (settled-records r.0 at f.settled ∙ f.records) (λ _. refl)

  -- The first message of a name, whose text spells a change: what is known of the entry that it makes.
  breaks-by : (old new : Held D) (rs : List Record) (pad : PadState) (now : ℕ) (message : Option (Session × Message)) (first : Option (Session × Sent)) (s : Session) (x : Sent) (c : Change)
      (calls : ℕ) (image : Image) (Known : Entry → Type 0) → first ≡ option_map taken_of message → first ≡ Some (s, x) → x.change ≡ Ok c → IsNormal c → (a : IsOpenAt told_by failures stops_alone alone rs old pad)
      → Known (Accept s x.base c now)
      → ((y : Session × Message) → is_edit y.1.change.edit ≡ true → Known (Accept y.0 y.1.base y.1.change now) → BreaksOff told_by failures stops_alone alone a.state.records a.state.pad now (Some y) calls image new)
      → BreaksOff told_by failures stops_alone alone rs pad now message calls image new
  breaks-by old new rs pad now message first s x c calls image Known e h ok n a known breaks = go message (sym e ∙ h)
    where
      go : (m : Option (Session × Message)) → option_map taken_of m ≡ Some (s, x) → BreaksOff told_by failures stops_alone alone rs pad now m calls image new
      go None q = none_some q
      go (Some y) q =
          let p = some_same q in
          let session : y.0 ≡ s = ap (λ (z : Session × Sent). z.0) p in
          let sent : sent_of y.1 ≡ x = ap (λ (z : Session × Sent). z.1) p in
          let base : y.1.base ≡ x.base = ap (λ (z : Sent). z.base) sent in
          let change : y.1.change ≡ c = spelled y.1 x c (sym sent) ok in
          let entry : Accept s x.base c now ≡ Accept y.0 y.1.base y.1.change now =
          ap (λ t. Accept t x.base c now) (sym session) ∙ ap (λ b. Accept y.0 b c now) (sym base) ∙ ap (λ d. Accept y.0 y.1.base d now) (sym change) in
          let edit = subst (λ (d : Change). is_edit d.edit ≡ true) (sym change) (normal-edit c n) in
          subst (λ r. BreaksOff told_by failures stops_alone alone r pad now (Some y) calls image new) a.records
          (subst (λ w. BreaksOff told_by failures stops_alone alone a.state.records w now (Some y) calls image new) a.pad (breaks y edit (subst Known entry known)))

  -- the machine was opened again behind the take
  pub breaks-first : (old new : Held D) (rs : List Record) (pad : PadState) (now : ℕ) (message : Option (Session × Message)) (first : Option (Session × Sent)) (s : Session) (x : Sent) (c : Change)
      (reply : Reply) (calls : ℕ) (image : Image) → first ≡ option_map taken_of message → first ≡ Some (s, x) → x.change ≡ Ok c → IsNormal c → (a : IsOpenAt told_by failures stops_alone alone rs old pad)
      → stops_alone new.disk ≡ stops_alone old.disk → (reply ≡ Err bad.NoMemory → ⊥) → Broken a.state (Accept s x.base c now) reply new
      → (stops_alone old.disk ≡ true → BrokenAlone a.state (Accept s x.base c now) reply calls image new) → BreaksOff told_by failures stops_alone alone rs pad now message calls image new
  breaks-first old new rs pad now message first s x c reply calls image e h ok n a mark heard over sure =
      breaks-by old new rs pad now message first s x c calls image (λ z. Broken a.state z reply new × (stops_alone old.disk ≡ true → BrokenAlone a.state z reply calls image new)) e h ok n a
      (over, sure) (λ y edit known. at y edit known alone refl)
    where
      at : (y : Session × Message) → is_edit y.1.change.edit ≡ true
          → Broken a.state (Accept y.0 y.1.base y.1.change now) reply new × (stops_alone old.disk ≡ true → BrokenAlone a.state (Accept y.0 y.1.base y.1.change now) reply calls image new)
          → (b : Bool) → alone ≡ b → BreaksOff told_by failures stops_alone alone a.state.records a.state.pad now (Some y) calls image new
      at y edit known true t = breaks-alone new a.state y.0 now y.1 reply calls image edit a.kept a.is_open (mark ∙ a.mark) heard (known.1 (a.mark ∙ t))
      at y edit known false t = breaks-open new a.state y.0 now y.1 reply calls image edit a.kept a.is_open (mark ∙ a.mark) t known.0

  -- or the journal has no room for that
  pub breaks-full : (old new : Held D) (rs : List Record) (pad : PadState) (now : ℕ) (message : Option (Session × Message)) (first : Option (Session × Sent)) (s : Session) (x : Sent) (c : Change)
      (n calls : ℕ) (image : Image) → first ≡ option_map taken_of message → first ≡ Some (s, x) → x.change ≡ Ok c → IsNormal c → (a : IsOpenAt told_by failures stops_alone alone rs old pad)
      → stops_alone new.disk ≡ stops_alone old.disk → StaysFull a.state (Accept s x.base c now) n new
      → (stops_alone old.disk ≡ true → FullAlone a.state (Accept s x.base c now) n calls image new) → BreaksOff told_by failures stops_alone alone rs pad now message calls image new
  breaks-full old new rs pad now message first s x c n calls image e h ok normal a mark over sure =
      breaks-by old new rs pad now message first s x c calls image (λ z. StaysFull a.state z n new × (stops_alone old.disk ≡ true → FullAlone a.state z n calls image new)) e h ok normal a
      (over, sure) (λ y edit known. at y edit known alone refl)
    where
      at : (y : Session × Message) → is_edit y.1.change.edit ≡ true
          → StaysFull a.state (Accept y.0 y.1.base y.1.change now) n new × (stops_alone old.disk ≡ true → FullAlone a.state (Accept y.0 y.1.base y.1.change now) n calls image new)
          → (b : Bool) → alone ≡ b → BreaksOff told_by failures stops_alone alone a.state.records a.state.pad now (Some y) calls image new
      at y edit known true t = full-alone new a.state y.0 now y.1 n calls image edit a.kept a.is_open (mark ∙ a.mark) (known.1 (a.mark ∙ t))
      at y edit known false t = full-open new a.state y.0 now y.1 n calls image edit a.kept a.is_open (mark ∙ a.mark) t known.0

  -- one whose text spells none
  pub breaks-unread : (old new : Held D) (rs : List Record) (pad : PadState) (now : ℕ) (message : Option (Session × Message)) (first : Option (Session × Sent)) (s : Session) (x : Sent) (why : ReadBad)
      (calls : ℕ) (image : Image) → first ≡ option_map taken_of message → first ≡ Some (s, x) → x.change ≡ Err why → (a : IsOpenAt told_by failures stops_alone alone rs old pad)
      → Reopens told_by failures stops_alone alone a.state new → BreaksOff told_by failures stops_alone alone rs pad now message calls image new
  breaks-unread old new rs pad now message first s x why calls image e h err a r = breaks-nothing old new rs pad now message calls image (go message (sym e ∙ h)) a r
    where
      go : (m : Option (Session × Message)) → option_map taken_of m ≡ Some (s, x) → record_taken pad now m ≡ None
      go None q = refl
      go (Some y) q =
          let sent : sent_of y.1 ≡ x = ap (λ (z : Session × Sent). z.1) (some_same q) in
          ap (record_if pad y.0 now y.1) (reason-unread pad y.0 y.1 (sent-unread x y.1 why (sym sent) err).0)

  -- none at all
  pub breaks-none : (old new : Held D) (rs : List Record) (pad : PadState) (now : ℕ) (message : Option (Session × Message)) (first : Option (Session × Sent)) (calls : ℕ) (image : Image)
      → first ≡ option_map taken_of message → first ≡ None → (a : IsOpenAt told_by failures stops_alone alone rs old pad)
      → Reopens told_by failures stops_alone alone a.state new → BreaksOff told_by failures stops_alone alone rs pad now message calls image new
  breaks-none old new rs pad now message first calls image e h a r = breaks-nothing old new rs pad now message calls image (go message (sym e ∙ h)) a r
    where
      go : (m : Option (Session × Message)) → option_map taken_of m ≡ None → record_taken pad now m ≡ None
      go None q = refl
      go (Some y) q = none_some (sym q)

module _ {D : Type 0} (told_by : D → Option Contents) (failures : D → ℕ) (stops_alone : D → Bool) (alone : Bool) (rs : List Record) where
  -- ---- the pad's status

  pub status-there : (old new : Held D) (pad : PadState) (x : PadStatus) → IsAnswered told_by failures stops_alone alone rs old pad ReadStatus (Ok (StatusAnswer (status_of x))) new
      → (pad.present ≡ true) × (x.head ≡ head (newest pad)) × IsAt told_by failures stops_alone alone rs new pad × (full_in rs pad None ≡ None)
  status-there old new pad x a =
      let u = unless-answers (gone_fault pad) (Answers (StatusAnswer (status pad)) pad) _ a.0 in (
        there pad.present u.0,
        same (sym (ap answer_of u.1) ∙ a.0),
        subst (λ o. IsAt told_by failures stops_alone alone (behind rs (record_in o)) new (pad_after pad o)) u.1 a.1,
        subst (λ o. full_in rs pad (record_in o) ≡ None) u.1 a.2,
      )
    where
      there : (b : Bool) → fault_if (not b) bad.Gone ≡ None → b ≡ true
      there true e = refl
      there false e = absurd cc

      same : Some (StatusAnswer (status pad)) ≡ Some (StatusAnswer (status_of x)) → x.head ≡ head (newest pad)
      same e = ap (λ (y : APadStatus). y.head) (inside e)
        where
          inside : Some (StatusAnswer (status pad)) ≡ Some (StatusAnswer (status_of x)) → status_of x ≡ status pad
          inside e = cc

  pub status-gone : (old new : Held D) (pad : PadState) → IsAnswered told_by failures stops_alone alone rs old pad ReadStatus (Err bad.Gone) new
      → (pad.present ≡ false) × IsAt told_by failures stops_alone alone rs new pad × (full_in rs pad None ≡ None)
  status-gone old new pad a = (gone pad.present (unless-refuses-answer (gone_fault pad) _ _ bad.Gone a.0), a.1, a.2)
    where
      gone : (b : Bool) → fault_if (not b) bad.Gone ≡ Some bad.Gone → b ≡ false
      gone true e = none_some e
      gone false e = refl

  -- that records nothing: it is refused for the opening alone
  pub status-shut : (old new : Held D) (pad : PadState) (n : ℕ) → IsAnswered told_by failures stops_alone alone rs old pad ReadStatus (Err (bad.JournalFull n)) new
      → (full_in rs pad None ≡ Some (bad.JournalFull n)) × IsAt told_by failures stops_alone alone rs new pad
  status-shut old new pad n a = (ap (full_in rs pad) (sym (nothing (gone_fault pad))) ∙ a.1, a.0)
    where
      nothing : (f : Option PadBad) → record_in (unless f (Answers (StatusAnswer (status pad)) pad)) ≡ None
      nothing None = refl
      nothing (Some b) = refl

  -- so it tells whether the pad is shut
  pub status-open : (old new : Held D) (pad : PadState) (x : PadStatus) → IsAt told_by failures stops_alone alone rs old pad
      → IsAnswered told_by failures stops_alone alone rs old pad ReadStatus (Ok (StatusAnswer (status_of x))) new → (false ≡ is_shut rs pad) × IsAt told_by failures stops_alone alone rs new pad
  status-open old new pad x a r =
      let h = status-there old new pad x r in
      (sym (open-shut told_by failures stops_alone alone rs old pad (opens-free told_by failures stops_alone alone rs old pad None a h.3)), h.2)

  pub gone-open : (old new : Held D) (pad : PadState) → IsAt told_by failures stops_alone alone rs old pad
      → IsAnswered told_by failures stops_alone alone rs old pad ReadStatus (Err bad.Gone) new → (false ≡ is_shut rs pad) × IsAt told_by failures stops_alone alone rs new pad
  gone-open old new pad a r =
      let h = status-gone old new pad r in
      (sym (open-shut told_by failures stops_alone alone rs old pad (opens-free told_by failures stops_alone alone rs old pad None a h.2)), h.1)

  pub full-closed : (old new : Held D) (pad : PadState) (n : ℕ) → IsAt told_by failures stops_alone alone rs old pad
      → IsAnswered told_by failures stops_alone alone rs old pad ReadStatus (Err (bad.JournalFull n)) new → (true ≡ is_shut rs pad) × IsAt told_by failures stops_alone alone rs new pad
  full-closed old new pad n a r =
      let h = status-shut old new pad n r in
      (sym (full-shut told_by failures stops_alone alone rs old pad (bad.JournalFull n) a h.0), h.1)

  -- what is shown of an opening behind a crash
  pub opening-shown : (n : Option Name) (old new : Held D) (pad : PadState) (x : PadStatus) (epoch : ℕ) → IsAt told_by failures stops_alone alone rs old pad
      → ((st : MachineState) → Stands told_by failures old st → st.is_open ≡ true → epoch ≡ st.pad.epoch)
      → IsAnswered told_by failures stops_alone alone rs old pad ReadStatus (Ok (StatusAnswer (status_of x))) new
      → (shown.Crashed epoch (Some x.head) ≡ shows_start n rs pad) × IsAt told_by failures stops_alone alone rs new pad
  opening-shown n old new pad x epoch a e r =
      let h = status-there old new pad x r in
      let o = opens-free told_by failures stops_alone alone rs old pad None a h.3 in (
        ap (λ k. shown.Crashed k (Some x.head)) (e o.state o.stands o.is_open ∙ ap (λ (p : PadState). p.epoch) o.pad)
            ∙ ap (λ k. shown.Crashed pad.epoch (Some k)) h.1
            ∙ sym (ap (λ b. shown.Crashed pad.epoch (if b then Some (head (newest pad)) else None)) h.0)
            ∙ sym (ap (shows_start_if n pad) h.3),
        h.2,
      )

  pub absent-shown : (n : Option Name) (old new : Held D) (pad : PadState) (epoch : ℕ) → IsAt told_by failures stops_alone alone rs old pad
      → ((st : MachineState) → Stands told_by failures old st → st.is_open ≡ true → epoch ≡ st.pad.epoch)
      → IsAnswered told_by failures stops_alone alone rs old pad ReadStatus (Err bad.Gone) new
      → (shown.Crashed epoch None ≡ shows_start n rs pad) × IsAt told_by failures stops_alone alone rs new pad
  absent-shown n old new pad epoch a e r =
      let h = status-gone old new pad r in
      let o = opens-free told_by failures stops_alone alone rs old pad None a h.2 in (
        ap (λ k. shown.Crashed k None) (e o.state o.stands o.is_open ∙ ap (λ (p : PadState). p.epoch) o.pad)
            ∙ sym (ap (λ b. shown.Crashed pad.epoch (if b then Some (head (newest pad)) else None)) h.0)
            ∙ sym (ap (shows_start_if n pad) h.2),
        h.1,
      )

  pub full-shown : (n : Option Name) (old new : Held D) (pad : PadState) (k : ℕ)
      → IsAnswered told_by failures stops_alone alone rs old pad ReadStatus (Err (bad.JournalFull k)) new
      → (pad_refuses verb.Crash n (bad.JournalFull k) ≡ shows_start n rs pad) × IsAt told_by failures stops_alone alone rs new pad
  full-shown n old new pad k r = let h = status-shut old new pad k r in (sym (ap (shows_start_if n pad) h.0), h.1)

  -- ---- the world

  pub failed-comes : (w : WorldState) (ks : Kepts) (now : ℕ) (e : Told) (new : World D) (b : WorldBad) → IsFailure b → Comes told_by failures stops_alone alone rs w ks now e new (Err b)
  failed-comes w ks now e new world_bad.Unknown f = absurd f
  failed-comes w ks now e new world_bad.NoText f = absurd f
  failed-comes w ks now e new (world_bad.Full n) f = tt
  failed-comes w ks now e new (world_bad.Store n) f = tt
  failed-comes w ks now e new world_bad.NoMemory f = tt

  crashed-stands : (qs : List Record) (old new : World D) (w v : WorldState) (ks : Kepts) → StandsFor told_by failures stops_alone alone rs old w ks
      → IsAt told_by failures stops_alone alone qs new.machine (reopened v.pad) → v.id ≡ w.id
      → v.actors ≡ w.actors → new.id ≡ old.id → ((q : Name) → found new.actors q ≡ option_map kept_cut_off (found old.actors q))
      → StandsFor told_by failures stops_alone alone qs new (crashed v) (λ n. undo_lost (ks n))
  crashed-stands qs old new w v ks s m j e i cut = record {
    machine = m;
    id = i ∙ s.id ∙ sym j;
    actors = λ q. cut q ∙ ap (option_map kept_cut_off) (s.actors q) ∙ cut-member (w.actors q) (ks q) ∙ ap (λ f. actor_of (cut_off (f q)) (undo_lost (ks q))) (sym e);
  }

  -- what an opening shows
  abbrev pub IsOpening : Option Name → List Record → PadState → Held D → Result Shown WorldBad → Type 0
  IsOpening n qs pad new r = MatchResult r (λ x. (x ≡ shows_start n qs pad) × IsAt told_by failures stops_alone alone qs new pad) IsFailure

  -- the name that a crash comes into
  abbrev name-of : Option StopAt → Option Name
  name-of None = None
  name-of (Some at) = Some at.name

  refuses-stop : (at : Option StopAt) (b : PadBad) → no_room (told.Stop at) b ≡ Some (pad_refuses verb.Crash (name-of at) b)
  refuses-stop None b = refl
  refuses-stop (Some at) b = refl

  -- a crash was started behind, and that is shown
  starts-comes : (old new : World D) (mid : Held D) (w v : WorldState) (ks : Kepts) (now : ℕ) (at : Option StopAt) (kept : Bool) (qs : List Record) (r : Result Shown WorldBad)
      → is_known w (told.Stop at) ≡ true → (alone ≡ true → Decides rs w now (told.Stop at) kept) → v ≡ stops w now (stopped_name at) kept → v.id ≡ w.id → v.actors ≡ w.actors → v.pad.limits ≡ w.pad.limits
      → opening v.pad ≡ opening w.pad → qs ≡ journal_left rs w now kept at
      → StandsFor told_by failures stops_alone alone rs old w ks → Starts told_by failures stops_alone alone qs v.pad mid
      → ((ps : List Record) (pad : PadState) → IsAt told_by failures stops_alone alone ps mid pad → IsOpening (name-of at) ps pad new.machine r)
      → new.id ≡ old.id → ((q : Name) → found new.actors q ≡ option_map kept_cut_off (found old.actors q))
      → Comes told_by failures stops_alone alone rs w ks now (told.Stop at) new r
  starts-comes old new mid w v ks now at kept qs r known d is j e l o left s starts shows i cut = go starts
    where
      alike : unopened qs v.pad ≡ unopened (journal_left rs w now kept at) w.pad
      alike = unopened-alike qs v.pad w.pad l ∙ ap (λ q. unopened q w.pad) left

      stands : (ps : List Record) → IsAt told_by failures stops_alone alone ps new.machine (reopened v.pad)
          → StandsFor told_by failures stops_alone alone ps new (crashed (stops w now (stopped_name at) kept)) (λ n. undo_lost (ks n))
      stands ps m = subst (λ x. StandsFor told_by failures stops_alone alone ps new (crashed x) (λ n. undo_lost (ks n))) is (crashed-stands ps old new w v ks s m j e i cut)

      opened : (unopened qs v.pad ≡ None) × IsOpenAt told_by failures stops_alone alone (qs ++ opening v.pad ∷ []) mid (reopened v.pad) → (r : Result Shown WorldBad)
          → IsOpening (name-of at) (qs ++ opening v.pad ∷ []) (reopened v.pad) new.machine r → Comes told_by failures stops_alone alone rs w ks now (told.Stop at) new r
      opened x (Ok y) h = (
        known,
        refl,
        IsEvent kept
            (h.0 ∙ ap (shows_start_if (name-of at) (reopened v.pad)) (open-full told_by failures stops_alone alone (qs ++ opening v.pad ∷ []) mid (reopened v.pad) None x.1)
            ∙ ap (λ (z : WorldState). shows_opening (crashed z).pad) is)
            (ap (shows_full (told.Stop at)) (sym alike ∙ x.0)) d
            (subst (λ q. StandsFor told_by failures stops_alone alone q new (crashed (stops w now (stopped_name at) kept)) (λ n. undo_lost (ks n)))
            (ap (λ q. q ++ opening v.pad ∷ []) left ∙ ap (λ q. journal_left rs w now kept at ++ q ∷ []) o) (stands (qs ++ opening v.pad ∷ []) h.1)),
      )
      opened x (Err b) f = failed-comes w ks now (told.Stop at) new b f

      shut : (n : ℕ) × (unopened qs v.pad ≡ Some (bad.JournalFull n)) × IsShutAt told_by failures stops_alone alone qs mid (reopened v.pad) → (r : Result Shown WorldBad)
          → IsOpening (name-of at) qs (reopened v.pad) new.machine r → Comes told_by failures stops_alone alone rs w ks now (told.Stop at) new r
      shut x (Ok y) h =
          let same : full_in qs (reopened v.pad) None ≡ Some (bad.JournalFull x.0) =
          shut-full told_by failures stops_alone alone qs mid (reopened v.pad) None x.2 ∙ sym x.2.full ∙ unopened-alike qs (reopened v.pad) v.pad refl ∙ x.1 in (
            known,
            refl,
            HasNoRoom kept
                (ap (shows_full (told.Stop at)) (sym alike ∙ x.1) ∙ refuses-stop at (bad.JournalFull x.0) ∙ ap Some (sym (h.0 ∙ ap (shows_start_if (name-of at) (reopened v.pad)) same))) d
                (subst (λ q. StandsFor told_by failures stops_alone alone q new (crashed (stops w now (stopped_name at) kept)) (λ n. undo_lost (ks n))) left (stands qs h.1)),
          )
      shut x (Err b) f = failed-comes w ks now (told.Stop at) new b f

      go : Starts told_by failures stops_alone alone qs v.pad mid → Comes told_by failures stops_alone alone rs w ks now (told.Stop at) new r
      go (inl x) = opened x r (shows (qs ++ opening v.pad ∷ []) (reopened v.pad) (inl x.1))
      go (inr x) = shut x r (shows qs (reopened v.pad) (inr x.2))

  pub crash-comes : (old new : World D) (mid : Held D) (w : WorldState) (ks : Kepts) (now : ℕ) (r : Result Shown WorldBad) → StandsFor told_by failures stops_alone alone rs old w ks
      → Starts told_by failures stops_alone alone rs w.pad mid
      → ((qs : List Record) (pad : PadState) → IsAt told_by failures stops_alone alone qs mid pad → IsOpening None qs pad new.machine r)
      → new.id ≡ old.id → ((q : Name) → found new.actors q ≡ option_map kept_cut_off (found old.actors q))
      → Comes told_by failures stops_alone alone rs w ks now (told.Stop None) new r
  crash-comes old new mid w ks now r s starts shows i cut =
      starts-comes old new mid w w ks now None true rs r refl (λ _. tt) refl refl refl refl refl refl s starts shows i cut

  pub stop-comes : (old new : World D) (last : Held D) (slots : List Slot) (w : WorldState) (ks : Kepts) (now : ℕ) (at : StopAt) (x : Option (Session × Sent)) (r : Result Shown WorldBad)
      → StandsFor told_by failures stops_alone alone rs old w ks → FindsFirst old.actors at.name (Ok x) slots
      → ((qs : List Record) (pad : PadState) (first : Option (Session × Message)) → x ≡ option_map taken_of first → IsAt told_by failures stops_alone alone qs old.machine pad
      → BreaksOff told_by failures stops_alone alone qs pad now first at.calls at.image last)
      → ((qs : List Record) (pad : PadState) → IsAt told_by failures stops_alone alone qs last pad → IsOpening (Some at.name) qs pad new.machine r)
      → new.id ≡ old.id → ((q : Name) → found new.actors q ≡ option_map kept_cut_off (found slots q))
      → Comes told_by failures stops_alone alone rs w ks now (told.Stop (Some at)) new r
  stop-comes old new last slots w ks now at x r s finds breaks shows i cut =
      starts-comes old new last w v ks now (Some at) off.0 qs r (known (w.actors at.name) is) off.2 refl is-v.id is-v.actors (ap (λ (p : PadState). p.limits) is-v.pad ∙ limits-by (next_up (w.actors at.name)) off.0)
      (ap opening is-v.pad ∙ opening-by (next_up (w.actors at.name)) off.0) refl s (subst (λ p. Starts told_by failures stops_alone alone qs p last) (sym is-v.pad) off.1) shows i
      (cut-after old.actors slots new.actors at.name finds.0 finds.1 finds.2 one.cut finds.4 cut)
    where
      is : actor_of (w.actors at.name) (ks at.name) ≡ Some finds.0
      is = sym (s.actors at.name) ∙ finds.2

      one : TakesOne (w.actors at.name) x finds.0 finds.1
      one = takes-one (w.actors at.name) (ks at.name) x finds.0 finds.1 is finds.3

      off : BreaksOff told_by failures stops_alone alone rs w.pad now (next_up (w.actors at.name)) at.calls at.image last
      off = breaks rs w.pad (next_up (w.actors at.name)) one.first s.machine

      v : WorldState
      v = stops w now (Some at.name) off.0

      is-v : IsStopped w v now (next_up (w.actors at.name)) off.0
      is-v = is-stopped w now at.name off.0

      qs : List Record
      qs = journal_broken rs w.pad now (next_up (w.actors at.name)) off.0

      limits-by : (y : Option (Session × Message)) (b : Bool) → (broken_by w.pad now y b).limits ≡ w.pad.limits
      limits-by None b = refl
      limits-by (Some y) b = limits-off w.pad y.0 now y.1 b

      opening-by : (y : Option (Session × Message)) (b : Bool) → opening (broken_by w.pad now y b) ≡ opening w.pad
      opening-by None b = refl
      opening-by (Some y) b = opening-off w.pad y.0 now y.1 b

      known : (z : AnActor) → actor_of z (ks at.name) ≡ Some finds.0 → not (is_nobody z) ≡ true
      known Nobody e = none_some e
      known (Guest c) e = refl
      known (Named m) e = refl

  -- nobody has the name
  pub stop-unknown : (old new : World D) (w : WorldState) (ks : Kepts) (now : ℕ) (at : StopAt) → StandsFor told_by failures stops_alone alone rs old w ks → found old.actors at.name ≡ None
      → new.machine ≡ old.machine → new.id ≡ old.id → IsSame old.actors new.actors → Comes told_by failures stops_alone alone rs w ks now (told.Stop (Some at)) new (Err world_bad.Unknown)
  stop-unknown old new w ks now at s none m i same = (
    ap (λ z. not (is_nobody z)) (is-nobody (w.actors at.name) (ks at.name) (sym (s.actors at.name) ∙ none)),
    same-stands told_by failures stops_alone alone rs old new w ks s (subst (λ y. IsAt told_by failures stops_alone alone rs y w.pad) (sym m) s.machine) i same,
  )
