-- Why an event ends a world.
use Rattle.std.proofs.Common.{◌≡◌, ℕ, ◌≤◌, Bool, true, false, List, Option, Some, None, Result, Ok, Err, inl, inr, refl, sym, ◌∙◌, subst, arith}
use Rattle.std.specs.Option.{option_map}
use Rattle.std.specs.Prelude.{IfErr, MatchResult}
use Rattle.ep_units.specs.declared.session.Session.{Session}
use Rattle.ep_outside.specs.Disk.{Contents}
use Rattle.ep_cs.specs.Doc.{Doc}
use Rattle.ep_history.specs.Entries.{Entry, Outcome, Reply, is_recordable, outcome}
use Rattle.ep_history.specs.Entries.Answer.{StatusAnswer, TextAnswer}
use Rattle.ep_history.specs.Entries.Entry.{ReadStatus, ReadText}
use Rattle.ep_history.specs.Entries.Outcome.{Refuses, Answers, Records}
use Rattle.ep_history.specs.Machine.{MachineState, IsOpenStep, IsStep, IsStepAs, journal_fault, keeping, reopening, settled, turn_of}
use Rattle.ep_history.specs.Machine.IsOpenStep.{Does, Lacks, Fails}
use Rattle.ep_history.specs.Pad.{PadState}
use Rattle.ep_history.specs.declared.pad_bad.PadBad.{PadBad}
use Rattle.ep_history.specs.declared.pad_bad.PadBad.TheVariants as bad
use Rattle.ep_history.specs.declared.record.Record.{Record}
use Rattle.ep_pad.specs.Held.{Held}
use Rattle.ep_pad.specs.Opening.{HasRisenTo, IsWoken, Sleeps, stopped}
use Rattle.ep_pad.specs.Opening.IsWoken.{Was, Opened}
use Rattle.ep_pad.specs.Standing.{Stands, opening, replied}
use Rattle.ep_pad.specs.Stopping.{StaysStopped}
use Rattle.ep_pad.specs.Stopping.StaysStopped.{Before, Behind}
use Rattle.ep_pad_file.specs.Standing.{size}
use Rattle.ep_pad_state.specs.Answering.{status_of}
use Rattle.ep_pad_state.specs.declared.answers.PadStatus.{PadStatus}
use Rattle.ep_schedule.specs.Headline.{next_up}
use Rattle.ep_world.specs.Kepts.{Kepts}
use Rattle.ep_schedule.specs.World.{Name, Message, WorldState}
use Rattle.ep_event.specs.declared.event.Event.TheVariants as told
use Rattle.ep_event.specs.declared.event.StopAt.{StopAt}
use Rattle.ep_members.specs.declared.actors.Slot.{Slot}
use Rattle.ep_world.specs.declared.bad.WorldBad.{WorldBad}
use Rattle.ep_world.specs.declared.bad.WorldBad.TheVariants as world_bad
use Rattle.ep_members.specs.declared.message.Sent.{Sent}
use Rattle.ep_world.specs.declared.taking.Took.{Took}
use Rattle.ep_world.specs.declared.taking.Took.TheVariants as took
use Rattle.ep_world.specs.declared.world.World.{World}
use Rattle.ep_world.specs.Failing.{IsCaused, failed}
use Rattle.ep_world.specs.Journal.{behind}
use Rattle.ep_world.specs.Counting.{Counts}
use Rattle.ep_world.specs.Standing.{IsAt, IsEnded, IsOpenAt, StandsFor}
use Rattle.ep_world.specs.Stopping.{BreaksNot, FindsFirst, taken_of}
use Rattle.ep_world.specs.Taking.{Brings}
use Rattle.ep_world.proofs.Calls.{MakesMarked, answered}
use Rattle.ep_world.proofs.Counting.{ok-counts, reads-fails, risen-from, sleeps-full, sleeps-store, caused-from}
use Rattle.ep_world.proofs.Crashes.{Broken, awake, status-there, takes-one}

-- ---- counts of faults

turn-faults : (st : MachineState) (can : Bool) (o : Outcome) → (turn_of size st can o).state.faults ≡ st.faults
turn-faults st can (Refuses b) = refl
turn-faults st can (Answers a pad) = refl
turn-faults st false (Records r a pad) = refl
turn-faults st true (Records r a pad) = go (journal_fault size st r)
  where
    go : (f : Option PadBad) → (keeping st f r a pad).state.faults ≡ st.faults
    go None = refl
    go (Some full) = refl

-- the count doesn't fall in a step
step-later : (st next : MachineState) (e : Entry) (reply : Reply) → IsOpenStep size st e reply next → st.faults ≤ next.faults
step-later st next e reply (Does r t) = subst (λ (k : ℕ). k ≤ next.faults) (turn-faults st (is_recordable e) (outcome st.pad e)) t.1
step-later st next e reply (Lacks r t) = t.1
step-later st next e reply (Fails count r adds q h t) = t.1

-- nor where a machine wakes
woken-later : (st mid : MachineState) → IsWoken st mid → st.faults ≤ mid.faults
woken-later st mid (Was on is) = subst (λ (x : MachineState). st.faults ≤ x.faults) (sym is) (omega arith)
woken-later st mid (Opened kept off fits t) = subst (λ (k : ℕ). k ≤ mid.faults) (same kept) t.1
  where
    same : (kept : Bool) → (reopening (settled kept st)).faults ≡ st.faults
    same true = refl
    same false = refl

-- a machine that is settled counts as many faults
settled-faults : (st : MachineState) (k : Bool) → (settled k (stopped st)).faults ≡ st.faults
settled-faults st true = refl
settled-faults st false = refl

module _ {D : Type 0} (told_by : D → Option Contents) (failures : D → ℕ) (stops_alone : D → Bool) (alone : Bool) where
  -- ---- a machine that is started again

  pub reopened-later : (rs : List Record) (old new : Held D) (pad : PadState) (a : IsOpenAt told_by failures stops_alone alone rs old pad)
      → (mid : MachineState) × IsWoken (stopped a.state) mid × Stands told_by failures new mid → failures old.disk ≤ failures new.disk
  reopened-later rs old new pad a x =
      subst (λ (k : ℕ). failures old.disk ≤ k) x.2.faults (subst (λ (k : ℕ). k ≤ x.0.faults) a.stands.faults (woken-later (stopped a.state) x.0 x.1))

  -- nor where it stays closed
  pub asleep-later : (rs : List Record) (old new : Held D) (pad : PadState) (n : ℕ) (a : IsOpenAt told_by failures stops_alone alone rs old pad)
      → (next : MachineState) × Sleeps (stopped a.state) (bad.JournalFull n) next × Stands told_by failures new next → failures old.disk ≤ failures new.disk
  asleep-later rs old new pad n a x =
      let f = sleeps-full (stopped a.state) x.0 n x.1 in
      subst (λ (k : ℕ). failures old.disk ≤ k) x.2.faults (subst (λ (k : ℕ). k ≤ x.0.faults) (settled-faults a.state f.0 ∙ a.stands.faults) f.2.1)

  pub unopened-caused : (rs : List Record) (old new : Held D) (pad : PadState) (b : PadBad) (a : IsOpenAt told_by failures stops_alone alone rs old pad)
      → (next : MachineState) × Sleeps (stopped a.state) b next × Stands told_by failures new next → IsCaused (failures old.disk) (failures new.disk) (failed b)
  unopened-caused rs old new pad (bad.Store n) a x =
      subst (λ (k : ℕ). HasRisenTo (failures old.disk) k n) x.2.faults
      (subst (λ (k : ℕ). HasRisenTo k x.0.faults n) a.stands.faults (sleeps-store (stopped a.state) x.0 n x.1))
  unopened-caused rs old new pad b a x = tt

  -- ---- a take that is broken off

  pub broken-later : (rs : List Record) (old new : Held D) (pad : PadState) (e : Entry) (reply : Reply) (a : IsOpenAt told_by failures stops_alone alone rs old pad)
      → Broken told_by failures stops_alone alone a.state e reply new → failures old.disk ≤ failures new.disk
  broken-later rs old new pad e reply a x =
      let same = awake told_by failures stops_alone alone a.state x.0 a.is_open x.3 in
      let step : IsOpenStep size a.state e reply x.1 = subst (λ b. IsStepAs b size a.state e reply x.1) a.is_open (subst (λ m. IsStep size m e reply x.1) same x.4) in
      let first = step-later a.state x.1 e reply step in
      let second : x.1.faults ≤ x.2.faults = woken-later (stopped x.1) x.2 x.5 in
      subst (λ (k : ℕ). failures old.disk ≤ k) x.6.faults (subst (λ (k : ℕ). k ≤ x.2.faults) a.stands.faults (omega (arith, first, second)))

  -- of a machine that was open
  module _ (rs : List Record) (old new : Held D) (pad : PadState) (e : Entry) (a : IsOpenAt told_by failures stops_alone alone rs old pad) where
    step-open : (mid next : MachineState) (reply : Reply) → IsWoken a.state mid → IsStep size mid e reply next → a.state.faults ≤ next.faults
    step-open mid next reply w step =
        step-later a.state next e reply
        (subst (λ b. IsStepAs b size a.state e reply next) a.is_open
        (subst (λ m. IsStep size m e reply next) (awake told_by failures stops_alone alone a.state mid a.is_open w) step))

    not-before : (b : PadBad) (last : MachineState) → Sleeps a.state b last → ⊥
    not-before b last z = let q : true ≡ false = sym a.is_open ∙ z.0 in cc

    -- its journal has no room for the opening behind the take: the count doesn't fall
    pub shut-later : (n : ℕ) → (last : MachineState) × StaysStopped a.state e (bad.JournalFull n) last × Stands told_by failures new last → failures old.disk ≤ failures new.disk
    shut-later n x = go x.1
      where
        go : StaysStopped a.state e (bad.JournalFull n) x.0 → failures old.disk ≤ failures new.disk
        go (Before z) = absurd (not-before (bad.JournalFull n) x.0 z)
        go (Behind mid next reply w step z) =
            let f = sleeps-full (stopped next) x.0 n z in
            let first = step-open mid next reply w step in
            let second = subst (λ (k : ℕ). k ≤ x.0.faults) (settled-faults next f.0) f.2.1 in
            subst (λ (k : ℕ). failures old.disk ≤ k) x.2.faults (subst (λ (k : ℕ). k ≤ x.0.faults) a.stands.faults (omega (arith, first, second)))

    stays-fails : (n : ℕ) → (last : MachineState) × StaysStopped a.state e (bad.Store n) last × Stands told_by failures new last → HasRisenTo (failures old.disk) (failures new.disk) n
    stays-fails n x = go x.1
      where
        go : StaysStopped a.state e (bad.Store n) x.0 → HasRisenTo (failures old.disk) (failures new.disk) n
        go (Before z) = absurd (not-before (bad.Store n) x.0 z)
        go (Behind mid next reply w step z) =
            let r = risen-from a.state.faults next.faults x.0.faults n (step-open mid next reply w step) (sleeps-store (stopped next) x.0 n z) in
            subst (λ (c : ℕ). HasRisenTo (failures old.disk) c n) x.2.faults (subst (λ (c : ℕ). HasRisenTo c x.0.faults n) a.stands.faults r)

    -- it isn't opened again for another cause
    pub breaks-fails : (b : PadBad) → (stops_alone old.disk ≡ true → (last : MachineState) × StaysStopped a.state e b last × Stands told_by failures new last)
        → BreaksNot alone (failures old.disk) (failures new.disk) (failed b)
    breaks-fails (bad.Store n) stays = λ t. stays-fails n (stays (a.mark ∙ t))
    breaks-fails b stays = tt

  -- ---- of the world

  pub stop-ends : (at : StopAt) (before after : ℕ) (b : WorldBad) → BreaksNot alone before after b → IsEnded alone (told.Stop (Some at)) before after b
  stop-ends at before after (world_bad.Store n) h = h
  stop-ends at before after (world_bad.Full n) h = h
  stop-ends at before after world_bad.Unknown h = tt
  stop-ends at before after world_bad.NoText h = tt
  stop-ends at before after world_bad.NoMemory h = tt

  -- whose message it is that is taken, in the world
  pub first-of : (rs : List Record) (old : World D) (w : WorldState) (ks : Kepts) (n : Name) (x : Option (Session × Sent)) (slots : List Slot) → StandsFor told_by failures stops_alone alone rs old w ks
      → FindsFirst old.actors n (Ok x) slots → x ≡ option_map taken_of (next_up (w.actors n))
  first-of rs old w ks n x slots s finds = (takes-one (w.actors n) (ks n) x finds.0 finds.1 (sym (s.actors n) ∙ finds.2) finds.3).first

  -- nobody has the name, or memory is wanting
  pub first-ends : (at : StopAt) (before after : ℕ) (old new : List Slot) (b : WorldBad) → FindsFirst old at.name (Err b) new → IsEnded alone (told.Stop (Some at)) before after b
  first-ends at before after old new (world_bad.Store n) h = absurd cc
  first-ends at before after old new (world_bad.Full n) h = absurd cc
  first-ends at before after old new world_bad.Unknown h = tt
  first-ends at before after old new world_bad.NoText h = tt
  first-ends at before after old new world_bad.NoMemory h = tt

  -- ---- the head

  abbrev pub Reads : Held D → Result PadStatus PadBad → Held D → Type 0
  Reads old r new = MakesMarked told_by failures stops_alone alone old ReadStatus (replied (λ x. StatusAnswer (status_of x)) r) new

  status-at : (rs : List Record) (old mid : Held D) (pad : PadState) (st : PadStatus) (r : Result PadStatus PadBad) → IsAt told_by failures stops_alone alone rs old pad → Reads old r mid → r ≡ Ok st
      → IsAt told_by failures stops_alone alone rs mid pad
  status-at rs old mid pad st r a reads is =
      (status-there told_by failures stops_alone alone rs old mid pad st
      (answered told_by failures stops_alone alone rs old mid pad ReadStatus (Ok (StatusAnswer (status_of st))) a (subst (λ y. Reads old y mid) is reads))).2

  pub head-counts : (rs : List Record) (old mid new : Held D) (pad : PadState) (st : PadStatus) (doc : Doc) (r : Result PadStatus PadBad) (x : Result Doc PadBad) → IsAt told_by failures stops_alone alone rs old pad
      → Reads old r mid → r ≡ Ok st → MakesMarked told_by failures stops_alone alone mid (ReadText None) (replied TextAnswer x) new → x ≡ Ok doc → failures old.disk ≤ failures new.disk
  head-counts rs old mid new pad st doc r x a reads is texts iz =
      let first = ok-counts told_by failures stops_alone alone rs old mid pad ReadStatus (λ y. StatusAnswer (status_of y)) r st a reads is in
      let m = status-at rs old mid pad st r a reads is in
      let second = ok-counts told_by failures stops_alone alone rs mid new pad (ReadText None) TextAnswer x doc m texts iz in
      omega (arith, first, second)

  pub head-fails : (rs : List Record) (old mid new : Held D) (pad : PadState) (st : PadStatus) (b : PadBad) (r : Result PadStatus PadBad) (x : Result Doc PadBad) → IsAt told_by failures stops_alone alone rs old pad
      → Reads old r mid → r ≡ Ok st → MakesMarked told_by failures stops_alone alone mid (ReadText None) (replied TextAnswer x) new → x ≡ Err b → IsCaused (failures old.disk) (failures new.disk) (failed b)
  head-fails rs old mid new pad st b r x a reads is texts iz =
      let first = ok-counts told_by failures stops_alone alone rs old mid pad ReadStatus (λ y. StatusAnswer (status_of y)) r st a reads is in
      let m = status-at rs old mid pad st r a reads is in
      caused-from (failures old.disk) (failures mid.disk) (failures new.disk) (failed b) first
      (reads-fails told_by failures stops_alone alone rs mid new pad (ReadText None) TextAnswer x b m texts iz)

  -- ---- a message that was brought

  -- where the machine is then
  pub brings-at : (rs : List Record) (pad : PadState) (s : Session) (msg : Message) (now : ℕ) (new : Held D) (t : Took) → Brings told_by failures stops_alone alone rs pad s msg now new t
      → (qs : List Record) × (next : PadState) × IsAt told_by failures stops_alone alone qs new next
  brings-at rs pad s msg now new (took.Made c) b = (_, _, b.2)
  brings-at rs pad s msg now new (took.Refused x) b = (rs, pad, b.3)
  brings-at rs pad s msg now new (took.NoRoom k) (inl b) = (rs, pad, b.1)
  brings-at rs pad s msg now new (took.NoRoom k) (inr b) = (rs, pad, b.2)
  brings-at rs pad s msg now new (took.Shut k) b = absurd b

-- what isn't heard fails for want of memory alone
pub unheard-counts : (alone : Bool) (before after : ℕ) (r : Result (Unit {0}) WorldBad) → before ≤ after → IfErr r (λ b. b ≡ world_bad.NoMemory)
    → MatchResult r (λ _. before ≤ after) (BreaksNot alone before after)
unheard-counts alone before after (Ok u) l f = l
unheard-counts alone before after (Err b) l f = subst (BreaksNot alone before after) (sym f) tt

-- a machine that is only started again
pub breaks-counts : {A : Type 0} (alone : Bool) (before after : ℕ) (r : Result A WorldBad) → Counts before after r → MatchResult r (λ _. before ≤ after) (BreaksNot alone before after)
breaks-counts alone before after (Ok u) h = h
breaks-counts alone before after (Err b) h = go b h
  where
    go : (b : WorldBad) → IsCaused before after b → BreaksNot alone before after b
    go (world_bad.Store n) u = λ _. u
    go (world_bad.Full n) u = u
    go world_bad.Unknown u = tt
    go world_bad.NoText u = tt
    go world_bad.NoMemory u = tt

-- one that was asked first whether it is shut
pub breaks-from : (alone : Bool) (a b c : ℕ) (r : Result (Unit {0}) WorldBad) → a ≤ b → MatchResult r (λ _. b ≤ c) (BreaksNot alone b c) → MatchResult r (λ _. a ≤ c) (BreaksNot alone a c)
breaks-from alone a b c (Ok u) h x = omega (arith, h, x)
breaks-from alone a b c (Err e) h x = go e x
  where
    go : (e : WorldBad) → BreaksNot alone b c e → BreaksNot alone a c e
    go (world_bad.Store n) u = λ t. risen-from a b c n h (u t)
    go (world_bad.Full n) u = u
    go world_bad.Unknown u = tt
    go world_bad.NoText u = tt
    go world_bad.NoMemory u = tt
