-- The count of faults of a machine's disk over a call, and why a call fails.
use Rattle.std.proofs.Common.{◌≡◌, ℕ, ◌≤◌, ◌<◌, ◌-◌, ◌^◌, Bool, true, false, List, Option, Some, None, Result, Ok, Err, inl, inr, ◌⊎◌, refl, sym, ap, ◌∙◌, subst, arith}
use Rattle.std.specs.Prelude.{IfErr, MatchResult}
use Rattle.ep_units.specs.declared.session.Session.{Session}
use Rattle.ep_outside.specs.Disk.{Contents}
use Rattle.ep_history.specs.Entries.{Answer, Entry, Outcome, Reply, is_recordable, outcome, unless}
use Rattle.ep_history.specs.Entries.Answer.{FetchAnswer}
use Rattle.ep_history.specs.Entries.Entry.{Fetch, ReadStatus}
use Rattle.ep_history.specs.Entries.Outcome.{Refuses, Answers, Records}
use Rattle.ep_history.specs.Machine.{MachineState, IsClosedStep, IsFoundStep, IsKeptState, IsOpenStep, IsStepAs, IsThen, journal_fault, keeping, open_record, reopening, settled, turn_of}
use Rattle.ep_history.specs.Machine.IsOpenStep.{Does, Lacks, Fails}
use Rattle.ep_history.specs.Machine.IsFoundStep.{Opens, IsFull, FailsOpened}
use Rattle.ep_history.specs.Machine.IsClosedStep.{Finds, LacksOpening, FailsOpening}
use Rattle.ep_history.specs.Pad.{PadState}
use Rattle.ep_history.specs.Server.{gone_fault}
use Rattle.ep_history.specs.declared.pad_bad.PadBad.{PadBad}
use Rattle.ep_history.specs.declared.pad_bad.PadBad.TheVariants as bad
use Rattle.ep_history.specs.declared.record.Record.{Record}
use Rattle.ep_pad.specs.Crashes.{IsStepOfFirst}
use Rattle.ep_pad.specs.Held.{Held}
use Rattle.ep_pad.specs.Opening.{HasRisenTo, Sleeps}
use Rattle.ep_pad.specs.Standing.{Stands, replied}
use Rattle.ep_pad_file.specs.Standing.{size}
use Rattle.ep_pad_state.specs.declared.answers.Fetched.{Fetched}
use Rattle.ep_schedule.specs.World.{Name}
use Rattle.ep_event.specs.declared.event.Event.{Event as Told}
use Rattle.ep_event.specs.declared.event.Event.TheVariants as told
use Rattle.ep_event.specs.declared.shown.Shown.{Shown}
use Rattle.ep_event.specs.declared.shown.Verb.{Verb}
use Rattle.ep_world.specs.declared.bad.WorldBad.{WorldBad}
use Rattle.ep_world.specs.declared.bad.WorldBad.TheVariants as world_bad
use Rattle.ep_world.specs.Counting.{Counts}
use Rattle.ep_world.specs.Failing.{IsCaused, failed, shown_or_failed}
use Rattle.ep_world.specs.Standing.{IsAt, IsEnded, Said}
use Rattle.ep_world.specs.Taking.{not_made}
use Rattle.ep_world.proofs.Calls.{MakesMarked, journal-full}
use Rattle.ep_world.proofs.Plain.{IsPlain, IsPlainIf, IsPlainOutcome, if-plain, outcome-plain}
use Rattle.ep_world.proofs.Shut.{at-kept, at-stands, at-state}

-- ---- entries that record nothing

abbrev pub IsReading : Outcome → Type 0
IsReading (Refuses b) = IsPlain b
IsReading (Answers a p) = Unit {0}
IsReading (Records r a p) = ⊥

unless-reading : (f : Option PadBad) (a : Answer) (p : PadState) → IsPlainIf f → IsReading (unless f (Answers a p))
unless-reading None a p q = tt
unless-reading (Some b) a p q = q

pub status-reads : (pad : PadState) → IsReading (outcome pad ReadStatus)
status-reads pad = unless-reading (gone_fault pad) _ _ (if-plain _ _ tt)

-- ---- a step of a machine

-- a refusal: the count rose to this where it is the store's, and else it doesn't fall
abbrev pub BadCounts : ℕ → ℕ → PadBad → Type 0
BadCounts before now (bad.Store n) = HasRisenTo before now n
BadCounts before now b = before ≤ now

abbrev pub ReplyCounts : ℕ → ℕ → Reply → Type 0
ReplyCounts before now (Ok a) = before ≤ now
ReplyCounts before now (Err b) = BadCounts before now b

plain-counts : (before now : ℕ) (b : PadBad) → IsPlain b → before ≤ now → BadCounts before now b
plain-counts before now (bad.Store n) p h = absurd p
plain-counts before now b p h = h

turned-counts : (st next : MachineState) (can : Bool) (o : Outcome) (reply : Reply) → IsPlainOutcome o → reply ≡ (turn_of size st can o).reply → IsThen (turn_of size st can o).state next
    → ReplyCounts st.faults next.faults reply
turned-counts st next can (Refuses b) reply p q t = subst (ReplyCounts st.faults next.faults) (sym q) (plain-counts st.faults next.faults b p t.1)
turned-counts st next can (Answers a pad) reply p q t = subst (ReplyCounts st.faults next.faults) (sym q) t.1
turned-counts st next false (Records r a pad) reply p q t = subst (ReplyCounts st.faults next.faults) (sym q) t.1
turned-counts st next true (Records r a pad) reply p q t = keeps (journal_fault size st r) refl q t
  where
    keeps : (f : Option PadBad) → journal_fault size st r ≡ f → reply ≡ (keeping st f r a pad).reply → IsThen (keeping st f r a pad).state next → ReplyCounts st.faults next.faults reply
    keeps None j q t = subst (ReplyCounts st.faults next.faults) (sym q) t.1
    keeps (Some full) j q t = let f = journal-full st r full j in subst (ReplyCounts st.faults next.faults) (sym (q ∙ ap Err f.1)) t.1

pub step-counts : (st next : MachineState) (e : Entry) (reply : Reply) → IsOpenStep size st e reply next → ReplyCounts st.faults next.faults reply
step-counts st next e reply (Does r t) = turned-counts st next (is_recordable e) (outcome st.pad e) reply (outcome-plain st.pad e) r t
step-counts st next e reply (Lacks r t) = subst (ReplyCounts st.faults next.faults) (sym r) t.1
step-counts st next e reply (Fails count r adds q h t) = subst (ReplyCounts st.faults next.faults) (sym q) record { is = h.0; risen = h.1 }

reopened-faults : (k : Bool) (st : MachineState) → (reopening (settled k st)).faults ≡ st.faults
reopened-faults true st = refl
reopened-faults false st = refl

settled-faults : (k : Bool) (st : MachineState) → (settled k st).faults ≡ st.faults
settled-faults true st = refl
settled-faults false st = refl

closed-counts : (st next : MachineState) (e : Entry) (reply : Reply) → IsClosedStep size st e reply next → ReplyCounts st.faults next.faults reply
closed-counts st next e reply (Finds k step) = found step
  where
    found : IsFoundStep size (settled k st) e reply next → ReplyCounts st.faults next.faults reply
    found (Opens fits step) = subst (λ (f : ℕ). ReplyCounts f next.faults reply) (reopened-faults k st) (step-counts (reopening (settled k st)) next e reply step)
    found (IsFull full j r t) =
        let f = journal-full (settled k st) (open_record (settled k st)) full j in
        subst (ReplyCounts st.faults next.faults) (sym (r ∙ ap Err f.1)) (subst (λ (f : ℕ). f ≤ next.faults) (settled-faults k st) t.1)
    found (FailsOpened count j r h t) =
        subst (ReplyCounts st.faults next.faults) (sym r) (subst (λ (f : ℕ). HasRisenTo f next.faults count) (settled-faults k st) record { is = h.0; risen = h.1 })
closed-counts st next e reply (LacksOpening r t) = subst (ReplyCounts st.faults next.faults) (sym r) t.1
closed-counts st next e reply (FailsOpening count r h t) = subst (ReplyCounts st.faults next.faults) (sym r) record { is = h.0; risen = h.1 }

-- of an open machine or a closed one
any-counts : (b : Bool) (st next : MachineState) (e : Entry) (reply : Reply) → IsStepAs b size st e reply next → ReplyCounts st.faults next.faults reply
any-counts true st next e reply step = step-counts st next e reply step
any-counts false st next e reply step = closed-counts st next e reply step

-- where nothing is recorded the journal's limit refuses nothing
never-full : (st next : MachineState) (e : Entry) (n : ℕ) → IsReading (outcome st.pad e) → IsOpenStep size st e (Err (bad.JournalFull n)) next → ⊥
never-full st next e n reads (Lacks r t) = cc
never-full st next e n reads (Fails count r adds q h t) = cc
never-full st next e n reads (Does r t) = go (outcome st.pad e) reads r
  where
    same : (b : PadBad) → ◌≡◌ {A = Reply} (Err (bad.JournalFull n)) (Err b) → bad.JournalFull n ≡ b
    same b q = cc

    other : (a : Answer) → ◌≡◌ {A = Reply} (Err (bad.JournalFull n)) (Ok a) → ⊥
    other a q = cc

    go : (o : Outcome) → IsReading o → Err (bad.JournalFull n) ≡ (turn_of size st (is_recordable e) o).reply → ⊥
    go (Refuses b) p q = subst IsPlain (sym (same b q)) p
    go (Answers a pad) p q = other a q
    go (Records r a pad) p q = p

-- ---- a machine that doesn't wake

pub sleeps-store : (st next : MachineState) (n : ℕ) → Sleeps st (bad.Store n) next → HasRisenTo st.faults next.faults n
sleeps-store st next n s = go (s.1 ReadStatus)
  where
    of : (k : Bool) → (settled k st).faults ≡ st.faults
    of true = refl
    of false = refl

    reopened-of : (k : Bool) → (reopening (settled k st)).faults ≡ st.faults
    reopened-of true = refl
    reopened-of false = refl

    risen : (count : ℕ) → ◌≡◌ {A = Reply} (Err (bad.Store n)) (Err (bad.Store count)) → (from : ℕ) → from ≡ st.faults
        → (next.faults ≡ count) × ((from < count) ⊎ (count ≡ 2 ^ 64 - 1)) → HasRisenTo st.faults next.faults n
    risen count q from e h =
        let same : count ≡ n = cc in
        subst (λ (k : ℕ). HasRisenTo st.faults next.faults k) same (subst (λ (k : ℕ). HasRisenTo k next.faults count) e (record { is = h.0; risen = h.1 }))

    found : (k : Bool) → IsFoundStep size (settled k st) ReadStatus (Err (bad.Store n)) next → HasRisenTo st.faults next.faults n
    found k (Opens fits step) = subst (λ (f : ℕ). HasRisenTo f next.faults n) (reopened-of k) (step-counts (reopening (settled k st)) next ReadStatus (Err (bad.Store n)) step)
    found k (IsFull full j r t) = let f = journal-full (settled k st) (open_record (settled k st)) full j in absurd (unlike (r ∙ ap Err f.1))
      where
        unlike : {m : ℕ} → ◌≡◌ {A = Reply} (Err (bad.Store n)) (Err (bad.JournalFull m)) → ⊥
        unlike q = cc
    found k (FailsOpened count j r h t) = risen count r (settled k st).faults (of k) h

    go : IsClosedStep size st ReadStatus (Err (bad.Store n)) next → HasRisenTo st.faults next.faults n
    go (Finds k step) = found k step
    go (LacksOpening r t) = absurd cc
    go (FailsOpening count r h t) = risen count r st.faults refl h

-- it is settled, and the journal has no room for its opening
abbrev pub IsAsleep : MachineState → ℕ → MachineState → Type 0
IsAsleep st n next = (k : Bool) × (journal_fault size (settled k st) (open_record (settled k st)) ≡ Some (bad.JournalFull n)) × IsThen (settled k st) next

pub sleeps-full : (st next : MachineState) (n : ℕ) → Sleeps st (bad.JournalFull n) next → IsAsleep st n next
sleeps-full st next n s = go (s.1 ReadStatus)
  where
    found : (k : Bool) → IsFoundStep size (settled k st) ReadStatus (Err (bad.JournalFull n)) next → IsAsleep st n next
    found k (Opens fits step) = absurd (never-full (reopening (settled k st)) next ReadStatus n (status-reads (reopening (settled k st)).pad) step)
    found k (IsFull full j r t) = let same : full ≡ bad.JournalFull n = cc in (k, j ∙ ap Some same, t)
    found k (FailsOpened count j r h t) = absurd cc

    go : IsClosedStep size st ReadStatus (Err (bad.JournalFull n)) next → IsAsleep st n next
    go (Finds k step) = found k step
    go (LacksOpening r t) = absurd cc
    go (FailsOpening count r h t) = absurd cc

-- ---- counts that follow one another

pub risen-from : (a b c n : ℕ) → a ≤ b → HasRisenTo b c n → HasRisenTo a c n
risen-from a b c n h r = record { is = r.is; risen = go r.risen }
  where
    go : (b < n) ⊎ (n ≡ 2 ^ 64 - 1) → (a < n) ⊎ (n ≡ 2 ^ 64 - 1)
    go (inl l) = inl (omega (arith, l, h))
    go (inr e) = inr e

pub caused-from : (a b c : ℕ) (x : WorldBad) → a ≤ b → IsCaused b c x → IsCaused a c x
caused-from a b c (world_bad.Store n) h r = risen-from a b c n h r
caused-from a b c (world_bad.Full n) h r = r
caused-from a b c world_bad.Unknown h r = tt
caused-from a b c world_bad.NoText h r = tt
caused-from a b c world_bad.NoMemory h r = tt

pub counts-from : {A : Type 0} (a b c : ℕ) (r : Result A WorldBad) → a ≤ b → Counts b c r → Counts a c r
counts-from a b c (Ok x) h r = omega (arith, h, r)
counts-from a b c (Err x) h r = caused-from a b c x h r

-- a failure below is one of the world
pub failed-caused : (before now : ℕ) (b : PadBad) → BadCounts before now b → IsCaused before now (failed b)
failed-caused before now (bad.Store n) h = h
failed-caused before now b h = tt

pub not-made-counts : (before now : ℕ) (b : PadBad) → BadCounts before now b → Counts before now (not_made b)
not-made-counts before now (bad.Store n) h = h
not-made-counts before now bad.NoMemory h = tt
not-made-counts before now b h = h

pub bad-later : (before now : ℕ) (b : PadBad) → ((n : ℕ) → b ≡ bad.Store n → ⊥) → BadCounts before now b → before ≤ now
bad-later before now (bad.Store n) f h = absurd (f n refl)
bad-later before now b f h = h

-- ---- of events

said : (alone : Bool) (e : Told) (p : Type 0) → p → Said alone e p
said alone (told.Stop (Some at)) p h = λ _. h
said alone e p h = h

pub caused-ends : (alone : Bool) (e : Told) (before after : ℕ) (b : WorldBad) → IsCaused before after b → IsEnded alone e before after b
caused-ends alone e before after (world_bad.Store n) h = said alone e (HasRisenTo before after n) h
caused-ends alone e before after (world_bad.Full n) h = absurd h
caused-ends alone e before after world_bad.Unknown h = tt
caused-ends alone e before after world_bad.NoText h = tt
caused-ends alone e before after world_bad.NoMemory h = tt

pub counts-ends : (alone : Bool) (e : Told) (before after : ℕ) (r : Result Shown WorldBad) → Counts before after r
    → IfErr r (IsEnded alone e before after)
counts-ends alone e before after (Ok x) h = tt
counts-ends alone e before after (Err b) h = caused-ends alone e before after b h

-- a failure that is passed on
pub as-err : {A : Type 0} (P : A → Type 0) (Q : WorldBad → Type 0) (r : Result A WorldBad) (b : WorldBad) → r ≡ Err b → Q b → MatchResult r P Q
as-err P Q r b e h = subst (λ x. MatchResult x P Q) (sym e) h

pub counts-err : {A : Type 0} (before now : ℕ) (r : Result A WorldBad) (b : WorldBad) → r ≡ Err b → IsCaused before now b → Counts before now r
counts-err before now r b e h = subst (λ x. Counts before now x) (sym e) h

-- memory was wanting, or nobody had the name
pub memory-caused : (before now : ℕ) (b : WorldBad) → ((b ≡ world_bad.Unknown → ⊥) → b ≡ world_bad.NoMemory) → IsCaused before now b
memory-caused before now (world_bad.Store n) f = absurd (unlike (f (λ q. cc)))
  where
    unlike : world_bad.Store n ≡ world_bad.NoMemory → ⊥
    unlike q = cc
memory-caused before now (world_bad.Full n) f = unlike (f (λ q. cc))
  where
    unlike : world_bad.Full n ≡ world_bad.NoMemory → ⊥
    unlike q = cc
memory-caused before now b f = tt

-- a refusal that the pad gave
pub refused-ends : (alone : Bool) (e : Told) (before after : ℕ) (v : Verb) (n : Option Name) (b : PadBad) → BadCounts before after b
    → IfErr (shown_or_failed v n b) (IsEnded alone e before after)
refused-ends alone e before after v n (bad.Store c) h = caused-ends alone e before after (world_bad.Store c) h
refused-ends alone e before after v n bad.NoMemory h = tt
refused-ends alone e before after v n b h = tt

-- ---- a call of a machine

module _ {D : Type 0} (told_by : D → Option Contents) (failures : D → ℕ) (stops_alone : D → Bool) (alone : Bool) (rs : List Record) where
  pub reply-counts : (old new : Held D) (pad : PadState) (e : Entry) (reply : Reply) → IsAt told_by failures stops_alone alone rs old pad → MakesMarked told_by failures stops_alone alone old e reply new
      → ReplyCounts (failures old.disk) (failures new.disk) reply
  reply-counts old new pad e reply a makes =
      let st = at-state told_by failures stops_alone alone rs old pad a in
      let stands = at-stands told_by failures stops_alone alone rs old pad a in
      let n = makes st (at-kept told_by failures stops_alone alone rs old pad a) stands in
      subst (λ (k : ℕ). ReplyCounts (failures old.disk) k reply) n.2.faults
      (subst (λ (k : ℕ). ReplyCounts k n.0.faults reply) stands.faults (any-counts st.is_open st n.0 e reply n.1))

  -- by what the call was answered
  pub ok-counts : {A : Type 0} (old new : Held D) (pad : PadState) (e : Entry) (f : A → Answer) (r : Result A PadBad) (x : A) → IsAt told_by failures stops_alone alone rs old pad
      → MakesMarked told_by failures stops_alone alone old e (replied f r) new → r ≡ Ok x → failures old.disk ≤ failures new.disk
  ok-counts old new pad e f r x a makes is =
      subst (λ y. ReplyCounts (failures old.disk) (failures new.disk) (replied f y)) is (reply-counts old new pad e (replied f r) a makes)

  pub err-counts : {A : Type 0} (old new : Held D) (pad : PadState) (e : Entry) (f : A → Answer) (r : Result A PadBad) (b : PadBad) → IsAt told_by failures stops_alone alone rs old pad
      → MakesMarked told_by failures stops_alone alone old e (replied f r) new → r ≡ Err b → BadCounts (failures old.disk) (failures new.disk) b
  err-counts old new pad e f r b a makes is =
      subst (λ y. ReplyCounts (failures old.disk) (failures new.disk) (replied f y)) is (reply-counts old new pad e (replied f r) a makes)

  -- where it fails, that has its cause
  pub reads-fails : {A : Type 0} (old new : Held D) (pad : PadState) (e : Entry) (f : A → Answer) (r : Result A PadBad) (b : PadBad) → IsAt told_by failures stops_alone alone rs old pad
      → MakesMarked told_by failures stops_alone alone old e (replied f r) new → r ≡ Err b → IsCaused (failures old.disk) (failures new.disk) (failed b)
  reads-fails old new pad e f r b a makes is = failed-caused (failures old.disk) (failures new.disk) b (err-counts old new pad e f r b a makes is)

  -- a fetch of the first revisions
  abbrev pub FetchesMarked : Held D → Session → ℕ → ℕ → ℕ → Result Fetched PadBad → Held D → Type 0
  FetchesMarked old s from told n r new =
      (st : MachineState) → IsKeptState st → Stands told_by failures old st
      → (next : MachineState) × IsStepOfFirst st s from told n r next × Stands told_by failures new next × (stops_alone new.disk ≡ stops_alone old.disk)

  pub fetched-counts : (old new : Held D) (pad : PadState) (s : Session) (from told n : ℕ) (r : Result Fetched PadBad) (x : Fetched) → IsAt told_by failures stops_alone alone rs old pad
      → FetchesMarked old s from told n r new → r ≡ Ok x → failures old.disk ≤ failures new.disk
  fetched-counts old new pad s from told n r x a makes is =
      let st = at-state told_by failures stops_alone alone rs old pad a in
      let stands = at-stands told_by failures stops_alone alone rs old pad a in
      let m = makes st (at-kept told_by failures stops_alone alone rs old pad a) stands in
      let w = subst (λ y. IsStepOfFirst st s from told n y m.0) is m.1 in
      subst (λ (k : ℕ). failures old.disk ≤ k) m.2.faults
      (subst (λ (k : ℕ). k ≤ m.0.faults) stands.faults (any-counts st.is_open st m.0 (Fetch s from told) (Ok (FetchAnswer w.0)) w.1))

  pub unfetched-counts : (old new : Held D) (pad : PadState) (s : Session) (from told n : ℕ) (r : Result Fetched PadBad) (b : PadBad) → IsAt told_by failures stops_alone alone rs old pad
      → FetchesMarked old s from told n r new → r ≡ Err b → BadCounts (failures old.disk) (failures new.disk) b × IsCaused (failures old.disk) (failures new.disk) (failed b)
  unfetched-counts old new pad s from told n r b a makes is = (counts, failed-caused (failures old.disk) (failures new.disk) b counts)
    where
      counts : BadCounts (failures old.disk) (failures new.disk) b
      counts =
          let st = at-state told_by failures stops_alone alone rs old pad a in
          let stands = at-stands told_by failures stops_alone alone rs old pad a in
          let m = makes st (at-kept told_by failures stops_alone alone rs old pad a) stands in
          let w = subst (λ y. IsStepOfFirst st s from told n y m.0) is m.1 in
          subst (λ (k : ℕ). BadCounts (failures old.disk) k b) m.2.faults
          (subst (λ (k : ℕ). BadCounts k m.0.faults b) stands.faults (any-counts st.is_open st m.0 (Fetch s from told) (Err b) w))
