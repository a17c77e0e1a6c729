-- A call's step of a machine, from its parts.
use Rattle.std.proofs.Common.{◌≡◌, inl, inr, ℕ, Bool, List, true, true≢false, Option, Ok, Err, Result, refl, sym, ap, ◌∙◌, subst, arith}
use Rattle.std.specs.Prelude.{MatchResult}
use Rattle.ep_outside.specs.Disk.{Contents, KeepsMarks}
use Rattle.ep_outside.specs.Moments.{LeavesOnly}
use Rattle.ep_history.specs.Pad.{PadState}
use Rattle.ep_history.specs.Records.{IsKept as AreKept}
use Rattle.ep_history.specs.Entries.{Entry, Answer, Reply, outcome, is_recordable}
use Rattle.ep_history.specs.Entries.Outcome.{Answers, Records}
use Rattle.ep_history.specs.Machine.{MachineState, IsKeptState, IsOpenStep, IsStep, IsStepAs, settled}
use Rattle.ep_history.specs.Machine.IsOpenStep.{Lacks}
use Rattle.ep_history.specs.declared.pad_bad.PadBad.{PadBad}
use Rattle.ep_history.specs.declared.record.Record.{Record}
use Rattle.ep_history.proofs.Steps.{IsGoodOutcome, outcome-good, reopening-kept, settled-kept}
use Rattle.ep_pad_file.specs.Standing.{size}
use Rattle.ep_units.specs.declared.session.Session.{Session}
use Rattle.ep_history.specs.Entries.Entry.{Fetch}
use Rattle.ep_history.specs.Entries.Answer.{FetchAnswer}
use Rattle.ep_history.specs.Readings.{fetch}
use Rattle.ep_pad_state.specs.declared.answers.Fetched.{Fetched}
use Rattle.ep_pad_state.specs.Answering.{IsRefused, Reads, ReadsFirst, Changes}
use Rattle.ep_pad_state.specs.Held.{IsPad}
use Rattle.ep_pad_state.specs.Making.{after, change_of}
use Rattle.ep_pad_state.specs.declared.change.PadChange.{PadChange}
use Rattle.ep_pad_state.specs.declared.change.PadChange.TheVariants as made_by
use Rattle.ep_pad_state.specs.declared.change.Ready.{Ready}
use Rattle.ep_pad_state.specs.declared.pad.Pad.{Pad}
use Rattle.ep_pad.specs.Crashes.{Comes, MayRemain, IsStepOfFirst}
use Rattle.ep_pad.specs.Held.{Held}
use Rattle.ep_pad.specs.Standing.{Stands, IsOpen, replied}
use Rattle.ep_pad.specs.Opening.{IsWoken, Sleeps}
use Rattle.ep_pad.specs.Opening.IsWoken.{Was, Opened}
use Rattle.ep_pad.specs.Keeping.{IsKept, IsNotKept}
use Rattle.ep_pad.specs.Keeping.IsNotKept.{Lacks as Wanting, IsFull, Fails}
use Rattle.ep_pad.proofs.Crashing.{comes-on, first-kept, first-not-kept, first-woken}
use Rattle.ep_pad.proofs.Turns.{refuses, answers, records, full, fails}
use Rattle.ep_pad.proofs.Steps.{step-open, step-opened}

-- ---- a machine that was woken

-- it is open
pub woken-open : (st mid : MachineState) → IsWoken st mid → mid.is_open ≡ true
woken-open st mid (Was on is) = ap (λ (x : MachineState). x.is_open) is ∙ on
woken-open st mid (Opened kept off fits t) = ap (λ (x : MachineState). x.is_open) t.0

-- and its records tell its pad
pub woken-kept : (st mid : MachineState) → IsKeptState st → IsWoken st mid → AreKept mid.records mid.pad
woken-kept st mid k (Was on is) = subst (λ (x : MachineState). AreKept x.records x.pad) (sym is) k.kept
woken-kept st mid k (Opened kept off fits t) =
    subst (λ (x : MachineState). AreKept x.records x.pad) (sym t.0) (reopening-kept (settled kept st) (settled-kept st kept k).kept)

step-woken : (st mid next : MachineState) (e : Entry) (reply : Reply) → IsWoken st mid → IsOpenStep size mid e reply next → IsStep size st e reply next
step-woken st mid next e reply (Was on is) step = step-open size st e reply next on (subst (λ x. IsOpenStep size x e reply next) is step)
step-woken st mid next e reply (Opened kept off fits t) step = step-opened size st mid kept e reply next off fits t step

-- a refusal of a woken machine
refused : (mid : MachineState) (e : Entry) (bad : PadBad) → IsRefused (outcome mid.pad e) bad → IsOpenStep size mid e (Err bad) mid
refused mid e bad (inl is) = refuses size mid e bad mid is (refl, omega arith)
refused mid e bad (inr lacks) = Lacks (ap (λ b. Err b) lacks) (refl, omega arith)

-- no change touches the limits
pub after-limits : (c : PadChange) (p : PadState) → (after c p).limits ≡ p.limits
after-limits (made_by.Revisions r) p = refl
after-limits (made_by.Nop x) p = refl
after-limits (made_by.Birth k) p = refl
after-limits (made_by.FirstLogin k author read_only) p = refl
after-limits made_by.Deletion p = refl
after-limits (made_by.Public on) p = refl
after-limits (made_by.Opening seats) p = refl

-- nor does an answer
answer-limits : (p next : PadState) (e : Entry) (a : Answer) → IsGoodOutcome p (is_recordable e) (outcome p e) → outcome p e ≡ Answers a next → next.limits ≡ p.limits
answer-limits p next e a good is =
    let g = subst (IsGoodOutcome p (is_recordable e)) is good in
    ap (λ (x : PadState). x.limits) g.0

module _ {D : Type 0} (told_by : D → Option Contents) (failures : D → ℕ) where
  pub opened : (st mid : MachineState) (m : Held D) → IsWoken st mid → Stands told_by failures m mid → IsOpen told_by failures m mid
  opened st mid m w s = s.open_has (sym s.is_open ∙ woken-open st mid w)

  on_now : (st mid : MachineState) (m : Held D) → IsWoken st mid → Stands told_by failures m mid → m.is_open ≡ true
  on_now st mid m w s = sym s.is_open ∙ woken-open st mid w

  -- an open machine with another pad in memory
  pub with-pad : (st mid : MachineState) (m : Held D) (k : Pad) (p : PadState) → IsWoken st mid → Stands told_by failures m mid → IsPad k p → p.limits ≡ mid.pad.limits
      → Stands told_by failures (record m { pad = k }) (record mid { pad = p })
  with-pad st mid m k p w s is limits =
      let o = opened st mid m w s in
      record {
        is_open = s.is_open;
        limits = limits ∙ s.limits;
        faults = s.faults;
        open_has = λ on. record { holds = o.holds; pad = is; settled = o.settled };
        closed_has = λ off. absurd (true≢false (sym (on_now st mid m w s) ∙ off));
      }

module _ {D : Type 0} (told_by : D → Option Contents) (failures moment : D → ℕ) (since : D → ℕ → List ℕ → Type 0) (is_steady stops_alone : D → Bool) (left : D → Option ℕ) where
  abbrev Came : Held D → MachineState → Held D → MachineState → Type 0
  Came old st m next = Comes told_by failures moment since is_steady stops_alone left old st m next

  -- a machine that does not open refuses
  pub asleep : (st : MachineState) (old m : Held D) (e : Entry) (bad : PadBad) → (next : MachineState) × Sleeps st bad next × Came old st m next
      → (next : MachineState) × IsStep size st e (Err bad) next × Came old st m next
  asleep st old m e bad s = (s.0, subst (λ b. IsStepAs b size st e (Err bad) s.0) (sym s.1.0) (s.1.1 e), s.2)

  -- an open machine with another pad in memory
  pub comes-with : (st mid : MachineState) (old m : Held D) (k : Pad) (p : PadState) → IsWoken st mid → Came old st m mid → IsPad k p → p.limits ≡ mid.pad.limits
      → Came old st (record m { pad = k }) (record mid { pad = p })
  comes-with st mid old m k p w s is limits = (with-pad told_by failures st mid m k p w s.0 is limits, s.1, s.2)

  -- what is to be recorded is refused before
  pub unready : (st mid : MachineState) (old m : Held D) (k : Pad) (e : Entry) (bad : PadBad) → IsWoken st mid → Came old st m mid
      → IsPad k mid.pad → IsRefused (outcome mid.pad e) bad → (next : MachineState) × IsStep size st e (Err bad) next × Came old st (record m { pad = k }) next
  unready st mid old m k e bad w s is why = (mid, step-woken st mid mid e (Err bad) w (refused mid e bad why), comes-with st mid old m k mid.pad w s is refl)

  -- it is not recorded
  unrecorded : (st mid : MachineState) (old m new : Held D) (e : Entry) (r : Record) (a : Answer) (pad : PadState) (bad : PadBad) → IsWoken st mid → Came old st m mid
      → outcome mid.pad e ≡ Records r a pad → is_recordable e ≡ true → (next : MachineState) × IsNotKept mid r bad next × Came m mid new next
      → (next : MachineState) × IsStep size st e (Err bad) next × Came old st new next
  unrecorded st mid old m new e r a pad bad w s is can h = (
    h.0,
    step-woken st mid h.0 e (Err bad) w (go h.1),
    let o = opened told_by failures st mid m w s.0 in
        comes-on told_by failures moment since is_steady stops_alone left old m new st mid h.0 (first-woken st mid w) (first-not-kept mid h.0 r bad o.settled h.1) s h.2,
  )
    where
      go : IsNotKept mid r bad h.0 → IsOpenStep size mid e (Err bad) h.0
      go (Wanting lacks t) = Lacks (ap (λ b. Err b) lacks) t
      go (IsFull f t) = full size mid e r a pad bad h.0 is can f t
      go (Fails count why fits rose t) = subst (λ (b : PadBad). IsOpenStep size mid e (Err b) h.0) (sym why) (fails size mid e r a pad count h.0 is can fits rose t)

module _ {D : Type 0} (told_by : D → Option Contents) (failures moment : D → ℕ) (since : D → ℕ → List ℕ → Type 0) (is_steady stops_alone : D → Bool) (left : D → Option ℕ) where
  pub steps-first : (st : MachineState) (s : Session) (from told n : ℕ) (r : Result Fetched PadBad) (old new : Held D)
      → (next : MachineState) × IsStepOfFirst st s from told n r next × Came told_by failures moment since is_steady stops_alone left old st new next
      → (next : MachineState)
      × IsStepOfFirst st s from told n r next
      × Stands told_by failures new next
      × LeavesOnly moment since old.disk new.disk (MayRemain st next)
      × KeepsMarks is_steady stops_alone left old.disk new.disk
  steps-first st s from told n r old new h = (h.0, h.1, h.2.0, h.2.1, h.2.2)

  -- a machine that does not open refuses it
  pub asleep-first : (st : MachineState) (old m : Held D) (s : Session) (from told n : ℕ) (bad : PadBad) → (next : MachineState) × Sleeps st bad next × Came told_by failures moment since is_steady stops_alone left old st m next
      → (next : MachineState)
      × IsStepOfFirst st s from told n (Err bad) next
      × Stands told_by failures m next
      × LeavesOnly moment since old.disk m.disk (MayRemain st next)
      × KeepsMarks is_steady stops_alone left old.disk m.disk
  asleep-first st old m s from told n bad h =
      steps-first st s from told n (Err bad) old m (asleep told_by failures moment since is_steady stops_alone left st old m (Fetch s from told) bad h)

  -- the first of a fetch
  pub reads-first : (st mid : MachineState) (old m : Held D) (s : Session) (from told n : ℕ) (r : Result Fetched PadBad) → IsWoken st mid → Came told_by failures moment since is_steady stops_alone left old st m mid
      → ReadsFirst m.pad s from told n r
      → (next : MachineState) × IsStepOfFirst st s from told n r next × Came told_by failures moment since is_steady stops_alone left old st m next
  reads-first st mid old m s from told n (Ok x) w c h =
      let y = h mid.pad (opened told_by failures st mid m w c.0).pad in
      let whole = fetch mid.pad s from told in
      (mid, (whole, step-woken st mid mid (Fetch s from told) (Ok (FetchAnswer whole)) w (answers size mid (Fetch s from told) (FetchAnswer whole) mid.pad mid y.0 (refl, omega arith)), y.1), c)
  reads-first st mid old m s from told n (Err bad) w c h =
      (mid, step-woken st mid mid (Fetch s from told) (Err bad) w (refused mid (Fetch s from told) bad (h mid.pad (opened told_by failures st mid m w c.0).pad)), c)

module _ {D A : Type 0} (told_by : D → Option Contents) (failures moment : D → ℕ) (since : D → ℕ → List ℕ → Type 0) (is_steady stops_alone : D → Bool) (left : D → Option ℕ) where
  -- a reading
  pub reads : (st mid : MachineState) (old m : Held D) (e : Entry) (f : A → Answer) (r : Result A PadBad) → IsWoken st mid → Came told_by failures moment since is_steady stops_alone left old st m mid → Reads m.pad e f r
      → (next : MachineState) × IsStep size st e (replied f r) next × Came told_by failures moment since is_steady stops_alone left old st m next
  reads st mid old m e f (Ok x) w s h =
      (mid, step-woken st mid mid e (Ok (f x)) w (answers size mid e (f x) mid.pad mid (h mid.pad (opened told_by failures st mid m w s.0).pad) (refl, omega arith)), s)
  reads st mid old m e f (Err bad) w s h = (mid, step-woken st mid mid e (Err bad) w (refused mid e bad (h mid.pad (opened told_by failures st mid m w s.0).pad)), s)

  -- a change that no record tells of
  pub changes : (st mid : MachineState) (old m : Held D) (k : Pad) (e : Entry) (f : A → Answer) (r : Result A PadBad) → IsKeptState st → IsWoken st mid → Came told_by failures moment since is_steady stops_alone left old st m mid
      → Changes m.pad e f r k → (next : MachineState) × IsStep size st e (replied f r) next × Came told_by failures moment since is_steady stops_alone left old st (record m { pad = k }) next
  changes st mid old m k e f (Ok x) kept w s h =
      let a = h mid.pad (opened told_by failures st mid m w s.0).pad in
      let good = woken-kept st mid kept w in
      let limits = answer-limits mid.pad a.0 e (f x) (outcome-good mid.pad e good.sound good.opened) a.1 in (
        record mid { pad = a.0 },
        step-woken st mid (record mid { pad = a.0 }) e (Ok (f x)) w (answers size mid e (f x) a.0 (record mid { pad = a.0 }) a.1 (refl, omega arith)),
        comes-with told_by failures moment since is_steady stops_alone left st mid old m k a.0 w s a.2 limits,
      )
  changes st mid old m k e f (Err bad) kept w s h =
      let a = h mid.pad (opened told_by failures st mid m w s.0).pad in (
        mid,
        step-woken st mid mid e (Err bad) w (refused mid e bad a.0),
        comes-with told_by failures moment since is_steady stops_alone left st mid old m k mid.pad w s a.1 refl,
      )

  -- it is recorded
  recorded : (st mid : MachineState) (old m new : Held D) (e : Entry) (f : A → Answer) (x : Ready A) (answer : A) → IsWoken st mid → Came told_by failures moment since is_steady stops_alone left old st m mid
      → outcome mid.pad e ≡ Records x.record (f x.answer) (after (change_of x) mid.pad) → is_recordable e ≡ true
      → (answer ≡ x.answer) × ((next : MachineState) × IsKept mid x.record (after (change_of x) mid.pad) next × Came told_by failures moment since is_steady stops_alone left m mid new next)
      → (next : MachineState) × IsStep size st e (Ok (f answer)) next × Came told_by failures moment since is_steady stops_alone left old st new next
  recorded st mid old m new e f x answer w s is can h =
      let n = h.1 in
      let o = opened told_by failures st mid m w s.0 in
      let step = records size mid e x.record (f x.answer) (after (change_of x) mid.pad) n.0 is can n.1.0 n.1.1 in (
        n.0,
        step-woken st mid n.0 e (Ok (f answer)) w (subst (λ (y : A). IsOpenStep size mid e (Ok (f y)) n.0) (sym h.0) step),
        comes-on told_by failures moment since is_steady stops_alone left old m new st mid n.0 (first-woken st mid w)
            (first-kept mid n.0 x.record (after (change_of x) mid.pad) o.settled n.1) s n.2,
      )

  -- it is to be recorded
  pub keeps : (st mid : MachineState) (old m new : Held D) (e : Entry) (f : A → Answer) (x : Ready A) (r : Result A PadBad) → IsWoken st mid → Came told_by failures moment since is_steady stops_alone left old st m mid
      → outcome mid.pad e ≡ Records x.record (f x.answer) (after (change_of x) mid.pad) → is_recordable e ≡ true
      → MatchResult r (λ answer. (answer ≡ x.answer) × ((next : MachineState) × IsKept mid x.record (after (change_of x) mid.pad) next × Came told_by failures moment since is_steady stops_alone left m mid new next))
      (λ bad. (next : MachineState) × IsNotKept mid x.record bad next × Came told_by failures moment since is_steady stops_alone left m mid new next)
      → (next : MachineState) × IsStep size st e (replied f r) next × Came told_by failures moment since is_steady stops_alone left old st new next
  keeps st mid old m new e f x (Ok answer) w s is can h = recorded st mid old m new e f x answer w s is can h
  keeps st mid old m new e f x (Err bad) w s is can h =
      unrecorded told_by failures moment since is_steady stops_alone left st mid old m new e x.record (f x.answer) (after (change_of x) mid.pad) bad w s is can h
