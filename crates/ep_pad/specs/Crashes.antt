-- What a crash may leave while a machine goes from one state to another.
use Rattle.std.specs.Prelude.{◌≡◌, ◌⊎◌, ℕ, Bool, List, ◌++◌, Option, Result, Ok, Err, MatchResult}
use Rattle.ep_units.specs.declared.session.Session.{Session}
use Rattle.ep_outside.specs.Disk.{Contents, KeepsMarks}
use Rattle.ep_outside.specs.Moments.{LeavesOnly}
use Rattle.ep_history.specs.Entries.{Entry, Answer, Reply}
use Rattle.ep_history.specs.Entries.Entry.{Fetch}
use Rattle.ep_history.specs.Entries.Answer.{FetchAnswer}
use Rattle.ep_history.specs.Readings.{Fetched as AFetched}
use Rattle.ep_history.specs.Machine.{MachineState, IsKeptState, IsStep}
use Rattle.ep_history.specs.declared.pad_bad.PadBad.{PadBad}
use Rattle.ep_history.specs.declared.record.Record.{Record}
use Rattle.ep_pad_file.specs.Standing.{size, IsOldOrMore, StandsFor}
use Rattle.ep_pad_state.specs.declared.answers.Fetched.{Fetched}
use Rattle.ep_pad_state.specs.Answering.{fetched_of, first_of}
use Rattle.ep_pad.specs.Held.{Held}
use Rattle.ep_pad.specs.Standing.{replied, Stands}

-- these are the first of those
abbrev pub AreFirst : List Record → List Record → Type 0
AreFirst rs all = (rest : List Record) × (rs ++ rest ≡ all)

-- A crash leaves what it may leave in the first state: the records, or where the machine is closed these and the pending
-- one. Or it leaves the records and none, some first or all of those that the other state has behind them or has pending.
abbrev pub MayRemain : MachineState → MachineState → List ℕ → Type 0
MayRemain st next image =
    IsOldOrMore st.records st.pending image ⊎ ((rs : List Record) × StandsFor rs image × AreFirst st.records rs × AreFirst rs (next.records ++ next.pending))

-- a step of a fetch, of which only the first n revisions are answered
abbrev pub IsStepOfFirst : MachineState → Session → ℕ → ℕ → ℕ → Result Fetched PadBad → MachineState → Type 0
IsStepOfFirst st s from told n r next =
    MatchResult r (λ x. (whole : AFetched) × IsStep size st (Fetch s from told) (Ok (FetchAnswer whole)) next × (fetched_of x ≡ first_of n from whole))
    (λ bad. IsStep size st (Fetch s from told) (Err bad) next)

module _ {D : Type 0} (told_by : D → Option Contents) (failures moment : D → ℕ) (since : D → ℕ → List ℕ → Type 0) (is_steady stops_alone : D → Bool) (left : D → Option ℕ) where
  -- from one state a machine came to another, in which it is: a crash on the way leaves what may remain, and its disk's marks stay
  abbrev pub Comes : Held D → MachineState → Held D → MachineState → Type 0
  Comes old st new next =
      Stands told_by failures new next
      × LeavesOnly moment since old.disk new.disk (MayRemain st next)
      × KeepsMarks is_steady stops_alone left old.disk new.disk

  -- a call made this reply to an entry, as `Makes` says, and a crash at each moment of it leaves what may remain between the
  -- two states; the marks of the disk stay
  abbrev pub MakesOver : Held D → Entry → Reply → Held D → Type 0
  MakesOver old e reply new =
      (st : MachineState) → IsKeptState st → Stands told_by failures old st → (next : MachineState)
      × IsStep size st e reply next
      × Stands told_by failures new next
      × LeavesOnly moment since old.disk new.disk (MayRemain st next)
      × KeepsMarks is_steady stops_alone left old.disk new.disk

  -- the same with the answer of a program
  abbrev pub StepsOver : {A : Type 0} → Held D → Entry → (A → Answer) → Result A PadBad → Held D → Type 0
  StepsOver old e f r new = MakesOver old e (replied f r) new

  -- a fetch was answered, but only as far as its first n revisions go: the whole answer is a step's
  abbrev pub FetchesFirst : Held D → Session → ℕ → ℕ → ℕ → Result Fetched PadBad → Held D → Type 0
  FetchesFirst old s from told n r new =
      (st : MachineState) → IsKeptState st → Stands told_by failures old st → (next : MachineState)
      × IsStepOfFirst st s from told n r next
      × Stands told_by failures new next
      × LeavesOnly moment since old.disk new.disk (MayRemain st next)
      × KeepsMarks is_steady stops_alone left old.disk new.disk

module _ {D : Type 0} (told_by : D → Option Contents) (failures : D → ℕ) (left : D → Option ℕ) where
  -- no device call was made of a disk: it has what it had, has failed as often, and would stop after as many calls
  abbrev pub IsUncalled : D → D → Type 0
  IsUncalled old new = (told_by new ≡ told_by old) × (failures new ≡ failures old) × (left new ≡ left old)
