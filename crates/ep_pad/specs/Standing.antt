-- For which states of the rules' machine a machine in code stands, and what its calls are there.
use Rattle.std.specs.Prelude.{◌≡◌, ℕ, suc, true, false, [], Option, Result, Ok, Err}
use Rattle.ep_outside.specs.Disk.{Contents}
use Rattle.ep_history.specs.Pad.{PadState}
use Rattle.ep_history.specs.Entries.{Entry, Answer, Reply}
use Rattle.ep_history.specs.Machine.{MachineState, IsKeptState, IsStep}
use Rattle.ep_history.specs.declared.pad_bad.PadBad.{PadBad}
use Rattle.ep_history.specs.declared.record.Record.{Record}
use Rattle.ep_history.specs.declared.record.Record.TheVariants as record_of
use Rattle.ep_pad_file.specs.Standing.{size, Holds, MayHold}
use Rattle.ep_pad_state.specs.Held.{IsPad}
use Rattle.ep_pad.specs.Held.{Held}

-- the record of a pad's next opening
abbrev pub opening : PadState → Record
opening pad = record_of.Open (suc pad.epoch)

module _ {D : Type 0} (told_by : D → Option Contents) (failures : D → ℕ) where
  -- what an open machine has: the file holds the records, and the pad in memory is what they tell
  pub record IsOpen (m : Held D) (st : MachineState) : Type 0 where
    pub holds : Holds (told_by m.disk) st.records
    pub pad : IsPad m.pad st.pad
    pub settled : st.pending ≡ []

  -- the machine is in this state; the disk tells. What a closed one's file holds, whatever a crash leaves of it, are the
  -- records, or these and the pending one
  pub record Stands (m : Held D) (st : MachineState) : Type 0 where
    pub is_open : st.is_open ≡ m.is_open
    pub limits : st.pad.limits ≡ m.limits
    pub faults : st.faults ≡ failures m.disk
    pub open_has : m.is_open ≡ true → IsOpen m st
    pub closed_has : m.is_open ≡ false → MayHold (told_by m.disk) st.records st.pending

-- an answer of a program, as the rules say it
abbrev pub replied : {A : Type 0} → (A → Answer) → Result A PadBad → Reply
replied f (Ok x) = Ok (f x)
replied f (Err bad) = Err bad

-- a call made this reply to an entry: a step of each state in which the machine was, whose records tell its pad; and then
-- it is in the new one
abbrev pub Makes : {D : Type 0} → (D → Option Contents) → (D → ℕ) → Held D → Entry → Reply → Held D → Type 0
Makes told_by failures old e reply new =
    (st : MachineState) → IsKeptState st → Stands told_by failures old st → (next : MachineState) × IsStep size st e reply next × Stands told_by failures new next

-- the same with the answer of a program
abbrev pub Steps : {D A : Type 0} → (D → Option Contents) → (D → ℕ) → Held D → Entry → (A → Answer) → Result A PadBad → Held D → Type 0
Steps told_by failures old e f r new = Makes told_by failures old e (replied f r) new
