-- What a pad machine may reply to each entry, and its state then; and its legal histories.
use Rattle.std.specs.Prelude.{◌≡◌, ℕ, suc, ◌+◌, ◌-◌, ◌^◌, ◌<◌, ◌≤◌, Bool, true, false, nat_lt, List, [], ◌∷◌, ◌++◌, sum_by, Option, Some, None, Ok, Err, ◌⊎◌}
use Rattle.ep_history.specs.Pad.{PadState, reopened}
use Rattle.ep_history.specs.Refusals.{first_fault, fault_if}
use Rattle.ep_history.specs.Records.{AreLegal, AreNext, IsKept, told, told_from}
use Rattle.ep_history.specs.Readings.{Committed}
use Rattle.ep_history.specs.Entries.{Entry, Answer, Reply, Outcome, outcome, is_recordable}
use Rattle.ep_history.specs.Entries.Entry.{ReadHistory}
use Rattle.ep_history.specs.Entries.Answer.{CommitAnswer}
use Rattle.ep_history.specs.Entries.Outcome.{Refuses, Answers, Records}
use Rattle.ep_history.specs.declared.pad_bad.PadBad.{PadBad}
use Rattle.ep_history.specs.declared.pad_bad.PadBad.TheVariants.{JournalFull, Store, NoMemory}
use Rattle.ep_outside.specs.declared.limits.Limits.{Limits}
use Rattle.ep_history.specs.declared.record.Record.{Record}
use Rattle.ep_history.specs.declared.record.Record.TheVariants as record_of

-- the records that are kept, the pad with the sessions of this opening, whether it is open, the record that it was to
-- keep when its store failed, and how many faults the store has counted. Whether the pending record is kept too is
-- settled by the next opening that finds the file whole; there is none while the machine is open. While it is closed its
-- sessions are of no account.
pub record MachineState : Type 0 where
  pub records : List Record
  pub pad : PadState
  pub is_open : Bool
  pub pending : List Record
  pub faults : ℕ

-- how many bytes each record has
abbrev pub Size : Type 0
Size = Record → ℕ

-- ---- the journal's limit

-- a record has at most so many bytes
abbrev pub most_bytes : ℕ
most_bytes = 67108864

-- the bytes of a file with these records: its first 8 and a last gate, and for each record a gate and 4 of its length
abbrev pub file_bytes : Size → List Record → ℕ
file_bytes size rs = 9 + sum_by (λ r. size r + 5) rs

-- how long a file may be with this record last: what brings no text has some room more, so that a pad that is full is
-- still opened, read and deleted
abbrev pub longest_with : Limits → Record → ℕ
longest_with limits (record_of.Open epoch) = limits.journal + limits.openings
longest_with limits (record_of.Delete time) = limits.journal + limits.openings
longest_with limits (record_of.Public on) = limits.journal + limits.openings
longest_with limits r = limits.journal

-- why a record isn't kept behind these: by itself, or with them, it is too long
abbrev pub journal_faults : Size → MachineState → Record → List (Option PadBad)
journal_faults size st r =
    let bytes = file_bytes size (st.records ++ r ∷ []) in
    fault_if (nat_lt most_bytes (size r)) (JournalFull (size r)) ∷ fault_if (nat_lt (longest_with st.pad.limits r) bytes) (JournalFull bytes) ∷ []

-- why a record isn't kept, if it isn't
abbrev pub journal_fault : Size → MachineState → Record → Option PadBad
journal_fault size st r = first_fault (journal_faults size st r)

-- ---- what an open machine is to do

-- a reply, and the state then
pub record Turn : Type 0 where
  pub reply : Reply
  pub state : MachineState

-- it refuses, and stays as it was
abbrev pub refusing : MachineState → PadBad → Turn
refusing st bad = record { reply = Err bad; state = st }

-- unless the record is too long it is kept, and then the pad is this
abbrev pub keeping : MachineState → Option PadBad → Record → Answer → PadState → Turn
keeping st (Some full) r answer pad = refusing st full
keeping st None r answer pad = record { reply = Ok answer; state = record st { records = st.records ++ r ∷ []; pad = pad } }

-- what an outcome comes to; what can't be recorded is answered as want of memory
abbrev pub turn_of : Size → MachineState → Bool → Outcome → Turn
turn_of size st can (Refuses bad) = refusing st bad
turn_of size st can (Answers answer pad) = record { reply = Ok answer; state = record st { pad = pad } }
turn_of size st false (Records r answer pad) = refusing st NoMemory
turn_of size st true (Records r answer pad) = keeping st (journal_fault size st r) r answer pad

-- what an entry comes to
abbrev pub turn : Size → MachineState → Entry → Turn
turn size st e = turn_of size st (is_recordable e) (outcome st.pad e)

-- ---- what a machine may do

-- the new state is this one, but that more faults may be counted
abbrev pub IsThen : MachineState → MachineState → Type 0
IsThen st new = (new ≡ record st { faults = new.faults }) × (st.faults ≤ new.faults)

-- the count of faults rose to this in the entry, or stands at the greatest that is counted
abbrev pub HasRisen : MachineState → MachineState → ℕ → Type 0
HasRisen st new count = (new.faults ≡ count) × ((st.faults < count) ⊎ (count ≡ 2 ^ 64 - 1))

-- a store that failed at a record closes the machine
abbrev pub closed : Record → MachineState → MachineState
closed r st = record st { is_open = false; pending = r ∷ [] }

-- at an entry an open machine does what it is to do; or changes nothing, for want of memory; or is closed, as its store
-- failed at the record of the entry
pub data IsOpenStep (size : Size) (st : MachineState) (e : Entry) (reply : Reply) (new : MachineState) : Type 0 where
  Does : reply ≡ (turn size st e).reply → IsThen (turn size st e).state new → IsOpenStep size st e reply new
  Lacks : reply ≡ Err NoMemory → IsThen st new → IsOpenStep size st e reply new
  Fails : (count : ℕ) (r : Record) → (turn size st e).state.records ≡ st.records ++ r ∷ [] → reply ≡ Err (Store count) → HasRisen st new count
      → IsThen (closed r st) new → IsOpenStep size st e reply new

-- an opening has found whether the pending record is kept
abbrev pub settled : Bool → MachineState → MachineState
settled true st = record st { records = st.records ++ st.pending; pad = told_from st.pad st.pending; pending = [] }
settled false st = record st { pending = [] }

-- the record of the next opening
abbrev pub open_record : MachineState → Record
open_record st = record_of.Open (suc st.pad.epoch)

-- it is opened, and all sessions are of older openings
abbrev pub reopening : MachineState → MachineState
reopening st = record st { records = st.records ++ open_record st ∷ []; pad = reopened st.pad; is_open = true }

-- once an opening has found the records it keeps its own, and then the machine is an open one; or it stays closed, as
-- that record is too long, or as its store failed at it
pub data IsFoundStep (size : Size) (st : MachineState) (e : Entry) (reply : Reply) (new : MachineState) : Type 0 where
  Opens : journal_fault size st (open_record st) ≡ None → IsOpenStep size (reopening st) e reply new → IsFoundStep size st e reply new
  IsFull : (full : PadBad) → journal_fault size st (open_record st) ≡ Some full → reply ≡ Err full → IsThen st new → IsFoundStep size st e reply new
  FailsOpened : (count : ℕ) → journal_fault size st (open_record st) ≡ None → reply ≡ Err (Store count) → HasRisen st new count
      → IsThen (closed (open_record st) st) new → IsFoundStep size st e reply new

-- at an entry a closed machine opens itself: it finds the records, the pending one among them or not; or it stays as it
-- is, as memory is wanting or its store failed. That the file is no journal's, or has a record that none can come
-- behind, is refused where others wrote it: of a machine's own file no history tells so.
pub data IsClosedStep (size : Size) (st : MachineState) (e : Entry) (reply : Reply) (new : MachineState) : Type 0 where
  Finds : (kept : Bool) → IsFoundStep size (settled kept st) e reply new → IsClosedStep size st e reply new
  LacksOpening : reply ≡ Err NoMemory → IsThen st new → IsClosedStep size st e reply new
  FailsOpening : (count : ℕ) → reply ≡ Err (Store count) → HasRisen st new count → IsThen st new → IsClosedStep size st e reply new

-- an entry, its reply, and the state then
abbrev pub IsStepAs : Bool → Size → MachineState → Entry → Reply → MachineState → Type 0
IsStepAs true size st e reply new = IsOpenStep size st e reply new
IsStepAs false size st e reply new = IsClosedStep size st e reply new

-- of an open machine, or of a closed one
abbrev pub IsStep : Size → MachineState → Entry → Reply → MachineState → Type 0
IsStep size st e reply new = IsStepAs st.is_open size st e reply new

-- a call has this condition alone: no piece of a history has more revisions
abbrev pub IsAllowed : Entry → Type 0
IsAllowed (ReadHistory s start count) = count ≤ 10000
IsAllowed e = Unit {0}

-- ---- what the laws say of a step

-- a refusal but by the store leaves an open machine as it was, and a closed one at most settled or opened
abbrev pub StaysAs : Bool → MachineState → MachineState → Type 0
StaysAs true st new = IsThen st new
StaysAs false st new = IsThen st new ⊎ ((kept : Bool) × (IsThen (settled kept st) new ⊎ IsThen (reopening (settled kept st)) new))

-- the records are a legal list that tells the pad apart from its sessions; a pending one may come next, and there is
-- none while the machine is open
pub record IsKeptState (st : MachineState) : Type 0 where
  pub kept : IsKept st.records st.pad
  pub pending : AreNext st.pad st.pending
  pub whole : st.is_open ≡ true → st.pending ≡ []

-- this is committed, with this record and the pad then, unless the journal's limit, the store or memory hinders it
abbrev pub CommitsUnless : MachineState → Committed → Record → PadState → Reply → MachineState → Type 0
CommitsUnless st told r pad (Ok answer) new = (answer ≡ CommitAnswer told) × (new.records ≡ st.records ++ r ∷ []) × (new.pad ≡ pad)
CommitsUnless st told r pad (Err (JournalFull bytes)) new = Unit {0}
CommitsUnless st told r pad (Err (Store count)) new = Unit {0}
CommitsUnless st told r pad (Err NoMemory) new = Unit {0}
CommitsUnless st told r pad (Err bad) new = ⊥

-- ---- legal histories

-- an entry with its reply
pub record Call : Type 0 where
  pub entry : Entry
  pub reply : Reply

-- these calls lead from one state to another
abbrev pub Runs : Size → MachineState → List Call → MachineState → Type 0
Runs size st [] last = last ≡ st
Runs size st (c ∷ cs) last = (next : MachineState) × IsStep size st c.entry c.reply next × Runs size next cs last

-- right after an opening: a legal list of records, the pad that it tells, and no session
pub record IsFirst (st : MachineState) : Type 0 where
  pub legal : AreLegal st.pad.limits st.records
  pub told : st.pad ≡ told st.pad.limits st.records
  pub opened : 1 ≤ st.pad.epoch
  pub is_open : st.is_open ≡ true
  pub pending : st.pending ≡ []

-- a legal history leads from some first state to some last one
abbrev pub IsLegal : Size → List Call → Type 0
IsLegal size calls = (first : MachineState) × (last : MachineState) × IsFirst first × Runs size first calls last
