-- What is done for a request, and what comes of it.
use Rattle.std.specs.Prelude.{ℕ, ◌≡◌, ◌⊎◌, ◌%◌, Bool, true, false, List, [], ◌∷◌, ◌++◌, map, length, Result, Ok, Err}
use Rattle.atomic_table.specs.Seated.{TableId}
use Rattle.ep_dir_records.specs.declared.ids.Drawn.{Drawn}
use Rattle.ep_dir_records.specs.declared.dir_bad.DirBad.{DirBad}
use Rattle.ep_groups.specs.declared.entries.DirEntry.{DirEntry}
use Rattle.ep_groups.specs.declared.entries.DirReply.{DirReply}
use Rattle.ep_history.specs.declared.pad_bad.PadBad.{PadBad}
use Rattle.ep_pad.specs.declared.entries.PadEntry.{PadEntry}
use Rattle.ep_pad.specs.declared.entries.PadReply.{PadReply}
use Rattle.ep_history.specs.declared.pad_bad.PadBad.TheVariants.{Gone}
use Rattle.ep_pad.specs.declared.wanted.Wanted.{Wanted}
use Rattle.ep_pad.specs.declared.pass_bad.PassBad.{PassBad}
use Rattle.ep_pad.specs.declared.pass_bad.PassBad.TheVariants as pass
use Rattle.ep_ask.specs.declared.bad.ApiBad.{ApiBad}
use Rattle.ep_ask.specs.declared.bad.ApiBad.TheVariants.{NoMemory}
use Rattle.ep_api.specs.Causes.{of_dir, of_pass, with_cause}

-- What was done
pub data Did : Type 0 where
  -- these numbers were drawn
  Drew : List ℕ → Did
  -- the directory was asked, and replied
  Asked : DirEntry → DirReply → Did
  -- a pass that was asked for was not given
  Refused : Wanted → PassBad → Did
  -- a pass that was asked for was given, and made these calls
  Stayed : Wanted → TableId → List (PadEntry × PadReply) → Did

-- A task says what may be done for it, in this order and nothing else, and what may come of that
abbrev pub Task : Type 0 → Type 1
Task A = List Did → Result A ApiBad → Type 0

-- ---- without a call

-- nothing is done, and this comes of it
abbrev pub done : {A : Type 0} → A → Task A
done x log r = (log ≡ []) × (r ≡ Ok x)

-- nothing is done, and this refusal comes of it
abbrev pub refuse : {A : Type 0} → ApiBad → Task A
refuse why log r = (log ≡ []) × (r ≡ Err why)

-- this comes of it, or no memory is found for it
abbrev pub copied : {A : Type 0} → A → Task A
copied x log r = (log ≡ []) × ((r ≡ Ok x) ⊎ (r ≡ Err NoMemory))

-- ---- one call

-- ten numbers are drawn, each modulo 36
pub record IsDraw (log : List Did) (r : Result Drawn ApiBad) : Type 0 where
  pub numbers : List ℕ
  pub drawn : Drawn
  pub ten : length numbers ≡ 10
  pub digits : drawn.digits ≡ map (λ n. n % 36) numbers
  pub all : log ≡ Drew numbers ∷ []
  pub comes : r ≡ Ok drawn

abbrev pub draw : Task Drawn
draw = IsDraw

-- the directory is asked, and its answer comes of it
pub data IsAsk {A : Type 0} (e : DirEntry) (kind : Result A DirBad → DirReply) (log : List Did) (r : Result A ApiBad) : Type 0 where
  Replies : (x : Result A DirBad) → log ≡ Asked e (kind x) ∷ [] → r ≡ with_cause of_dir x → IsAsk e kind log r
  -- no memory is found for the call
  Lacks : log ≡ [] → r ≡ Err NoMemory → IsAsk e kind log r

abbrev pub ask : {A : Type 0} → DirEntry → (Result A DirBad → DirReply) → Task A
ask e kind = IsAsk e kind

-- what comes of a pass that is refused: that nobody has made the pad is judged as an absent pad's refusal
abbrev pub turned : {A : Type 0} → (Result A PadBad → Result A ApiBad) → PassBad → Result A ApiBad
turned judge pass.Absent = judge (Err Gone)
turned judge why = Err (of_pass why)

-- a pass of a pad is taken, the pad is asked, and its answer comes of it, as it is judged
pub data IsVisit {A : Type 0} (wanted : Wanted) (e : PadEntry) (kind : Result A PadBad → PadReply) (judge : Result A PadBad → Result A ApiBad) (log : List Did) (r : Result A ApiBad) : Type 0 where
  Answers : (cell : TableId) (x : Result A PadBad) → log ≡ Stayed wanted cell ((e, kind x) ∷ []) ∷ [] → r ≡ judge x → IsVisit wanted e kind judge log r
  -- no pass is given
  IsRefused : (why : PassBad) → log ≡ Refused wanted why ∷ [] → r ≡ turned judge why → IsVisit wanted e kind judge log r
  -- no memory is found for the call
  IsIdle : (cell : TableId) → log ≡ Stayed wanted cell [] ∷ [] → r ≡ Err NoMemory → IsVisit wanted e kind judge log r
  -- no memory is found for the pass
  IsOut : log ≡ [] → r ≡ Err NoMemory → IsVisit wanted e kind judge log r

abbrev pub visit : {A : Type 0} → Wanted → PadEntry → (Result A PadBad → PadReply) → (Result A PadBad → Result A ApiBad) → Task A
visit wanted e kind judge = IsVisit wanted e kind judge

-- ---- one task, and then another

pub data IsThen {A B : Type 0} (p : Task A) (f : A → Task B) (log : List Did) (r : Result B ApiBad) : Type 0 where
  -- the first task comes to a value, and the other goes on from it
  Goes : (x : A) (before after : List Did) → p before (Ok x) → f x after r → log ≡ before ++ after → IsThen p f log r
  -- the first task is refused, and this is told
  Stops : (why : ApiBad) → p log (Err why) → r ≡ Err why → IsThen p f log r

infixl 10 ◌>>=◌
abbrev pub ◌>>=◌ : {A B : Type 0} → Task A → (A → Task B) → Task B
p >>= f = IsThen p f

-- ---- one of two tasks

abbrev pub if_so : {A : Type 0} → Bool → Task A → Task A → Task A
if_so true p q = p
if_so false p q = q
