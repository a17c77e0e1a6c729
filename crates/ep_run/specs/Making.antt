-- How making a schedule ends.
use Rattle.std.specs.Prelude.{ℕ, ◌≡◌, List, Option, Result, Ok, Err}
use Rattle.ep_make.specs.Made.{BeginsLines, IsMade}
use Rattle.ep_make.specs.declared.bad.MakeBad.{MakeBad}
use Rattle.ep_make.specs.declared.bad.MakeBad.TheVariants.{SinkFault, Failed}

-- the status of an answer
abbrev pub code_of : Result (Unit {0}) MakeBad → ℕ
code_of (Ok u) = 0
code_of (Err SinkFault) = 5
code_of (Err Failed) = 7

-- The schedule of a number ended so: at 0 its five lines were written, at 5 a beginning of them, and at 7 nothing
pub record MakesLines {K : Type 0} (held : K → Option (List ℕ)) (number clients edits : ℕ) (old new : K) (code : ℕ) : Type 0 where
  pub made : code ≡ 0 → IsMade number clients edits (held old) (held new)
  pub part : code ≡ 5 → BeginsLines number clients edits (held old) (held new)
  pub none : code ≡ 7 → new ≡ old
