-- How judging a shelf ends.
use Rattle.std.specs.Prelude.{ℕ, ◌≡◌, ◌≤◌, ◌⊎◌, List, Option, Result, Ok, Err}
use Rattle.ep_outside.specs.Disk.{Contents}
use Rattle.ep_outside.specs.Shelf.{Holds}
use Rattle.ep_verdicts.specs.Written.{Writes, WritesPart}
use Rattle.ep_verdicts.specs.declared.found.Found.{Found}
use Rattle.ep_verdicts.specs.declared.found.Found.TheVariants.{Sound, Broken}
use Rattle.ep_verdicts.specs.declared.verdicts_bad.VerdictsBad.{VerdictsBad}
use Rattle.ep_verdicts.specs.declared.verdicts_bad.VerdictsBad.TheVariants.{Shelf, Disk, Sink, NoMemory}

-- the status of an answer
abbrev pub code_of : {D : Type 0} → Result Found (VerdictsBad D) → ℕ
code_of (Ok Sound) = 0
code_of (Ok Broken) = 1
code_of (Err Sink) = 5
code_of (Err (Shelf n)) = 6
code_of (Err (Disk d)) = 6
code_of (Err NoMemory) = 7

-- nothing was written, or a beginning of the lines of verdicts on all files
abbrev pub MayWrite : {K : Type 0} → (K → Option (List ℕ)) → Option (List (List ℕ)) → (List ℕ → Option Contents) → K → K → Type 0
MayWrite held names told old new = (new ≡ old) ⊎ WritesPart names told (held old) (held new)

-- a disk failed that tells what was told of some name
abbrev pub FailsBy : {D : Type 0} → (D → Option Contents) → (D → ℕ) → (List ℕ → Option Contents) → Type 0
FailsBy {D} disk_told failures told = (d : D) × ((name : List ℕ) × Holds (told name) (disk_told d)) × (1 ≤ failures d)

-- Judging a shelf that tells this ended so: 0 where all lines were written and no file is broken, 1 where they were and one is;
-- 6 where nothing was, and at any other status nothing or a beginning of them
pub record Judges {K : Type 0} (names : Option (List (List ℕ))) (told : List ℕ → Option Contents) (held : K → Option (List ℕ)) (old new : K) (code : ℕ) : Type 0 where
  pub sound : code ≡ 0 → Writes names told (held old) (held new) Sound
  pub broken : code ≡ 1 → Writes names told (held old) (held new) Broken
  pub part : MayWrite held names told old new
  pub unjudged : code ≡ 6 → new ≡ old
