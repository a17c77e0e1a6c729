-- Files under their names, and the verdicts on them.
use Rattle.std.specs.Prelude.{ℕ, ◌≡◌, ◌⊎◌, List, ◌++◌, map, option_map, All, Option, Some, None}
use Rattle.std.specs.List.{sum_by}
use Rattle.ep_outside.specs.Disk.{Contents}
use Rattle.ep_outside.specs.Shelf.{with_name}
use Rattle.ep_verify.specs.declared.verdict.Verdict.{Verdict}
use Rattle.ep_verify.specs.declared.running.Running.{Running}
use Rattle.ep_verify.specs.Verdicts.{IsWhat}

-- where a file is told, it is this one
abbrev pub IsFile : Option Contents → List ℕ → Type 0
IsFile None bytes = Unit {0}
IsFile (Some c) bytes = bytes ≡ c.seen

-- the verdict is what the file under its name is: the one that is told, where it is told
abbrev pub IsVerdict : (List ℕ → Option Contents) → Verdict → Type 0
IsVerdict told v = (bytes : List ℕ) × IsFile (told v.name) bytes × IsWhat bytes v.what

-- ---- files that threads judge

-- a thread's verdict on its file
pub record IsVerdictOn (file : Running) (v : Verdict) : Type 0 where
  pub name : v.name ≡ file.name
  pub what : IsWhat file.child.promise.0.value.items v.what

-- the file is the one that is told under its name
abbrev pub IsTold : (List ℕ → Option Contents) → Running → Type 0
IsTold told file = IsFile (told file.name) file.child.promise.0.value.items

-- how many bytes these files have
abbrev pub bytes_held : List Running → ℕ
bytes_held files = sum_by (λ f. f.size) files

-- the names of these verdicts and then of these files
abbrev pub names_in : List Verdict → List Running → List (List ℕ)
names_in verdicts files = map (λ v. v.name) verdicts ++ map (λ f. f.name) files

-- they are what is told
pub record AreTold (told : List ℕ → Option Contents) (verdicts : List Verdict) (files : List Running) : Type 0 where
  pub judged : All (IsVerdict told) verdicts
  pub held : All (IsTold told) files

-- a shelf's names are as they were, or with this one among them
abbrev pub MayPut : List ℕ → Option (List (List ℕ)) → Option (List (List ℕ)) → Type 0
MayPut name old new = (new ≡ old) ⊎ (new ≡ option_map (λ ns. with_name ns name) old)
