-- Working words of private contracts: what a refusal is made of.
use Rattle.std.specs.Prelude.{ℕ, ◌≡◌, ◌⊎◌, List}
use Rattle.ep_units.specs.Utf8.{units_of}
use Rattle.ep_outside.specs.declared.keeper.KeepBad.{KeepBad}
use Rattle.ep_outside.specs.declared.keeper.KeepBad.TheVariants as keep
use Rattle.ep_dir_records.specs.declared.dir_bad.DirBad.{DirBad}
use Rattle.ep_dir_records.specs.declared.dir_bad.DirBad.TheVariants.{Keeper, Kept, NoMemory}

-- what a refusal of the keeper is here, by its count of faults
abbrev pub fault_of : ℕ → KeepBad → DirBad
fault_of n keep.Failed = Keeper n
fault_of n keep.NoMemory = NoMemory

-- the refusal is of this key's value, or for memory
abbrev pub IsKept : List ℕ → DirBad → Type 0
IsKept key bad = (bad ≡ Kept (units_of key)) ⊎ (bad ≡ NoMemory)
