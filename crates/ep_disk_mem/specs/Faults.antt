-- Working words of private contracts: which calls of a device in memory fail.
use Rattle.std.specs.Prelude.{Bool, length, ◌==◌, ◌&&◌, ◌≡◌, true}
use Rattle.std.proofs.lemmas.Bool.{and_parts, eqb-true}
use Rattle.ep_outside.specs.Planned.{Plan}
use Rattle.ep_disk_mem.specs.declared.faults.Faults.{Faults}

-- no call's number is to fail
abbrev pub fails_never : Faults → Bool
fails_never f = length f.fails.items == 0

pub none_failed : (f : Faults) → fails_never f && (f.failures == 0) ≡ true → f.failures ≡ 0
none_failed f steady = eqb-true f.failures 0 (and_parts (fails_never f) (f.failures == 0) steady).1

-- the calls made, and those that fail
abbrev pub plan_of : Faults → Plan
plan_of f = record { made = f.made; fails = f.fails.items }
