-- Working words of private contracts: whether a disk in memory never fails, and which of its calls do.
use Rattle.std.specs.Prelude.{Bool, ◌&&◌, ◌==◌, is_none, ◌≡◌, true, ℕ, Option, Some, None}
use Rattle.std.proofs.lemmas.Bool.{and_parts, eqb-true}
use Rattle.ep_outside.specs.Planned.{Plan}
use Rattle.ep_disk_mem.specs.declared.faults.Faults.{Faults}
use Rattle.ep_disk_mem.specs.Faults.{fails_never, plan_of}
use Rattle.ep_disk_mem.specs.declared.disk_calls.DiskCalls.{DiskCalls}

-- no call is to fail, no stop was asked for, and none has failed
abbrev pub is_sure : DiskCalls → Bool
is_sure c = fails_never c.faults && (is_none c.left && (c.faults.failures == 0))

pub never : (c : DiskCalls) → is_sure c ≡ true → c.faults.failures ≡ 0
never c sure = eqb-true c.faults.failures 0 (and_parts (is_none c.left) (c.faults.failures == 0) (and_parts (fails_never c.faults) (is_none c.left && (c.faults.failures == 0)) sure).1).1

-- which calls fail, unless a stop was asked for
abbrev pub plan_till : Option ℕ → Faults → Option Plan
plan_till None f = Some (plan_of f)
plan_till (Some calls) f = None
