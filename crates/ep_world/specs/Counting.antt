-- Working words of private contracts: the count of faults of a machine's disk over a call.
use Rattle.std.specs.Prelude.{ℕ, ◌≤◌, Result, Ok, Err}
use Rattle.ep_world.specs.declared.bad.WorldBad.{WorldBad}
use Rattle.ep_world.specs.Failing.{IsCaused}

-- it doesn't fall, and a failure has its cause
abbrev pub Counts : {A : Type 0} → ℕ → ℕ → Result A WorldBad → Type 0
Counts before now (Ok x) = before ≤ now
Counts before now (Err b) = IsCaused before now b
