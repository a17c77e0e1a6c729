-- Which calls of a device fail, where it tells that beforehand, as devices in memory do.
use Rattle.std.specs.Prelude.{ℕ, ◌≡◌, ◌↔◌, List, Option, Some, None, Contains}
use Rattle.ep_outside.specs.Outside.{risen}

-- how many calls were made, and the numbers of those that fail, counted from 1
pub record Plan : Type 0 where
  pub made : ℕ
  pub fails : List ℕ

-- the plan before the first call
abbrev pub planned : List ℕ → Plan
planned fails = record { made = 0; fails = fails }

-- the plan after one call more
abbrev pub with_call : Plan → Plan
with_call plan = record { made = risen plan.made; fails = plan.fails }

-- a call of a device that tells its plan: it fails exactly where the plan has its number
abbrev pub Follows : Option Plan → Option Plan → Type 0 → Type 0
Follows None now Fails = Unit {0}
Follows (Some plan) now Fails = (now ≡ Some (with_call plan)) × (Fails ↔ Contains plan.fails (risen plan.made))
