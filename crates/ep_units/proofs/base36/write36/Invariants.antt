use Rattle.std.proofs.Common.{◌≡◌, ◌+◌, ◌^◌, ◌<◌, ◌++◌, length, drop}
use Rattle.ep_units.specs.Base36.{write36}
use Rattle.ep_units.proofs.base36.write36.Given as goal

-- what is left and the digits behind `at` spell the number, and what is left has at most `at` + 1 digits
abbrev pub invariant-loop-rest : goal.invariant-loop-rest
invariant-loop-rest l =
    (l.at < 13) × (length l.digits ≡ 13) × (l.rest < 36 ^ (l.at + 1)) × (write36 l.rest ++ drop (l.at + 1) l.digits ≡ write36 l.n)

abbrev pub decreases-loop-rest : goal.decreases-loop-rest
decreases-loop-rest l = l.rest
