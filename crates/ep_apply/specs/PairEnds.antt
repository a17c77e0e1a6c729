-- Working words of the walk over runs: where pairs are cut, seen run by run, and so the first reason why runs don't fit a text.
use Rattle.std.specs.Prelude.{ℕ, ◌+◌, Bool, List, [], ◌∷◌, length, take, drop, if◌then◌else◌, Option, Some, None}
use Rattle.ep_units.specs.Text.{Text}
use Rattle.ep_cs.specs.Runs.{passed}
use Rattle.ep_cs.specs.declared.op.Op.{Op}
use Rattle.ep_cs.specs.declared.bad.FitBad.{FitBad}
use Rattle.ep_cs.specs.Fitting.{first_untrue, cuts, untrue_or}
use Rattle.ep_block_parts.specs.Seen.{ends_high}

-- the first pair that ends with a run
abbrev pub first_end : ℕ → List Op → Text → Option ℕ
first_end at [] us = if ends_high us then Some (at + length us) else None
first_end at (o ∷ os) us =
    if ends_high (take (passed o.kind o.units) us) then Some (at + passed o.kind o.units) else first_end (at + passed o.kind o.units) os (drop (passed o.kind o.units) us)

-- the first of two places, where one is there
abbrev pub first_of : Option ℕ → Option ℕ → Option ℕ
first_of None later = later
first_of (Some at) later = Some at

abbrev pub cut_at : Bool → ℕ → Option ℕ
cut_at high at = if high then Some at else None

-- the first reason why runs don't fit a text
abbrev pub runs_bad : List Op → Text → Option FitBad
runs_bad os us = untrue_or (first_untrue 0 os us) (cuts (first_end 0 os us))
