use Rattle.std.proofs.Common.{arith, ◌∙◌}
use Rattle.ep_units.proofs.Lone.{lone_from_passed}
use Rattle.ep_units.proofs.halves.first_lone.Goals as goal

pub loop-at-preserved : goal.loop-at-preserved
loop-at-preserved c =
    lone_from_passed c.args.units.now c.loop-at.at c.loop-at.paired _ _ (omega arith) c.stands_alone.ensures c.if-stands_alone.false c.is_high-paired.ensures ∙ c.loop-at.invariant
