use Rattle.std.proofs.Common.{◌∙◌, ◌-◌, drop, length, ap, arith, length-drop}
use Rattle.ep_block_parts.proofs.Spans.{drop_left}
use Rattle.ep_block_parts.proofs.within.Within.skip.Goals as goal

pub stretches-preserved : goal.stretches-preserved
stretches-preserved c =
    let n = c.skip_stretch-left in
    let all = c.stretches.self in
    record {
      behind = ap (drop (c.stretches.left - n.result)) n.ensures.rest ∙ drop_left c.stretches.left n.result all n.ensures.units.1 ∙ c.stretches.invariant.behind;
      enough = omega (arith, c.stretches.invariant.enough, ap length n.ensures.rest, length-drop n.result all);
    }
