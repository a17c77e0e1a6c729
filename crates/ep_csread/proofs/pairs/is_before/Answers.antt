use Rattle.std.proofs.Common.{◌∙◌, Option, sym, ap}
use Rattle.std.proofs.lemmas.Bool.{le-ltb}
use Rattle.ep_attr.specs.AttrMap.{AttrMap, same_map}
use Rattle.ep_csread.specs.Before.{map_before, is_before}
use Rattle.ep_csread.proofs.Walking.{map_at_is, map_at_past}
use Rattle.ep_csread.proofs.pairs.is_before.Goals as goal

pub returns-then-i-ops : goal.returns-then-i-ops
returns-then-i-ops c =
    c.eq.ensures ∙ ap (λ o. same_map o.attrs c.args.attrs.now) (sym c.index-ops-i.is)
    ∙ sym (ap (λ (m : Option AttrMap). is_before m c.args.attrs.now) (ap (map_before c.args.ops.now) c.in-Some.is ∙ map_at_is c.args.ops.now c.in-Some.i c.index-ops-i.result c.if-i-ops.true c.index-ops-i.is))

pub returns-else-i-ops : goal.returns-else-i-ops
returns-else-i-ops c =
    le-ltb _ _ c.if-i-ops.false
    ∙ sym (ap (λ (m : Option AttrMap). is_before m c.args.attrs.now) (ap (map_before c.args.ops.now) c.in-Some.is ∙ map_at_past c.args.ops.now c.in-Some.i c.if-i-ops.false))
