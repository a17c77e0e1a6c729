use Rattle.std.proofs.Common.{◌∙◌, ap₂, refl}
use Rattle.ep_attr.specs.AttrMap.{same_pairs}
use Rattle.ep_attr.proofs.SameMap.{equal_pairs}
use Rattle.ep_attr.proofs.same.AttrMapPartialEq.eq.Goals as goal

pub returns-in_default : goal.returns-in_default
returns-in_default c = c.eq.ensures ∙ equal_pairs _ (λ a b. refl) c.pairs.result.now c.pairs-2.result.now ∙ ap₂ same_pairs c.pairs.ensures c.pairs-2.ensures
