use Rattle.std.proofs.Common.{◌∙◌, [], ap, sym}
use Rattle.ep_attr.specs.AttrMap.{same_pairs}
use Rattle.ep_attr.proofs.SameMap.{not_none}
use Rattle.ep_attr.proofs.attr_map.AttrMap.is_none.Goals as goal

pub returns-in-len1-up : goal.returns-in-len1-up
returns-in-len1-up c = sym (not_none c.pairs.result.now c.in-len1-up.len_at_least) ∙ ap (λ ps. same_pairs ps []) c.pairs.ensures
