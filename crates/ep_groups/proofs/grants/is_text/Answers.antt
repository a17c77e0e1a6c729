use Rattle.std.proofs.Common.{◌∙◌}
use Rattle.std.specs.Cmp.Lexicographic.{texts_ties}
use Rattle.ep_groups.proofs.grants.is_text.Goals as goal

pub returns : goal.returns
returns c = rw c.as_slice.ensures at c.eq.ensures ∙ texts_ties c.args.text.now c.args.units.now
