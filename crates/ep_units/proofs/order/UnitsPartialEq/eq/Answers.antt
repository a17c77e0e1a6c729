use Rattle.std.proofs.Common.{◌∙◌}
use Rattle.std.specs.Cmp.Lexicographic.{texts_ties}
use Rattle.ep_units.proofs.order.UnitsPartialEq.eq.Goals as goal

pub returns : goal.returns
returns c = rw (c.as_slice.ensures, c.as_slice-2.ensures) at c.eq.ensures ∙ texts_ties c.args.self.now c.args.other.now
