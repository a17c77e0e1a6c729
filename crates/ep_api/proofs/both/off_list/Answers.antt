use Rattle.std.proofs.Common.{◌∙◌, sym}
use Rattle.ep_api.proofs.Grouped.{off_grouped, off_lone}
use Rattle.ep_api.proofs.both.off_list.Goals as goal

pub returns-then-has_group-clause-does : goal.returns-then-has_group-clause-does
returns-then-has_group-clause-does g c = λ t hall pads. off_grouped _ _ _ _ (sym c.has_group.ensures ∙ c.if-has_group.true) (c.take_off.ensures.does t hall pads)

pub returns-else-has_group-clause-does : goal.returns-else-has_group-clause-does
returns-else-has_group-clause-does g c = λ t hall pads. off_lone c.args.id.now _ (sym c.has_group.ensures ∙ c.if-has_group.false)
