use Rattle.std.proofs.Common.{◌∙◌}
use Rattle.ep_api.proofs.Grouped.{grouped}
use Rattle.ep_api.proofs.both.has_group.Goals as goal

pub returns : goal.returns
returns c = c.is_some.ensures ∙ grouped _ _ c.args.id.now c.group.ensures
