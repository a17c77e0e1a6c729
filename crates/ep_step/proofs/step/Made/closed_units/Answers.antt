use Rattle.std.proofs.Common.{◌∙◌}
use Rattle.ep_step.proofs.Lengths.{closed-length}
use Rattle.ep_step.proofs.step.Made.closed_units.Goals as goal

pub returns : goal.returns
returns c = λ e head h. closed-length e head c.args.self.now c.from.result c.from-2.result c.args.lacks h (c.from.ensures ∙ c.len.ensures) c.from-2.ensures c.requires
