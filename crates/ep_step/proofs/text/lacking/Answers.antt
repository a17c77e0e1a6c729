use Rattle.std.proofs.Common.{not, ap, ◌∙◌}
use Rattle.ep_units.specs.Text.{ends_in_newline}
use Rattle.ep_step.proofs.Lengths.{as_number}
use Rattle.ep_step.proofs.Setting.{lacking-is}
use Rattle.ep_step.proofs.text.lacking.Goals as goal

pub returns : goal.returns
returns c = c.from.ensures ∙ as_number (not c.ends_in_newline.result) ∙ lacking-is c.args.text.now c.ends_in_newline.result (c.ends_in_newline.ensures ∙ ap ends_in_newline c.as_slice.ensures)
