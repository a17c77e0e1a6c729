use Rattle.std.proofs.Common.{not, sym, ap, ◌∙◌}
use Rattle.ep_step.proofs.Ending.{whole-lacking}
use Rattle.ep_step.proofs.newline.lacks_newline.Goals as goal

pub returns-else-len-eq0 : goal.returns-else-len-eq0
returns-else-len-eq0 c = ap not c.is_whole_lines.ensures ∙ sym (whole-lacking c.args.doc.now (λ e. c.if-len-eq0.false (c.len.ensures ∙ e)))
