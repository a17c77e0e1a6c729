use Rattle.std.proofs.Common.{◌∙◌, sym}
use Rattle.ep_block_parts.proofs.Texts.{last_high}
use Rattle.ep_block_parts.proofs.seen.ends_high.Goals as goal

pub returns-in-len1-up : goal.returns-in-len1-up
returns-in-len1-up c = c.is_high.ensures ∙ sym (last_high c.args.text.now c.in-len1-up.len_at_least)
