use Rattle.ep_invert.proofs.Undone.{inverse_items}
use Rattle.ep_invert.proofs.laws.inverse_keeps_what_was_kept.Goals as goal

pub returns : goal.returns
returns c = inverse_items
