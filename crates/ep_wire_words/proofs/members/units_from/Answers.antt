use Rattle.ep_wire_words.proofs.Ids.{units_are_text}
use Rattle.ep_wire_words.proofs.members.units_from.Goals as goal

pub returns-clause-text : goal.returns-clause-text
returns-clause-text c = units_are_text c.args.text.now _ c.in_ok-from_str.ensures.units c.utf8.text c.in_ok-from_str.ensures.well_formed
