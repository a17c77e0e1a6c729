use Rattle.ep_script.proofs.Whole.{texts_whole}
use Rattle.ep_script.proofs.fields.read_escaped.Goals as goal

pub returns-clause-texts : goal.returns-clause-texts
returns-clause-texts c = texts_whole c.in_ok-from_str.field-0 c.unescape-2.result c.in_ok-from_str.ensures.well_formed c.unescape-2.ensures
