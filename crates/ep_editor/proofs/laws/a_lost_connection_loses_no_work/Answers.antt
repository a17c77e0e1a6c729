use Rattle.ep_editor.proofs.Rules.{keeps-work}
use Rattle.ep_editor.proofs.laws.a_lost_connection_loses_no_work.Goals as goal

pub returns : goal.returns
returns c = keeps-work
