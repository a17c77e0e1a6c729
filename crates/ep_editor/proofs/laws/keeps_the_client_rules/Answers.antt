use Rattle.ep_editor.proofs.Rules.{keeps-rules}
use Rattle.ep_editor.proofs.laws.keeps_the_client_rules.Goals as goal

pub returns : goal.returns
returns c = keeps-rules
