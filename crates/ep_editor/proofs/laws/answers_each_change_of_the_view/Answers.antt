use Rattle.ep_editor.proofs.Rules.{shows-each}
use Rattle.ep_editor.proofs.laws.answers_each_change_of_the_view.Goals as goal

pub returns : goal.returns
returns c = shows-each
