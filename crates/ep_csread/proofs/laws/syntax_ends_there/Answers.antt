use Rattle.ep_csread.proofs.Begun.{syntax_ends}
use Rattle.ep_csread.proofs.laws.syntax_ends_there.Goals as goal

pub returns : goal.returns
returns c = syntax_ends
