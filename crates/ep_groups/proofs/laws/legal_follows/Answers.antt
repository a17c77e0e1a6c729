use Rattle.ep_groups.proofs.Legal
use Rattle.ep_groups.proofs.laws.legal_follows.Goals as goal

pub returns-clause-follows : goal.returns-clause-follows
returns-clause-follows g c = λ first h on legal. Legal.legal_follows g.K.Keeper.always_tells first h on legal

pub returns-clause-telling : goal.returns-clause-telling
returns-clause-telling g c = λ first h all legal. legal.1.0.telling all
