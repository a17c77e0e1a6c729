use Rattle.std.proofs.Common.{subst}
use Rattle.ep_cs.specs.Edit.{apply}
use Rattle.ep_cs.specs.Fits.{Fits}
use Rattle.ep_history.specs.Kept.{KeptClient}
use Rattle.ep_client.proofs.client.Client.unsubmitted.Goals as goal

pub returns-clause-fits : goal.returns-clause-fits
returns-clause-fits c = subst (λ (k : KeptClient). Fits c.self.inside.local (apply k.sent k.doc)) c.self.view_is c.self.invariant.local
