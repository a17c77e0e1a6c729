use Rattle.std.proofs.Common.{subst}
use Rattle.ep_history.specs.Kept.{IsKeptSound}
use Rattle.ep_client.proofs.Sound.{held-sound}
use Rattle.ep_client.proofs.client.Client.equations.Goals as goal

pub returns : goal.returns
returns c = subst IsKeptSound c.self.view_is (held-sound c.self.inside c.self.invariant c.ops-sent.ensures.normal c.ops-local.ensures.normal)
