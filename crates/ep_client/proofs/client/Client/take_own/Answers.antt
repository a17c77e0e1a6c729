use Rattle.std.proofs.Common.{refl}
use Rattle.ep_client.proofs.Keeping.{held-own}
use Rattle.ep_client.proofs.client.Client.take_own.Goals as goal

pub invariant_of-self : goal.invariant_of-self
invariant_of-self c = held-own c.self.inside _ c.self.invariant c.in_ok-doc.ensures refl refl c.unchanged-sent.ensures.edit c.unchanged-sent.ensures.fits
