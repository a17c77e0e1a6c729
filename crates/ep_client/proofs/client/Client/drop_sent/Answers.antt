use Rattle.std.proofs.Common.{refl, ap, ◌∙◌}
use Rattle.ep_cs.specs.Fits.{is_identity}
use Rattle.ep_history.specs.Kept.{KeptClient}
use Rattle.ep_client.proofs.Keeping.{held-nop}
use Rattle.ep_client.proofs.client.Client.drop_sent.Goals as goal

pub invariant_of-self : goal.invariant_of-self
invariant_of-self c = held-nop c.self.inside _ c.self.invariant (ap (λ (k : KeptClient). is_identity k.sent) c.self.view_is ∙ c.requires) refl refl refl refl
