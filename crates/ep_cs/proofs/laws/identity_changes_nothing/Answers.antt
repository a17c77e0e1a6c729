use Rattle.ep_cs.proofs.Identity.{apply-identity, is_identity-identity, only_identity}
use Rattle.ep_cs.proofs.laws.identity_changes_nothing.Goals as goal

pub returns : goal.returns
returns c = record { applied = apply-identity; itself = is_identity-identity; one = only_identity }
