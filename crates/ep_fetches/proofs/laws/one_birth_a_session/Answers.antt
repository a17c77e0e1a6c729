use Rattle.ep_fetches.proofs.Whole.{legal-told, run-told}
use Rattle.ep_fetches.proofs.laws.one_birth_a_session.Goals as goal

pub returns : goal.returns
returns c = record { legal = legal-told; run = run-told }
