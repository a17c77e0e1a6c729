use Rattle.ep_fetches.proofs.Whole.{login-document, start-document}
use Rattle.ep_fetches.proofs.laws.documents_follow.Goals as goal

pub returns : goal.returns
returns c = record { start = start-document; login = login-document }
