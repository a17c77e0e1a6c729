use Rattle.ep_history.proofs.Fetching.{login-told, resume-told}
use Rattle.ep_history.proofs.fetch_laws.fetches_tell_what_became_nothing.Goals as goal

pub returns : goal.returns
returns c = record { login = login-told; resume = resume-told }
