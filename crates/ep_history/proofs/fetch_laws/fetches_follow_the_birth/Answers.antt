use Rattle.ep_history.proofs.Fetching.{login-behind, resume-behind}
use Rattle.ep_history.proofs.fetch_laws.fetches_follow_the_birth.Goals as goal

pub returns : goal.returns
returns c = record { login = login-behind; resume = resume-behind }
