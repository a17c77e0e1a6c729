use Rattle.ep_history.proofs.Seats.{ends-older}
use Rattle.ep_history.proofs.laws.one_live_session_an_author.Goals as goal

pub returns : goal.returns
returns c = ends-older
