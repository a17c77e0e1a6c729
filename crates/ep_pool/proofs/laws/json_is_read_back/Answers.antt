use Rattle.ep_pool.proofs.Back.{back}
use Rattle.ep_pool.proofs.laws.json_is_read_back.Goals as goal

pub returns : goal.returns
returns c = back
