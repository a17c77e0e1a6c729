use Rattle.ep_invert.proofs.Undone.{inverse_undoes}
use Rattle.ep_invert.proofs.laws.inverse_undoes.Goals as goal

pub returns : goal.returns
returns c e doc n is = inverse_undoes e doc n is.values
