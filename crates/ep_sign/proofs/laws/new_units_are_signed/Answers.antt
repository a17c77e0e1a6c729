use Rattle.ep_sign.proofs.Signed.{new_units_are_signed}
use Rattle.ep_sign.proofs.laws.new_units_are_signed.Goals as goal

pub returns : goal.returns
returns c = new_units_are_signed
