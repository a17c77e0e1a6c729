use Rattle.ep_units.proofs.Back.{units_of-utf8_of, utf8_of-units_of}
use Rattle.ep_units.proofs.laws.utf8_and_units_are_one.Goals as goal

pub returns : goal.returns
returns c = record { units = units_of-utf8_of; utf8 = utf8_of-units_of }
