use Rattle.ep_units.proofs.Reading.{read36-write36}
use Rattle.ep_units.proofs.laws.write36_is_read_back.Goals as goal

pub returns : goal.returns
returns c = read36-write36
