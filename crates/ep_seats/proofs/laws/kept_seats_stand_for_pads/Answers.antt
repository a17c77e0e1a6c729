use Rattle.ep_seats.proofs.Standing.{told-of}
use Rattle.ep_seats.proofs.laws.kept_seats_stand_for_pads.Goals as goal

pub returns : goal.returns
returns c = told-of
