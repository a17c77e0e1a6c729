use Rattle.ep_apply.proofs.Again.{inserted_again, insertion_fits}
use Rattle.ep_apply.proofs.laws.inserted_again.Goals as goal

pub returns : goal.returns
returns c = record { fits = insertion_fits; document = inserted_again }
