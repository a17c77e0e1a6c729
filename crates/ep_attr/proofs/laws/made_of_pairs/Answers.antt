use Rattle.ep_attr.proofs.Maps.{last_counts, of_pairs-append, of_own_pairs}
use Rattle.ep_attr.proofs.laws.made_of_pairs.Goals as goal

pub returns : goal.returns
returns c = record { last = last_counts; parts = of_pairs-append; again = of_own_pairs }
