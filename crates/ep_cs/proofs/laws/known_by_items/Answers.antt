use Rattle.ep_cs.proofs.Items.{settled-compose, length-compose, same_edit}
use Rattle.ep_cs.proofs.laws.known_by_items.Goals as goal

pub returns : goal.returns
returns c = record { settled = settled-compose; length = length-compose; one = same_edit }
