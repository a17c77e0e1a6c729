use Rattle.ep_attr.proofs.Maps.{join-rest, early_comm, diamond}
use Rattle.ep_attr.proofs.laws.follow_meets.Goals as goal

pub returns : goal.returns
returns c = record { early = join-rest; turned = early_comm; diamond = diamond }
