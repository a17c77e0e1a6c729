use Rattle.ep_formats.proofs.Again.{again}
use Rattle.ep_formats.proofs.laws.what_is_written_is_read.Goals as goal

pub returns : goal.returns
returns c = again
