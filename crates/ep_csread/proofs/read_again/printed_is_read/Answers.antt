use Rattle.ep_csread.proofs.Printed.{printed_read}
use Rattle.ep_csread.proofs.read_again.printed_is_read.Goals as goal

pub returns : goal.returns
returns c = printed_read
