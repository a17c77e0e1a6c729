use Rattle.std.proofs.Common.{refl}
use Rattle.ep_csread.specs.Spelling.{pairs_named}
use Rattle.ep_csread.proofs.Printed.{attribs_read}
use Rattle.ep_csread.proofs.WirePool.{named_there}
use Rattle.ep_csread.proofs.read_again.attribs_are_read.Goals as goal

pub returns : goal.returns
returns c = λ change few is empty. attribs_read (pairs_named change.runs) change few (named_there (pairs_named change.runs) change.runs change.runs refl refl) is empty
