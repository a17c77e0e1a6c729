use Rattle.ep_pad_file.proofs.Telling.{holds_settled}
use Rattle.ep_pad_file.proofs.pad_file.PadFile.count.Goals as goal

pub returns-clause-settled : goal.returns-clause-settled
returns-clause-settled g c rs h = holds_settled _ _ _ rs c.requires.held h
