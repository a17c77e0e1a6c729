use Rattle.ep_pad_file.proofs.Telling.{holds_still}
use Rattle.ep_pad_file.proofs.pad_file.PadFile.stop_after.Goals as goal

pub returns-clause-settled : goal.returns-clause-settled
returns-clause-settled g c rs ready h = holds_still _ _ _ _ rs c.stop_after.ensures.told ready.held h
