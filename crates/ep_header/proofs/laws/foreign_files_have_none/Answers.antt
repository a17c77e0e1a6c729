use Rattle.ep_header.proofs.Formats.{foreign}
use Rattle.ep_header.proofs.laws.foreign_files_have_none.Goals as goal

pub returns : goal.returns
returns c = foreign
