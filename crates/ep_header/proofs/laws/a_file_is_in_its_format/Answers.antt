use Rattle.ep_header.proofs.Formats.{in_its_format}
use Rattle.ep_header.proofs.laws.a_file_is_in_its_format.Goals as goal

pub returns : goal.returns
returns c = in_its_format
