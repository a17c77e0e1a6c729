use Rattle.ep_header.proofs.Formats.{in_one_format}
use Rattle.ep_header.proofs.laws.a_long_file_is_in_one_format.Goals as goal

pub returns : goal.returns
returns c = in_one_format
