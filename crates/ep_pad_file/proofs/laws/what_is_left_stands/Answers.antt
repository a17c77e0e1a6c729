use Rattle.ep_pad_file.proofs.Left.{left_stands, left_mends}
use Rattle.ep_pad_file.proofs.laws.what_is_left_stands.Goals as goal

pub returns-clause-stands : goal.returns-clause-stands
returns-clause-stands c = left_stands

pub returns-clause-mended : goal.returns-clause-mended
returns-clause-mended c = left_mends
