use Rattle.ep_cs.proofs.Plain.{text_of-plain}
use Rattle.ep_cs.proofs.laws.plain_is_its_text.Goals as goal

pub returns : goal.returns
returns c = text_of-plain
