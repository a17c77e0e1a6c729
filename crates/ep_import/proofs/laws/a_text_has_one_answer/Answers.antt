use Rattle.ep_import.proofs.Once.{imports_once}
use Rattle.ep_import.proofs.laws.a_text_has_one_answer.Goals as goal

pub returns : goal.returns
returns c = imports_once
