use Rattle.ep_import.proofs.Again.{imports_back}
use Rattle.ep_import.proofs.laws.an_export_is_imported.Goals as goal

pub returns : goal.returns
returns c = imports_back
