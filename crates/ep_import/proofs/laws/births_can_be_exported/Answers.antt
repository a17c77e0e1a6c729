use Rattle.ep_import.proofs.Exportable.{exportable}
use Rattle.ep_import.proofs.laws.births_can_be_exported.Goals as goal

pub returns : goal.returns
returns c = exportable
