use Rattle.std.proofs.Common.{refl, ap}
use Rattle.ep_cell.specs.History.{pairs}
use Rattle.ep_api.specs.Passes.{IsLacking}
use Rattle.ep_api.proofs.Halls.{legal_noted, own-noted, turned_away}
use Rattle.ep_api.proofs.visiting.enter.Goals as goal

pub returns-then-is_err-clause-none : goal.returns-then-is_err-clause-none
returns-then-is_err-clause-none g c = IsLacking refl refl

pub returns-in-Ok-clause-waits : goal.returns-in-Ok-clause-waits
returns-in-Ok-clause-waits g c = record { of = c.in-Ok.ensures.hall; legal = legal_noted _ _ _ _ _ c.in-Ok.ensures.noted c.requires.waits.legal }

pub returns-in-Ok-clause-enters : goal.returns-in-Ok-clause-enters
returns-in-Ok-clause-enters g c = record { hall = own-noted _ _ _ _ _ c.in-Ok.ensures.noted; name = c.in-Ok.ensures.name; none = ap pairs c.in-Ok.ensures.fresh.none }

pub returns-in-Err-clause-waits : goal.returns-in-Err-clause-waits
returns-in-Err-clause-waits g c = record { of = c.in-Err.ensures.hall; legal = legal_noted _ _ _ _ _ c.in-Err.ensures.noted c.requires.waits.legal }

pub returns-in-Err-clause-none : goal.returns-in-Err-clause-none
returns-in-Err-clause-none g c = turned_away _ _ _ _ c.in-Err.why c.in-Err.ensures.noted
