use Rattle.std.proofs.Common.{refl, inl}
use Rattle.ep_pad.specs.declared.entries.PadReply.TheVariants as replied
use Rattle.ep_api.proofs.Halls.{no_visit, stand_after, stand_same, visited}
use Rattle.ep_api.proofs.visiting.delete_if_there.Goals as goal

pub returns-in-Err-clause-visits : goal.returns-in-Err-clause-visits
returns-in-Err-clause-visits g c = no_visit g.P.PadPort.known g.P.PadPort.name_of g.P.PadPort.cell_of _ _ _ _ _ _ _ _ c.in-Err.why _ c.in-Err.ensures.none c.in-Err.ensures.same c.unless_absent.ensures

pub returns-in-Err-clause-stand : goal.returns-in-Err-clause-stand
returns-in-Err-clause-stand g c = stand_same _ _ _ _ _ _ _ _ c.requires.stand c.in-Err.ensures.same

pub returns-clause-stand : goal.returns-clause-stand
returns-clause-stand g c = stand_after _ _ _ _ _ _ _ _ _ _ replied.Done c.in-Ok.pass _ _ c.requires.stand c.in-Ok.ensures.same c.in-Ok.ensures.stands c.delete-told.ensures.of c.delete-told.ensures.pad.2 (inl c.delete-told.ensures.asks) c.push_reserved.ensures.items

pub returns-clause-visits : goal.returns-clause-visits
returns-clause-visits g c = visited g.P.PadPort.known g.P.PadPort.name_of g.P.PadPort.cell_of _ _ _ _ _ _ _ _ replied.Done _ c.in-Ok.pass _ c.delete-told.result _ c.in-Ok.ensures.enters c.in-Ok.ensures.same (c.delete-told.ensures.pad.0, c.delete-told.ensures.pad.1) (inl c.delete-told.ensures.asks) c.push_reserved.ensures.items c.or_absent.ensures refl
