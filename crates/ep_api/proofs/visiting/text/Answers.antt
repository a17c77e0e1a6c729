use Rattle.std.proofs.Common.{refl, inl}
use Rattle.std.proofs.lemmas.Result.{err_from_is_err_and}
use Rattle.ep_pad.specs.declared.entries.PadReply.TheVariants as replied
use Rattle.ep_ask.specs.declared.param.Param.TheVariants.{PadId}
use Rattle.ep_api.proofs.Halls.{not_visited, plain, stand_after, stand_same, visited}
use Rattle.ep_api.proofs.visiting.text.Goals as goal

pub returns-in_err-pass-clause-visits : goal.returns-in_err-pass-clause-visits
returns-in_err-pass-clause-visits g c =
    let p = err_from_is_err_and c.from_residual.result c.from_residual.ensures.1 in
    rw (p.1, p.2) (not_visited g.P.PadPort.known g.P.PadPort.name_of g.P.PadPort.cell_of _ _ _ _ _ _ _ _ _ c.in_err-pass.ensures.none c.in_err-pass.ensures.same (plain PadId))

pub returns-in_err-pass-clause-stand : goal.returns-in_err-pass-clause-stand
returns-in_err-pass-clause-stand g c = stand_same _ _ _ _ _ _ _ _ c.requires.stand c.in_err-pass.ensures.same

pub returns-clause-stand : goal.returns-clause-stand
returns-clause-stand g c = stand_after _ _ _ _ _ _ _ _ _ _ replied.Text c.in_ok-pass.pass _ _ c.requires.stand c.in_ok-pass.ensures.same c.in_ok-pass.ensures.stands c.text-told.ensures.of c.text-told.ensures.pad.2 (inl c.text-told.ensures.asks) c.push_reserved.ensures.items

pub returns-clause-visits : goal.returns-clause-visits
returns-clause-visits g c = visited g.P.PadPort.known g.P.PadPort.name_of g.P.PadPort.cell_of _ _ _ _ _ _ _ _ replied.Text _ c.in_ok-pass.pass _ c.text-told.result _ c.in_ok-pass.ensures.enters c.in_ok-pass.ensures.same (c.text-told.ensures.pad.0, c.text-told.ensures.pad.1) (inl c.text-told.ensures.asks) c.push_reserved.ensures.items c.answered.ensures refl
