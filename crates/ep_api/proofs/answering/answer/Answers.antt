use Rattle.ep_api.proofs.Serving.{both_ok, serves_refusal}
use Rattle.ep_api.proofs.answering.answer.Goals as goal

pub returns-in-Err-clause-serves : goal.returns-in-Err-clause-serves
returns-in-Err-clause-serves g c = both_ok _ _ _ c.refused.result
    (λ a tells bare. serves_refusal _ _ g.P.PadPort.known g.P.PadPort.name_of g.P.PadPort.cell_of _ _ _ _ _ _ a c.in-Err.ensures.err tells bare)
    c.refused.ensures.tells c.refused.ensures.none
