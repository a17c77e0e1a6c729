use Rattle.std.proofs.Common.{Err, Ok}
use Rattle.std.proofs.lemmas.Result.{err_from_is_err_and}
use Rattle.serde_json.specs.View.{view}
use Rattle.ep_wire_words.specs.Server.{ReadsSlid, slid_members, slid_with}
use Rattle.ep_wire_words.specs.Pools.{ReadsSteps}
use Rattle.ep_wire.specs.ServerRows.{slid_view}
use Rattle.ep_wire_words.proofs.Refused.{behind, made_answers, made_refused, step_refused}
use Rattle.ep_wire.proofs.server_reader.slid.Goals as goal

pub returns-in_err-members-clause-answer : goal.returns-in_err-members-clause-answer
returns-in_err-members-clause-answer c =
    let p = err_from_is_err_and c.from_residual.result c.from_residual.ensures.1 in
    rw (p.1, p.2) (step_refused (slid_members (view c.args.value.now)) ReadsSlid c.in_err-members.field-0.0 c.in_err-members.ensures.exact)

pub returns-in_err-steps-clause-answer : goal.returns-in_err-steps-clause-answer
returns-in_err-steps-clause-answer c =
    let p = err_from_is_err_and c.from_residual-in_err-steps.result c.from_residual-in_err-steps.ensures.1 in
    let m = slid_view c.in_ok-members.members in
    let why = c.in_err-steps.field-0.0 in
    rw (p.1, p.2) (behind (slid_members (view c.args.value.now)) ReadsSlid m (Err why) c.in_ok-members.ensures.exact (made_refused (ReadsSteps m.pool m.backward m.forward) (slid_with m) why c.in_err-steps.ensures.answer))

pub returns-clause-answer : goal.returns-clause-answer
returns-clause-answer c =
    let m = slid_view c.in_ok-members.members in
    behind (slid_members (view c.args.value.now)) ReadsSlid m (Ok _) c.in_ok-members.ensures.exact (made_answers (ReadsSteps m.pool m.backward m.forward) (slid_with m) c.in_ok-steps.steps c.in_ok-steps.ensures.answer)
