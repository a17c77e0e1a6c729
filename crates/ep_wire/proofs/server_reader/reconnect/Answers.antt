use Rattle.std.proofs.Common.{Err, Ok}
use Rattle.std.proofs.lemmas.Result.{err_from_is_err_and}
use Rattle.serde_json.specs.View.{view}
use Rattle.ep_wire_words.specs.Server.{ReadsBack, back_members, back_with}
use Rattle.ep_wire_words.specs.Pools.{ReadsChange}
use Rattle.ep_wire.specs.ServerRows.{back_view}
use Rattle.ep_wire_words.proofs.Refused.{behind, made_answers, made_refused, step_refused}
use Rattle.ep_wire.proofs.server_reader.reconnect.Goals as goal

pub returns-in_err-members-clause-answer : goal.returns-in_err-members-clause-answer
returns-in_err-members-clause-answer c =
    let p = err_from_is_err_and c.from_residual.result c.from_residual.ensures.1 in
    rw (p.1, p.2) (step_refused (back_members (view c.args.value.now)) ReadsBack c.in_err-members.field-0.0 c.in_err-members.ensures.exact)

pub returns-in_err-change-clause-answer : goal.returns-in_err-change-clause-answer
returns-in_err-change-clause-answer c =
    let p = err_from_is_err_and c.from_residual-in_err-change.result c.from_residual-in_err-change.ensures.1 in
    let m = back_view c.in_ok-members.members in
    let why = c.in_err-change.field-0.0 in
    rw (p.1, p.2) (behind (back_members (view c.args.value.now)) ReadsBack m (Err why) c.in_ok-members.ensures.exact (made_refused (ReadsChange m.pool m.changeset) (back_with m) why c.in_err-change.ensures.answer))

pub returns-clause-answer : goal.returns-clause-answer
returns-clause-answer c =
    let m = back_view c.in_ok-members.members in
    rw (c.in_ok-author.ensures.units) (behind (back_members (view c.args.value.now)) ReadsBack m (Ok _) c.in_ok-members.ensures.exact (made_answers (ReadsChange m.pool m.changeset) (back_with m) c.in_ok-change.change c.in_ok-change.ensures.answer))
