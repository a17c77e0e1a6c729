use Rattle.std.proofs.Common.{Err, Ok}
use Rattle.std.proofs.lemmas.Result.{err_from_is_err_and}
use Rattle.serde_json.specs.View.{view}
use Rattle.ep_wire_words.specs.Client.{ReadsEdit, edit_members}
use Rattle.ep_wire_words.specs.declared.client.ClientMsg.TheVariants as msg
use Rattle.ep_wire_words.specs.Pools.{ReadsChange}
use Rattle.ep_wire.specs.Rows.{edit_view}
use Rattle.ep_wire_words.proofs.Refused.{behind, made_answers, made_refused, step_refused}
use Rattle.ep_wire.proofs.client_reader.edit.Goals as goal

pub returns-in_err-members-clause-answer : goal.returns-in_err-members-clause-answer
returns-in_err-members-clause-answer c =
    let p = err_from_is_err_and c.from_residual.result c.from_residual.ensures.1 in
    rw (p.1, p.2) (step_refused (edit_members (view c.args.value.now)) ReadsEdit c.in_err-members.field-0.0 c.in_err-members.ensures.exact)

pub returns-in_err-change-clause-answer : goal.returns-in_err-change-clause-answer
returns-in_err-change-clause-answer c =
    let p = err_from_is_err_and c.from_residual-in_err-change.result c.from_residual-in_err-change.ensures.1 in
    let m = edit_view c.in_ok-members.members in
    let why = c.in_err-change.field-0.0 in
    rw (p.1, p.2) (behind (edit_members (view c.args.value.now)) ReadsEdit m (Err why) c.in_ok-members.ensures.exact (made_refused (ReadsChange m.pool m.changeset) (msg.Edit m.base) why c.in_err-change.ensures.answer))

pub returns-clause-answer : goal.returns-clause-answer
returns-clause-answer c =
    let m = edit_view c.in_ok-members.members in
    behind (edit_members (view c.args.value.now)) ReadsEdit m (Ok _) c.in_ok-members.ensures.exact (made_answers (ReadsChange m.pool m.changeset) (msg.Edit m.base) c.in_ok-change.change c.in_ok-change.ensures.answer)
