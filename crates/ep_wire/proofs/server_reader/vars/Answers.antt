use Rattle.std.proofs.Common.{Err, Ok}
use Rattle.std.proofs.lemmas.Result.{err_from_is_err_and}
use Rattle.serde_json.specs.View.{view}
use Rattle.ep_wire_words.specs.Server.{ReadsVars, vars_members, vars_with}
use Rattle.ep_wire_words.specs.Pools.{ReadsDoc}
use Rattle.ep_wire.specs.ServerRows.{vars_view}
use Rattle.ep_wire_words.proofs.Refused.{behind, made_answers, made_refused, step_refused}
use Rattle.ep_wire.proofs.server_reader.vars.Goals as goal

pub returns-in_err-members-clause-answer : goal.returns-in_err-members-clause-answer
returns-in_err-members-clause-answer c =
    let p = err_from_is_err_and c.from_residual.result c.from_residual.ensures.1 in
    rw (p.1, p.2) (step_refused (vars_members (view c.args.value.now)) ReadsVars c.in_err-members.field-0.0 c.in_err-members.ensures.exact)

pub returns-in_err-doc-clause-answer : goal.returns-in_err-doc-clause-answer
returns-in_err-doc-clause-answer c =
    let p = err_from_is_err_and c.from_residual-in_err-doc.result c.from_residual-in_err-doc.ensures.1 in
    let m = vars_view c.in_ok-members.members in
    let why = c.in_err-doc.field-0.0 in
    rw (p.1, p.2) (behind (vars_members (view c.args.value.now)) ReadsVars m (Err why) c.in_ok-members.ensures.exact (made_refused (ReadsDoc m.pool m.text m.attribs) (vars_with m) why c.in_err-doc.ensures.answer))

pub returns-clause-answer : goal.returns-clause-answer
returns-clause-answer c =
    let m = vars_view c.in_ok-members.members in
    rw (c.in_ok-pad.ensures.units, c.in_ok-author.ensures.units) (behind (vars_members (view c.args.value.now)) ReadsVars m (Ok _) c.in_ok-members.ensures.exact (made_answers (ReadsDoc m.pool m.text m.attribs) (vars_with m) c.in_ok-doc.doc c.in_ok-doc.ensures.answer))
