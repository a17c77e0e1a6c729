use Rattle.std.proofs.Common.{◌∙◌}
use Rattle.std.proofs.lemmas.Result.{err_from_is_err_and}
use Rattle.serde_json.specs.View.{view}
use Rattle.ep_import.proofs.Told.{answer_births, import_answers, import_no_json}
use Rattle.ep_import.proofs.importing.import.Goals as goal

pub returns-in_err-value-clause-answer : goal.returns-in_err-value-clause-answer
returns-in_err-value-clause-answer c =
    let p = err_from_is_err_and c.from_residual.result c.from_residual.ensures.1 in
    rw (p.1, p.2) (import_no_json c.args.pad.now c.args.text.now c.in_err-value.field-0.0 c.in_err-value.ensures)

pub returns-clause-answer : goal.returns-clause-answer
returns-clause-answer c = import_answers c.args.pad.now c.args.text.now _ (view c.in_ok-value.value) _ c.in_ok-value.ensures (c.as_str.ensures.value ∙ c.in_ok-key.ensures) c.object.ensures

pub returns-clause-revisions : goal.returns-clause-revisions
returns-clause-revisions c =
    answer_births c.args.pad.now c.args.text.now _
    (import_answers c.args.pad.now c.args.text.now _ (view c.in_ok-value.value) _ c.in_ok-value.ensures (c.as_str.ensures.value ∙ c.in_ok-key.ensures) c.object.ensures)
