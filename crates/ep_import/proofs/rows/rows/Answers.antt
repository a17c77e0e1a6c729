use Rattle.std.proofs.Common.{◌+◌, ◌-◌, sym, ap, ◌∙◌}
use Rattle.std.proofs.lemmas.Result.{err_from_is_err_and}
use Rattle.serde_json.specs.View.{view}
use Rattle.ep_import.specs.Imported.{rows_from}
use Rattle.ep_import.specs.Seen.{row_view, row_views}
use Rattle.ep_import.proofs.Lists.{rows_next, rows_stop, views_push, with_rows}
use Rattle.ep_import.proofs.rows.rows.Goals as goal

pub returns-in_err-row_of : goal.returns-in_err-row_of
returns-in_err-row_of c =
    let p = err_from_is_err_and c.from_residual.result c.from_residual.ensures.1 in
    rw (p.1, p.2) (rows_stop c.args.key.now (view c.args.value.now) c.loop-n.n c.args.count (row_views c.loop-n.rows.items) c.in_err-row_of.field-0.0
    (rows_from c.args.key.now (view c.args.value.now) 0 c.args.count) c.loop-n-test.true c.loop-n.invariant c.in_err-row_of.ensures)

pub loop-n-preserved : goal.loop-n-preserved
loop-n-preserved c =
    let key = c.args.key.now in
    let d = view c.args.value.now in
    let n = c.loop-n.n in
    let rows = c.loop-n.rows.items in
    let row = c.in_ok-row_of.field-0 in
    ap (λ rs. with_rows rs (rows_from key d (n + 1) (c.args.count - (n + 1)))) (ap row_views c.in_ok-push.ensures.items ∙ views_push rows row)
    ∙ sym (rows_next key d n c.args.count (row_views rows) (row_view row) c.loop-n-test.true c.in_ok-row_of.ensures) ∙ c.loop-n.invariant
