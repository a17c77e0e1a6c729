use Rattle.std.proofs.lemmas.Result.{err_from_is_err_and}
use Rattle.ep_import.proofs.Following.{remains_next, remains_stop, row_at_place}
use Rattle.ep_import.proofs.replaying.replayed.Goals as goal

pub returns-in_err-replay-2 : goal.returns-in_err-replay-2
returns-in_err-replay-2 c =
    let p = err_from_is_err_and c.from_residual-in_err-replay-2.result c.from_residual-in_err-replay-2.ensures.1 in
    rw (p.1, p.2) (remains_stop c.args.pool.now.pairs c.args.rows.now c.loop-row.row-index _ _ c.in_err-replay-2.field-0.0 c.loop-row.invariant (row_at_place c.args.rows.now c.loop-row.row-index _ c.loop-row-test.true) c.in_err-replay-2.ensures)

pub loop-row-preserved : goal.loop-row-preserved
loop-row-preserved c =
    remains_next c.args.pool.now.pairs c.args.rows.now c.loop-row.row-index _ _ _ c.loop-row.invariant (row_at_place c.args.rows.now c.loop-row.row-index _ c.loop-row-test.true) c.in_ok-replay-2.ensures
