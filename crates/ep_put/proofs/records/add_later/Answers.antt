use Rattle.std.proofs.Common.{arith}
use Rattle.std.proofs.lemmas.Result.{err_from_is_err_and}
use Rattle.ep_put.proofs.Telling.{way_at, way_done, way_on, way_stops}
use Rattle.ep_put.proofs.records.add_later.Goals as goal

pub after-requires : goal.after-requires
after-requires c = (way_at _ _ _ _ _ _ _ c.loop-rev.invariant (omega arith) c.rev-item.is).fit.0

pub returns-in_err-next-clause-long : goal.returns-in_err-next-clause-long
returns-in_err-next-clause-long c =
    let p = err_from_is_err_and c.from_residual.result c.from_residual.ensures.1 in
    let w = way_at _ _ _ _ _ _ _ c.loop-rev.invariant (omega arith) c.rev-item.is in
    rw (p.1, p.2) (way_stops _ _ _ _ _ _ _ c.in_err-next.field-0.0 w c.in_err-next.ensures.long)

pub loop-rev-preserved : goal.loop-rev-preserved
loop-rev-preserved c =
    let w = way_at _ _ _ _ _ _ _ c.loop-rev.invariant (omega arith) c.rev-item.is in
    way_on _ _ _ _ _ _ _ _ _ w c.in_ok-next.ensures.after c.in_ok-next.ensures.short c.in_ok-add.ensures

pub returns-clause-records : goal.returns-clause-records
returns-clause-records c = (way_done _ _ _ _ _ _ c.loop-rev.invariant (omega arith)).0

pub returns-clause-short : goal.returns-clause-short
returns-clause-short c = (way_done _ _ _ _ _ _ c.loop-rev.invariant (omega arith)).1
