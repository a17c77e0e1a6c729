use Rattle.std.proofs.Common.{[]}
use Rattle.std.proofs.lemmas.Result.{err_from_is_err_and}
use Rattle.ep_pool.specs.Pool.{pair_of}
use Rattle.ep_fields.specs.Reading.{pairs_at}
use Rattle.ep_fields.proofs.Pairs.{goes_on, ends, is_done}
use Rattle.ep_fields.proofs.reading.pairs_of.Goals as goal

pub returns-in_err-attr : goal.returns-in_err-attr
returns-in_err-attr c =
    let p = err_from_is_err_and c.from_residual.result c.from_residual.ensures.1 in
    rw (p.1, p.2) (ends c.in_err-attr.field-0.0 c.loop.pool.pairs c.args.count c.loop.counter c.loop.rest.now (pairs_at c.args.count [] c.args.bytes.now) c.loop-test.true c.in_err-attr.ensures c.loop.invariant)

pub loop-preserved : goal.loop-preserved
loop-preserved c =
    rw c.in_ok-put.ensures.pairs (goes_on c.loop.pool.pairs c.args.count c.loop.counter c.loop.rest.now (pair_of c.in_ok-attr.attr) c.in_ok-attr.after.now (pairs_at c.args.count [] c.args.bytes.now) c.loop-test.true c.in_ok-attr.ensures c.loop.invariant)

pub returns : goal.returns
returns c = is_done c.loop.pool.pairs c.args.count c.loop.counter c.loop.rest.now (pairs_at c.args.count [] c.args.bytes.now) c.loop-test.false c.loop.invariant
