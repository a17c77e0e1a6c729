use Rattle.std.proofs.Common.{ap}
use Rattle.std.proofs.lemmas.Result.{err_from_is_err_and}
use Rattle.serde_json.specs.View.{view}
use Rattle.ep_wire_words.proofs.Refused.{next_answers, next_refused, pool_refused}
use Rattle.ep_wire.proofs.ReadWith.{few_pairs, sent_with}
use Rattle.ep_wire.proofs.pooled.change.Goals as goal

pub returns-in_err-pool-clause-answer : goal.returns-in_err-pool-clause-answer
returns-in_err-pool-clause-answer c =
    let p = err_from_is_err_and c.from_residual.result c.from_residual.ensures.1 in
    rw (p.1, p.2) (pool_refused (view c.args.pool.now) _ c.in_err-pool.field-0.0 c.in_err-pool.ensures.bad)

pub returns-in_err-spelled-clause-answer : goal.returns-in_err-spelled-clause-answer
returns-in_err-spelled-clause-answer c =
    let p = err_from_is_err_and c.from_residual-in_err-spelled.result c.from_residual-in_err-spelled.ensures.1 in
    rw (p.1, p.2) (next_refused (view c.args.pool.now) c.in_ok-pool.pool.pairs _ c.in_err-spelled.field-0.0 (c.in_ok-pool.ensures.pool, c.in_ok-pool.pool.distinct) c.in_err-spelled.ensures.exact)

pub returns-clause-answer : goal.returns-clause-answer
returns-clause-answer c =
    next_answers (view c.args.pool.now) c.in_ok-pool.pool.pairs _ _ (c.in_ok-pool.ensures.pool, c.in_ok-pool.pool.distinct) c.in_ok-spelled.ensures.exact

pub returns-clause-sent : goal.returns-clause-sent
returns-clause-sent c =
    sent_with c.in_ok-pool.pool.pairs _ c.in_ok-pool.ensures.texts (few_pairs c.len-pairs.result c.in_ok-pool.pool.pairs c.len-pairs.ensures c.len-pairs.type_inv) c.in_ok-spelled.ensures.read_with
