use Rattle.std.proofs.Common.{ap}
use Rattle.std.proofs.lemmas.Result.{err_from_is_err_and}
use Rattle.serde_json.specs.View.{items_view, view}
use Rattle.ep_wire_words.proofs.Refused.{first_refused_in, pool_refused, second_refused_in, steps_answers}
use Rattle.ep_wire.proofs.ReadWith.{all_sent_with, both_with, few_pairs}
use Rattle.ep_wire.proofs.pooled.steps.Goals as goal

pub returns-in_err-pool-clause-answer : goal.returns-in_err-pool-clause-answer
returns-in_err-pool-clause-answer c =
    let p = err_from_is_err_and c.from_residual.result c.from_residual.ensures.1 in
    rw (p.1, p.2) (pool_refused (view c.args.pool.now) _ c.in_err-pool.field-0.0 c.in_err-pool.ensures.bad)

pub returns-in_err-first-clause-answer : goal.returns-in_err-first-clause-answer
returns-in_err-first-clause-answer c =
    let p = err_from_is_err_and c.from_residual-in_err-first.result c.from_residual-in_err-first.ensures.1 in
    rw (p.1, p.2) (first_refused_in (view c.args.pool.now) c.in_ok-pool.pool.pairs (items_view c.args.first.now) (items_view c.args.second.now) c.in_err-first.field-0.0 (c.in_ok-pool.ensures.pool, c.in_ok-pool.pool.distinct) c.in_err-first.ensures.exact)

pub returns-in_err-second-clause-answer : goal.returns-in_err-second-clause-answer
returns-in_err-second-clause-answer c =
    let p = err_from_is_err_and c.from_residual-in_err-second.result c.from_residual-in_err-second.ensures.1 in
    rw (p.1, p.2) (second_refused_in (view c.args.pool.now) c.in_ok-pool.pool.pairs (items_view c.args.first.now) (items_view c.args.second.now) c.in_ok-first.first c.in_err-second.field-0.0 (c.in_ok-pool.ensures.pool, c.in_ok-pool.pool.distinct) c.in_ok-first.ensures.exact c.in_err-second.ensures.exact)

pub returns-clause-answer : goal.returns-clause-answer
returns-clause-answer c =
    steps_answers (view c.args.pool.now) c.in_ok-pool.pool.pairs (items_view c.args.first.now) (items_view c.args.second.now) c.in_ok-first.first c.in_ok-second.second (c.in_ok-pool.ensures.pool, c.in_ok-pool.pool.distinct) c.in_ok-first.ensures.exact c.in_ok-second.ensures.exact

pub returns-clause-sent : goal.returns-clause-sent
returns-clause-sent c =
    all_sent_with c.in_ok-pool.pool.pairs _ c.in_ok-pool.ensures.texts (few_pairs c.len-pairs.result c.in_ok-pool.pool.pairs c.len-pairs.ensures c.len-pairs.type_inv)
    (both_with c.in_ok-pool.pool.pairs c.in_ok-second.second c.in_ok-first.first c.in_ok-second.ensures.read_with c.in_ok-first.ensures.read_with)
