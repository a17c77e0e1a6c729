use Rattle.std.proofs.lemmas.Result.{err_from_is_err_and}
use Rattle.serde_json.specs.View.{view}
use Rattle.ep_import.specs.Seen.{front_view}
use Rattle.ep_import.proofs.Told.{object_answers, object_no_front, object_no_pool}
use Rattle.ep_import.proofs.importing.object.Goals as goal

pub returns-in_err-front : goal.returns-in_err-front
returns-in_err-front c =
    let p = err_from_is_err_and c.from_residual.result c.from_residual.ensures.1 in
    rw (p.1, p.2) (object_no_front c.args.key.now (view c.args.value.now) c.in_err-front.field-0.0 c.in_err-front.ensures.exact)

pub returns-in-Ok : goal.returns-in-Ok
returns-in-Ok c = object_answers c.args.key.now (view c.args.value.now) (front_view c.in_ok-front.front) c.in-Ok.pool.pairs _ c.in_ok-front.ensures.exact (c.in-Ok.ensures.pool, c.in-Ok.pool.distinct) c.rest.ensures

pub returns-in-Err : goal.returns-in-Err
returns-in-Err c = object_no_pool c.args.key.now (view c.args.value.now) (front_view c.in_ok-front.front) _ _ c.in_ok-front.ensures.exact c.refusal_of.ensures c.in-Err.ensures.bad
