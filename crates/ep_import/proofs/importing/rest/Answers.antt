use Rattle.std.proofs.lemmas.Result.{err_from_is_err_and}
use Rattle.std.proofs.Common.{◌∙◌, ap, refl, sym, List, Ok}
use Rattle.serde_json.specs.View.{view}
use Rattle.ep_import.specs.declared.rows.Row.{Row}
use Rattle.ep_import.specs.Seen.{front_view, row_views}
use Rattle.ep_import.proofs.Told.{rest_answers, rest_no_public, rest_no_replay, rest_no_rows}
use Rattle.ep_import.proofs.importing.rest.Goals as goal

pub returns-in_err-public : goal.returns-in_err-public
returns-in_err-public c =
    let p = err_from_is_err_and c.from_residual.result c.from_residual.ensures.1 in
    rw (p.1, p.2) (rest_no_public c.args.key.now (view c.args.value.now) (front_view c.args.front) c.args.pool.now.pairs c.in_err-public.field-0.0 c.in_err-public.ensures)

pub returns-in_err-rows : goal.returns-in_err-rows
returns-in_err-rows c =
    let p = err_from_is_err_and c.from_residual-in_err-rows.result c.from_residual-in_err-rows.ensures.1 in
    rw (p.1, p.2) (rest_no_rows c.args.key.now (view c.args.value.now) (front_view c.args.front) c.args.pool.now.pairs _ _ c.in_err-rows.field-0.0 c.in_ok-public.ensures refl c.in_err-rows.ensures)

pub returns-in_err-replay : goal.returns-in_err-replay
returns-in_err-replay c =
    let p = err_from_is_err_and c.from_residual-in_err-replay.result c.from_residual-in_err-replay.ensures.1 in
    rw (p.1, p.2) (rest_no_replay c.args.key.now (view c.args.value.now) (front_view c.args.front) c.args.pool.now.pairs _ _ _ c.in_err-replay.field-0.0 c.in_ok-public.ensures refl (c.in_ok-rows.ensures ∙ ap (λ (rs : List Row). Ok (row_views rs)) (sym c.deref.ensures.value)) c.in_err-replay.ensures)

pub returns : goal.returns
returns c = rest_answers c.args.key.now (view c.args.value.now) (front_view c.args.front) c.args.pool.now.pairs _ _ _ _ _ c.in_ok-public.ensures refl (c.in_ok-rows.ensures ∙ ap (λ (rs : List Row). Ok (row_views rs)) (sym c.deref.ensures.value)) c.in_ok-replay.ensures c.compared.ensures
