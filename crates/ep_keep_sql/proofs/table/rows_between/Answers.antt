use Rattle.std.proofs.Common.{[], ◌∷◌, List, IfOk, IfErr, Vec, Global}
use Rattle.sqlite.specs.declared.types.Value.TheVariants as value
use Rattle.sqlite.specs.declared.rows.Row.{Row as SqlRow}
use Rattle.sqlite_value.specs.Order.{Row}
use Rattle.sqlite.specs.Held.{state}
use Rattle.sqlite.specs.State.{FailsToQuery, Shown}
use Rattle.ep_keep_sql.specs.Told.{ShowsListed}
use Rattle.ep_keep_sql.proofs.Listings.{between_all, if_ok}
use Rattle.ep_keep_sql.proofs.Goes.{rows_go, rows_open}
use Rattle.ep_keep_sql.proofs.Statements.{rows_rest}
use Rattle.ep_keep_sql.proofs.Texts.{between_text, between_plain}
use Rattle.ep_keep_sql.proofs.table.rows_between.Goals as goal

pub returns-clause-rows : goal.returns-clause-rows
returns-clause-rows g c = λ above clean m holds.
    let old = state g.S.Store c.args.conn.now in
    let new = state g.S.Store c.query_all.new.self in
    let all : IfOk c.query_all.result (λ rows. Shown between_text (value.Text c.args.prefix.now ∷ value.Text c.args.end.now ∷ []) old new rows.items) = rw (c.params-to_sql.ensures, c.params-to_sql-2.ensures) at (c.query_all.ensures.ok clean) in
    if_ok (λ rows. Shown between_text (value.Text c.args.prefix.now ∷ value.Text c.args.end.now ∷ []) old new rows.items) (λ rows. ShowsListed m c.args.prefix.now rows.items) c.query_all.result (λ rows shown. between_all old new c.args.prefix.now c.args.end.now m rows.items above holds shown) all

pub returns-clause-same : goal.returns-clause-same
returns-clause-same g c = λ m holds settled clean open_now.
    let old = state g.S.Store c.args.conn.now in
    let new = state g.S.Store c.query_all.new.self in
    let ok : IfOk c.query_all.result (λ rows. Shown between_text (value.Text c.args.prefix.now ∷ value.Text c.args.end.now ∷ []) old new rows.items) = rw (c.params-to_sql.ensures, c.params-to_sql-2.ensures) at (c.query_all.ensures.ok clean) in
    let err : IfErr c.query_all.result (FailsToQuery between_text (value.Text c.args.prefix.now ∷ value.Text c.args.end.now ∷ []) old new) = rw (c.params-to_sql.ensures, c.params-to_sql-2.ensures) at (c.query_all.ensures.err clean) in
    rows_rest (λ rows. rows.items) between_text between_plain old new (value.Text c.args.prefix.now ∷ value.Text c.args.end.now ∷ []) c.query_all.result holds.schema settled ok err clean open_now

pub returns-clause-goes : goal.returns-clause-goes
returns-clause-goes g c = rows_go (λ rows. rows.items) _ _ _ _ c.query_all.result c.query_all.ensures.survives.clean c.query_all.ensures.survives.counts c.query_all.ensures.survives.closes c.query_all.ensures.ok c.query_all.ensures.err

pub returns-clause-opens : goal.returns-clause-opens
returns-clause-opens g c = λ clean. rows_open (λ rows. rows.items) _ _ _ _ c.query_all.result (c.query_all.ensures.ok clean)
