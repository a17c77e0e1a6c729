use Rattle.std.proofs.Common.{[], ◌∷◌}
use Rattle.sqlite.specs.declared.types.Value.TheVariants as value
use Rattle.sqlite.specs.Held.{state}
use Rattle.sqlite.specs.State.{HasCleanDisk, QueriesRow}
use Rattle.ep_keep_sql.proofs.Goes.{row_goes, row_opens}
use Rattle.ep_keep_sql.proofs.Statements.{finds, row_rests}
use Rattle.ep_keep_sql.proofs.Texts.{get_text}
use Rattle.ep_keep_sql.proofs.table.row_of.Goals as goal

pub returns-clause-row : goal.returns-clause-row
returns-clause-row g c = λ clean m holds.
    let old = state g.S.Store c.args.conn.now in
    let new = state g.S.Store c.query_row.new.self in
    let row : QueriesRow get_text (value.Text c.args.key.now ∷ []) old new c.query_row.result = rw c.params-to_sql.ensures at (c.query_row.ensures.row clean) in
    finds old new c.args.key.now m c.query_row.result holds row

pub returns-clause-same : goal.returns-clause-same
returns-clause-same g c = λ m holds settled clean open_now.
    let old = state g.S.Store c.args.conn.now in
    let new = state g.S.Store c.query_row.new.self in
    let row : QueriesRow get_text (value.Text c.args.key.now ∷ []) old new c.query_row.result = rw c.params-to_sql.ensures at (c.query_row.ensures.row clean) in
    row_rests old new (value.Text c.args.key.now ∷ []) c.query_row.result holds.schema settled row clean open_now

pub returns-clause-goes : goal.returns-clause-goes
returns-clause-goes g c = row_goes _ _ _ _ c.query_row.result c.query_row.ensures.survives.clean c.query_row.ensures.survives.counts c.query_row.ensures.survives.closes c.query_row.ensures.row

pub returns-clause-opens : goal.returns-clause-opens
returns-clause-opens g c = λ clean found. row_opens _ _ _ _ c.query_row.result (c.query_row.ensures.row clean) found
