use Rattle.std.proofs.Common.{[], ◌∷◌}
use Rattle.sqlite.specs.declared.types.Value.TheVariants as value
use Rattle.sqlite.specs.Held.{state}
use Rattle.sqlite.specs.State.{ExecutesInside}
use Rattle.ep_keep_sql.proofs.Commits.{makes_of, steps_of}
use Rattle.ep_keep_sql.proofs.Puts.{puts}
use Rattle.ep_keep_sql.proofs.Texts.{put_text}
use Rattle.ep_keep_sql.proofs.table.put_value.Goals as goal

pub returns-clause-steps : goal.returns-clause-steps
returns-clause-steps g c = steps_of _ _ _ _ _ c.execute.ensures.survives.clean c.execute.ensures.survives.counts c.execute.ensures.survives.closes c.execute.ensures.runs

pub returns-clause-makes : goal.returns-clause-makes
returns-clause-makes g c = λ clean inside m holds.
    let old = state g.S.Store c.args.transaction.now.conn.now in
    let new = state g.S.Store c.execute.new.self.conn.now in
    let runs : ExecutesInside 0 put_text (value.Text c.args.key.now ∷ value.Text c.args.value.now ∷ []) old new c.execute.result = rw (c.params-to_sql.ensures, c.params-to_sql-2.ensures) at (c.execute.ensures.runs clean inside) in
    makes_of _ _ old new _ runs (λ count ran. puts old new c.args.key.now c.args.value.now m count holds ran)
