use Rattle.std.proofs.Common.{◌≡◌, List, ◌++◌, drop, map}
use Rattle.ep_outside.specs.Kept.{listed}
use Rattle.ep_outside.specs.declared.keeper.Pair.{Pair}
use Rattle.ep_keep_sql.specs.Told.{shows}
use Rattle.ep_keep_sql.proofs.table.pairs_in.Given as goal

abbrev pub invariant-loop-row : goal.invariant-loop-row
invariant-loop-row l = (ps : List Pair) → l.rows ≡ map shows ps → l.items.items ++ listed (drop l.row-index ps) l.prefix ≡ listed ps l.prefix
