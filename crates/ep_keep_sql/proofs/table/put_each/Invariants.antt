use Rattle.std.proofs.Common.{◌≡◌, List, true, drop}
use Rattle.std.specs.Prelude.{IsTrue}
use Rattle.sqlite.specs.Held.{state}
use Rattle.sqlite.specs.State.{HasCleanDisk}
use Rattle.ep_outside.specs.Kept.{after}
use Rattle.ep_outside.specs.declared.keeper.Pair.{Pair}
use Rattle.ep_keep_sql.specs.Inside.{StepsInside}
use Rattle.ep_keep_sql.specs.Told.{Holds}
use Rattle.ep_keep_sql.proofs.table.put_each.Given as goal

-- the map now, with the puts that are left, is what all of them make of the first one
abbrev pub invariant-loop-put : goal.invariant-loop-put
invariant-loop-put g l = record {
  same_reference : l.transaction.conn.ghost_name ≡ l.initial.transaction.conn.ghost_name;
  steps : StepsInside (state g.S.Store l.initial.transaction.conn.now) (state g.S.Store l.transaction.conn.now) true;
  makes : HasCleanDisk (state g.S.Store l.transaction.conn.now) → IsTrue (state g.S.Store l.initial.transaction.conn.now).in_transaction → (m : List Pair) → Holds (state g.S.Store l.initial.transaction.conn.now).now m
      → (n : List Pair) × Holds (state g.S.Store l.transaction.conn.now).now n × (after m l.puts ≡ after n (drop l.put-index l.puts));
}
