use Rattle.std.proofs.Common.{◌≡◌, drop}
use Rattle.std.specs.List.{AllByRecursion}
use Rattle.serde_json.specs.View.{items_view}
use Rattle.ep_wire_words.specs.Pools.{all_read}
use Rattle.ep_wire.specs.ReadWith.{IsReadWith}
use Rattle.ep_wire.proofs.Arrays.{with_front}
use Rattle.ep_wire.proofs.pooled.changesets.Given as goal

abbrev pub invariant-loop-value : goal.invariant-loop-value
invariant-loop-value l = record {
  exact : with_front l.changes (all_read l.pool.pairs (items_view (drop l.value-index l.values))) ≡ all_read l.pool.pairs (items_view l.values);
  read_with : AllByRecursion (IsReadWith l.pool.pairs) l.changes;
}
