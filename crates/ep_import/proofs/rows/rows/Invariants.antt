use Rattle.std.proofs.Common.{◌≡◌, ◌-◌}
use Rattle.serde_json.specs.View.{view}
use Rattle.ep_import.specs.Imported.{rows_from}
use Rattle.ep_import.specs.Seen.{row_views}
use Rattle.ep_import.proofs.Lists.{with_rows}
use Rattle.ep_import.proofs.rows.rows.Given as goal

abbrev pub invariant-loop-n : goal.invariant-loop-n
invariant-loop-n l = with_rows (row_views l.rows.items) (rows_from l.key (view l.value) l.n (l.count - l.n)) ≡ rows_from l.key (view l.value) 0 l.count
