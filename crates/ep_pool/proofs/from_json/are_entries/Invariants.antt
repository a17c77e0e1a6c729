use Rattle.std.proofs.Common.{◌↔◌}
use Rattle.serde_json.specs.View.{members_view}
use Rattle.ep_pool.specs.Read.{AreEntries}
use Rattle.ep_pool.proofs.from_json.are_entries.Given as goal

abbrev pub invariant-loop-key : goal.invariant-loop-key
invariant-loop-key l = AreEntries (members_view l.members.entries) ↔ AreEntries (members_view l.key-iterator)
