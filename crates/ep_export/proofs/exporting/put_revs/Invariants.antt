use Rattle.std.proofs.Common.{◌≡◌, drop}
use Rattle.serde_json.specs.View.{members_view}
use Rattle.ep_export.specs.Spelled.{put_spelled}
use Rattle.ep_export.proofs.exporting.put_revs.Given as goal

abbrev pub invariant-loop-n : goal.invariant-loop-n
invariant-loop-n l = put_spelled l.key l.n (drop l.n l.spelled) (drop l.n l.revs) (members_view l.members.entries) ≡ put_spelled l.key 0 l.spelled l.revs (members_view l.initial.members.entries)
