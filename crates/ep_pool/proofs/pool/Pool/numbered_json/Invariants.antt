use Rattle.std.proofs.Common.{◌≡◌, drop}
use Rattle.serde_json.specs.Data.{no_members}
use Rattle.serde_json.specs.View.{members_view}
use Rattle.ep_attr.specs.Attrs.{pairs_of}
use Rattle.ep_pool.specs.Json.{numbered}
use Rattle.ep_pool.proofs.pool.Pool.numbered_json.Given as goal

abbrev pub invariant-loop-n : goal.invariant-loop-n
invariant-loop-n l = numbered (members_view l.members.entries) l.n (pairs_of (drop l.n l.attr-items)) ≡ numbered no_members 0 (pairs_of l.attr-items)
