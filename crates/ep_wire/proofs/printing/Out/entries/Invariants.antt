use Rattle.std.proofs.Common.{◌≡◌, ◌++◌}
use Rattle.json.specs.Tree.{members_tokens}
use Rattle.serde_json.specs.View.{members_view}
use Rattle.serde_json.specs.Written.{members_outline}
use Rattle.ep_wire.proofs.printing.Out.entries.Given as goal

abbrev pub invariant-loop-number : goal.invariant-loop-number
invariant-loop-number l =
    l.self ++ members_tokens (members_outline (members_view l.number-iterator))
    ≡ l.fn.self ++ members_tokens (members_outline (members_view l.fn.entries.entries))
