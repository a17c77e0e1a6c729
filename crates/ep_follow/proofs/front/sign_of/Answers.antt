use Rattle.std.proofs.Common.{sym, ap}
use Rattle.ep_cs.specs.Follow.{has_first, begins_with_newline}
use Rattle.ep_follow.proofs.Fronts.{without_piece, no_insert_first}
use Rattle.ep_follow.proofs.front.sign_of.Goals as goal

pub returns-in_default-kind : goal.returns-in_default-kind
returns-in_default-kind c =
    let l = c.args.cursor.now in
    let none_there = without_piece l (no_insert_first c.in-Some.head l c.in-Some.ensures.head c.in_default-kind.not-Insert) c.in-Some.ensures.written in
    record { first = sym (ap has_first none_there); newline = sym (ap begins_with_newline none_there) }
