use Rattle.std.proofs.Common.{◌≡◌, ◌++◌}
use Rattle.ep_session.specs.Session.{changes_of}
use Rattle.ep_session.proofs.act.changes_of.Given as goal

abbrev pub invariant-loop-rev : goal.invariant-loop-rev
invariant-loop-rev l = l.changes.items ++ changes_of l.rev-iterator.rest.items ≡ changes_of l.fn.revs.items
