use Rattle.std.proofs.Common.{◌≡◌, ◌+◌, drop}
use Rattle.ep_session.specs.Session.{due_at}
use Rattle.ep_session.proofs.say.due_at.Given as goal

abbrev pub invariant-loop-at : goal.invariant-loop-at
invariant-loop-at l = due_at l.rev l.nops ≡ l.at + due_at l.rev (drop l.at l.nops)
