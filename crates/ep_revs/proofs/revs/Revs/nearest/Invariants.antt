use Rattle.std.proofs.Common.{◌≤◌, IfSome}
use Rattle.ep_revs.specs.Near.{IsNear}
use Rattle.ep_revs.proofs.revs.Revs.nearest.Given as goal

abbrev pub invariant-loop-near : goal.invariant-loop-near
invariant-loop-near l = IfSome l.found (λ near. IsNear l.self.revs near.now × (near.now.rev ≤ l.r))
