use Rattle.std.proofs.Common.{◌≤◌}
use Rattle.ep_doors.specs.Serving.{Keeps}
use Rattle.ep_doors.proofs.serving.serve.Given as goal

abbrev pub invariant-loop : goal.invariant-loop
invariant-loop g l = record {
  next : (goal.iterator-loop g).can_next l.iterator';
  finite : (goal.iterator-loop g).is_finite l.iterator';
  keeps : Keeps 0 (g.N.Doors.count l.initial.doors) (g.N.Doors.count l.doors) (g.W.Spawner.count l.initial.spawner) (g.W.Spawner.count l.spawner);
  later : (g.N.Device.failures l.initial.doors ≤ g.N.Device.failures l.doors) × (g.W.Device.failures l.initial.spawner ≤ g.W.Device.failures l.spawner);
}
