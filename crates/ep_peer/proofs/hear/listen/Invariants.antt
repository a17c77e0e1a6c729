use Rattle.std.proofs.Common.{◌≤◌}
use Rattle.ep_peer.specs.Writer.{Awaited}
use Rattle.ep_peer.proofs.Receiving.{Waits}
use Rattle.ep_peer.proofs.hear.listen.Given as goal

abbrev pub invariant-waits : goal.invariant-waits
invariant-waits g l = record {
  next : (goal.iterator-waits g).can_next l.iterator';
  finite : (goal.iterator-waits g).is_finite l.iterator';
  done : (w : Awaited) → Waits (g.L.Link.traffic l.initial.link) (g.L.Link.traffic l.link) w;
  later : g.L.Device.failures l.initial.link ≤ g.L.Device.failures l.link;
}
