use Rattle.std.proofs.Common.{◌≤◌, ℕ}
use Rattle.ep_peer.proofs.Receiving.{Hears}
use Rattle.ep_peer.proofs.hear.await_commit.Given as goal

abbrev pub invariant-hears : goal.invariant-hears
invariant-hears g l = record {
  next : (goal.iterator-hears g).can_next l.iterator';
  finite : (goal.iterator-hears g).is_finite l.iterator';
  done : (n : ℕ) → Hears (g.L.Link.traffic l.initial.link) (g.L.Link.traffic l.link) n l.initial.client l.client;
  later : g.L.Device.failures l.initial.link ≤ g.L.Device.failures l.link;
}
