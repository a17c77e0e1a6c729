use Rattle.std.proofs.Common.{◌≡◌, ◌≤◌, [], ◌∷◌}
use Rattle.ep_session.specs.Session.{Hear}
use Rattle.ep_cell.specs.History.{pairs}
use Rattle.ep_pad.specs.Lazy.{IsLegalFrom}
use Rattle.ep_session.proofs.Running.{SoFar}
use Rattle.ep_session.proofs.turn.turns.Given as goal

abbrev pub invariant-turns : goal.invariant-turns
invariant-turns g l = record {
  next : (goal.iterator-turns g).can_next l.iterator';
  finite : (goal.iterator-turns g).is_finite l.iterator';
  done : SoFar (g.C.Clock.may_show l.clock) (g.L.Link.traffic l.initial.link) (g.L.Link.traffic l.link) (g.P.PadPort.known l.initial.pass) (g.P.PadPort.known l.pass) l.initial.place l.place (Hear ∷ []) (Hear ∷ []);
  of : g.P.PadPort.is_of l.pads l.pass;
  pad : (g.P.PadPort.name_of l.pass ≡ g.P.PadPort.name_of l.initial.pass) × (g.P.PadPort.cell_of l.pass ≡ g.P.PadPort.cell_of l.initial.pass) × (g.P.PadPort.begun l.pass ≡ g.P.PadPort.begun l.initial.pass);
  legal : IsLegalFrom g.P.Store.Disk.told g.P.Store.Device.failures (g.P.PadPort.begun l.initial.pass) (pairs (g.P.PadPort.known l.initial.pass).seen) → IsLegalFrom g.P.Store.Disk.told g.P.Store.Device.failures (g.P.PadPort.begun l.pass) (pairs (g.P.PadPort.known l.pass).seen);
  later : g.L.Device.failures l.initial.link ≤ g.L.Device.failures l.link;
}
