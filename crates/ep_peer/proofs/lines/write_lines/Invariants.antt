use Rattle.std.proofs.Common.{◌≤◌}
use Rattle.ep_peer.specs.Writer.{Goes, Reading}
use Rattle.ep_peer.proofs.Cutting.{SoFar}
use Rattle.ep_peer.proofs.lines.write_lines.Given as goal

abbrev pub invariant-lines : goal.invariant-lines
invariant-lines g l = record {
  so_far : SoFar (g.L.Link.traffic l.fn.link) (g.L.Link.traffic l.link) (g.S.Source.left l.fn.source) l.script (g.S.Source.left l.source) (Goes (Reading 0 l.fn.client)) l.client l.line;
  link_later : g.L.Device.failures l.fn.link ≤ g.L.Device.failures l.link;
  source_later : g.S.Device.failures l.fn.source ≤ g.S.Device.failures l.source;
}
