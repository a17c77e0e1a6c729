use Rattle.std.proofs.Common.{◌+◌, ◌-◌, ◌≡◌, ◌≤◌, length, max}
use Rattle.ep_http.specs.Pieces.{Grows}
use Rattle.ep_http.proofs.piece.read_body.Given as goal

abbrev pub invariant-loop-bytes : goal.invariant-loop-bytes
invariant-loop-bytes g l = record {
  grows : Grows (g.S.Source.left l.initial.source) (g.S.Source.left l.source) l.initial.bytes.items l.bytes.items;
  later : g.S.Device.failures l.initial.source ≤ g.S.Device.failures l.source;
  steady : g.S.Device.is_steady l.source ≡ g.S.Device.is_steady l.initial.source;
  behind : l.start ≤ length l.bytes.items;
  within : length l.bytes.items ≤ max (length l.initial.bytes.items) (l.start + l.long);
}

abbrev pub decreases-loop-bytes : goal.decreases-loop-bytes
decreases-loop-bytes g l = l.start + l.long - length l.bytes.items
