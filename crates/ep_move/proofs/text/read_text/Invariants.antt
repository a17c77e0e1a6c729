use Rattle.std.proofs.Common.{◌-◌, ◌≡◌, ◌≤◌, length}
use Rattle.ep_outside.specs.Outside.{Gives}
use Rattle.ep_move.proofs.text.read_text.Given as goal

abbrev pub invariant-loop-room : goal.invariant-loop-room
invariant-loop-room g l = record {
  read : Gives (g.S.Source.left l.initial.source) (g.S.Source.left l.source) l.text.items;
  most : length l.text.items ≤ 268435457;
  later : g.S.Device.failures l.initial.source ≤ g.S.Device.failures l.source;
  steady : g.S.Device.is_steady l.source ≡ g.S.Device.is_steady l.initial.source;
}

abbrev pub decreases-loop-room : goal.decreases-loop-room
decreases-loop-room g l = 268435457 - length l.text.items
