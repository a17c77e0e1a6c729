use Rattle.std.proofs.Common.{◌+◌, ◌-◌, ◌≡◌, ◌≤◌, length}
use Rattle.ep_outside.specs.Outside.{Gives}
use Rattle.ep_http.specs.Heads.{most_bytes, most_fields}
use Rattle.ep_http.proofs.head.read_head.Given as goal

abbrev pub invariant-bytes : goal.invariant-bytes
invariant-bytes g l = record {
  gives : Gives (g.S.Source.left l.initial.source) (g.S.Source.left l.source) l.bytes.items;
  later : g.S.Device.failures l.initial.source ≤ g.S.Device.failures l.source;
  steady : g.S.Device.is_steady l.source ≡ g.S.Device.is_steady l.initial.source;
  within : length l.bytes.items ≤ most_bytes;
  room : length l.fields ≡ most_fields;
}

abbrev pub decreases-bytes : goal.decreases-bytes
decreases-bytes g l = most_bytes + 1 - length l.bytes.items
