use Rattle.std.proofs.Common.{◌≡◌, ◌≤◌, ◌-◌, take, drop}
use Rattle.ep_block_parts.specs.Seen.{Sees}
use Rattle.ep_blocks.proofs.passing.Passing.pass.Given as goal

abbrev pub invariant-pieces : goal.invariant-pieces
invariant-pieces l = record {
  seen : Sees l.seen (take l.seen.units l.initial.self);
  rest : l.self ≡ drop l.seen.units l.initial.self;
  within : l.seen.units ≤ l.units;
}

abbrev pub decreases-pieces : goal.decreases-pieces
decreases-pieces l = l.units - l.seen.units
