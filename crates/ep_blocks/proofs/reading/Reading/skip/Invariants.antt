use Rattle.std.proofs.Common.{◌≡◌, ◌-◌, ◌≤◌, drop}
use Rattle.ep_blocks.proofs.reading.Reading.skip.Given as goal

abbrev pub invariant-pieces : goal.invariant-pieces
invariant-pieces l = record {
  rest : l.self ≡ drop (l.units - l.left) l.initial.self;
  within : l.left ≤ l.units;
}

abbrev pub decreases-pieces : goal.decreases-pieces
decreases-pieces l = l.left
