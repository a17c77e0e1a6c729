use Rattle.std.proofs.Common.{◌≡◌, drop}
use Rattle.ep_house.specs.Register.{found_in}
use Rattle.ep_house.specs.Named.{cells_of}
use Rattle.ep_house.proofs.named.find.Given as goal

abbrev pub invariant-loop-named : goal.invariant-loop-named
invariant-loop-named g l = found_in (cells_of l.cells) l.name ≡ found_in (cells_of (drop l.named-index l.cells)) l.name
