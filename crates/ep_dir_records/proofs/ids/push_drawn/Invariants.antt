use Rattle.std.proofs.Common.{◌≡◌, ◌++◌, map, take}
use Rattle.ep_units.specs.Base36.{digit}
use Rattle.ep_dir_records.proofs.ids.push_drawn.Given as goal

abbrev pub invariant-loop-drawn_digit : goal.invariant-loop-drawn_digit
invariant-loop-drawn_digit l = l.id ≡ l.fn.id ++ map digit (take l.drawn_digit-index l.drawn.digits)
