use Rattle.std.proofs.Common.{◌≡◌, take}
use Rattle.ep_house.proofs.copying.copied_all.Given as goal

abbrev pub invariant-loop-item : goal.invariant-loop-item
invariant-loop-item l = l.all ≡ take l.item-index l.items
