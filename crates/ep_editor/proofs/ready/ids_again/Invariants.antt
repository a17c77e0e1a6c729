use Rattle.std.proofs.Common.{◌≡◌, take}
use Rattle.ep_editor.proofs.ready.ids_again.Given as goal

abbrev pub invariant-loop-id : goal.invariant-loop-id
invariant-loop-id l = l.all ≡ take l.id-index l.ids
