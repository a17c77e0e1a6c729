use Rattle.std.proofs.Common.{◌≡◌, ℕ, List}
use Rattle.ep_journal.specs.File.{records_of}
use Rattle.ep_move.proofs.Fronts.{AreRead}
use Rattle.ep_move.proofs.told.reread.Given as goal

abbrev pub invariant-loop-i : goal.invariant-loop-i
invariant-loop-i l = (file : List ℕ) → records_of file ≡ l.fn.records → AreRead file l.pad l.i
