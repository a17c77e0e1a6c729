use Rattle.std.proofs.Common.{◌≡◌, ℕ, List, Option, length}
use Rattle.ep_outside.specs.Disk.{Contents}
use Rattle.ep_verify.specs.Files.{AreTold, names_in}
use Rattle.ep_verify.proofs.window.Window.finish_all.Given as goal

abbrev pub invariant-loop-self : goal.invariant-loop-self
invariant-loop-self g l = record {
  names : names_in l.self.verdicts.items l.self.running.items ≡ names_in l.fn.self.verdicts.items l.fn.self.running.items;
  told : (told : List ℕ → Option Contents) → AreTold told l.fn.self.verdicts.items l.fn.self.running.items → AreTold told l.self.verdicts.items l.self.running.items;
  workers : l.self.workers ≡ l.fn.self.workers;
}

abbrev pub decreases-loop-self : goal.decreases-loop-self
decreases-loop-self g l = length l.self.running.items
