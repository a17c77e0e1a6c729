use Rattle.std.proofs.Common.{◌≡◌, ◌≤◌, ◌++◌, ℕ, List}
use Rattle.std.specs.Prelude.{All, IsTrue}
use Rattle.ep_outside.specs.Shelf.{rises}
use Rattle.ep_verify.specs.Files.{AreTold, names_in}
use Rattle.ep_verify.proofs.verdicts.verify.Given as goal

abbrev pub invariant-loop-name : goal.invariant-loop-name
invariant-loop-name g l = record {
  names : names_in l.window.verdicts.items l.window.running.items ++ l.name-iterator.rest.items ≡ l.initial.name-iterator.rest.items;
  told : AreTold (g.H.Shelf.told l.fn.shelf) l.window.verdicts.items l.window.running.items;
  untouched : All (λ (n : List ℕ). g.H.Shelf.told l.shelf n ≡ g.H.Shelf.told l.fn.shelf n) l.name-iterator.rest.items;
  rising : IsTrue (rises l.name-iterator.rest.items);
  shelf : g.H.Shelf.names l.shelf ≡ g.H.Shelf.names l.fn.shelf;
  later : g.H.Device.failures l.fn.shelf ≤ g.H.Device.failures l.shelf;
  steady : g.H.Device.is_steady l.shelf ≡ g.H.Device.is_steady l.fn.shelf;
}
