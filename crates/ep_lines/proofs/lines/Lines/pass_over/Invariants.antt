use Rattle.std.proofs.Common.{◌≡◌, ◌+◌, ◌-◌, ◌≤◌, ◌<◌, [], ◌++◌, ◌==◌, List, ℕ, true, false, None, length, position, if◌then◌else◌}
use Rattle.ep_outside.specs.Outside.{Gives, IsAtEnd}
use Rattle.ep_lines.proofs.Reading.{Passed}
use Rattle.ep_lines.proofs.lines.Lines.pass_over.Given as goal

abbrev pub invariant-pieces : goal.invariant-pieces
invariant-pieces g l = record {
  reads : (piece : List ℕ) × Gives (g.S.Source.left l.fn.source) (g.S.Source.left l.source) piece
      × (l.fn.self.is_over ≡ true → (piece ≡ []) × (l.self.is_over ≡ true))
      × Passed l.fn.self piece l.self;
  end : l.end ≡ position (λ b. b == 10) l.self.held;
  over : (l.fn.self.is_over ≡ true → IsAtEnd (g.S.Source.left l.fn.source)) → l.self.is_over ≡ true → IsAtEnd (g.S.Source.left l.source);
  most : l.self.most ≡ l.fn.self.most;
  later : g.S.Device.failures l.fn.source ≤ g.S.Device.failures l.source;
  steady : g.S.Device.is_steady l.source ≡ g.S.Device.is_steady l.fn.source;
  some : 0 < l.left;
}

abbrev pub decreases-pieces : goal.decreases-pieces
decreases-pieces g l = l.left
