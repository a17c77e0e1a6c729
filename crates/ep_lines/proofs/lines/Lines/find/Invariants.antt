use Rattle.std.proofs.Common.{◌≡◌, ◌+◌, ◌-◌, ◌≤◌, [], ◌++◌, ◌==◌, List, ℕ, true, false, length, position, if◌then◌else◌}
use Rattle.ep_outside.specs.Outside.{Gives, IsAtEnd}
use Rattle.ep_lines.proofs.lines.Lines.find.Given as goal

abbrev pub invariant-pieces : goal.invariant-pieces
invariant-pieces g l = record {
  reads : (piece : List ℕ) × Gives (g.S.Source.left l.fn.source) (g.S.Source.left l.source) piece × (l.self.held ≡ l.fn.self.held ++ piece)
      × (l.fn.self.is_over ≡ true → (piece ≡ []) × (l.self.is_over ≡ true));
  end : l.end ≡ position (λ b. b == 10) l.self.held;
  over : (l.fn.self.is_over ≡ true → IsAtEnd (g.S.Source.left l.fn.source)) → l.self.is_over ≡ true → IsAtEnd (g.S.Source.left l.source);
  most : l.self.most ≡ l.fn.self.most;
  later : g.S.Device.failures l.fn.source ≤ g.S.Device.failures l.source;
  steady : g.S.Device.is_steady l.source ≡ g.S.Device.is_steady l.fn.source;
}

abbrev pub decreases-pieces : goal.decreases-pieces
decreases-pieces g l = (l.fn.self.most + 1 - length l.self.held) + (if l.self.is_over then 0 else 1)
