use Rattle.std.proofs.Common.{◌∙◌, ap, sym, refl, arith}
use Rattle.ep_cell.proofs.Keeping.{split_splits}
use Rattle.ep_cell.proofs.cell.Cell.meet.Goals as goal

pub split_seat-theirs-requires : goal.split_seat-theirs-requires
split_seat-theirs-requires g c = (c.requires.other, omega (arith, c.args.self.now.words), split_splits g.M.Machine.stands g.M.Machine.legal c.args.self.now.board.shared.key.value _ _)

pub split_seat-ours-requires : goal.split_seat-ours-requires
split_seat-ours-requires g c = (c.join.ensures.of ∙ c.requires.one, omega (arith, c.args.self.now.words), split_splits g.M.Machine.stands g.M.Machine.legal c.args.self.now.board.shared.key.value _ _)

pub returns-clause-first : goal.returns-clause-first
returns-clause-first g c = (refl, refl, sym (c.join.ensures.one _ c.args.one.now.begun _ (ap (λ m. m.0.begun) c.split_seat-theirs.ensures.4 ∙ c.args.other.now.begun)))
