use Rattle.std.proofs.Common.{◌∙◌, ap, sym, subst, Some}
use Rattle.ep_cell.specs.History.{pairs}
use Rattle.ep_cell.proofs.cell.Cell.new_pass.Goals as goal

pub returns-clause-first : goal.returns-clause-first
returns-clause-first g c = ap (λ s. s.value) c.of.ensures

pub returns-clause-legal : goal.returns-clause-legal
returns-clause-legal g c =
    subst (λ f. g.M.Machine.legal f (pairs c.number.new.seat.me.0.seen)) (sym (ap (λ s. s.value) c.of.ensures))
    (subst (λ l. g.M.Machine.legal c.args.self.now.first.value (pairs l)) (sym c.number.ensures.same.3) c.enter-seat.ensures.legal)

pub invariant_of-result-clause-begun : goal.invariant_of-result-clause-begun
invariant_of-result-clause-begun g c = c.number.ensures.begun ∙ (c.enter-seat.ensures.begun ∙ ap (λ s. Some s.value) (sym c.of.ensures))
