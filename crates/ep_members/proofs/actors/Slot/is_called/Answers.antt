use Rattle.std.proofs.Common.{ℕ, ◌-◌, List, length, slice_index_or, sym, ap, ◌∙◌, arith}
use Rattle.std.proofs.lemmas.Grind.{same_number_lists}
use Rattle.ep_members.proofs.Places.{named-so, other-name}
use Rattle.ep_members.proofs.actors.Slot.is_called.Goals as goal

pub returns-then-own-sought : goal.returns-then-own-sought
returns-then-own-sought c =
    sym (other-name c.args.name.now c.args.self.now.name (λ e. c.if-own-sought.true (ap length (c.as_slice-own.ensures ∙ sym e ∙ sym c.as_slice-sought.ensures))))

pub returns-then-own-left : goal.returns-then-own-left
returns-then-own-left c =
    sym (other-name c.args.name.now c.args.self.now.name (λ e. c.if-own-left.true
    (ap (λ (xs : List ℕ). slice_index_or xs (c.units.left - 1) 0) (c.as_slice-own.ensures ∙ sym e ∙ sym c.as_slice-sought.ensures))))

pub returns : goal.returns
returns c =
    sym (named-so c.args.name.now c.args.self.now.name
    (sym c.as_slice-sought.ensures
    ∙ sym (same_number_lists c.as_slice-own.result.now c.as_slice-sought.result.now c.if-own-sought.false (λ k l. c.units.invariant.1 k (omega (arith, c.units-test.false)) l))
    ∙ c.as_slice-own.ensures))
