use Rattle.std.proofs.Common.{◌≡◌, ℕ, ◌-◌, suc, true, take, ap, subst, arith}
use Rattle.ep_units.specs.Text.{is_newline}
use Rattle.ep_cs.specs.Lines.{is_whole_lines}
use Rattle.ep_cs.proofs.Stretches.{newline_there}
use Rattle.ep_cs.proofs.lines.last_line.Goals as goal

pub returns-else-text-at-ne10-clause-before : goal.returns-else-text-at-ne10-clause-before
returns-else-text-at-ne10-clause-before c =
    let back : suc (c.back.at - 1) ≡ c.back.at = omega (arith, c.back-test.true) in
    subst (λ (k : ℕ). is_whole_lines (take k c.args.text.now) ≡ true) back (newline_there c.args.text.now (c.back.at - 1) (omega (arith, c.back-test.true, c.back.invariant.within)) (ap is_newline c.if-text-at-ne10.false))
