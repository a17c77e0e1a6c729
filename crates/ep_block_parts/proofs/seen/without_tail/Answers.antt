use Rattle.std.proofs.Common.{◌≡◌, ◌-◌, length, take, drop, arith, sym, ap, ◌∙◌}
use Rattle.ep_cs.specs.Lines.{count_lines}
use Rattle.ep_block_parts.proofs.Tails.{shorter}
use Rattle.ep_block_parts.proofs.seen.without_tail.Goals as goal

pub groups-preserved : goal.groups-preserved
groups-preserved c =
    let rest = c.groups.rest.now in
    let front = c.in-Some.front.now in
    let cut = c.in-Some.ensures.cases in
    let at : length rest - 16 ≡ length front = omega (arith, cut.2) in
    let none : count_lines (drop (length front) rest) ≡ 0 =
    ap (λ n. count_lines (drop n rest)) (sym at) ∙ ap count_lines (sym cut.1) ∙ c.has_line.ensures.none c.if-has_line.false in
    let both = shorter c.args.text.now rest (length front) c.groups.invariant (omega (arith, cut.2)) none in
    record {
      first = cut.0 ∙ ap (λ n. take n rest) at ∙ sym both.0;
      within = omega (arith, cut.2, c.groups.invariant.within);
      behind = both.1;
    }
