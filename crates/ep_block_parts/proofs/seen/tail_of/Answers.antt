use Rattle.std.proofs.Common.{◌≡◌, ◌≤◌, ◌-◌, length, take, drop, take_all, arith, ap, ◌∙◌}
use Rattle.ep_units.specs.Text.{is_newline}
use Rattle.ep_cs.specs.Lines.{count_lines, is_whole_lines}
use Rattle.ep_block_parts.proofs.Tails.{shorter}
use Rattle.ep_block_parts.proofs.Texts.{last_newline, lines_within}
use Rattle.ep_block_parts.proofs.seen.tail_of.Goals as goal

pub returns-then-text-eq10-clause-before : goal.returns-then-text-eq10-clause-before
returns-then-text-eq10-clause-before c =
    let text = c.args.text.now in
    let some : 1 ≤ length text = omega (arith, c.if-lines-eq0.false, c.requires.lines, lines_within text) in
    let all : take (length text - 0) text ≡ text = take_all (length text - 0) text (omega arith) in
    ap is_whole_lines all ∙ last_newline text some ∙ ap is_newline c.if-text-eq10.true

pub returns-else-text-eq10-clause-behind : goal.returns-else-text-eq10-clause-behind
returns-else-text-eq10-clause-behind c =
    let rest = c.without_tail.ensures in
    let text = c.args.text.now in
    let m = c.last_line.result in
    let at : length text - (length text - m) ≡ m = omega (arith, rest.within, c.last_line.ensures.within) in
    ap (λ n. count_lines (drop n text)) at
    ∙ (shorter text c.without_tail.result.now m (record { first = rest.first; within = rest.within; behind = rest.behind }) c.last_line.ensures.within c.last_line.ensures.behind).1
