use Rattle.std.proofs.Common.{◌≡◌, ◌≤◌, true, false, drop}
use Rattle.ep_cs.specs.Lines.{count_lines}
use Rattle.ep_block_parts.proofs.seen.has_line.Given as goal

abbrev pub invariant-loop-unit : goal.invariant-loop-unit
invariant-loop-unit l = record {
  none : l.found ≡ false → count_lines (drop l.unit-index l.text) ≡ count_lines l.text;
  some : l.found ≡ true → 1 ≤ count_lines l.text;
  left : count_lines (drop l.unit-index l.text) ≤ count_lines l.text;
}
