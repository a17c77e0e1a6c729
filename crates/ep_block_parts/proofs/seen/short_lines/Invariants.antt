use Rattle.std.proofs.Common.{◌≡◌, ◌≤◌, ◌+◌, drop}
use Rattle.ep_cs.specs.Lines.{count_lines}
use Rattle.ep_block_parts.proofs.seen.short_lines.Given as goal

abbrev pub invariant-loop-unit : goal.invariant-loop-unit
invariant-loop-unit l = record { so_far : l.lines + count_lines (drop l.unit-index l.text) ≡ count_lines l.text; within : l.lines ≤ l.unit-index }
