use Rattle.std.proofs.Common.{◌≡◌, ◌++◌, List, length}
use Rattle.httparse.specs.Grammar.{LineEnd, print_blank}
use Rattle.ep_http.proofs.target.behind_empty_lines.Given as goal

abbrev pub invariant-lines : goal.invariant-lines
invariant-lines l = (ends : List LineEnd) × (l.bytes ≡ print_blank ends ++ l.line)

abbrev pub decreases-lines : goal.decreases-lines
decreases-lines l = length l.line
