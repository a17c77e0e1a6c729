use Rattle.std.proofs.Common.{◌≡◌, ◌++◌, length}
use Rattle.ep_cs.specs.Runs.{cells}
use Rattle.ep_blocks.proofs.writer.Writer.push.Given as goal

abbrev pub invariant-parts : goal.invariant-parts
invariant-parts l = l.self ++ cells l.attrs l.rest ≡ l.initial.self ++ cells l.attrs l.text

abbrev pub decreases-parts : goal.decreases-parts
decreases-parts l = length l.rest
