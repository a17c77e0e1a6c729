use Rattle.std.proofs.Common.{◌≡◌, ◌++◌, length}
use Rattle.ep_cs.specs.Doc.{text_of}
use Rattle.ep_blocks.proofs.body.Body.text.Given as goal

abbrev pub invariant-all : goal.invariant-all
invariant-all l = l.text ++ text_of l.rest ≡ text_of l.self

abbrev pub decreases-all : goal.decreases-all
decreases-all l = length l.rest
