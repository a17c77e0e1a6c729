use Rattle.std.proofs.Common.{◌≡◌, ◌<◌, ◌^◌, ◌++◌, List, length}
use Rattle.ep_cs.specs.Doc.{Cell}
use Rattle.ep_cs.specs.Runs.{cells}
use Rattle.ep_make.specs.Same.{doc_eq}
use Rattle.ep_make.proofs.same.passes.Given as goal

abbrev pub invariant-pieces : goal.invariant-pieces
invariant-pieces l = record {
  short : length l.left < 2 ^ 32;
  same : (behind : List Cell) → doc_eq (cells l.stretch.attrs.now l.stretch.text.now ++ behind) l.fn.rest ≡ doc_eq (cells l.stretch.attrs.now l.left ++ behind) l.rest;
}

abbrev pub decreases-pieces : goal.decreases-pieces
decreases-pieces l = length l.left
