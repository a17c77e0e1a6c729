-- A splice of a document.
use Rattle.std.specs.Prelude.{ℕ, ◌+◌, List, ◌++◌, take, drop}
use Rattle.ep_cs.specs.Doc.{Cell}

-- cells after so many of them at a place went, and others came for them
abbrev pub spliced : ℕ → ℕ → List Cell → List Cell → List Cell
spliced at dropped new cs = take at cs ++ (new ++ drop (at + dropped) cs)
