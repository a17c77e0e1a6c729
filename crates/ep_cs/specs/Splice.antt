-- Splices: edits that replace a stretch by a piece.
use Rattle.std.specs.Prelude.{ℕ, ◌+◌, ◌-◌, List, ◌++◌, replicate}
use Rattle.ep_attr.specs.AttrMap.{none}
use Rattle.ep_cs.specs.Doc.{Cell}
use Rattle.ep_cs.specs.Edit.{Edit, Step, inserts, edit_of}
use Rattle.ep_cs.specs.Edit.Fate.{Drop, Keep}
use Rattle.ep_cs.specs.Edit.Step.{Pass}

-- so many places are kept as they are
abbrev pub kept : ℕ → List Step
kept n = replicate n (Pass (Keep none))

abbrev pub dropped : ℕ → List Step
dropped n = replicate n (Pass Drop)

-- of n units, those from a place on, so many of them, give way to the piece
abbrev pub splice : ℕ → ℕ → ℕ → List Cell → Edit
splice n at count piece = edit_of (kept at ++ (dropped count ++ (inserts piece ++ kept (n - (at + count)))))
