-- Revisions, revision 0 first, and the document of each.
use Rattle.std.specs.Prelude.{ℕ, suc, ◌%◌, List, [], ◌∷◌, map, length, take, Option, Some, None}
use Rattle.ep_cs.specs.Doc.{Doc}
use Rattle.ep_cs.specs.Change.{Change}
use Rattle.ep_history.specs.declared.rev.Rev.{Rev}
use Rattle.ep_history.specs.History.{newline, made}

-- revisions, and for how many more there is room
pub record Revisions : Type 0 where
  pub revs : List Rev
  pub room : ℕ

-- the change of each
abbrev pub changes_of : List Rev → List Change
changes_of vs = map (λ v. v.change) vs

-- the document of revision r: what a newline becomes by the revisions up to it
abbrev pub doc_of : List Rev → ℕ → Doc
doc_of vs r = made newline (take (suc r) vs)

-- the document of the last revision, and one newline where there is none
abbrev pub last_doc : List Rev → Doc
last_doc vs = made newline vs

-- the number of the last revision
abbrev pub head_of : List Rev → Option ℕ
head_of [] = None
head_of (v ∷ vs) = Some (length vs)

-- a revision is a frame where its number is divisible by this: its document is kept
abbrev pub spacing : ℕ
spacing = 100

-- how many revisions stand behind the greatest frame up to a revision
abbrev pub behind_frame : ℕ → ℕ
behind_frame r = r % spacing
