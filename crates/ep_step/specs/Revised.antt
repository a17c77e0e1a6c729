-- The revisions that a step becomes, each with its document.
use Rattle.std.specs.Prelude.{◌≡◌, List, [], ◌∷◌, Option, Some, None}
use Rattle.ep_cs.specs.Doc.{Doc}
use Rattle.ep_cs.specs.Edit.{apply}
use Rattle.ep_cs.specs.Fits.{Fits}
use Rattle.ep_history.specs.declared.rev.Rev.{Rev}
use Rattle.ep_step.specs.declared.revised.NewRev.{NewRev}
use Rattle.ep_step.specs.declared.revised.Revised.{Revised}

-- the newline's revision, where there is one
abbrev pub newline_revs : Option NewRev → List Rev
newline_revs None = []
newline_revs (Some v) = v.rev ∷ []

-- the revisions, in order
abbrev pub revs_of : Revised → List Rev
revs_of r = r.edit.rev ∷ newline_revs r.newline

-- the revision's change fits a document, and the document after it is kept
pub record IsNewRev (v : NewRev) (before : Doc) : Type 0 where
  pub fits : Fits v.rev.change before
  pub doc : v.doc ≡ apply v.rev.change.edit before

-- the edit's revision was made to the head, and the newline's to the edit's document
pub record AreNewRevs (r : Revised) (head : Doc) : Type 0 where
  pub edit : IsNewRev r.edit head
  pub newline : (v : NewRev) → r.newline ≡ Some v → IsNewRev v r.edit.doc
