-- Changes that are made to a document one after another.
use Rattle.std.specs.Prelude.{List, [], ◌∷◌, map}
use Rattle.ep_cs.specs.Doc.{Doc}
use Rattle.ep_cs.specs.Edit.{Edit, apply}
use Rattle.ep_cs.specs.Change.{Change}
use Rattle.ep_cs.specs.Fits.{Fits}

-- each fits the document after those before it
abbrev pub AreMade : Doc → List Change → Type 0
AreMade doc [] = Unit {0}
AreMade doc (c ∷ cs) = Fits c doc × AreMade (apply c.edit doc) cs

abbrev pub after_all : Doc → List Change → Doc
after_all doc [] = doc
after_all doc (c ∷ cs) = after_all (apply c.edit doc) cs

abbrev pub edits_of : List Change → List Edit
edits_of cs = map (λ c. c.edit) cs
