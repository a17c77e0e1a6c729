-- What a document stands for, and what is always true of one.
use Rattle.std.specs.Prelude.{◌≡◌, ◌<◌, ◌^◌, List, length}
use Rattle.ep_cs.specs.Doc.{Cell}
use Rattle.ep_apply.specs.Documents.{IsDocument}
use Rattle.ep_apply.specs.declared.doc.Doc.TheInside as doc

abbrev pub doc_of : doc.Inside → List Cell
doc_of d = d.body

pub record IsDoc (d : doc.Inside) : Type 0 where
  pub document : IsDocument d.body
  pub units : d.units ≡ length d.body
  pub short : length d.body < 2 ^ 32
