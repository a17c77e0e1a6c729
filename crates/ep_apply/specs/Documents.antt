-- What every document is, and the change that inserts one.
use Rattle.std.specs.Prelude.{◌≡◌, true, [], ◌∷◌, ◌++◌}
use Rattle.ep_attr.specs.AttrMap.{none, after}
use Rattle.ep_cs.specs.Doc.{Doc, is_document}
use Rattle.ep_cs.specs.Change.{Change, change_with}
use Rattle.ep_cs.specs.Draft.{Draft}
use Rattle.ep_cs.specs.Edit.{inserts}

-- no map has an empty value: set where nothing was, it stays as it is
abbrev pub HasNoEmpty : Doc → Type 0
HasNoEmpty [] = Unit {0}
HasNoEmpty (c ∷ cs) = (c.attrs ≡ after none c.attrs) × HasNoEmpty cs

-- the text is well-formed, the halves of a pair have equal maps, and no map has an empty value
pub record IsDocument (doc : Doc) : Type 0 where
  pub pairs : is_document doc ≡ true
  pub values : HasNoEmpty doc

-- the change on no units that inserts a document
abbrev pub insertion : Doc → Change
insertion doc = change_with (record { places = []; last = doc }) []

-- a change that is being written, after these cells were inserted
abbrev pub inserting_all : Draft → Doc → Draft
inserting_all d doc = record { old = d.old; steps = d.steps ++ inserts doc; marks = d.marks }
