-- What undoes an edit of a document.
use Rattle.std.specs.Prelude.{ℕ, ◌+◌, List, [], ◌∷◌, if◌then◌else◌, Option, Some, None}
use Rattle.ep_units.specs.Text.{Text, text_eq}
use Rattle.ep_attr.specs.AttrMap.{AttrMap, pointwise, join}
use Rattle.ep_cs.specs.Doc.{Cell, Doc}
use Rattle.ep_cs.specs.Edit.{Edit, Fate, Place, Step, Item, steps_of, edit_of}
use Rattle.ep_cs.specs.Edit.Fate.{Drop, Keep}
use Rattle.ep_cs.specs.Edit.Step.{Insert, Pass}
use Rattle.ep_cs.specs.Edit.Item.{Kept, New}

-- the value that gives a document's value back after a change's: the old one, or the empty one where there was none, and none where nothing is altered
abbrev pub value_back : Option Text → Option Text → Option Text
value_back old None = None
value_back None (Some []) = None
value_back None (Some (u ∷ us)) = Some []
value_back (Some v) (Some w) = if text_eq v w then None else Some v

-- the map that gives a document's map back after a change's
abbrev pub restoring : AttrMap → AttrMap → AttrMap
restoring m c = pointwise value_back m c

-- the steps that undo steps over a document: what they insert is dropped, what they drop is inserted, what they keep is kept with its map restored
abbrev pub undoing : List Step → Doc → List Step
undoing [] doc = []
undoing (Insert c ∷ steps) doc = Pass Drop ∷ undoing steps doc
undoing (Pass f ∷ steps) [] = undoing steps []
undoing (Pass Drop ∷ steps) (c ∷ doc) = Insert c ∷ undoing steps doc
undoing (Pass (Keep m) ∷ steps) (c ∷ doc) = Pass (Keep (restoring c.attrs m)) ∷ undoing steps doc

-- the edit of the document after an edit that undoes it
abbrev pub inverse : Edit → Doc → Edit
inverse e doc = edit_of (undoing (steps_of e) doc)

-- what an edit and its inverse together make of a place, counted from i
abbrev pub undone_item : ℕ → Fate → Cell → Item
undone_item i Drop c = New c
undone_item i (Keep m) c = Kept i (join m (restoring c.attrs m))

abbrev pub undone_items : ℕ → List Place → Doc → List Item
undone_items i [] doc = []
undone_items i (p ∷ ps) [] = []
undone_items i (p ∷ ps) (c ∷ doc) = undone_item i p.fate c ∷ undone_items (i + 1) ps doc
