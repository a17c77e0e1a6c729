-- Where the units that a client shows come from, as far as one edit is asked about, and what is due to each where that edit is taken back.
use Rattle.std.specs.Prelude.{Bool, false, ◌||◌, if◌then◌else◌, List, [], ◌∷◌, ◌++◌, map, Option, Some, None}
use Rattle.ep_units.specs.Text.{Text, text_le}
use Rattle.ep_attr.specs.AttrMap.{AttrMap, none, rest, get}
use Rattle.ep_cs.specs.Doc.{Cell, Doc}
use Rattle.ep_cs.specs.Edit.{Fate, Place, Edit, Item, items}
use Rattle.ep_cs.specs.Edit.Fate.{Drop, Keep}
use Rattle.ep_cs.specs.Edit.Item.{Kept, New}
use Rattle.ep_invert.specs.Inverse.{restoring}
use Rattle.ep_history.specs.Lists.{at}

-- a unit of the view: it stood before the edit, whose inverse sets this map on it, and then something heard set these, the first one first; or
-- the edit inserted it; or something heard did
pub data Origin : Type 0 where
  Stood : AttrMap → List AttrMap → Origin
  Own : Origin
  Others : Origin

-- a unit that the edit keeps with a map
abbrev pub stands : Option Cell → AttrMap → Origin
stands None m = Others
stands (Some c) m = Stood (restoring c.attrs m) []

-- a unit that something heard keeps with a map
abbrev pub set_on : Origin → AttrMap → Origin
set_on (Stood u ms) m = Stood u (ms ++ m ∷ [])
set_on Own m = Own
set_on Others m = Others

abbrev pub goes_on : Option Origin → AttrMap → Origin
goes_on None m = Others
goes_on (Some o) m = set_on o m

-- what each item of the edit is
abbrev pub after_edit : Doc → Item → Origin
after_edit doc (Kept place m) = stands (at doc place) m
after_edit doc (New c) = Own

-- what each item of something heard is
abbrev pub after_heard : List Origin → Item → Origin
after_heard os (Kept place m) = goes_on (at os place) m
after_heard os (New c) = Others

-- the units after the edit of a document
abbrev pub origins : Edit → Doc → List Origin
origins e doc = map (after_edit doc) (items e)

-- the units after something heard, and after all of it
abbrev pub traced : Edit → List Origin → List Origin
traced d os = map (after_heard os) (items d)

abbrev pub all_traced : List Edit → List Origin → List Origin
all_traced [] os = os
all_traced (d ∷ ds) os = all_traced ds (traced d os)

-- a map without the keys that one of these sets to an equal or earlier value
abbrev pub left_of : AttrMap → List AttrMap → AttrMap
left_of u [] = u
left_of u (m ∷ ms) = left_of (rest m u) ms

-- whether a value that is set goes before this one, or is it
abbrev pub covers : Option Text → Text → Bool
covers None v = false
covers (Some w) v = text_le w v

-- whether one of these maps sets the key to an equal or earlier value
abbrev pub is_covered : List AttrMap → Text → Text → Bool
is_covered [] key v = false
is_covered (m ∷ ms) key v = covers (get m key) v || is_covered ms key v

-- what is left of the value of a key
abbrev pub still : List AttrMap → Text → Option Text → Option Text
still ms key None = None
still ms key (Some v) = if is_covered ms key v then None else Some v

-- what is due to a unit where the edit is taken back
abbrev pub due : Origin → Fate
due (Stood u ms) = Keep (left_of u ms)
due Own = Drop
due Others = Keep none

-- the units that an edit drops, with their attributes
abbrev pub dropped_at : Fate → Cell → List Cell
dropped_at Drop c = c ∷ []
dropped_at (Keep m) c = []

abbrev pub dropped_from : List Place → Doc → List Cell
dropped_from [] doc = []
dropped_from (p ∷ ps) [] = []
dropped_from (p ∷ ps) (c ∷ doc) = dropped_at p.fate c ++ dropped_from ps doc

abbrev pub dropped_by : Edit → Doc → List Cell
dropped_by e doc = dropped_from e.places doc
