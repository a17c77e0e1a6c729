-- What an edit inserts under another author's name, and the edit of its result that sets one's own there.
use Rattle.std.specs.Prelude.{Bool, not, if◌then◌else◌, [], map, codes}
use Rattle.std.specs.List.{list_any}
use Rattle.ep_units.specs.Text.{Text}
use Rattle.ep_attr.specs.AttrMap.{AttrMap, none, insert}
use Rattle.ep_cs.specs.Doc.{Cell, painted}
use Rattle.ep_cs.specs.Edit.{Place, Edit, Item, items, pieces}
use Rattle.ep_cs.specs.Edit.Fate.{Keep}
use Rattle.ep_cs.specs.Edit.Item.{Kept, New}
use Rattle.ep_history.specs.Accept.{names_author}

-- a map names an author, and not this one
abbrev pub names_another : Text → AttrMap → Bool
names_another author m = not (names_author author m)

-- an edit inserts a unit that names another
abbrev pub inserts_another : Text → Edit → Bool
inserts_another author e = list_any (λ c. names_another author c.attrs) (pieces e.places e.last)

-- the map of one pair, which names this author
abbrev pub naming : Text → AttrMap
naming author = insert none (codes "author") author

-- with what a new unit of this map is signed: with one's own name where it names another, and with nothing elsewhere
abbrev pub mark : Text → AttrMap → AttrMap
mark author m = if names_another author m then naming author else none

-- the map for an item of a result: what was there before is left as it is
abbrev pub mark_of : Text → Item → AttrMap
mark_of author (Kept place m) = none
mark_of author (New c) = mark author c.attrs

-- a unit is kept with a map, and nothing is inserted before it
abbrev pub kept_with : AttrMap → Place
kept_with m = record { before = []; fate = Keep m }

-- the edit of an edit's result that signs what that edit inserts
abbrev pub signing : Text → Edit → Edit
signing author e = record { places = map (λ i. kept_with (mark_of author i)) (items e); last = [] }

-- a new unit after it was signed
abbrev pub signed : Text → Cell → Cell
signed author c = if names_another author c.attrs then painted c (naming author) else c
