-- The places of a pad's exported history, by their names.
use Rattle.std.specs.Prelude.{ℕ, List, ◌++◌, codes}
use Rattle.ep_units.specs.Text.{Text}
use Rattle.ep_export.specs.Keys.{pad_key, rev_key}
use Rattle.ep_import.specs.declared.place.Place.{Place}
use Rattle.ep_import.specs.declared.place.Place.TheVariants as place

-- the names of the members from the outermost to this one, with `/` between them
abbrev pub path_from : List ℕ → Place → List ℕ
path_from key place.Pad = key
path_from key place.Atext = key ++ codes "/atext"
path_from key place.Attribs = key ++ codes "/atext/attribs"
path_from key place.Text = key ++ codes "/atext/text"
path_from key place.Head = key ++ codes "/head"
path_from key place.Pool = key ++ codes "/pool"
path_from key place.PublicStatus = key ++ codes "/publicStatus"
path_from key (place.Rev n) = rev_key key n
path_from key (place.Changeset n) = rev_key key n ++ codes "/changeset"
path_from key (place.Meta n) = rev_key key n ++ codes "/meta"
path_from key (place.Author n) = rev_key key n ++ codes "/meta/author"
path_from key (place.Session n) = rev_key key n ++ codes "/meta/session"
path_from key (place.Timestamp n) = rev_key key n ++ codes "/meta/timestamp"

abbrev pub path : Text → Place → List ℕ
path id p = path_from (pad_key id) p
