-- Documents that are the same.
use Rattle.std.specs.Prelude.{◌==◌, ◌&&◌, Bool, true, false, [], ◌∷◌}
use Rattle.ep_attr.specs.AttrMap.{same_map}
use Rattle.ep_cs.specs.Doc.{Doc}

-- they have the same units with the same attributes
abbrev pub doc_eq : Doc → Doc → Bool
doc_eq [] [] = true
doc_eq [] (d ∷ ds) = false
doc_eq (c ∷ cs) [] = false
doc_eq (c ∷ cs) (d ∷ ds) = (c.unit == d.unit) && (same_map c.attrs d.attrs && doc_eq cs ds)
