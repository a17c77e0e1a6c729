-- When a change fits a document.
use Rattle.std.specs.Prelude.{◌≡◌, Bool, true, false, not, ◌&&◌, ◌||◌, List, [], ◌∷◌, length}
use Rattle.ep_units.specs.Text.{Text, is_high, is_well_formed}
use Rattle.ep_attr.specs.AttrMap.{is_none, same_map}
use Rattle.ep_cs.specs.Doc.{Cell, Doc, text_of, is_document}
use Rattle.ep_cs.specs.Edit.{Fate, Place, Edit, is_empty}
use Rattle.ep_cs.specs.Edit.Fate.{Drop, Keep}
use Rattle.ep_cs.specs.Change.{Change, stamped}

abbrev pub same_fate : Fate → Fate → Bool
same_fate Drop Drop = true
same_fate Drop (Keep b) = false
same_fate (Keep a) Drop = false
same_fate (Keep a) (Keep b) = same_map a b

-- a place of this fate and the next are of one run
abbrev pub goes_on : Fate → List Place → Bool
goes_on fate [] = false
goes_on fate (q ∷ qs) = is_empty q.before && same_fate fate q.fate

-- each first half of a pair and the unit after it are of one run, so that no pair is cut
abbrev pub keeps_pairs : List Place → Text → Bool
keeps_pairs [] us = true
keeps_pairs (p ∷ ps) [] = true
keeps_pairs (p ∷ ps) (u ∷ us) = (not (is_high u) || goes_on p.fate ps) && keeps_pairs ps us

-- it is a change of so many units, its claims of newlines are true of the text, and it cuts no pair
pub record Fits (c : Change) (doc : Doc) : Type 0 where
  pub length : length doc ≡ length c.edit.places
  pub runs : c.runs ≡ (stamped c.edit (text_of doc)).runs
  pub pairs : keeps_pairs c.edit.places (text_of doc) ≡ true

-- each piece that an edit inserts is a text
abbrev pub ArePieces : List Place → List Cell → Type 0
ArePieces [] last = is_well_formed (text_of last) ≡ true
ArePieces (p ∷ ps) last = (is_well_formed (text_of p.before) ≡ true) × ArePieces ps last

-- each piece that an edit inserts is a document
abbrev pub AreDocuments : List Place → List Cell → Type 0
AreDocuments [] last = is_document last ≡ true
AreDocuments (p ∷ ps) last = (is_document p.before ≡ true) × AreDocuments ps last

abbrev pub is_plain : Fate → Bool
is_plain Drop = false
is_plain (Keep m) = is_none m

-- the places are kept as they are, with nothing inserted
abbrev pub is_plain_rest : List Place → List Cell → Bool
is_plain_rest [] last = is_empty last
is_plain_rest (q ∷ qs) last = is_empty q.before && (is_plain q.fate && is_plain_rest qs last)

-- the edit alters nothing
abbrev pub is_identity : Edit → Bool
is_identity e = is_plain_rest e.places e.last
