-- The order at a gap, the merge of two edits of one document, and the edit that follows another.
use Rattle.std.specs.Prelude.{Bool, true, false, cond, not, List, [], ◌∷◌, ◌++◌, map}
use Rattle.ep_units.specs.Text.{is_newline}
use Rattle.ep_attr.specs.AttrMap.{none, early, rest, has_first as map_has_first}
use Rattle.ep_cs.specs.Doc.{Cell}
use Rattle.ep_cs.specs.Edit.{Fate, Place, Edit, Step, inserts, edit_of}
use Rattle.ep_cs.specs.Edit.Fate.{Drop, Keep}
use Rattle.ep_cs.specs.Edit.Step.{Pass}

abbrev pub has_first : List Cell → Bool
has_first [] = false
has_first (c ∷ cs) = map_has_first c.attrs

abbrev pub begins_with_newline : List Cell → Bool
begins_with_newline [] = false
begins_with_newline (c ∷ cs) = is_newline c.unit

-- the first of these tests that tells the two apart decides: true for the first
abbrev pub decided : Bool → Bool → Bool → Bool
decided true true otherwise = otherwise
decided true false otherwise = true
decided false true otherwise = false
decided false false otherwise = otherwise

-- whether a's piece goes before b's in one gap; `a_first` says that a is the side named
abbrev pub goes_first : Bool → List Cell → List Cell → Bool
goes_first a_first a b =
    decided (has_first a) (has_first b)
    (decided (not (begins_with_newline a)) (not (begins_with_newline b)) a_first)

-- both pieces in their order
abbrev pub in_order : Bool → List Cell → List Cell → List Cell
in_order a_first a b = cond (goes_first a_first a b) (a ++ b) (b ++ a)

abbrev pub merged_fate : Fate → Fate → Fate
merged_fate Drop f = Drop
merged_fate (Keep a) Drop = Drop
merged_fate (Keep a) (Keep b) = Keep (early a b)

abbrev pub merge_steps : Bool → List Place → List Place → List Cell → List Cell → List Step
merge_steps side [] qs a b = inserts (in_order side a b)
merge_steps side (p ∷ ps) [] a b = inserts (in_order side a b)
merge_steps side (p ∷ ps) (q ∷ qs) a b =
    inserts (in_order side p.before q.before) ++ (Pass (merged_fate p.fate q.fate) ∷ merge_steps side ps qs a b)

-- both edits of one document at once
abbrev pub merge : Bool → Edit → Edit → Edit
merge side a b = edit_of (merge_steps side a.places b.places a.last b.last)

-- a's cells are kept as they are
abbrev pub passes : List Cell → List Step
passes cells = map (λ _. Pass (Keep none)) cells

abbrev pub follow_gap : Bool → List Cell → List Cell → List Step
follow_gap side a b = cond (goes_first side a b) (passes a ++ inserts b) (inserts b ++ passes a)

-- a place that a dropped is not there
abbrev pub follow_place : Fate → Fate → List Step
follow_place Drop f = []
follow_place (Keep a) Drop = Pass Drop ∷ []
follow_place (Keep a) (Keep b) = Pass (Keep (rest a b)) ∷ []

abbrev pub follow_steps : Bool → List Place → List Place → List Cell → List Cell → List Step
follow_steps side [] qs a b = follow_gap side a b
follow_steps side (p ∷ ps) [] a b = follow_gap side a b
follow_steps side (p ∷ ps) (q ∷ qs) a b =
    follow_gap side p.before q.before ++ (follow_place p.fate q.fate ++ follow_steps side ps qs a b)

-- b over a's result
abbrev pub follow : Bool → Edit → Edit → Edit
follow side a b = edit_of (follow_steps side a.places b.places a.last b.last)
