-- What an edit and the edit that signs it make together, and which pairs that one cuts.
use Rattle.std.proofs.Common.{◌≡◌, ℕ, ◌+◌, Bool, true, false, cond, not, ◌&&◌, ◌||◌, if◌then◌else◌, List, [], ◌∷◌, ◌++◌, map, length, Option, Some, refl, sym, ap, ap₂, ◌∙◌, subst, T, arith, append-nil, codes, suc}
use Rattle.std.proofs.lemmas.List.{map-append}
use Rattle.ep_units.specs.Text.{Text, is_high, is_low, is_paired, is_well_formed, text_eq}
use Rattle.ep_attr.specs.AttrMap.{AttrMap, none, get, after, value_after, same_map}
use Rattle.ep_attr.proofs.Maps.{after-none, get-after}
use Rattle.ep_attr.proofs.SameMap.{both_true, first_true, second_true, exact_map, itself, same_map_itself}
use Rattle.ep_cs.specs.Doc.{Cell, Doc, text_of, painted, has_equal_halves}
use Rattle.ep_cs.specs.Edit.{Fate, Place, Edit, Item, is_empty, at_place, over, apply, painted_item, numbered}
use Rattle.ep_cs.specs.Edit.Fate.{Drop, Keep}
use Rattle.ep_cs.specs.Edit.Item.{Kept, New}
use Rattle.ep_cs.specs.Fits.{same_fate, goes_on, keeps_pairs, AreDocuments}
use Rattle.ep_cs.proofs.Pairs.{same_cells}
use Rattle.ep_history.specs.Lists.{or_else}
use Rattle.ep_history.specs.Accept.{is_nothing, names_author}
use Rattle.ep_sign.specs.Signing.{names_another, naming, mark, mark_of, kept_with, signing, signed}

-- ---- one unit

named_value : (author : Text) (old : Option Text) → (is_nothing (or_else (value_after old (Some author)) []) || text_eq (or_else (value_after old (Some author)) []) author) ≡ true
named_value [] old = refl
named_value (u ∷ us) old = itself (u ∷ us)

named : (author : Text) (m : AttrMap) → names_author author (after m (naming author)) ≡ true
named author m =
    let key : Text = codes "author" in
    let name : get (naming author) key ≡ Some author = refl in
    ap (λ (o : Option Text). is_nothing (or_else o []) || text_eq (or_else o []) author) (get-after m (naming author) key ∙ ap (value_after (get m key)) name) ∙ named_value author (get m key)

-- a unit that was signed names no other author
pub signed_names_no_other : (author : Text) (c : Cell) → names_another author (signed author c).attrs ≡ false
signed_names_no_other author c = go (names_another author c.attrs) refl
  where
    go : (b : Bool) → names_another author c.attrs ≡ b → names_another author (if b then painted c (naming author) else c).attrs ≡ false
    go true e = ap not (named author c.attrs)
    go false e = e

pub signed_unit : (author : Text) (c : Cell) → (signed author c).unit ≡ c.unit
signed_unit author c = go (names_another author c.attrs)
  where
    go : (b : Bool) → (if b then painted c (naming author) else c).unit ≡ c.unit
    go true = refl
    go false = refl

as_it_is : (c : Cell) → painted c none ≡ c
as_it_is c = ap (λ (m : AttrMap). record { unit = c.unit; attrs = m }) (after-none c.attrs)

pub signed_is : (author : Text) (c : Cell) → painted c (mark author c.attrs) ≡ signed author c
signed_is author c = go (names_another author c.attrs)
  where
    go : (b : Bool) → painted c (if b then naming author else none) ≡ (if b then painted c (naming author) else c)
    go true = refl
    go false = as_it_is c

pub mark_own : (author : Text) (m : AttrMap) → names_author author m ≡ true → mark author m ≡ none
mark_own author m e = ap (λ b. if not b then naming author else none) e

pub mark_anothers : (author : Text) (m : AttrMap) → names_author author m ≡ false → mark author m ≡ naming author
mark_anothers author m e = ap (λ b. if not b then naming author else none) e

-- ---- a document after both

abbrev pub placed : Text → List Item → List Place
placed author is = map (λ i. kept_with (mark_of author i)) is

abbrev made : List Place → List Cell → Doc → Doc
made ps last doc = over painted (λ c. c) ps last doc

piece_signed : (author : Text) (cs : List Cell) (is : List Item) (doc : Doc)
    → made (placed author (map New cs ++ is)) [] (map (λ (c : Cell). c) cs ++ doc) ≡ map (signed author) cs ++ made (placed author is) [] doc
piece_signed author [] is doc = refl
piece_signed author (c ∷ cs) is doc = ap₂ (λ (d : Cell) (ds : Doc). d ∷ ds) (signed_is author c) (piece_signed author cs is doc)

last_signed : (author : Text) (cs : List Cell) → made (placed author (map New cs)) [] (map (λ (c : Cell). c) cs) ≡ map (signed author) cs
last_signed author [] = refl
last_signed author (c ∷ cs) = ap₂ (λ (d : Cell) (ds : Doc). d ∷ ds) (signed_is author c) (last_signed author cs)

both : (author : Text) (ps : List Place) (last : List Cell) (i : ℕ) (doc : Doc) → length doc ≡ length ps
    → made (placed author (over painted_item New ps last (numbered i (length ps)))) [] (made ps last doc) ≡ over painted (signed author) ps last doc
both author [] last i [] n = last_signed author last
both author [] last i (c ∷ doc) n = absurd (omega (arith, n))
both author (p ∷ ps) last i [] n = absurd (omega (arith, n))
both author (p ∷ ps) last i (c ∷ doc) n =
    let is : List Item = over painted_item New ps last (numbered (i + 1) (length ps)) in
    let rest : Doc = made ps last doc in
    piece_signed author p.before (at_place painted_item New p.fate (Kept i none) ++ is) (at_place painted (λ c. c) p.fate c ++ rest)
    ∙ ap (λ (ds : Doc). map (signed author) p.before ++ ds) (go p.fate is rest (over painted (signed author) ps last doc) (both author ps last (i + 1) doc (omega (arith, n))))
  where
    go : (f : Fate) (is : List Item) (rest all : Doc) → made (placed author is) [] rest ≡ all
        → made (placed author (at_place painted_item New f (Kept i none) ++ is)) [] (at_place painted (λ c. c) f c ++ rest) ≡ at_place painted (signed author) f c ++ all
    go Drop is rest all e = e
    go (Keep m) is rest all e = ap₂ (λ (d : Cell) (ds : Doc). d ∷ ds) (as_it_is (painted c m)) e

-- after both, the new units are signed, and those that were kept are as the edit left them
pub new_units_are_signed : (author : Text) (e : Edit) (doc : Doc) → length doc ≡ length e.places → apply (signing author e) (apply e doc) ≡ over painted (signed author) e.places e.last doc
new_units_are_signed author e doc n = both author e.places e.last 0 doc n

-- ---- what it inserts and which pairs it cuts

pub length_placed : (author : Text) (is : List Item) → length (placed author is) ≡ length is
length_placed author [] = refl
length_placed author (i ∷ is) = ap suc (length_placed author is)

pub placed_documents : (author : Text) (is : List Item) → AreDocuments (placed author is) []
placed_documents author [] = refl
placed_documents author (i ∷ is) = (refl, placed_documents author is)

halves_rest : (c : Cell) (ds : Doc) → has_equal_halves (c ∷ ds) ≡ true → has_equal_halves ds ≡ true
halves_rest c [] h = refl
halves_rest c (d ∷ ds) h = second_true (not (is_high c.unit) || same_map c.attrs d.attrs) _ h

-- a first half of a piece has its second behind it, which is signed alike
piece_on : (author : Text) (c : Cell) (cs : List Cell) (is : List Item) → is_paired (is_high c.unit) (text_of cs) ≡ true → has_equal_halves (c ∷ cs) ≡ true
    → (not (is_high c.unit) || goes_on (Keep (mark author c.attrs)) (placed author (map New cs ++ is))) ≡ true
piece_on author c [] is w e = go (is_high c.unit) (goes_on (Keep (mark author c.attrs)) (placed author is)) w
  where
    go : (h b : Bool) → not h ≡ true → (not h || b) ≡ true
    go true b w = absurd (subst T (sym w) tt)
    go false b w = refl
piece_on author c (d ∷ cs) is w e = go (is_high c.unit) (first_true (not (is_high c.unit) || same_map c.attrs d.attrs) _ e)
  where
    go : (h : Bool) → (not h || same_map c.attrs d.attrs) ≡ true → (not h || same_map (mark author c.attrs) (mark author d.attrs)) ≡ true
    go true e = ap (λ (m : AttrMap). same_map (mark author c.attrs) (mark author m)) (sym (exact_map c.attrs d.attrs e)) ∙ same_map_itself (mark author c.attrs)
    go false e = refl

piece_kept : (author : Text) (half : Bool) (cs : List Cell) (is : List Item) (us : Text) → is_paired half (text_of cs) ≡ true → has_equal_halves cs ≡ true
    → keeps_pairs (placed author is) us ≡ true → keeps_pairs (placed author (map New cs ++ is)) (text_of cs ++ us) ≡ true
piece_kept author half [] is us w e k = k
piece_kept author half (c ∷ cs) is us w e k =
    let rest = second_true (cond half (is_low c.unit) (not (is_low c.unit))) _ w in
    both_true _ _ (piece_on author c cs is rest e) (piece_kept author (is_high c.unit) cs is us rest (halves_rest c cs e) k)

-- a kept first half is kept with its second
kept_on : (author : Text) (h : Bool) (m : AttrMap) (i : ℕ) (ps : List Place) (last : List Cell) → (not h || goes_on (Keep m) ps) ≡ true
    → (not h || goes_on (Keep none) (placed author (over painted_item New ps last (numbered i (length ps))))) ≡ true
kept_on author false m i ps last on = refl
kept_on author true m i [] last on = absurd (subst T (sym on) tt)
kept_on author true m i (p ∷ ps) last on = go p.before p.fate on
  where
    go : (before : List Cell) (f : Fate) → (is_empty before && same_fate (Keep m) f) ≡ true
        → goes_on (Keep none) (placed author (map New before ++ (at_place painted_item New f (Kept i none) ++ over painted_item New ps last (numbered (i + 1) (length ps))))) ≡ true
    go (c ∷ cs) f on = absurd (subst T (sym on) tt)
    go [] Drop on = absurd (subst T (sym on) tt)
    go [] (Keep k) on = refl

pairs : (author : Text) (ps : List Place) (last : List Cell) (i : ℕ) (doc : Doc) → length doc ≡ length ps → AreDocuments ps last → keeps_pairs ps (text_of doc) ≡ true
    → keeps_pairs (placed author (over painted_item New ps last (numbered i (length ps)))) (text_of (made ps last doc)) ≡ true
pairs author [] last i [] n d k =
    (λ j. keeps_pairs (placed author (sym (append-nil (map New last)) j)) (text_of (same_cells last j))) ∙ ap (λ (us : Text). keeps_pairs (placed author (map New last ++ [])) us) (sym (append-nil (text_of last)))
    ∙ piece_kept author false last [] [] (first_true _ _ d) (second_true (is_well_formed (text_of last)) _ d) refl
pairs author [] last i (c ∷ doc) n d k = absurd (omega (arith, n))
pairs author (p ∷ ps) last i [] n d k = absurd (omega (arith, n))
pairs author (p ∷ ps) last i (c ∷ doc) n d k =
    let here = not (is_high c.unit) || goes_on p.fate ps in
    let is : List Item = over painted_item New ps last (numbered (i + 1) (length ps)) in
    let rest : Doc = at_place painted (λ c. c) p.fate c ++ made ps last doc in
    let items : List Item = at_place painted_item New p.fate (Kept i none) ++ is in
    (λ j. keeps_pairs (placed author (map New p.before ++ items)) (text_of (same_cells p.before j ++ rest)))
    ∙ ap (λ (us : Text). keeps_pairs (placed author (map New p.before ++ items)) us) (map-append (λ (c : Cell). c.unit) p.before rest)
    ∙ piece_kept author false p.before items (text_of rest) (first_true _ _ d.0) (second_true (is_well_formed (text_of p.before)) _ d.0)
    (go p.fate (first_true here _ k) (pairs author ps last (i + 1) doc (omega (arith, n)) d.1 (second_true here _ k)))
  where
    go : (f : Fate) → (not (is_high c.unit) || goes_on f ps) ≡ true → keeps_pairs (placed author (over painted_item New ps last (numbered (i + 1) (length ps)))) (text_of (made ps last doc)) ≡ true
        → keeps_pairs (placed author (at_place painted_item New f (Kept i none) ++ over painted_item New ps last (numbered (i + 1) (length ps)))) (text_of (at_place painted (λ c. c) f c ++ made ps last doc)) ≡ true
    go Drop on again = again
    go (Keep m) on again = both_true _ _ (kept_on author (is_high c.unit) m (i + 1) ps last on) again

-- it cuts no pair of what the edit makes
pub signing_pairs : (author : Text) (e : Edit) (doc : Doc) → length doc ≡ length e.places → AreDocuments e.places e.last → keeps_pairs e.places (text_of doc) ≡ true
    → keeps_pairs (signing author e).places (text_of (apply e doc)) ≡ true
signing_pairs author e doc n d k = pairs author e.places e.last 0 doc n d k
