-- An inverse inserts documents and cuts no pair.
use Rattle.std.proofs.Common.{◌≡◌, ℕ, Bool, true, false, cond, not, ◌&&◌, ◌||◌, List, [], ◌∷◌, ◌++◌, length, refl, sym, ap, ap₂, ◌∙◌, subst, T, arith, append-nil, append_assoc}
use Rattle.std.proofs.lemmas.List.{map-append}
use Rattle.std.proofs.lemmas.Bool.Decides.{nat_tests}
use Rattle.ep_units.specs.Text.{Text, is_high, is_low, is_paired, is_well_formed}
use Rattle.ep_attr.specs.AttrMap.{AttrMap, none, same_map}
use Rattle.ep_attr.proofs.SameMap.{both_true, first_true, second_true, exact_map, same_map_itself}
use Rattle.ep_cs.specs.Doc.{Cell, Doc, text_of, painted, has_equal_halves, is_document}
use Rattle.ep_cs.specs.Edit.{Fate, Place, Edit, Step, is_empty, at_place, over, apply, inserts, steps_from, steps_of}
use Rattle.ep_cs.specs.Edit.Fate.{Drop, Keep}
use Rattle.ep_cs.specs.Edit.Step.{Insert, Pass}
use Rattle.ep_cs.specs.Splice.{dropped}
use Rattle.ep_cs.specs.Fits.{same_fate, goes_on, keeps_pairs, ArePieces, AreDocuments}
use Rattle.ep_cs.proofs.Plain.{length-text_of}
use Rattle.ep_cs.proofs.Pairs.{same_cells, steps_keep, keeps_pairs-settle}
use Rattle.ep_cs.proofs.Documents.{AreBlocks, blocks, documents-append}
use Rattle.ep_invert.specs.Inverse.{restoring, undoing, inverse}
use Rattle.ep_invert.proofs.Made.{blocks_times, only_times}
use Rattle.ep_invert.proofs.Undone.{undoing_inserts}

no_low : (u : ℕ) → is_high u ≡ true → is_low u ≡ false
no_low u h = grind (arith, nat_tests)

no_high : (u : ℕ) → is_low u ≡ true → is_high u ≡ false
no_high u h = grind (arith, nat_tests)

-- the first cell has this map
abbrev begins : AttrMap → Doc → Bool
begins m [] = true
begins m (d ∷ ds) = same_map m d.attrs

either_true : (b : Bool) → (b || true) ≡ true
either_true true = refl
either_true false = refl

halves_first : (c : Cell) (ds : Doc) → has_equal_halves (c ∷ ds) ≡ true → (not (is_high c.unit) || begins c.attrs ds) ≡ true
halves_first c [] h = either_true (not (is_high c.unit))
halves_first c (d ∷ ds) h = first_true _ _ h

halves_rest : (c : Cell) (ds : Doc) → has_equal_halves (c ∷ ds) ≡ true → has_equal_halves ds ≡ true
halves_rest c [] h = refl
halves_rest c (d ∷ ds) h = second_true (not (is_high c.unit) || same_map c.attrs d.attrs) _ h

goes_with : (h a : Bool) → (not h || a) ≡ true → h ≡ true → a ≡ true
goes_with true a e h = e
goes_with false a e h = absurd (subst T (sym h) tt)

-- ---- what it inserts

-- what undoes a place
abbrev back : Fate → Cell → Step
back Drop c = Insert c
back (Keep m) c = Pass (Keep (restoring c.attrs m))

undoing_place : (f : Fate) (c : Cell) (s : List Step) (doc : Doc) → undoing (Pass f ∷ s) (c ∷ doc) ≡ back f c ∷ undoing s doc
undoing_place Drop c s doc = refl
undoing_place (Keep m) c s doc = refl

-- what is inserted so far, where a first half may wait for its second
abbrev open_block : Bool → Fate → List Cell → Cell → List Cell
open_block false f w h = w
open_block true Drop w h = w ++ h ∷ []
open_block true (Keep m) w h = w

record IsWaiting (h : Cell) (f : Fate) (ps : List Place) (doc : Doc) : Type 0 where
  on : goes_on f ps ≡ true
  same : begins h.attrs doc ≡ true
  high : is_high h.unit ≡ true

one_cell : (c : Cell) → not (is_low c.unit) ≡ true → is_high c.unit ≡ false → is_document (c ∷ []) ≡ true
one_cell c low high = both_true _ _ (both_true _ _ low (ap (λ b. not b) high)) refl

two_cells : (h c : Cell) → is_high h.unit ≡ true → is_low c.unit ≡ true → same_map h.attrs c.attrs ≡ true → is_document (h ∷ (c ∷ [])) ≡ true
two_cells h c high low same =
    both_true _ _
    (both_true _ _ (ap (λ b. not b) (no_low h.unit high)) (ap (λ b. is_paired b (c.unit ∷ [])) high ∙ both_true _ _ low (ap (λ b. not b) (no_high c.unit low))))
    (both_true _ _ (ap (λ b. not (is_high h.unit) || b) same ∙ either_true (not (is_high h.unit))) refl)

-- a place that no first half waits for
closed : (c : Cell) (f : Fate) (w : List Cell) (s : List Step) → not (is_low c.unit) ≡ true → is_document w ≡ true
    → ((v : List Cell) → is_document v ≡ true → AreBlocks (open_block (is_high c.unit) f v c) s) → AreBlocks w (back f c ∷ s)
closed c Drop w s low h next = go (is_high c.unit) refl next
  where
    go : (b : Bool) → is_high c.unit ≡ b → ((v : List Cell) → is_document v ≡ true → AreBlocks (open_block b Drop v c) s) → AreBlocks (w ++ c ∷ []) s
    go true e next = next w h
    go false e next = next (w ++ c ∷ []) (documents-append w (c ∷ []) h (one_cell c low e))
closed c (Keep m) w s low h next = (h, go (is_high c.unit) next)
  where
    go : (b : Bool) → ((v : List Cell) → is_document v ≡ true → AreBlocks (open_block b (Keep m) v c) s) → AreBlocks [] s
    go true next = next [] refl
    go false next = next [] refl

-- the place that a first half waits for
second : (h c : Cell) (f g : Fate) (w : List Cell) (s : List Step) → same_fate f g ≡ true → is_high h.unit ≡ true → is_low c.unit ≡ true → same_map h.attrs c.attrs ≡ true → is_document w ≡ true
    → ((v : List Cell) → is_document v ≡ true → AreBlocks v s) → AreBlocks (open_block true f w h) (back g c ∷ s)
second h c Drop Drop w s e high low same hw next =
    subst (λ v. AreBlocks v s) (sym (append_assoc w (h ∷ []) (c ∷ []))) (next (w ++ h ∷ (c ∷ [])) (documents-append w (h ∷ (c ∷ [])) hw (two_cells h c high low same)))
second h c Drop (Keep m) w s e high low same hw next = absurd (subst T (sym e) tt)
second h c (Keep m) Drop w s e high low same hw next = absurd (subst T (sym e) tt)
second h c (Keep m) (Keep k) w s e high low same hw next = (hw, next [] refl)

-- a place, whether a first half waits for it or not
placed : (half : Bool) (h c : Cell) (f g : Fate) (before w : List Cell) (s : List Step)
    → (half ≡ true → (is_empty before && same_fate f g) ≡ true) → (half ≡ true → is_high h.unit ≡ true) → (half ≡ true → same_map h.attrs c.attrs ≡ true)
    → cond half (is_low c.unit) (not (is_low c.unit)) ≡ true → is_document w ≡ true
    → ((v : List Cell) → is_document v ≡ true → AreBlocks (open_block (is_high c.unit) g v c) s)
    → AreBlocks (open_block half f w h) (dropped (length before) ++ (back g c ∷ s))
placed false h c f g before w s on high same low hw next =
    blocks_times (length before) Drop w (back g c ∷ s) hw (closed c g [] s low refl next) (closed c g w s low hw next)
placed true h c f g [] w s on high same low hw next =
    second h c f g w s (on refl) (high refl) low (same refl) hw (λ v e. subst (λ b. AreBlocks (open_block b g v c) s) (no_high c.unit low) (next v e))
placed true h c f g (d ∷ before) w s on high same low hw next = absurd (subst T (sym (on refl)) tt)

blocks_half : (half : Bool) (h : Cell) (f : Fate) (ps : List Place) (last : List Cell) (doc : Doc) (w : List Cell) → length doc ≡ length ps
    → keeps_pairs ps (text_of doc) ≡ true → is_paired half (text_of doc) ≡ true → has_equal_halves doc ≡ true → (half ≡ true → IsWaiting h f ps doc) → is_document w ≡ true
    → AreBlocks (open_block half f w h) (undoing (steps_from ps last) doc)
blocks_half true h f [] last [] w n k q e wait hw = absurd (subst T (sym q) tt)
blocks_half false h f [] last [] w n k q e wait hw =
    subst (AreBlocks w) (sym (ap (λ s. undoing s []) (sym (append-nil (inserts last))) ∙ undoing_inserts last [] [] ∙ append-nil (dropped (length last)))) (only_times (length last) Drop w hw)
blocks_half half h f [] last (c ∷ doc) w n k q e wait hw = absurd (omega (arith, n))
blocks_half half h f (p ∷ ps) last [] w n k q e wait hw = absurd (omega (arith, n))
blocks_half half h f (p ∷ ps) last (c ∷ doc) w n k q e wait hw =
    let first = cond half (is_low c.unit) (not (is_low c.unit)) in
    let here = not (is_high c.unit) || goes_on p.fate ps in
    subst (AreBlocks (open_block half f w h)) (sym (undoing_inserts p.before (Pass p.fate ∷ steps_from ps last) (c ∷ doc) ∙ ap (λ s. dropped (length p.before) ++ s) (undoing_place p.fate c (steps_from ps last) doc)))
    (placed half h c f p.fate p.before w (undoing (steps_from ps last) doc) (λ t. (wait t).on) (λ t. (wait t).high) (λ t. (wait t).same) (first_true first _ q) hw
    (λ v hv. blocks_half (is_high c.unit) c p.fate ps last doc v (omega (arith, n)) (second_true here _ k) (second_true first _ q) (halves_rest c doc e)
    (λ t. record { on = goes_with _ _ (first_true here _ k) t; same = goes_with _ _ (halves_first c doc e) t; high = t }) hv))

-- the pieces of an inverse are documents
pub inverse_pieces : (e : Edit) (doc : Doc) → length doc ≡ length e.places → keeps_pairs e.places (text_of doc) ≡ true → is_document doc ≡ true
    → AreDocuments (inverse e doc).places (inverse e doc).last
inverse_pieces e doc n k is =
    blocks [] [] (undoing (steps_of e) doc) refl
    (blocks_half false (record { unit = 0; attrs = none }) Drop e.places e.last doc [] n k (first_true _ _ is) (second_true (is_well_formed (text_of doc)) _ is) (λ t. absurd (subst T (sym t) tt)) refl)

-- ---- which pairs it cuts

-- the next step passes a place with this fate
abbrev next_is : Fate → List Step → Bool
next_is f [] = false
next_is f (Insert c ∷ steps) = false
next_is f (Pass g ∷ steps) = same_fate f g

-- a text that is dropped as a whole
keep_dropped : (half : Bool) (t : Text) (s : List Step) (us : Text) → is_paired half t ≡ true → steps_keep s us ≡ true → steps_keep (dropped (length t) ++ s) (t ++ us) ≡ true
keep_dropped half [] s us w e = e
keep_dropped half (u ∷ t) s us w e =
    let first = cond half (is_low u) (not (is_low u)) in
    both_true _ _ (next t (second_true first _ w)) (keep_dropped (is_high u) t s us (second_true first _ w) e)
  where
    next : (t : Text) → is_paired (is_high u) t ≡ true → (not (is_high u) || next_is Drop (dropped (length t) ++ s)) ≡ true
    next [] w = ap (λ b. b || next_is Drop s) w
    next (v ∷ t) w = either_true (not (is_high u))

-- a kept first half is kept with its second
kept_on : (c : Cell) (m : AttrMap) (ps : List Place) (last : List Cell) (doc : Doc) → length doc ≡ length ps
    → (not (is_high c.unit) || goes_on (Keep m) ps) ≡ true → (not (is_high c.unit) || begins c.attrs doc) ≡ true
    → (not (is_high c.unit) || next_is (Keep (restoring c.attrs m)) (undoing (steps_from ps last) doc)) ≡ true
kept_on c m [] last doc n on same = go (is_high c.unit) on
  where
    go : (h : Bool) → (not h || false) ≡ true → (not h || next_is (Keep (restoring c.attrs m)) (undoing (steps_from [] last) doc)) ≡ true
    go true e = absurd (subst T (sym e) tt)
    go false e = refl
kept_on c m (p ∷ ps) last [] n on same = absurd (omega (arith, n))
kept_on c m (p ∷ ps) last (d ∷ doc) n on same = go (is_high c.unit) p.before p.fate on same
  where
    go : (h : Bool) (before : List Cell) (f : Fate) → (not h || (is_empty before && same_fate (Keep m) f)) ≡ true → (not h || same_map c.attrs d.attrs) ≡ true
        → (not h || next_is (Keep (restoring c.attrs m)) (undoing (inserts before ++ (Pass f ∷ steps_from ps last)) (d ∷ doc))) ≡ true
    go false before f on same = refl
    go true (x ∷ before) f on same = absurd (subst T (sym on) tt)
    go true [] Drop on same = absurd (subst T (sym on) tt)
    go true [] (Keep k) on same = ap₂ (λ a b. same_map (restoring c.attrs m) (restoring a b)) (sym (exact_map c.attrs d.attrs same)) (sym (exact_map m k on)) ∙ same_map_itself (restoring c.attrs m)

keep_places : (ps : List Place) (last : List Cell) (doc : Doc) → length doc ≡ length ps → ArePieces ps last → keeps_pairs ps (text_of doc) ≡ true → has_equal_halves doc ≡ true
    → steps_keep (undoing (steps_from ps last) doc) (text_of (over painted (λ c. c) ps last doc)) ≡ true
keep_places [] last [] n pieces k e =
    (λ i. steps_keep ((ap (λ s. undoing s []) (sym (append-nil (inserts last))) ∙ undoing_inserts last [] []) i) ((ap text_of (same_cells last) ∙ sym (append-nil (text_of last))) i))
    ∙ ap (λ (j : ℕ). steps_keep (dropped j ++ []) (text_of last ++ [])) (sym (length-text_of last)) ∙ keep_dropped false (text_of last) [] [] pieces refl
keep_places [] last (c ∷ doc) n pieces k e = absurd (omega (arith, n))
keep_places (p ∷ ps) last [] n pieces k e = absurd (omega (arith, n))
keep_places (p ∷ ps) last (c ∷ doc) n pieces k e =
    let here = not (is_high c.unit) || goes_on p.fate ps in
    let made = over painted (λ c. c) ps last doc in
    (λ i. steps_keep (undoing_inserts p.before (Pass p.fate ∷ steps_from ps last) (c ∷ doc) i) (text_of (same_cells p.before i ++ (at_place painted (λ c. c) p.fate c ++ made))))
    ∙ (λ i. steps_keep (dropped (sym (length-text_of p.before) i) ++ undoing (Pass p.fate ∷ steps_from ps last) (c ∷ doc)) (map-append (λ (c : Cell). c.unit) p.before (at_place painted (λ c. c) p.fate c ++ made) i))
    ∙ keep_dropped false (text_of p.before) (undoing (Pass p.fate ∷ steps_from ps last) (c ∷ doc)) (text_of (at_place painted (λ c. c) p.fate c ++ made)) pieces.0
    (go p.fate (first_true here _ k) (keep_places ps last doc (omega (arith, n)) pieces.1 (second_true here _ k) (halves_rest c doc e)))
  where
    go : (f : Fate) → (not (is_high c.unit) || goes_on f ps) ≡ true → steps_keep (undoing (steps_from ps last) doc) (text_of (over painted (λ c. c) ps last doc)) ≡ true
        → steps_keep (undoing (Pass f ∷ steps_from ps last) (c ∷ doc)) (text_of (at_place painted (λ c. c) f c ++ over painted (λ c. c) ps last doc)) ≡ true
    go Drop on again = again
    go (Keep m) on again = both_true _ _ (kept_on c m ps last doc (omega (arith, n)) on (halves_first c doc e)) again

-- an inverse cuts no pair of the document after
pub inverse_pairs : (e : Edit) (doc : Doc) → length doc ≡ length e.places → ArePieces e.places e.last → keeps_pairs e.places (text_of doc) ≡ true → is_document doc ≡ true
    → keeps_pairs (inverse e doc).places (text_of (apply e doc)) ≡ true
inverse_pairs e doc n pieces k is =
    keeps_pairs-settle [] (undoing (steps_of e) doc) (text_of (apply e doc)) (keep_places e.places e.last doc n pieces k (second_true (is_well_formed (text_of doc)) _ is))
