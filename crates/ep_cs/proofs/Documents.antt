-- Documents stay documents where they are put one behind another, and under an edit that cuts no pair.
use Rattle.std.proofs.Common.{◌≡◌, Bool, true, false, cond, not, ◌&&◌, ◌||◌, List, [], ◌∷◌, ◌++◌, map, length, refl, sym, ap, ap₂, ◌∙◌, subst, T, arith, append_assoc, append-nil}
use Rattle.std.proofs.lemmas.List.{map-append}
use Rattle.ep_units.specs.Text.{is_high, is_low, is_paired, is_well_formed}
use Rattle.ep_attr.specs.AttrMap.{AttrMap, same_map, after}
use Rattle.ep_attr.proofs.SameMap.{both_true, first_true, second_true, exact_map, same_map_itself}
use Rattle.ep_cs.specs.Doc.{Cell, Doc, text_of, painted, has_equal_halves, is_document}
use Rattle.ep_cs.specs.Edit.{Fate, Place, Step, Edit, is_empty, at_place, over, settle}
use Rattle.ep_cs.specs.Edit.Fate.{Drop, Keep}
use Rattle.ep_cs.specs.Edit.Step.{Insert, Pass}
use Rattle.ep_cs.specs.Fits.{same_fate, goes_on, keeps_pairs, ArePieces, AreDocuments}
use Rattle.ep_cs.proofs.Pairs.{same_cells}
use Rattle.ep_cs.proofs.Whole.{apply_whole, paired-append}

well_formed : (d : Doc) → is_document d ≡ true → is_well_formed (text_of d) ≡ true
well_formed d h = first_true _ _ h

equal_halves : (d : Doc) → is_document d ≡ true → has_equal_halves d ≡ true
equal_halves d h = second_true (is_well_formed (text_of d)) _ h

-- the first cell has this map
abbrev begins : AttrMap → Doc → Bool
begins m [] = true
begins m (d ∷ ds) = same_map m d.attrs

either_true : (b : Bool) → (b || true) ≡ true
either_true true = refl
either_true false = refl

halves_cons : (c : Cell) (ds : Doc) → (not (is_high c.unit) || begins c.attrs ds) ≡ true → has_equal_halves ds ≡ true → has_equal_halves (c ∷ ds) ≡ true
halves_cons c [] h e = refl
halves_cons c (d ∷ ds) h e = both_true _ _ h e

halves_first : (c : Cell) (ds : Doc) → has_equal_halves (c ∷ ds) ≡ true → (not (is_high c.unit) || begins c.attrs ds) ≡ true
halves_first c [] h = either_true (not (is_high c.unit))
halves_first c (d ∷ ds) h = first_true _ _ h

halves_rest : (c : Cell) (ds : Doc) → has_equal_halves (c ∷ ds) ≡ true → has_equal_halves ds ≡ true
halves_rest c [] h = refl
halves_rest c (d ∷ ds) h = second_true (not (is_high c.unit) || same_map c.attrs d.attrs) _ h

no_high : (b other : Bool) → not b ≡ true → (not b || other) ≡ true
no_high true other h = absurd (subst T (sym h) tt)
no_high false other h = refl

halves-append : (half : Bool) (a b : Doc) → is_paired half (text_of a) ≡ true → has_equal_halves a ≡ true → has_equal_halves b ≡ true → has_equal_halves (a ++ b) ≡ true
halves-append half [] b w h e = e
halves-append half (c ∷ []) b w h e = halves_cons c b (no_high (is_high c.unit) _ (second_true (cond half (is_low c.unit) (not (is_low c.unit))) _ w)) e
halves-append half (c ∷ (d ∷ a)) b w h e =
    both_true _ _ (first_true _ _ h) (halves-append (is_high c.unit) (d ∷ a) b (second_true (cond half (is_low c.unit) (not (is_low c.unit))) _ w) (halves_rest c (d ∷ a) h) e)

-- a document behind a document
pub documents-append : (a b : Doc) → is_document a ≡ true → is_document b ≡ true → is_document (a ++ b) ≡ true
documents-append a b h e =
    both_true _ _
    (ap is_well_formed (map-append (λ (c : Cell). c.unit) a b) ∙ paired-append false (text_of a) (text_of b) (well_formed a h) (well_formed b e))
    (halves-append false a b (well_formed a h) (equal_halves a h) (equal_halves b e))

-- what steps insert between two places is a document; so much of it waits
abbrev pub AreBlocks : List Cell → List Step → Type 0
AreBlocks w [] = is_document w ≡ true
AreBlocks w (Insert c ∷ s) = AreBlocks (w ++ c ∷ []) s
AreBlocks w (Pass f ∷ s) = (is_document w ≡ true) × AreBlocks [] s

-- settling joins documents to documents
pub blocks : (v w : List Cell) (s : List Step) → is_document v ≡ true → AreBlocks w s → AreDocuments (settle (v ++ w) s).places (settle (v ++ w) s).last
blocks v w [] h b = documents-append v w h b
blocks v w (Insert c ∷ s) h b = subst (λ u. AreDocuments (settle u s).places (settle u s).last) (sym (append_assoc v w (c ∷ []))) (blocks v (w ++ c ∷ []) s h b)
blocks v w (Pass Drop ∷ s) h b = (refl, subst (λ u. AreDocuments (settle u s).places (settle u s).last) (append-nil (v ++ w)) (blocks (v ++ w) [] s (documents-append v w h b.0) b.1))
blocks v w (Pass (Keep m) ∷ s) h b = (documents-append v w h b.0, blocks [] [] s refl b.1)

-- the pieces of documents are texts
pub pieces_of : (ps : List Place) (last : List Cell) → AreDocuments ps last → ArePieces ps last
pieces_of [] last h = well_formed last h
pieces_of (p ∷ ps) last h = (well_formed p.before h.0, pieces_of ps last h.1)

-- a kept first half and the kept unit behind it
kept_pair : (c : Cell) (m : AttrMap) (ps : List Place) (last : List Cell) (doc : Doc) → length doc ≡ length ps
    → (not (is_high c.unit) || goes_on (Keep m) ps) ≡ true → (not (is_high c.unit) || begins c.attrs doc) ≡ true
    → (not (is_high c.unit) || begins (after c.attrs m) (over painted (λ d. d) ps last doc)) ≡ true
kept_pair c m [] last doc n on same = go (is_high c.unit) on
  where
    go : (h : Bool) → (not h || false) ≡ true → (not h || begins (after c.attrs m) (map (λ (d : Cell). d) last)) ≡ true
    go true e = absurd (subst T (sym e) tt)
    go false e = refl
kept_pair c m (p ∷ ps) last [] n on same = absurd (omega (arith, n))
kept_pair c m (p ∷ ps) last (d ∷ doc) n on same = go (is_high c.unit) p.before p.fate on same
  where
    go : (h : Bool) (before : List Cell) (f : Fate) → (not h || (is_empty before && same_fate (Keep m) f)) ≡ true → (not h || same_map c.attrs d.attrs) ≡ true
        → (not h || begins (after c.attrs m) (map (λ (e : Cell). e) before ++ (at_place painted (λ e. e) f d ++ over painted (λ e. e) ps last doc))) ≡ true
    go false before f on same = refl
    go true (x ∷ before) f on same = absurd (subst T (sym on) tt)
    go true [] Drop on same = absurd (subst T (sym on) tt)
    go true [] (Keep k) on same = ap₂ (λ a b. same_map (after c.attrs m) (after a b)) (sym (exact_map c.attrs d.attrs same)) (sym (exact_map m k on)) ∙ same_map_itself (after c.attrs m)

over_halves : (ps : List Place) (last : List Cell) (doc : Doc) → length doc ≡ length ps → AreDocuments ps last → keeps_pairs ps (text_of doc) ≡ true → has_equal_halves doc ≡ true
    → has_equal_halves (over painted (λ c. c) ps last doc) ≡ true
over_halves [] last doc n pieces keeps h = ap has_equal_halves (same_cells last) ∙ equal_halves last pieces
over_halves (p ∷ ps) last [] n pieces keeps h = absurd (omega (arith, n))
over_halves (p ∷ ps) last (c ∷ doc) n pieces keeps h =
    let rest = over painted (λ c. c) ps last doc in
    let again = over_halves ps last doc (omega (arith, n)) pieces.1 (second_true (not (is_high c.unit) || goes_on p.fate ps) _ keeps) (halves_rest c doc h) in
    ap (λ cs. has_equal_halves (cs ++ (at_place painted (λ c. c) p.fate c ++ rest))) (same_cells p.before)
    ∙ halves-append false p.before (at_place painted (λ c. c) p.fate c ++ rest) (well_formed p.before pieces.0) (equal_halves p.before pieces.0)
    (go p.fate (first_true _ _ keeps) again)
  where
    go : (f : Fate) → (not (is_high c.unit) || goes_on f ps) ≡ true → has_equal_halves (over painted (λ c. c) ps last doc) ≡ true → has_equal_halves (at_place painted (λ c. c) f c ++ over painted (λ c. c) ps last doc) ≡ true
    go Drop on again = again
    go (Keep m) on again = halves_cons (painted c m) (over painted (λ c. c) ps last doc) (kept_pair c m ps last doc (omega (arith, n)) on (halves_first c doc h)) again

-- a document stays one under an edit that inserts documents and cuts no pair
pub document_after : (ps : List Place) (last : List Cell) (doc : Doc) → length doc ≡ length ps → AreDocuments ps last → keeps_pairs ps (text_of doc) ≡ true → is_document doc ≡ true
    → is_document (over painted (λ c. c) ps last doc) ≡ true
document_after ps last doc n pieces keeps h =
    let e : Edit = record { places = ps; last = last } in
    both_true _ _
    (apply_whole e doc n (pieces_of ps last pieces) keeps (well_formed doc h))
    (over_halves ps last doc n pieces keeps (equal_halves doc h))
