-- A text stays well-formed under an edit that cuts no pair of it and inserts texts.
use Rattle.std.proofs.Common.{◌≡◌, Bool, true, false, cond, not, ◌&&◌, List, [], ◌∷◌, ◌++◌, map, length, refl, sym, ap, ◌∙◌, subst, T, ◌||◌, arith}
use Rattle.std.proofs.lemmas.List.{map-append}
use Rattle.ep_units.specs.Text.{Text, is_high, is_low, is_paired, is_well_formed}
use Rattle.ep_cs.specs.Doc.{Cell, Doc, text_of, painted}
use Rattle.ep_cs.specs.Edit.{Fate, Place, Edit, at_place, over, apply}
use Rattle.ep_cs.specs.Edit.Fate.{Drop, Keep}
use Rattle.ep_cs.specs.Fits.{goes_on, keeps_pairs, ArePieces}
use Rattle.ep_attr.proofs.SameMap.{both_true, first_true, second_true}
use Rattle.ep_cs.proofs.Pairs.{same_cells}

-- a well-formed text may stand behind one that ends in no first half
pub paired-append : (half : Bool) (t us : Text) → is_paired half t ≡ true → is_well_formed us ≡ true → is_paired half (t ++ us) ≡ true
paired-append true [] us h e = absurd (subst T (sym h) tt)
paired-append false [] us h e = e
paired-append half (u ∷ t) us h e =
    let first = cond half (is_low u) (not (is_low u)) in
    both_true _ _ (first_true first _ h) (paired-append (is_high u) t us (second_true first _ h) e)

-- whether a place stays
abbrev pub is_kept : Fate → Bool
is_kept Drop = false
is_kept (Keep m) = true

no_half : (f : Fate) → (is_kept f && false) ≡ false
no_half Drop = refl
no_half (Keep m) = refl

-- what an edit makes of a place, before what it makes of those behind it
abbrev placed : List Cell → Fate → Cell → Doc → Doc
placed before g c rest = map (λ (d : Cell). d) before ++ (at_place painted (λ d. d) g c ++ rest)

-- a place behind no first half
whole_place : (before : List Cell) (g : Fate) (c : Cell) (rest : Doc)
    → is_well_formed (text_of before) ≡ true → not (is_low c.unit) ≡ true → is_paired (is_kept g && is_high c.unit) (text_of rest) ≡ true
    → is_well_formed (text_of (placed before g c rest)) ≡ true
whole_place before g c rest w low h =
    ap is_well_formed (map-append (λ (d : Cell). d.unit) (map (λ (d : Cell). d) before) (at_place painted (λ d. d) g c ++ rest) ∙ ap (λ ds. text_of ds ++ text_of (at_place painted (λ d. d) g c ++ rest)) (same_cells before))
    ∙ paired-append false (text_of before) _ w (end g h)
  where
    end : (g : Fate) → is_paired (is_kept g && is_high c.unit) (text_of rest) ≡ true → is_well_formed (text_of (at_place painted (λ d. d) g c ++ rest)) ≡ true
    end Drop h = h
    end (Keep m) h = both_true _ _ low h

-- a place of the run of the first half before it
second_half : (f g : Fate) (before : List Cell) (c : Cell) (rest : Doc) (ps : List Place)
    → goes_on f (record { before = before; fate = g } ∷ ps) ≡ true → is_low c.unit ≡ true → is_paired (is_kept g && is_high c.unit) (text_of rest) ≡ true
    → is_paired (is_kept f && true) (text_of (placed before g c rest)) ≡ true
second_half f g (d ∷ before) c rest ps on low h = absurd (subst T (sym on) tt)
second_half Drop Drop [] c rest ps on low h = h
second_half Drop (Keep m) [] c rest ps on low h = absurd (subst T (sym on) tt)
second_half (Keep m) Drop [] c rest ps on low h = absurd (subst T (sym on) tt)
second_half (Keep m) (Keep n) [] c rest ps on low h = both_true _ _ low h

next_place : (half : Bool) (f : Fate) (p : Place) (c : Cell) (rest : Doc) (ps : List Place)
    → (half ≡ true → goes_on f (p ∷ ps) ≡ true) → is_well_formed (text_of p.before) ≡ true
    → cond half (is_low c.unit) (not (is_low c.unit)) ≡ true → is_paired (is_kept p.fate && is_high c.unit) (text_of rest) ≡ true
    → is_paired (is_kept f && half) (text_of (placed p.before p.fate c rest)) ≡ true
next_place true f p c rest ps on w low h = second_half f p.fate p.before c rest ps (on refl) low h
next_place false f p c rest ps on w low h = ap (λ b. is_paired b (text_of (placed p.before p.fate c rest))) (no_half f) ∙ whole_place p.before p.fate c rest w low h

-- a first half goes on with its run
pub goes_with : (h a : Bool) → (not h || a) ≡ true → h ≡ true → a ≡ true
goes_with true a e h = e
goes_with false a e h = absurd (subst T (sym h) tt)

over_whole : (half : Bool) (f : Fate) (ps : List Place) (last : List Cell) (doc : Doc)
    → length doc ≡ length ps → ArePieces ps last → keeps_pairs ps (text_of doc) ≡ true
    → (half ≡ true → goes_on f ps ≡ true) → is_paired half (text_of doc) ≡ true
    → is_paired (is_kept f && half) (text_of (over painted (λ c. c) ps last doc)) ≡ true
over_whole true f [] last [] n pieces keeps on e = absurd (subst T (sym e) tt)
over_whole false f [] last [] n pieces keeps on e =
    ap (λ b. is_paired b (text_of (map (λ (d : Cell). d) last))) (no_half f) ∙ ap (λ ds. is_well_formed (text_of ds)) (same_cells last) ∙ pieces
over_whole half f [] last (c ∷ doc) n pieces keeps on e = absurd (omega (arith, n))
over_whole half f (p ∷ ps) last [] n pieces keeps on e = absurd (omega (arith, n))
over_whole half f (p ∷ ps) last (c ∷ doc) n pieces keeps on e =
    let first = cond half (is_low c.unit) (not (is_low c.unit)) in
    let here = not (is_high c.unit) || goes_on p.fate ps in
    next_place half f p c (over painted (λ d. d) ps last doc) ps on pieces.0 (first_true first _ e)
    (over_whole (is_high c.unit) p.fate ps last doc (omega (arith, n)) pieces.1 (second_true here _ keeps) (goes_with (is_high c.unit) (goes_on p.fate ps) (first_true here _ keeps)) (second_true first _ e))

pub apply_whole : (e : Edit) (doc : Doc) → length doc ≡ length e.places → ArePieces e.places e.last
    → keeps_pairs e.places (text_of doc) ≡ true → is_well_formed (text_of doc) ≡ true → is_well_formed (text_of (apply e doc)) ≡ true
apply_whole e doc n pieces keeps w = over_whole false Drop e.places e.last doc n pieces keeps (λ h. absurd (subst T (sym h) tt)) w
