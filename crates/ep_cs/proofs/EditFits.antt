-- An edit that can be made of a document, and what is made of such edits.
use Rattle.std.proofs.Common.{◌≡◌, ℕ, zero, suc, ◌+◌, Bool, true, false, cond, not, ◌&&◌, ◌||◌, ◌==◌, List, [], ◌∷◌, ◌++◌, map, length, Option, Some, None, refl, sym, ap, ◌∙◌, subst, T, arith, append_assoc, append-nil}
use Rattle.std.proofs.lemmas.Bool.Decides.{nat_tests}
use Rattle.std.proofs.lemmas.List.{map-append, length-append}
use Rattle.ep_units.specs.Text.{Text, is_high, is_low, is_paired, is_well_formed}
use Rattle.ep_attr.specs.AttrMap.{AttrMap, none, rest, get, map_of, insert_some, value_left}
use Rattle.ep_cs.specs.Doc.{Cell, Doc, text_of, painted}
use Rattle.ep_cs.specs.Edit.{Fate, Place, Edit, Step, are_settled, over, at_place, apply, inserts, is_empty, with_place, settle, edit_of, steps_from, steps_of, step_over_new, fate_over, pieces, steps_over, compose, identity}
use Rattle.ep_cs.specs.Edit.Fate.{Drop, Keep}
use Rattle.ep_cs.specs.Edit.Step.{Insert, Pass}
use Rattle.ep_cs.specs.Fits.{goes_on, same_fate, keeps_pairs}
use Rattle.ep_cs.specs.Follow.{goes_first, passes, follow_gap, follow_place, follow_steps, follow}
use Rattle.ep_cs.specs.Steps.{passed, run}
use Rattle.ep_cs.proofs.Composed.{apply-compose, run-steps_from, passed-steps_from}
use Rattle.ep_cs.proofs.Items.{settled-compose, length-compose, settle_settled, length-settle, length-identity}
use Rattle.ep_cs.proofs.Diamond.{diamond}
use Rattle.ep_cs.specs.Fits.{ArePieces}
use Rattle.ep_cs.proofs.Pairs.{follow_keeps_pairs, compose_keeps_pairs}
use Rattle.ep_attr.proofs.SameMap.{both_true, first_true, second_true}
use Rattle.ep_cs.specs.EditFits.{are_pieces, fits}
use Rattle.ep_cs.proofs.Whole.{apply_whole, is_kept, goes_with}

-- it is an edit of as many units, cuts no pair, and inserts texts, each before a kept place or last
pub record IsFit (e : Edit) (doc : Doc) : Type 0 where
  pub long : length doc ≡ length e.places
  pub pairs : keeps_pairs e.places (text_of doc) ≡ true
  pub settled : are_settled e.places ≡ true
  pub pieces : ArePieces e.places e.last

are_pieces_true : (ps : List Place) (last : List Cell) → are_pieces ps last ≡ true → ArePieces ps last
are_pieces_true [] last e = e
are_pieces_true (p ∷ ps) last e = (first_true _ _ e, are_pieces_true ps last (second_true (is_well_formed (text_of p.before)) _ e))

pub true_pieces : (ps : List Place) (last : List Cell) → ArePieces ps last → are_pieces ps last ≡ true
true_pieces [] last e = e
true_pieces (p ∷ ps) last e = both_true _ _ e.0 (true_pieces ps last e.1)

same_number : (a b : ℕ) → (a == b) ≡ true → a ≡ b
same_number a b e = grind (arith, nat_tests)

number_same : (a b : ℕ) → a ≡ b → (a == b) ≡ true
number_same a b e = grind (arith, nat_tests)

pub fits_true : (e : Edit) (doc : Doc) → fits e doc ≡ true → IsFit e doc
fits_true e doc h =
    let n = length doc == length e.places in
    let k = keeps_pairs e.places (text_of doc) in
    let h2 = second_true n _ h in
    let h3 = second_true k _ h2 in
    record {
      long = same_number _ _ (first_true n _ h);
      pairs = first_true k _ h2;
      settled = first_true (are_settled e.places) _ h3;
      pieces = are_pieces_true e.places e.last (second_true (are_settled e.places) _ h3);
    }

pub true_fits : (e : Edit) (doc : Doc) → IsFit e doc → fits e doc ≡ true
true_fits e doc f = both_true _ _ (number_same _ _ f.long) (both_true _ _ f.pairs (both_true _ _ f.settled (true_pieces e.places e.last f.pieces)))

-- ---- lengths

-- the places of a follower are the units of the result that it follows
passed_passes : (cells : List Cell) (steps : List Step) → passed (passes cells ++ steps) ≡ length cells + passed steps
passed_passes [] steps = omega arith
passed_passes (c ∷ cells) steps = let h = passed_passes cells steps in omega (arith, h)

passed_inserted : (cells : List Cell) (steps : List Step) → passed (inserts cells ++ steps) ≡ passed steps
passed_inserted [] steps = refl
passed_inserted (c ∷ cells) steps = passed_inserted cells steps

passed_gap : (side : Bool) (a b : List Cell) (steps : List Step) → passed (follow_gap side a b ++ steps) ≡ length a + passed steps
passed_gap side a b steps = go (goes_first side a b)
  where
    go : (t : Bool) → passed (cond t (passes a ++ inserts b) (inserts b ++ passes a) ++ steps) ≡ length a + passed steps
    go true = ap passed (append_assoc (passes a) (inserts b) steps) ∙ passed_passes a _ ∙ ap (λ k. length a + k) (passed_inserted b steps)
    go false = ap passed (append_assoc (inserts b) (passes a) steps) ∙ passed_inserted b _ ∙ passed_passes a steps

length_new : (cells : List Cell) → length (map (λ (c : Cell). c) cells) ≡ length cells
length_new [] = refl
length_new (c ∷ cells) = ap suc (length_new cells)

length_at : (f g : Fate) (c : Cell) (steps : List Step) → passed (follow_place f g ++ steps) ≡ length (at_place painted (λ c. c) f c) + passed steps
length_at Drop g c steps = omega arith
length_at (Keep a) Drop c steps = omega arith
length_at (Keep a) (Keep b) c steps = omega arith

passed_follow : (side : Bool) (ps qs : List Place) (la lb : List Cell) (doc : Doc) → length ps ≡ length qs → length doc ≡ length ps
    → passed (follow_steps side ps qs la lb) ≡ length (over painted (λ c. c) ps la doc)
passed_follow side [] qs la lb doc n l =
    let h = passed_gap side la lb [] in
    let g = ap passed (append-nil (follow_gap side la lb)) in
    let k = length_new la in
    omega (arith, h, g, k)
passed_follow side (p ∷ ps) [] la lb doc n l = absurd (omega (arith, n))
passed_follow side (p ∷ ps) (q ∷ qs) la lb [] n l = absurd (omega (arith, l))
passed_follow side (p ∷ ps) (q ∷ qs) la lb (c ∷ doc) n l =
    let ih = passed_follow side ps qs la lb doc (omega (arith, n)) (omega (arith, l)) in
    let after = over painted (λ c. c) ps la doc in
    let g = passed_gap side p.before q.before (follow_place p.fate q.fate ++ follow_steps side ps qs la lb) in
    let h = length_at p.fate q.fate c (follow_steps side ps qs la lb) in
    let k = length_new p.before in
    let m = length-append (map (λ (c : Cell). c) p.before) (at_place painted (λ c. c) p.fate c ++ after) in
    let o = length-append (at_place painted (λ c. c) p.fate c) after in
    omega (arith, ih, g, h, k, m, o)

pub length-follow : (side : Bool) (a b : Edit) (doc : Doc) → length doc ≡ length a.places → length doc ≡ length b.places
    → length (apply a doc) ≡ length (follow side a b).places
length-follow side a b doc l m =
    sym (length-settle [] (follow_steps side a.places b.places a.last b.last) ∙ passed_follow side a.places b.places a.last b.last doc (sym l ∙ m) l)

-- ---- pieces stay whole

-- the cells that steps insert between two kept places are a text; `half` says that a first half waits
abbrev pub is_whole : Bool → List Step → Bool
is_whole half [] = not half
is_whole half (Insert c ∷ steps) = cond half (is_low c.unit) (not (is_low c.unit)) && is_whole (is_high c.unit) steps
is_whole half (Pass Drop ∷ steps) = is_whole half steps
is_whole half (Pass (Keep m) ∷ steps) = not half && is_whole false steps

-- after these cells a first half waits, or none
abbrev pub Leads : List Cell → Bool → Type 0
Leads cells half = (us : Text) → is_paired false (text_of cells ++ us) ≡ is_paired half us

first_holds : (a b : Bool) → a ≡ true → (a && b) ≡ b
first_holds true b e = refl
first_holds false b e = absurd (subst T (sym e) tt)

leads_on : (waiting : List Cell) (c : Cell) (half : Bool) → Leads waiting half → cond half (is_low c.unit) (not (is_low c.unit)) ≡ true → Leads (waiting ++ c ∷ []) (is_high c.unit)
leads_on waiting c half l e us =
    ap (λ t. is_paired false (t ++ us)) (map-append (λ (d : Cell). d.unit) waiting (c ∷ []))
    ∙ ap (is_paired false) (append_assoc (text_of waiting) (c.unit ∷ []) us)
    ∙ l (c.unit ∷ us) ∙ first_holds _ _ e

leads_whole : (waiting : List Cell) (half : Bool) → Leads waiting half → not half ≡ true → is_well_formed (text_of waiting) ≡ true
leads_whole waiting half l e = ap (is_paired false) (sym (append-nil (text_of waiting))) ∙ l [] ∙ e

pub whole-settle : (waiting : List Cell) (half : Bool) (steps : List Step) → Leads waiting half → is_whole half steps ≡ true
    → ArePieces (settle waiting steps).places (settle waiting steps).last
whole-settle waiting half [] l e = leads_whole waiting half l e
whole-settle waiting half (Insert c ∷ steps) l e =
    whole-settle (waiting ++ c ∷ []) (is_high c.unit) steps (leads_on waiting c half l (first_true _ _ e)) (second_true (cond half (is_low c.unit) (not (is_low c.unit))) _ e)
whole-settle waiting half (Pass Drop ∷ steps) l e = (refl, whole-settle waiting half steps l e)
whole-settle waiting half (Pass (Keep m) ∷ steps) l e =
    (leads_whole waiting half l (first_true _ _ e), whole-settle [] false steps (λ us. refl) (second_true (not half) _ e))

is_false : (b : Bool) → not b ≡ true → b ≡ false
is_false true e = absurd (subst T (sym e) tt)
is_false false e = refl

whole-inserts : (half : Bool) (cells : List Cell) (steps : List Step) → is_paired half (text_of cells) ≡ true → is_whole false steps ≡ true → is_whole half (inserts cells ++ steps) ≡ true
whole-inserts half [] steps e h = ap (λ b. is_whole b steps) (is_false half e) ∙ h
whole-inserts half (c ∷ cells) steps e h = both_true _ _ (first_true _ _ e) (whole-inserts (is_high c.unit) cells steps (second_true (cond half (is_low c.unit) (not (is_low c.unit))) _ e) h)

whole-passes : (cells : List Cell) (steps : List Step) → is_whole false steps ≡ true → is_whole false (passes cells ++ steps) ≡ true
whole-passes [] steps h = h
whole-passes (c ∷ cells) steps h = whole-passes cells steps h

whole-gap : (side : Bool) (a b : List Cell) (steps : List Step) → is_well_formed (text_of b) ≡ true → is_whole false steps ≡ true → is_whole false (follow_gap side a b ++ steps) ≡ true
whole-gap side a b steps e h = go (goes_first side a b)
  where
    go : (t : Bool) → is_whole false (cond t (passes a ++ inserts b) (inserts b ++ passes a) ++ steps) ≡ true
    go true = ap (is_whole false) (append_assoc (passes a) (inserts b) steps) ∙ whole-passes a _ (whole-inserts false b steps e h)
    go false = ap (is_whole false) (append_assoc (inserts b) (passes a) steps) ∙ whole-inserts false b _ e (whole-passes a steps h)

whole-last : (side : Bool) (a b : List Cell) → is_well_formed (text_of b) ≡ true → is_whole false (follow_gap side a b) ≡ true
whole-last side a b e = ap (is_whole false) (sym (append-nil (follow_gap side a b))) ∙ whole-gap side a b [] e refl

whole-place : (f g : Fate) (steps : List Step) → is_whole false steps ≡ true → is_whole false (follow_place f g ++ steps) ≡ true
whole-place Drop g steps h = h
whole-place (Keep a) Drop steps h = h
whole-place (Keep a) (Keep b) steps h = h

whole-follow : (side : Bool) (ps qs : List Place) (la lb : List Cell) → length ps ≡ length qs → ArePieces qs lb → is_whole false (follow_steps side ps qs la lb) ≡ true
whole-follow side [] [] la lb n h = whole-last side la lb h
whole-follow side [] (q ∷ qs) la lb n h = absurd (omega (arith, n))
whole-follow side (p ∷ ps) [] la lb n h = absurd (omega (arith, n))
whole-follow side (p ∷ ps) (q ∷ qs) la lb n h =
    whole-gap side p.before q.before _ h.0 (whole-place p.fate q.fate _ (whole-follow side ps qs la lb (omega (arith, n)) h.1))

pub pieces-follow : (side : Bool) (a b : Edit) → length a.places ≡ length b.places → ArePieces b.places b.last → ArePieces (follow side a b).places (follow side a b).last
pieces-follow side a b n h = whole-settle [] false (follow_steps side a.places b.places a.last b.last) (λ us. refl) (whole-follow side a.places b.places a.last b.last n h)

-- and of a composition

whole-pass : (f : Fate) (steps : List Step) → is_whole false steps ≡ true → is_whole false (Pass f ∷ steps) ≡ true
whole-pass Drop steps h = h
whole-pass (Keep m) steps h = h

whole-steps : (ps : List Place) (last : List Cell) → ArePieces ps last → is_whole false (steps_from ps last) ≡ true
whole-steps [] last h = ap (is_whole false) (sym (append-nil (inserts last))) ∙ whole-inserts false last [] h refl
whole-steps (p ∷ ps) last h = whole-inserts false p.before _ h.0 (whole-pass p.fate _ (whole-steps ps last h.1))

and_false : (b : Bool) → (b && false) ≡ false
and_false true = refl
and_false false = refl

whole-pieces : (qs : List Place) (last : List Cell) → ArePieces qs last → is_whole false (inserts (pieces qs last)) ≡ true
whole-pieces [] last h = whole-steps [] last h
whole-pieces (q ∷ qs) last h =
    ap (λ s. is_whole false s) (map-append Insert q.before (pieces qs last)) ∙ whole-inserts false q.before _ h.0 (whole-pieces qs last h.1)

-- a new cell, and what the second edit makes of it
over_new : (half : Bool) (f : Fate) (c : Cell) (q : Place) (steps : List Step)
    → cond half (is_low c.unit) (not (is_low c.unit)) ≡ true
    → is_well_formed (text_of q.before) ≡ true
    → (half ≡ true → (is_empty q.before ≡ true) × (same_fate f q.fate ≡ true))
    → is_whole (is_kept q.fate && is_high c.unit) steps ≡ true
    → is_whole (is_kept f && half) (inserts q.before ++ (step_over_new c q.fate ++ steps)) ≡ true
over_new half f c q steps e w runs ih = go half f q.before q.fate e w runs ih
  where
    go : (half : Bool) (f : Fate) (b : List Cell) (g : Fate)
        → cond half (is_low c.unit) (not (is_low c.unit)) ≡ true
        → is_well_formed (text_of b) ≡ true
        → (half ≡ true → (is_empty b ≡ true) × (same_fate f g ≡ true))
        → is_whole (is_kept g && is_high c.unit) steps ≡ true
        → is_whole (is_kept f && half) (inserts b ++ (step_over_new c g ++ steps)) ≡ true
    go true f (d ∷ b) g e w runs ih = absurd (subst T (sym (runs refl).0) tt)
    go true Drop [] Drop e w runs ih = ih
    go true Drop [] (Keep m) e w runs ih = absurd (subst T (sym (runs refl).1) tt)
    go true (Keep m) [] Drop e w runs ih = absurd (subst T (sym (runs refl).1) tt)
    go true (Keep m) [] (Keep k) e w runs ih = both_true _ _ e ih
    go false Drop b Drop e w runs ih = whole-inserts false b _ w ih
    go false Drop b (Keep k) e w runs ih = whole-inserts false b _ w (both_true _ _ e ih)
    go false (Keep m) b Drop e w runs ih = whole-inserts false b _ w ih
    go false (Keep m) b (Keep k) e w runs ih = whole-inserts false b _ w (both_true _ _ e ih)

over_kept : (m : AttrMap) (f : Fate) (steps : List Step) → is_whole false steps ≡ true → is_whole false (Pass (fate_over m f) ∷ steps) ≡ true
over_kept m Drop steps h = h
over_kept m (Keep k) steps h = h

half_over : (f : Fate) (half : Bool) (steps : List Step) → half ≡ false → is_whole false steps ≡ true → is_whole (is_kept f && half) steps ≡ true
half_over Drop half steps e h = h
half_over (Keep m) half steps e h = ap (λ b. is_whole b steps) e ∙ h

goes_run : (half : Bool) (f : Fate) (q : Place) (qs : List Place) → (not half || goes_on f (q ∷ qs)) ≡ true → half ≡ true → (is_empty q.before ≡ true) × (same_fate f q.fate ≡ true)
goes_run half f q qs e h = let g = goes_with half _ e h in (first_true _ _ g, second_true (is_empty q.before) _ g)

whole-over : (half : Bool) (f : Fate) (steps : List Step) (qs : List Place) (last : List Cell) (doc : Doc)
    → length doc ≡ passed steps → length (run painted (λ c. c) steps doc) ≡ length qs
    → is_whole half steps ≡ true → ArePieces qs last → (not half || goes_on f qs) ≡ true
    → keeps_pairs qs (text_of (run painted (λ c. c) steps doc)) ≡ true
    → is_whole (is_kept f && half) (steps_over steps qs last) ≡ true
whole-over half f [] qs last doc n m w h r k = half_over f half (inserts (pieces qs last)) (is_false half w) (whole-pieces qs last h)
whole-over half f (Insert c ∷ steps) [] last doc n m w h r k = absurd (omega (arith, m))
whole-over half f (Insert c ∷ steps) (q ∷ qs) last doc n m w h r k =
    over_new half f c q (steps_over steps qs last) (first_true _ _ w) h.0 (goes_run half f q qs r)
    (whole-over (is_high c.unit) q.fate steps qs last doc n (omega (arith, m)) (second_true (cond half (is_low c.unit) (not (is_low c.unit))) _ w) h.1
    (first_true _ _ k) (second_true (not (is_high c.unit) || goes_on q.fate qs) _ k))
whole-over half f (Pass g ∷ steps) qs last [] n m w h r k = absurd (omega (arith, n))
whole-over half f (Pass Drop ∷ steps) qs last (d ∷ doc) n m w h r k = whole-over half f steps qs last doc (omega (arith, n)) m w h r k
whole-over half f (Pass (Keep a) ∷ steps) [] last (d ∷ doc) n m w h r k = absurd (omega (arith, m))
whole-over half f (Pass (Keep a) ∷ steps) (q ∷ qs) last (d ∷ doc) n m w h r k =
    half_over f half (inserts q.before ++ (Pass (fate_over a q.fate) ∷ steps_over steps qs last)) (is_false half (first_true _ _ w))
    (whole-inserts false q.before (Pass (fate_over a q.fate) ∷ steps_over steps qs last) h.0
    (over_kept a q.fate (steps_over steps qs last)
    (subst (λ b. is_whole b (steps_over steps qs last) ≡ true) (and_false (is_kept q.fate))
    (whole-over false q.fate steps qs last doc (omega (arith, n)) (omega (arith, m)) (second_true (not half) _ w) h.1 refl (second_true (not (is_high d.unit) || goes_on q.fate qs) _ k)))))

pub pieces-compose : (a b : Edit) (doc : Doc) → length doc ≡ length a.places → length (apply a doc) ≡ length b.places → ArePieces a.places a.last → ArePieces b.places b.last → keeps_pairs b.places (text_of (apply a doc)) ≡ true
    → ArePieces (compose a b).places (compose a b).last
pieces-compose a b doc n m h g k =
    let r = run-steps_from painted (λ c. c) a.places a.last doc in
    whole-settle [] false (steps_over (steps_of a) b.places b.last) (λ us. refl)
    (whole-over false Drop (steps_of a) b.places b.last doc (n ∙ sym (passed-steps_from a.places a.last)) (ap length r ∙ m) (whole-steps a.places a.last h) g refl
    (ap (λ cs. keeps_pairs b.places (text_of cs)) r ∙ k))

-- ---- what is made of what fits

pub fit-follow : (side : Bool) (a b : Edit) (doc : Doc) → IsFit a doc → IsFit b doc → IsFit (follow side a b) (apply a doc)
fit-follow side a b doc f g = record {
  long = length-follow side a b doc f.long g.long;
  pairs = follow_keeps_pairs side a b doc (sym f.long ∙ g.long) f.long f.pieces f.pairs g.pairs;
  settled = settle_settled [] (follow_steps side a.places b.places a.last b.last);
  pieces = pieces-follow side a b (sym f.long ∙ g.long) g.pieces;
}

pub fit-compose : (a b : Edit) (doc : Doc) → IsFit a doc → IsFit b (apply a doc) → IsFit (compose a b) doc
fit-compose a b doc f g = record {
  long = f.long ∙ sym (length-compose a b);
  pairs = compose_keeps_pairs a b doc f.long f.pairs g.pairs;
  settled = settled-compose a b;
  pieces = pieces-compose a b doc f.long g.long f.pieces g.pieces g.pairs;
}

-- the two ways to take both
pub both_ways : (side : Bool) (a b : Edit) (doc : Doc) → IsFit a doc → IsFit b doc
    → apply (follow side a b) (apply a doc) ≡ apply (follow (not side) b a) (apply b doc)
both_ways side a b doc f g =
    sym (apply-compose a (follow side a b) doc f.long)
    ∙ ap (λ e. apply e doc) (diamond side a b (sym f.long ∙ g.long))
    ∙ apply-compose b (follow (not side) b a) doc g.long

-- ---- the identity

-- the last unit is no first half
abbrev pub ends_well : Doc → Bool
ends_well [] = true
ends_well (c ∷ []) = not (is_high c.unit)
ends_well (c ∷ (d ∷ ds)) = ends_well (d ∷ ds)

or_true : (a b : Bool) → b ≡ true → (a || b) ≡ true
or_true true b e = refl
or_true false b e = e

or_first : (a b : Bool) → a ≡ true → (a || b) ≡ true
or_first true b e = refl
or_first false b e = absurd (subst T (sym e) tt)

pub identity-pairs : (doc : Doc) → ends_well doc ≡ true → keeps_pairs (identity (length doc)).places (text_of doc) ≡ true
identity-pairs [] e = refl
identity-pairs (c ∷ []) e = both_true _ _ (or_first _ _ e) refl
identity-pairs (c ∷ (d ∷ ds)) e = both_true _ _ (or_true _ _ refl) (identity-pairs (d ∷ ds) e)

pub identity-settled : (n : ℕ) → are_settled (identity n).places ≡ true
identity-settled zero = refl
identity-settled (suc n) = identity-settled n

pub identity-pieces : (n : ℕ) (last : List Cell) → is_well_formed (text_of last) ≡ true → ArePieces (identity n).places last
identity-pieces zero last h = h
identity-pieces (suc n) last h = (refl, identity-pieces n last h)

identity-last : (n : ℕ) → (identity n).last ≡ []
identity-last zero = refl
identity-last (suc n) = identity-last n

pub fit-identity : (doc : Doc) → ends_well doc ≡ true → IsFit (identity (length doc)) doc
fit-identity doc e = record {
  long = sym (length-identity (length doc));
  pairs = identity-pairs doc e;
  settled = identity-settled (length doc);
  pieces = subst (λ last. ArePieces (identity (length doc)).places last) (sym (identity-last (length doc))) (identity-pieces (length doc) [] refl);
}

-- what an edit makes ends well

ends-text : (half : Bool) (cells : List Cell) → is_paired half (text_of cells) ≡ true → ends_well (map (λ (c : Cell). c) cells) ≡ true
ends-text half [] e = refl
ends-text half (c ∷ []) e = second_true (cond half (is_low c.unit) (not (is_low c.unit))) _ e
ends-text half (c ∷ (d ∷ ds)) e = ends-text (is_high c.unit) (d ∷ ds) (second_true (cond half (is_low c.unit) (not (is_low c.unit))) _ e)

ends-append : (xs ys : Doc) → ends_well xs ≡ true → ends_well ys ≡ true → ends_well (xs ++ ys) ≡ true
ends-append [] ys e h = h
ends-append (x ∷ []) [] e h = e
ends-append (x ∷ []) (y ∷ ys) e h = h
ends-append (x ∷ (z ∷ zs)) ys e h = ends-append (z ∷ zs) ys e h

ends-kept : (c : Cell) (rest : Doc) → (is_high c.unit ≡ true → is_empty rest ≡ false) → ends_well rest ≡ true → ends_well (c ∷ rest) ≡ true
ends-kept c [] long e = go (is_high c.unit) long
  where
    go : (b : Bool) → (b ≡ true → true ≡ false) → not b ≡ true
    go true f = absurd (subst T (f refl) tt)
    go false f = refl
ends-kept c (d ∷ ds) long e = e

goes_on_kept : (m : AttrMap) (ps : List Place) (last : List Cell) (doc : Doc) → goes_on (Keep m) ps ≡ true → length doc ≡ length ps → is_empty (over painted (λ c. c) ps last doc) ≡ false
goes_on_kept m [] last doc e n = absurd (subst T (sym e) tt)
goes_on_kept m (q ∷ qs) last [] e n = absurd (omega (arith, n))
goes_on_kept m (q ∷ qs) last (d ∷ doc) e n = go q.before q.fate (second_true (is_empty q.before) _ e)
  where
    go : (b : List Cell) (f : Fate) → same_fate (Keep m) f ≡ true → is_empty (map (λ (c : Cell). c) b ++ (at_place painted (λ c. c) f d ++ over painted (λ c. c) qs last doc)) ≡ false
    go [] Drop s = absurd (subst T (sym s) tt)
    go [] (Keep k) s = refl
    go (c ∷ b) f s = refl

ends-place : (f : Fate) (d : Cell) (ps : List Place) (last : List Cell) (doc : Doc) → length doc ≡ length ps → (not (is_high d.unit) || goes_on f ps) ≡ true
    → ends_well (over painted (λ c. c) ps last doc) ≡ true → ends_well (at_place painted (λ c. c) f d ++ over painted (λ c. c) ps last doc) ≡ true
ends-place Drop d ps last doc n k rest = rest
ends-place (Keep m) d ps last doc n k rest = ends-kept (painted d m) _ (λ s. goes_on_kept m ps last doc (goes_with _ _ k s) n) rest

ends-over : (ps : List Place) (last : List Cell) (doc : Doc) → length doc ≡ length ps → ArePieces ps last → keeps_pairs ps (text_of doc) ≡ true → ends_well (over painted (λ c. c) ps last doc) ≡ true
ends-over [] last doc n h e = ends-text false last h
ends-over (p ∷ ps) last [] n h e = absurd (omega (arith, n))
ends-over (p ∷ ps) last (d ∷ doc) n h e =
    ends-append (map (λ (c : Cell). c) p.before) _ (ends-text false p.before h.0)
    (ends-place p.fate d ps last doc (omega (arith, n)) (first_true _ _ e) (ends-over ps last doc (omega (arith, n)) h.1 (second_true (not (is_high d.unit) || goes_on p.fate ps) _ e)))

pub ends-apply : (e : Edit) (doc : Doc) → IsFit e doc → ends_well (apply e doc) ≡ true
ends-apply e doc f = ends-over e.places e.last doc f.long f.pieces f.pairs

-- ---- what follows the identity's rival, and the identity itself

abbrev pub bare : ℕ → List Step
bare zero = []
bare (suc n) = Pass (Keep none) ∷ bare n

bare-edit : (n : ℕ) → edit_of (bare n) ≡ identity n
bare-edit zero = refl
bare-edit (suc n) = ap (with_place (record { before = []; fate = Keep none })) (bare-edit n)

bare-passes : (cells : List Cell) (n : ℕ) → passes cells ++ bare n ≡ bare (length cells + n)
bare-passes [] n = ap bare (omega arith)
bare-passes (c ∷ cells) n = ap (λ s. Pass (Keep none) ∷ s) (bare-passes cells n) ∙ ap bare {x = suc (length cells + n)} (omega arith)

bare-gap : (side : Bool) (a : List Cell) (n : ℕ) → follow_gap side a [] ++ bare n ≡ bare (length a + n)
bare-gap side a n = go (goes_first side a [])
  where
    go : (t : Bool) → cond t (passes a ++ []) ([] ++ passes a) ++ bare n ≡ bare (length a + n)
    go true = ap (λ s. s ++ bare n) (append-nil (passes a)) ∙ bare-passes a n
    go false = bare-passes a n

map_of_none : (f : Text → Option Text) (ks : List Text) → ((k : Text) → f k ≡ None) → map_of f ks ≡ none
map_of_none f [] h = refl
map_of_none f (k ∷ ks) h = ap (insert_some (map_of f ks) k) (h k) ∙ map_of_none f ks h

rest_none : (a : AttrMap) → rest a none ≡ none
rest_none a = map_of_none _ _ (λ k. nothing_left (get a k))
  where
    nothing_left : (v : Option Text) → value_left v None ≡ None
    nothing_left None = refl
    nothing_left (Some t) = refl

bare-place : (f : Fate) (c : Cell) (n : ℕ) → follow_place f (Keep none) ++ bare n ≡ bare (length (at_place painted (λ c. c) f c) + n)
bare-place Drop c n = ap bare (omega arith)
bare-place (Keep a) c n = ap (λ m. Pass (Keep m) ∷ bare n) (rest_none a) ∙ ap bare {x = suc n} (omega arith)

bare-follow : (side : Bool) (ps : List Place) (last : List Cell) (doc : Doc) → length doc ≡ length ps
    → follow_steps side ps (identity (length doc)).places last [] ≡ bare (length (over painted (λ c. c) ps last doc))
bare-follow side [] last [] n = sym (append-nil (follow_gap side last [])) ∙ bare-gap side last 0 ∙ ap bare (let k = length_new last in omega (arith, k))
bare-follow side [] last (d ∷ doc) n = absurd (omega (arith, n))
bare-follow side (p ∷ ps) last [] n = absurd (omega (arith, n))
bare-follow side (p ∷ ps) last (d ∷ doc) n =
    let after = over painted (λ c. c) ps last doc in
    let k = length_new p.before in
    let m = length-append (map (λ (c : Cell). c) p.before) (at_place painted (λ c. c) p.fate d ++ after) in
    let o = length-append (at_place painted (λ c. c) p.fate d) after in
    ap (λ s. follow_gap side p.before [] ++ (follow_place p.fate (Keep none) ++ s)) (bare-follow side ps last doc (omega (arith, n)))
    ∙ ap (λ s. follow_gap side p.before [] ++ s) (bare-place p.fate d (length after))
    ∙ bare-gap side p.before (length (at_place painted (λ c. c) p.fate d) + length after)
    ∙ ap bare (omega (arith, k, m, o))

-- what is left of nothing after an edit is nothing
pub follow-identity : (side : Bool) (e : Edit) (doc : Doc) → length doc ≡ length e.places → follow side e (identity (length doc)) ≡ identity (length (apply e doc))
follow-identity side e doc n =
    ap (λ last. edit_of (follow_steps side e.places (identity (length doc)).places e.last last)) (identity-last (length doc))
    ∙ ap edit_of (bare-follow side e.places e.last doc n)
    ∙ bare-edit (length (apply e doc))

-- a text stays a text
pub text-apply : (e : Edit) (doc : Doc) → IsFit e doc → is_well_formed (text_of doc) ≡ true → is_well_formed (text_of (apply e doc)) ≡ true
text-apply e doc f w = apply_whole e doc f.long f.pieces f.pairs w
