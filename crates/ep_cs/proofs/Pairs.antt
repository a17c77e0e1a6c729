-- No pair is cut by what follows.
use Rattle.std.proofs.Common.{◌≡◌, Bool, true, false, cond, not, ◌&&◌, ◌||◌, List, [], ◌∷◌, ◌++◌, ◌⊎◌, inl, inr, map, length, refl, sym, ap, ◌∙◌, subst, T, arith, append_assoc, append-nil, ap₂}
use Rattle.std.proofs.lemmas.List.{map-append}
use Rattle.ep_units.specs.Text.{Text, is_high, is_low, is_paired, is_well_formed, text_eq}
use Rattle.ep_attr.specs.AttrMap.{AttrMap, none, join, rest, same_map}
use Rattle.ep_cs.specs.Doc.{Cell, Doc, text_of, painted}
use Rattle.ep_cs.specs.Edit.{Fate, Place, Edit, Step, is_empty, at_place, over, apply, compose, steps_of, steps_from, steps_over, step_over_new, fate_over, pieces, inserts, settle}
use Rattle.ep_cs.specs.Edit.Fate.{Drop, Keep}
use Rattle.ep_cs.specs.Edit.Step.{Insert, Pass}
use Rattle.ep_cs.specs.Steps.{passed, run}
use Rattle.ep_cs.proofs.Composed.{run-steps_from, passed-steps_from}
use Rattle.ep_cs.specs.Fits.{same_fate, goes_on, keeps_pairs, ArePieces}
use Rattle.ep_cs.specs.Follow.{goes_first, passes, follow_gap, follow_place, follow_steps, follow}
use Rattle.ep_attr.proofs.Maps.{exact_test}
use Rattle.ep_attr.proofs.SameMap.{both_true, first_true, second_true, exact_map, same_map_itself}

pub same_text : (a b : Text) → text_eq a b ≡ true → a ≡ b
same_text = exact_test

-- whether the next step passes a place with this fate
abbrev next_is : Fate → List Step → Bool
next_is f [] = false
next_is f (Insert c ∷ steps) = false
next_is f (Pass g ∷ steps) = same_fate f g

-- each first half and the unit after it are passed together, with one fate
abbrev pub steps_keep : List Step → Text → Bool
steps_keep [] us = true
steps_keep (Insert c ∷ steps) us = steps_keep steps us
steps_keep (Pass f ∷ steps) [] = true
steps_keep (Pass f ∷ steps) (u ∷ us) = (not (is_high u) || next_is f steps) && steps_keep steps us

goes_on_settled : (f : Fate) (waiting : List Cell) (steps : List Step) → (f ≡ Drop) ⊎ (waiting ≡ []) → next_is f steps ≡ true → goes_on f (settle waiting steps).places ≡ true
goes_on_settled f waiting [] w e = absurd (subst T (sym e) tt)
goes_on_settled f waiting (Insert c ∷ steps) w e = absurd (subst T (sym e) tt)
goes_on_settled f waiting (Pass Drop ∷ steps) w e = e
goes_on_settled (Keep a) waiting (Pass (Keep m) ∷ steps) w e = elim w [ inl d ↦ absurd (subst (λ f. T (is_keep f)) d tt) | inr none_waits ↦ ap (λ w. is_empty w && same_map a m) none_waits ∙ e ]
  where
    is_keep : Fate → Bool
    is_keep Drop = false
    is_keep (Keep m) = true
goes_on_settled Drop waiting (Pass (Keep m) ∷ steps) w e = absurd (subst T (sym e) tt)

when : (h a b : Bool) → (a ≡ true → b ≡ true) → (not h || a) ≡ true → (not h || b) ≡ true
when true a b f e = f e
when false a b f e = refl

pub keeps_pairs-settle : (waiting : List Cell) (steps : List Step) (us : Text) → steps_keep steps us ≡ true → keeps_pairs (settle waiting steps).places us ≡ true
keeps_pairs-settle waiting [] us e = refl
keeps_pairs-settle waiting (Insert c ∷ steps) us e = keeps_pairs-settle (waiting ++ c ∷ []) steps us e
keeps_pairs-settle waiting (Pass Drop ∷ steps) [] e = refl
keeps_pairs-settle waiting (Pass (Keep m) ∷ steps) [] e = refl
keeps_pairs-settle waiting (Pass Drop ∷ steps) (u ∷ us) e =
    both_true _ _ (when (is_high u) _ _ (goes_on_settled Drop waiting steps (inl refl)) (first_true _ _ e)) (keeps_pairs-settle waiting steps us (second_true (not (is_high u) || next_is Drop steps) _ e))
keeps_pairs-settle waiting (Pass (Keep m) ∷ steps) (u ∷ us) e =
    both_true _ _ (when (is_high u) _ _ (goes_on_settled (Keep m) [] steps (inr refl)) (first_true _ _ e)) (keeps_pairs-settle [] steps us (second_true (not (is_high u) || next_is (Keep m) steps) _ e))

-- a whole piece is passed together
steps_keep-passes : (half : Bool) (cells : List Cell) (steps : List Step) (us : Text) → is_paired half (text_of cells) ≡ true → steps_keep steps us ≡ true → steps_keep (passes cells ++ steps) (text_of cells ++ us) ≡ true
steps_keep-passes half [] steps us w e = e
steps_keep-passes half (c ∷ []) steps us w e = both_true _ _ (whole (is_high c.unit) (second_true (cond half (is_low c.unit) (not (is_low c.unit))) _ w)) e
  where
    whole : (h : Bool) → not h ≡ true → (not h || next_is (Keep none) steps) ≡ true
    whole true x = absurd (subst T (sym x) tt)
    whole false x = refl
steps_keep-passes half (c ∷ (d ∷ cells)) steps us w e =
    both_true _ _ (whole (is_high c.unit)) (steps_keep-passes (is_high c.unit) (d ∷ cells) steps us (second_true (cond half (is_low c.unit) (not (is_low c.unit))) _ w) e)
  where
    whole : (h : Bool) → (not h || true) ≡ true
    whole true = refl
    whole false = refl

steps_keep-inserts : (cells : List Cell) (steps : List Step) (us : Text) → steps_keep (inserts cells ++ steps) us ≡ steps_keep steps us
steps_keep-inserts [] steps us = refl
steps_keep-inserts (c ∷ cells) steps us = steps_keep-inserts cells steps us

steps_keep-gap : (side : Bool) (a b : List Cell) (steps : List Step) (us : Text) → is_well_formed (text_of a) ≡ true → steps_keep steps us ≡ true → steps_keep (follow_gap side a b ++ steps) (text_of a ++ us) ≡ true
steps_keep-gap side a b steps us w e = go (goes_first side a b)
  where
    go : (t : Bool) → steps_keep (cond t (passes a ++ inserts b) (inserts b ++ passes a) ++ steps) (text_of a ++ us) ≡ true
    go true = ap (λ s. steps_keep s (text_of a ++ us)) (append_assoc (passes a) (inserts b) steps) ∙ steps_keep-passes false a (inserts b ++ steps) us w (steps_keep-inserts b steps us ∙ e)
    go false = ap (λ s. steps_keep s (text_of a ++ us)) (append_assoc (inserts b) (passes a) steps) ∙ steps_keep-inserts b (passes a ++ steps) (text_of a ++ us) ∙ steps_keep-passes false a steps us w e

-- what follows makes of a place that is kept with a
abbrev over_kept : AttrMap → Fate → Fate
over_kept a Drop = Drop
over_kept a (Keep b) = Keep (rest a b)

-- a place of one run in both goes on in the follower
next_here : (side : Bool) (pb qb : List Cell) (pf qf : Fate) (more : List Step) (a : AttrMap) (g : Fate)
    → (is_empty pb && same_fate (Keep a) pf) ≡ true → (is_empty qb && same_fate g qf) ≡ true
    → next_is (over_kept a g) (follow_gap side pb qb ++ (follow_place pf qf ++ more)) ≡ true
next_here side (c ∷ cs) qb pf qf more a g e h = absurd (subst T (sym e) tt)
next_here side [] (c ∷ cs) pf qf more a g e h = absurd (subst T (sym h) tt)
next_here side [] [] Drop qf more a g e h = absurd (subst T (sym e) tt)
next_here side [] [] (Keep a') Drop more a (Keep b) e h = absurd (subst T (sym h) tt)
next_here side [] [] (Keep a') (Keep b') more a Drop e h = absurd (subst T (sym h) tt)
next_here true [] [] (Keep a') Drop more a Drop e h = refl
next_here false [] [] (Keep a') Drop more a Drop e h = refl
next_here true [] [] (Keep a') (Keep b') more a (Keep b) e h = ap₂ (λ x y. same_map (rest a b) (rest x y)) (sym (exact_map a a' e)) (sym (exact_map b b' h)) ∙ same_map_itself (rest a b)
next_here false [] [] (Keep a') (Keep b') more a (Keep b) e h = ap₂ (λ x y. same_map (rest a b) (rest x y)) (sym (exact_map a a' e)) (sym (exact_map b b' h)) ∙ same_map_itself (rest a b)

next_follow : (side : Bool) (ps qs : List Place) (la lb : List Cell) (a : AttrMap) (g : Fate) → goes_on (Keep a) ps ≡ true → goes_on g qs ≡ true → next_is (over_kept a g) (follow_steps side ps qs la lb) ≡ true
next_follow side [] qs la lb a g e h = absurd (subst T (sym e) tt)
next_follow side (p ∷ ps) [] la lb a g e h = absurd (subst T (sym h) tt)
next_follow side (p ∷ ps) (q ∷ qs) la lb a g e h = next_here side p.before q.before p.fate q.fate (follow_steps side ps qs la lb) a g e h

when_both : (h a b c : Bool) → (a ≡ true → b ≡ true → c ≡ true) → (not h || a) ≡ true → (not h || b) ≡ true → (not h || c) ≡ true
when_both true a b c f e g = f e g
when_both false a b c f e g = refl

pub same_cells : (cs : List Cell) → map (λ (c : Cell). c) cs ≡ cs
same_cells [] = refl
same_cells (c ∷ cs) = ap (λ ds. c ∷ ds) (same_cells cs)

keep_place : (side : Bool) (f g : Fate) (c : Cell) (ps qs : List Place) (la lb : List Cell) (us : Text)
    → (not (is_high c.unit) || goes_on f ps) ≡ true → (not (is_high c.unit) || goes_on g qs) ≡ true
    → steps_keep (follow_steps side ps qs la lb) us ≡ true
    → steps_keep (follow_place f g ++ follow_steps side ps qs la lb) (text_of (at_place painted (λ c. c) f c) ++ us) ≡ true
keep_place side Drop g c ps qs la lb us e h ih = ih
keep_place side (Keep a) Drop c ps qs la lb us e h ih = both_true _ _ (when_both (is_high c.unit) _ _ _ (next_follow side ps qs la lb a Drop) e h) ih
keep_place side (Keep a) (Keep b) c ps qs la lb us e h ih = both_true _ _ (when_both (is_high c.unit) _ _ _ (next_follow side ps qs la lb a (Keep b)) e h) ih

steps_keep-follow : (side : Bool) (ps qs : List Place) (la lb : List Cell) (doc : Doc)
    → length ps ≡ length qs → length doc ≡ length ps → ArePieces ps la → keeps_pairs ps (text_of doc) ≡ true → keeps_pairs qs (text_of doc) ≡ true
    → steps_keep (follow_steps side ps qs la lb) (text_of (over painted (λ c. c) ps la doc)) ≡ true
steps_keep-follow side [] qs la lb doc n l pieces e h =
    ap (λ cs. steps_keep (follow_gap side la lb) (text_of cs)) (same_cells la)
    ∙ ap₂ (λ s us. steps_keep s us) (sym (append-nil (follow_gap side la lb))) (sym (append-nil (text_of la)))
    ∙ steps_keep-gap side la lb [] [] pieces refl
steps_keep-follow side (p ∷ ps) [] la lb doc n l pieces e h = absurd (omega arith)
steps_keep-follow side (p ∷ ps) (q ∷ qs) la lb [] n l pieces e h = absurd (omega arith)
steps_keep-follow side (p ∷ ps) (q ∷ qs) la lb (c ∷ doc) n l pieces e h =
    let ih = steps_keep-follow side ps qs la lb doc (omega arith) (omega arith) pieces.1 (second_true (not (is_high c.unit) || goes_on p.fate ps) _ e) (second_true (not (is_high c.unit) || goes_on q.fate qs) _ h) in
    let here = at_place painted (λ c. c) p.fate c in
    let after = over painted (λ c. c) ps la doc in
    ap (λ cs. steps_keep (follow_steps side (p ∷ ps) (q ∷ qs) la lb) (text_of (cs ++ (here ++ after)))) (same_cells p.before)
    ∙ ap (steps_keep (follow_steps side (p ∷ ps) (q ∷ qs) la lb)) (map-append (λ (c : Cell). c.unit) p.before (here ++ after) ∙ ap (λ us. text_of p.before ++ us) (map-append (λ (c : Cell). c.unit) here after))
    ∙ steps_keep-gap side p.before q.before _ _ pieces.0
    (keep_place side p.fate q.fate c ps qs la lb (text_of after) (first_true _ _ e) (first_true _ _ h) ih)

-- the follower cuts no pair of a's result
pub follow_keeps_pairs : (side : Bool) (a b : Edit) (doc : Doc)
    → length a.places ≡ length b.places → length doc ≡ length a.places → ArePieces a.places a.last
    → keeps_pairs a.places (text_of doc) ≡ true → keeps_pairs b.places (text_of doc) ≡ true
    → keeps_pairs (follow side a b).places (text_of (apply a doc)) ≡ true
follow_keeps_pairs side a b doc n l pieces e h =
    keeps_pairs-settle [] (follow_steps side a.places b.places a.last b.last) (text_of (apply a doc))
    (steps_keep-follow side a.places b.places a.last b.last doc n l pieces e h)

-- ---- a composition

unsettled : (p : Place) (ps : List Place) (last : List Cell) (f : Fate) → goes_on f (p ∷ ps) ≡ true → next_is f (steps_from (p ∷ ps) last) ≡ true
unsettled p ps last f e = go p.before p.fate e
  where
    go : (b : List Cell) (g : Fate) → (is_empty b && same_fate f g) ≡ true → next_is f (inserts b ++ (Pass g ∷ steps_from ps last)) ≡ true
    go [] g e = e
    go (c ∷ cs) g e = absurd (subst T (sym e) tt)

next_from : (ps : List Place) (last : List Cell) (f : Fate) → goes_on f ps ≡ true → next_is f (steps_from ps last) ≡ true
next_from [] last f e = absurd (subst T (sym e) tt)
next_from (p ∷ ps) last f e = unsettled p ps last f e

steps_keep-steps_from : (ps : List Place) (last : List Cell) (us : Text) → keeps_pairs ps us ≡ true → steps_keep (steps_from ps last) us ≡ true
steps_keep-steps_from [] last us e = only last
  where
    only : (cells : List Cell) → steps_keep (inserts cells) us ≡ true
    only [] = refl
    only (c ∷ cells) = only cells
steps_keep-steps_from (p ∷ ps) last [] e = steps_keep-inserts p.before _ []
steps_keep-steps_from (p ∷ ps) last (u ∷ us) e =
    steps_keep-inserts p.before _ (u ∷ us)
    ∙ both_true _ _ (when (is_high u) _ _ (next_from ps last p.fate) (first_true _ _ e)) (steps_keep-steps_from ps last us (second_true (not (is_high u) || goes_on p.fate ps) _ e))

same_over : (m m' : AttrMap) (f g : Fate) → same_map m m' ≡ true → same_fate f g ≡ true → same_fate (fate_over m f) (fate_over m' g) ≡ true
same_over m m' Drop Drop e h = refl
same_over m m' Drop (Keep d) e h = absurd (subst T (sym h) tt)
same_over m m' (Keep c) Drop e h = absurd (subst T (sym h) tt)
same_over m m' (Keep c) (Keep d) e h = ap₂ (λ x y. same_map (join m c) (join x y)) (sym (exact_map m m' e)) (sym (exact_map c d h)) ∙ same_map_itself (join m c)

next_dropped : (steps : List Step) (qs : List Place) (last : List Cell) → next_is Drop steps ≡ true → next_is Drop (steps_over steps qs last) ≡ true
next_dropped [] qs last e = absurd (subst T (sym e) tt)
next_dropped (Insert c ∷ steps) qs last e = absurd (subst T (sym e) tt)
next_dropped (Pass Drop ∷ steps) qs last e = refl
next_dropped (Pass (Keep m) ∷ steps) qs last e = absurd (subst T (sym e) tt)

next_unmade : (m : AttrMap) (steps : List Step) (last : List Cell) → next_is (Keep m) steps ≡ true → next_is Drop (steps_over steps [] last) ≡ true
next_unmade m [] last e = absurd (subst T (sym e) tt)
next_unmade m (Insert c ∷ steps) last e = absurd (subst T (sym e) tt)
next_unmade m (Pass Drop ∷ steps) last e = refl
next_unmade m (Pass (Keep m') ∷ steps) last e = refl

next_kept : (m : AttrMap) (f : Fate) (steps : List Step) (qs : List Place) (last : List Cell) → next_is (Keep m) steps ≡ true → goes_on f qs ≡ true → next_is (fate_over m f) (steps_over steps qs last) ≡ true
next_kept m f [] qs last e h = absurd (subst T (sym e) tt)
next_kept m f (Insert c ∷ steps) qs last e h = absurd (subst T (sym e) tt)
next_kept m f (Pass Drop ∷ steps) qs last e h = absurd (subst T (sym e) tt)
next_kept m f (Pass (Keep m') ∷ steps) [] last e h = absurd (subst T (sym h) tt)
next_kept m f (Pass (Keep m') ∷ steps) (q ∷ qs) last e h = go q.before q.fate h
  where
    go : (b : List Cell) (g : Fate) → (is_empty b && same_fate f g) ≡ true → next_is (fate_over m f) (inserts b ++ (Pass (fate_over m' g) ∷ steps_over steps qs last)) ≡ true
    go [] g h = same_over m m' f g e h
    go (c ∷ cs) g h = absurd (subst T (sym h) tt)

steps_keep-new : (c : Cell) (f : Fate) (steps : List Step) (us : Text) → steps_keep (step_over_new c f ++ steps) us ≡ steps_keep steps us
steps_keep-new c Drop steps us = refl
steps_keep-new c (Keep m) steps us = refl

steps_keep-steps_over : (steps : List Step) (qs : List Place) (last : List Cell) (doc : Doc) → length doc ≡ passed steps
    → steps_keep steps (text_of doc) ≡ true → keeps_pairs qs (text_of (run painted (λ c. c) steps doc)) ≡ true
    → steps_keep (steps_over steps qs last) (text_of doc) ≡ true
steps_keep-steps_over [] qs last doc n e h = only (pieces qs last)
  where
    only : (cells : List Cell) → steps_keep (inserts cells) (text_of doc) ≡ true
    only [] = refl
    only (c ∷ cells) = only cells
steps_keep-steps_over (Pass f ∷ steps) qs last [] n e h = absurd (omega arith)
steps_keep-steps_over (Pass Drop ∷ steps) qs last (d ∷ doc) n e h =
    both_true _ _ (when (is_high d.unit) _ _ (next_dropped steps qs last) (first_true _ _ e))
    (steps_keep-steps_over steps qs last doc (omega arith) (second_true (not (is_high d.unit) || next_is Drop steps) _ e) h)
steps_keep-steps_over (Insert c ∷ steps) [] last doc n e h = steps_keep-steps_over steps [] last doc n e refl
steps_keep-steps_over (Insert c ∷ steps) (q ∷ qs) last doc n e h =
    steps_keep-inserts q.before _ (text_of doc) ∙ steps_keep-new c q.fate (steps_over steps qs last) (text_of doc)
    ∙ steps_keep-steps_over steps qs last doc n e (second_true (not (is_high c.unit) || goes_on q.fate qs) _ h)
steps_keep-steps_over (Pass (Keep m) ∷ steps) [] last (d ∷ doc) n e h =
    both_true _ _ (when (is_high d.unit) _ _ (next_unmade m steps last) (first_true _ _ e))
    (steps_keep-steps_over steps [] last doc (omega arith) (second_true (not (is_high d.unit) || next_is (Keep m) steps) _ e) refl)
steps_keep-steps_over (Pass (Keep m) ∷ steps) (q ∷ qs) last (d ∷ doc) n e h =
    steps_keep-inserts q.before _ (text_of (d ∷ doc))
    ∙ both_true _ _ (when_both (is_high d.unit) _ _ _ (next_kept m q.fate steps qs last) (first_true _ _ e) (first_true _ _ h))
    (steps_keep-steps_over steps qs last doc (omega arith) (second_true (not (is_high d.unit) || next_is (Keep m) steps) _ e) (second_true (not (is_high d.unit) || goes_on q.fate qs) _ h))

-- a composition cuts no pair that the two do not cut
pub compose_keeps_pairs : (a b : Edit) (doc : Doc) → length doc ≡ length a.places
    → keeps_pairs a.places (text_of doc) ≡ true → keeps_pairs b.places (text_of (apply a doc)) ≡ true
    → keeps_pairs (compose a b).places (text_of doc) ≡ true
compose_keeps_pairs a b doc n e h =
    keeps_pairs-settle [] (steps_over (steps_of a) b.places b.last) (text_of doc)
    (steps_keep-steps_over (steps_of a) b.places b.last doc (n ∙ sym (passed-steps_from a.places a.last)) (steps_keep-steps_from a.places a.last (text_of doc) e)
    (ap (λ cs. keeps_pairs b.places (text_of cs)) (run-steps_from painted (λ c. c) a.places a.last doc) ∙ h))
