-- Documents, compared stretch by stretch.
use Rattle.std.proofs.Common.{◌≡◌, ℕ, ◌<◌, ◌&&◌, Bool, true, false, not, List, [], ◌∷◌, ◌++◌, length, refl, sym, ap, ◌∙◌, arith}
use Rattle.std.proofs.Common.{◌≤◌, append_assoc}
use Rattle.std.proofs.lemmas.List.{map-append}
use Rattle.std.specs.Cmp.Lexicographic.{pointwise}
use Rattle.std.specs.Prelude.{nat_eq, is_some, MatchOption, Option, Some, None}
use Rattle.ep_attr.specs.AttrMap.{AttrMap, same_map}
use Rattle.ep_cs.specs.Doc.{Doc}
use Rattle.ep_cs.specs.Runs.{cells}
use Rattle.ep_make.specs.Same.{doc_eq}

both : (a b : Bool) → (a && b) ≡ true → (a ≡ true) × (b ≡ true)
both true true e = (refl, refl)
both true false e = (refl, e)
both false b e = (e, absurd (let h : false ≡ true = e in cc))

either : (a b : Bool) (r : Bool) → (b ≡ false → r ≡ false) → (a && b) ≡ false → (a && r) ≡ false
either true b r h e = h e
either false b r h e = refl

and-false : (a b : Bool) → b ≡ false → (a && b) ≡ false
and-false true b e = e
and-false false b e = refl

not_false : (b : Bool) → not b ≡ false → b ≡ true
not_false true e = refl
not_false false e = sym e

not_true : (b : Bool) → not b ≡ true → b ≡ false
not_true true e = sym e
not_true false e = refl

-- the units and the maps are the same
pub same_piece : (m k : AttrMap) (fs ts : List ℕ) (xs ys : Doc) → pointwise nat_eq fs ts ≡ true → same_map m k ≡ true → doc_eq (cells m fs ++ xs) (cells k ts ++ ys) ≡ doc_eq xs ys
same_piece m k [] [] xs ys e s = refl
same_piece m k [] (t ∷ ts) xs ys e s = let h : false ≡ true = e in cc
same_piece m k (f ∷ fs) [] xs ys e s = let h : false ≡ true = e in cc
same_piece m k (f ∷ fs) (t ∷ ts) xs ys e s =
    let h = both (nat_eq f t) (pointwise nat_eq fs ts) e in
    ap (λ b. b && (same_map m k && doc_eq (cells m fs ++ xs) (cells k ts ++ ys))) h.0
    ∙ ap (λ b. b && doc_eq (cells m fs ++ xs) (cells k ts ++ ys)) s
    ∙ same_piece m k fs ts xs ys h.1 s

-- one of so many units is another
pub other_units : (m k : AttrMap) (fs ts : List ℕ) (xs ys : Doc) → length fs ≡ length ts → pointwise nat_eq fs ts ≡ false → doc_eq (cells m fs ++ xs) (cells k ts ++ ys) ≡ false
other_units m k [] [] xs ys l e = let h : true ≡ false = e in cc
other_units m k [] (t ∷ ts) xs ys l e = absurd (omega (arith, l))
other_units m k (f ∷ fs) [] xs ys l e = absurd (omega (arith, l))
other_units m k (f ∷ fs) (t ∷ ts) xs ys l e =
    either (nat_eq f t) (pointwise nat_eq fs ts) (same_map m k && doc_eq (cells m fs ++ xs) (cells k ts ++ ys))
    (λ q. and-false (same_map m k) _ (other_units m k fs ts xs ys (omega (arith, l)) q)) e

-- the maps are others
pub other_map : (m k : AttrMap) (fs ts : List ℕ) (xs ys : Doc) → length fs ≡ length ts → 0 < length ts → same_map m k ≡ false → doc_eq (cells m fs ++ xs) (cells k ts ++ ys) ≡ false
other_map m k fs [] xs ys l h s = absurd (omega (arith, h))
other_map m k [] (t ∷ ts) xs ys l h s = absurd (omega (arith, l))
other_map m k (f ∷ fs) (t ∷ ts) xs ys l h s = and-false (nat_eq f t) _ (ap (λ b. b && doc_eq (cells m fs ++ xs) (cells k ts ++ ys)) s)

-- nothing is left of the other
pub none_left : (m : AttrMap) (fs : List ℕ) (xs : Doc) → 0 < length fs → doc_eq (cells m fs ++ xs) [] ≡ false
none_left m [] xs h = absurd (omega (arith, h))
none_left m (f ∷ fs) xs h = refl

-- ---- the next piece

module _ (m k : AttrMap) (left front back text : List ℕ) (rest new : Doc) (split : left ≡ front ++ back) (piece : rest ≡ cells k text ++ new) (behind : Doc) where
  opened : doc_eq (cells m left ++ behind) rest ≡ doc_eq (cells m front ++ (cells m back ++ behind)) (cells k text ++ new)
  opened =
      ap (λ d. doc_eq d rest) (ap (λ us. cells m us ++ behind) split ∙ ap (λ cs. cs ++ behind) (map-append _ front back) ∙ append_assoc (cells m front) (cells m back) behind)
      ∙ ap (doc_eq (cells m front ++ (cells m back ++ behind))) piece

  pub piece_passed : not (pointwise nat_eq front text) ≡ false → not (same_map m k) ≡ false → doc_eq (cells m left ++ behind) rest ≡ doc_eq (cells m back ++ behind) new
  piece_passed e s = opened ∙ same_piece m k front text (cells m back ++ behind) new (not_false _ e) (not_false _ s)

  pub piece_of_others : length front ≡ length text → not (pointwise nat_eq front text) ≡ true → doc_eq (cells m left ++ behind) rest ≡ false
  piece_of_others l e = opened ∙ other_units m k front text (cells m back ++ behind) new l (not_true _ e)

  pub piece_with_others : length front ≡ length text → 1 ≤ length text → not (same_map m k) ≡ true → doc_eq (cells m left ++ behind) rest ≡ false
  piece_with_others l h s = opened ∙ other_map m k front text (cells m back ++ behind) new l (omega (arith, h)) (not_true _ s)

-- ---- the end

-- there is no next stretch just where no unit is left
pub ended : {S : Type 0} (maps : S → AttrMap) (texts : S → List ℕ) (most : ℕ) (others new : Doc) (o : Option S) (b : Bool) → is_some o ≡ not b
    → MatchOption o ((others ≡ []) × (new ≡ [])) (λ s. (others ≡ cells (maps s) (texts s) ++ new) × (1 ≤ length (texts s)) × (length (texts s) ≤ most)) → b ≡ doc_eq [] others
ended maps texts most others new None b e h = not_false b (sym e) ∙ sym (ap (doc_eq []) h.0)
ended maps texts most others new (Some s) b e h = not_true b (sym e) ∙ sym (ap (doc_eq []) h.0 ∙ some_left (maps s) (texts s) new h.1)
  where
    some_left : (m : AttrMap) (us : List ℕ) (ys : Doc) → 1 ≤ length us → doc_eq [] (cells m us ++ ys) ≡ false
    some_left m [] ys h = absurd (omega (arith, h))
    some_left m (u ∷ us) ys h = refl
