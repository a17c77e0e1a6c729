-- Whether two maps are equal.
use Rattle.std.proofs.Common.{◌≡◌, ◌∙◌, ◌≤◌, length, arith, Bool, true, false, ◌&&◌, List, [], ◌∷◌, refl, sym, ap, subst, T, is_eq}
use Rattle.std.specs.Cmp.{tied_itself}
use Rattle.std.specs.Cmp.Lexicographic.{nat_list_cmp_total}
use Rattle.ep_units.specs.Text.{Text, text_eq}
use Rattle.ep_attr.specs.AttrMap.{AttrMap, Pair, same_pairs, same_map}
use Rattle.std.specs.Cmp.Lexicographic.{pointwise}
use Rattle.ep_attr.specs.Attrs.{pairs_of}
use Rattle.ep_attr.specs.Codes.{same_pairs_map}
use Rattle.ep_attr.specs.declared.attr_map.Attr.{Attr}
use Rattle.ep_attr.proofs.Maps.{exact_test}

pub both_true : (a b : Bool) → a ≡ true → b ≡ true → (a && b) ≡ true
both_true true b e h = h
both_true false b e h = e

pub first_true : (a b : Bool) → (a && b) ≡ true → a ≡ true
first_true true b e = refl
first_true false b e = e

pub second_true : (a b : Bool) → (a && b) ≡ true → b ≡ true
second_true true b e = e
second_true false b e = absurd (subst T (sym e) tt)

exact_pairs : (ps qs : List Pair) → same_pairs ps qs ≡ true → ps ≡ qs
exact_pairs [] [] e = refl
exact_pairs [] (q ∷ qs) e = absurd (subst T (sym e) tt)
exact_pairs (p ∷ ps) [] e = absurd (subst T (sym e) tt)
exact_pairs (p ∷ ps) (q ∷ qs) e =
    let k = exact_test p.0 q.0 (first_true _ _ e) in
    let v = exact_test p.1 q.1 (first_true _ _ (second_true (text_eq p.0 q.0) _ e)) in
    let r = exact_pairs ps qs (second_true (text_eq p.1 q.1) _ (second_true (text_eq p.0 q.0) _ e)) in
    λ i. (k i, v i) ∷ r i

pub exact_map : (a b : AttrMap) → same_map a b ≡ true → a ≡ b
exact_map a b e = same_pairs_map a b (exact_pairs a.pairs b.pairs e)

pub itself : (t : Text) → text_eq t t ≡ true
itself t = ap is_eq (tied_itself nat_list_cmp_total t)

pairs_themselves : (ps : List Pair) → same_pairs ps ps ≡ true
pairs_themselves [] = refl
pairs_themselves (p ∷ ps) = both_true _ _ (itself p.0) (both_true _ _ (itself p.1) (pairs_themselves ps))

pub same_map_itself : (m : AttrMap) → same_map m m ≡ true
same_map_itself m = pairs_themselves m.pairs

all_three : (a b c : Bool) → ((a && b) && c) ≡ (a && (b && c))
all_three true b c = refl
all_three false b c = refl

-- a test of pairs one by one
pub equal_pairs : (test : Attr → Attr → Bool) → ((a b : Attr) → test a b ≡ (text_eq a.key b.key && text_eq a.value b.value))
    → (xs ys : List Attr) → pointwise test xs ys ≡ same_pairs (pairs_of xs) (pairs_of ys)
equal_pairs test is [] [] = refl
equal_pairs test is [] (y ∷ ys) = refl
equal_pairs test is (x ∷ xs) [] = refl
equal_pairs test is (x ∷ xs) (y ∷ ys) =
    (λ i. is x y i && equal_pairs test is xs ys i) ∙ all_three (text_eq x.key y.key) (text_eq x.value y.value) (same_pairs (pairs_of xs) (pairs_of ys))

pub not_none : (xs : List Attr) → 1 ≤ length xs → same_pairs (pairs_of xs) [] ≡ false
not_none [] h = absurd (omega (arith, h))
not_none (x ∷ xs) h = refl
