-- Equality of maps is an equivalence, and equal attributes are hashed alike.
use Rattle.std.specs.Prelude.{◌≡◌, ℕ, Bool, true, false, ◌&&◌, List, [], ◌∷◌, ◌++◌, refl, T, IsTrue}
use Rattle.std.proofs.Common.{sym, subst, Ordering, Less, Equal, Greater, is_eq}
use Rattle.std.specs.FinMap.{slice_cmp-IsAntisymmetric, nat_cmp-IsAntisymmetric}
use Rattle.std.specs.Cmp.{IsEquivalence, eq_by_cmp_equiv}
use Rattle.std.specs.Cmp.Lexicographic.{nat_list_cmp_total}
use Rattle.std.specs.Hash as fed
use Rattle.ep_units.specs.Text.{Text, text_cmp, text_eq}
use Rattle.ep_attr.specs.AttrMap.{Pair, same_pairs, same_map}
use Rattle.ep_attr.specs.declared.attr_map.Attr.{Attr}

texts : IsEquivalence text_eq
texts = eq_by_cmp_equiv nat_list_cmp_total

both : (a b : Bool) → a ≡ true → b ≡ true → (a && b) ≡ true
both true b e h = h
both false b e h = e

first : (a b : Bool) → (a && b) ≡ true → a ≡ true
first true b e = refl
first false b e = e

second : (a b : Bool) → (a && b) ≡ true → b ≡ true
second true b e = e
second false b e = absurd (subst T (sym e) tt)

itself : (ps : List Pair) → same_pairs ps ps ≡ true
itself [] = refl
itself (p ∷ ps) = both _ _ (texts.refl p.0) (both _ _ (texts.refl p.1) (itself ps))

turned : (ps qs : List Pair) → same_pairs ps qs ≡ same_pairs qs ps
turned [] [] = refl
turned [] (q ∷ qs) = refl
turned (p ∷ ps) [] = refl
turned (p ∷ ps) (q ∷ qs) = λ i. texts.symm p.0 q.0 i && (texts.symm p.1 q.1 i && turned ps qs i)

alike : (ps qs rs : List Pair) → same_pairs ps qs ≡ true → same_pairs ps rs ≡ same_pairs qs rs
alike [] [] rs e = refl
alike [] (q ∷ qs) rs e = absurd (subst T (sym e) tt)
alike (p ∷ ps) [] rs e = absurd (subst T (sym e) tt)
alike (p ∷ ps) (q ∷ qs) [] e = refl
alike (p ∷ ps) (q ∷ qs) (r ∷ rs) e =
    let keys = texts.congr p.0 q.0 r.0 (first _ _ e) in
    let values = texts.congr p.1 q.1 r.1 (first _ _ (second (text_eq p.0 q.0) _ e)) in
    let others = alike ps qs rs (second (text_eq p.1 q.1) _ (second (text_eq p.0 q.0) _ e)) in
    λ i. keys i && (values i && others i)

pub same_map_equiv : IsEquivalence same_map
same_map_equiv = record {
  refl = λ m. itself m.pairs;
  symm = λ m n. turned m.pairs n.pairs;
  congr = λ m n o e. alike m.pairs n.pairs o.pairs e;
}

abbrev pub attr_input : Attr → List (List ℕ)
attr_input a = fed.slice fed.u16 a.key ++ fed.slice fed.u16 a.value

same_text : (a b : Text) → text_eq a b ≡ true → a ≡ b
same_text a b e = slice_cmp-IsAntisymmetric nat_cmp-IsAntisymmetric a b (tied (text_cmp a b) e)
  where
    tied : (r : Ordering) → is_eq r ≡ true → r ≡ Equal
    tied Less e = absurd (subst T (sym e) tt)
    tied Equal e = refl
    tied Greater e = absurd (subst T (sym e) tt)

pub same_input : (a b : Attr) → IsTrue (text_eq a.key b.key && text_eq a.value b.value) → attr_input a ≡ attr_input b
same_input a b h =
    let e : (text_eq a.key b.key && text_eq a.value b.value) ≡ true = h in
    let k = same_text a.key b.key (first _ _ e) in
    let v = same_text a.value b.value (second (text_eq a.key b.key) _ e) in
    λ i. fed.slice fed.u16 (k i) ++ fed.slice fed.u16 (v i)
