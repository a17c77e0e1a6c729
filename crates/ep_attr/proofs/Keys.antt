-- Keys below the keys of pairs.
use Rattle.std.proofs.Common.{◌≡◌, Bool, true, false, cond, ◌&&◌, List, [], ◌∷◌, T, Some, None, refl, sym, ap, ◌∙◌, subst, Ordering, Less, Equal, Greater, is_eq}
use Rattle.std.specs.Ordering.{is_lt, ordering_reverse}
use Rattle.std.specs.Cmp.Lexicographic.{nat_list_cmp_total}
use Rattle.std.specs.FinMap.Entries.{find, below_all}
use Rattle.ep_units.specs.Text.{Text, text_cmp}
use Rattle.ep_attr.specs.AttrMap.{Pair}

pub both : (a b : Bool) → T a → T b → T (a && b)
both true b p q = q
both false b p q = absurd p

pub first : (a b : Bool) → T (a && b) → T a
first true b p = tt
first false b p = absurd p

pub second : (a b : Bool) → T (a && b) → T b
second true b p = p
second false b p = absurd p

pub less : (o : Ordering) → T (is_lt o) → o ≡ Less
less Less p = refl
less Equal p = absurd p
less Greater p = absurd p

pub is_less : (o : Ordering) → o ≡ Less → T (is_lt o)
is_less o e = subst (λ r. T (is_lt r)) (sym e) tt

pub below_less : (x y : Text) (ps : List Pair) → text_cmp x y ≡ Less → T (below_all text_cmp y ps) → T (below_all text_cmp x ps)
below_less x y [] e h = tt
below_less x y (p ∷ ps) e h = both _ _ (is_less _ (nat_list_cmp_total.trans x y p.0 e (less _ (first _ _ h)))) (below_less x y ps e (second _ _ h))

pub find_below : (x : Text) (ps : List Pair) → T (below_all text_cmp x ps) → find text_cmp x ps ≡ None
find_below x [] h = refl
find_below x (p ∷ ps) h = ap (λ r. cond (is_eq r) (Some p.1) (find text_cmp x ps)) (less _ (first _ _ h)) ∙ find_below x ps (second _ _ h)

pub turned : (x y : Text) → text_cmp x y ≡ Greater → text_cmp y x ≡ Less
turned x y e = nat_list_cmp_total.antisymm y x ∙ ap ordering_reverse e
