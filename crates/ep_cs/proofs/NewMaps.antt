-- Maps on new units.
use Rattle.std.proofs.Common.{◌≡◌, zero, suc, Bool, true, false, cond, List, [], ◌∷◌, Option, Some, None, refl, sym, ap, ◌∙◌, arith}
use Rattle.std.specs.List.{Any}
use Rattle.std.specs.FinMap.Entries.{find}
use Rattle.std.specs.Ordering.{eq_by_cmp}
use Rattle.ep_units.specs.Text.{Text, text_cmp}
use Rattle.ep_attr.specs.AttrMap.{AttrMap, Pair, none, get, after, value_after}
use Rattle.ep_attr.specs.Attrs.{pairs_of}
use Rattle.ep_attr.specs.declared.attr_map.Attr.{Attr}
use Rattle.ep_attr.proofs.Maps.{same_values, get-after}

-- a map without an empty value stands on new text as it is
no_empty : (ps : List Pair) (q : Text) → (Any (λ (p : Pair). p.1 ≡ []) ps → ⊥) → find text_cmp q ps ≡ Some [] → ⊥
no_empty [] q none e = cc
no_empty (p ∷ ps) q none e = go (λ e. no_empty ps q (λ a. none (suc a.0, a.1, omega (arith, a.2), a.3, a.4)) e) (eq_by_cmp text_cmp q p.0) e
  where
    go : (find text_cmp q ps ≡ Some [] → ⊥) → (b : Bool) → cond b (Some p.1) (find text_cmp q ps) ≡ Some [] → ⊥
    go again true e = let v : p.1 ≡ [] = cc in none (0, p, omega arith, refl, v)
    go again false e = again e

unchanged : (o : Option Text) → (o ≡ Some [] → ⊥) → o ≡ value_after None o
unchanged None h = refl
unchanged (Some []) h = absurd (h refl)
unchanged (Some (u ∷ us)) h = refl

pub after_without_empty : (m : AttrMap) → (Any (λ (p : Pair). p.1 ≡ []) m.pairs → ⊥) → m ≡ after none m
after_without_empty m h = same_values m (after none m) (λ q. unchanged (get m q) (no_empty m.pairs q h) ∙ sym (get-after none m q))

pub any_pair : (attrs : List Attr) → Any (λ (p : Pair). p.1 ≡ []) (pairs_of attrs) → Any (λ (a : Attr). a.value ≡ []) attrs
any_pair [] a = absurd (omega (arith, a.2))
any_pair (x ∷ xs) (zero, p, l, e, v) = (zero, x, omega arith, refl, ap (λ (q : Pair). q.1) e ∙ v)
any_pair (x ∷ xs) (suc k, p, l, e, v) = let b = any_pair xs (k, p, omega (arith, l), e, v) in (suc b.0, b.1, omega (arith, b.2), b.3, b.4)

pub not_both : (b : Bool) → b ≡ false → b ≡ true → ⊥
not_both b f t = cc
