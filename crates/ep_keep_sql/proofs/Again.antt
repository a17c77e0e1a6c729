-- A value that is put over another one.
use Rattle.std.proofs.Common.{◌≡◌, ◌∙◌, inl, inr, ℕ, List, [], ◌∷◌, true, refl, sym, ap, None}
use Rattle.std.specs.Prelude.{IsTrue}
use Rattle.std.specs.Ordering.{is_lt}
use Rattle.std.specs.declared.cmp.Ordering.TheVariants.{Less, Equal, Greater}
use Rattle.std.specs.Cmp.Lexicographic.{nat_list_cmp_total}
use Rattle.ep_outside.proofs.Rising.{and_left, and_right}
use Rattle.ep_outside.specs.declared.keeper.Pair.{Pair}
use Rattle.ep_outside.specs.Kept.{key_cmp, value_at, with, without, is_first, rises}
use Rattle.ep_keep_sql.proofs.With.{orders}
use Rattle.ep_keep_sql.proofs.Without.{is_less}

front_of : (ps : List Pair) (k q : List ℕ) → key_cmp k q ≡ Equal → IsTrue (is_first q ps) → IsTrue (is_first k ps)
front_of [] k q e h = refl
front_of (p ∷ ps) k q e h = ap is_lt (nat_list_cmp_total.congr k q p.key e) ∙ h

with_front : (ps : List Pair) (k v : List ℕ) → IsTrue (is_first k ps) → with ps k v ≡ record { key = k; value = v } ∷ ps
with_front [] k v h = refl
with_front (p ∷ ps) k v h = let less : key_cmp k p.key ≡ Less = is_less (key_cmp k p.key) h in rw less refl

none_front : (ps : List Pair) (k : List ℕ) → IsTrue (is_first k ps) → value_at ps k ≡ None
none_front [] k h = refl
none_front (p ∷ ps) k h = let less : key_cmp k p.key ≡ Less = is_less (key_cmp k p.key) h in rw less refl

-- what was removed is gone
pub none_after : (m : List Pair) (k : List ℕ) → IsTrue (rises m) → value_at (without m k) k ≡ None
none_after [] k h = refl
none_after (p ∷ ps) k h =
    elim (orders (key_cmp k p.key)) [
      | inl l ↦ rw l (rw l refl)
      | inr (inl q) ↦ rw q (none_front ps k (front_of ps k p.key q (and_left (is_first p.key ps) (rises ps) h)))
      | inr (inr g) ↦ rw g (rw g (none_after ps k (and_right (is_first p.key ps) (rises ps) h)))
    ]

-- and what is put after that is put
pub with_after : (m : List Pair) (k v : List ℕ) → IsTrue (rises m) → with (without m k) k v ≡ with m k v
with_after [] k v h = refl
with_after (p ∷ ps) k v h =
    elim (orders (key_cmp k p.key)) [
      | inl l ↦ rw l (rw l refl)
      | inr (inl q) ↦ rw q (with_front ps k v (front_of ps k p.key q (and_left (is_first p.key ps) (rises ps) h)))
      | inr (inr g) ↦ rw g (rw g (ap (λ l. p ∷ l) (with_after ps k v (and_right (is_first p.key ps) (rises ps) h))))
    ]
