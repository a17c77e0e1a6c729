-- Names that rise still rise with one more in its place.
use Rattle.std.proofs.Common.{◌≡◌, ℕ, true, List, [], ◌∷◌, refl, sym, ◌∙◌, ap}
use Rattle.std.specs.Prelude.{IsTrue}
use Rattle.std.specs.Ordering.{is_lt, ordering_reverse}
use Rattle.std.specs.declared.cmp.Ordering.{Ordering}
use Rattle.std.specs.declared.cmp.Ordering.TheVariants.{Less, Equal, Greater}
use Rattle.std.specs.Cmp.Lexicographic.{nat_list_cmp_total}
use Rattle.ep_units.specs.Text.{text_cmp}
use Rattle.ep_outside.specs.Kept.{by_order}
use Rattle.ep_outside.specs.Shelf.{is_before, rises, with_name}
use Rattle.ep_outside.proofs.Rising.{and_left, and_right, and_both}

turned : (a b : List ℕ) → text_cmp a b ≡ Greater → text_cmp b a ≡ Less
turned a b e = nat_list_cmp_total.antisymm b a ∙ ap ordering_reverse e

before_with : (a : List ℕ) (ns : List (List ℕ)) (name : List ℕ) → text_cmp a name ≡ Less → IsTrue (is_before a ns) → IsTrue (is_before a (with_name ns name))
before_with a [] name e h = ap is_lt e
before_with a (n ∷ ns) name e h = by (text_cmp name n) where
  by : (o : Ordering) → IsTrue (is_before a (by_order o (name ∷ n ∷ ns) (n ∷ ns) (n ∷ with_name ns name)))
  by Less = ap is_lt e
  by Equal = h
  by Greater = h

pub rises_with : (ns : List (List ℕ)) (name : List ℕ) → IsTrue (rises ns) → IsTrue (rises (with_name ns name))
rises_with [] name h = refl
rises_with (n ∷ ns) name h = by (text_cmp name n) refl (rises_with ns name (and_right (is_before n ns) (rises ns) h)) where
  by : (o : Ordering) → text_cmp name n ≡ o → IsTrue (rises (with_name ns name)) → IsTrue (rises (by_order o (name ∷ n ∷ ns) (n ∷ ns) (n ∷ with_name ns name)))
  by Less e more = and_both (is_lt (text_cmp name n)) (rises (n ∷ ns)) (ap is_lt e) h
  by Equal e more = h
  by Greater e more = and_both (is_before n (with_name ns name)) (rises (with_name ns name)) (before_with n ns name (turned name n e) (and_left (is_before n ns) (rises ns) h)) more
