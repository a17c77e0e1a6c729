-- Where the texts that begin so stand in the order of the keys.
use Rattle.std.proofs.Common.{◌≡◌, ◌≢◌, ◌∙◌, inl, inr, ℕ, List, [], ◌∷◌, ◌++◌, drop, length, nat_cmp, nat_eq, true, false, refl, sym, ap, true≢false, arith}
use Rattle.std.specs.List.{starts_with}
use Rattle.std.specs.Ordering.{is_ge, ordering_then}
use Rattle.std.specs.declared.cmp.Ordering.{Ordering}
use Rattle.std.specs.declared.cmp.Ordering.TheVariants.{Less, Equal, Greater}
use Rattle.std.proofs.lemmas.Cmp.{nat_cmp_total, tied_itself}
use Rattle.std.proofs.lemmas.Bool.{false_from_ne_true}
use Rattle.std.proofs.lemmas.Slice.Eq.{starts_is}
use Rattle.std.proofs.lemmas.Bool.Decides.{Decides-eqb, nat_tests}
use Rattle.ep_outside.specs.Kept.{key_cmp}

-- what begins so is the prefix with something behind it
pub begins : (n p : List ℕ) → starts_with nat_eq n p ≡ true → n ≡ p ++ drop (length p) n
begins n p h = (starts_is Decides-eqb n p (starts_with nat_eq n p) refl).0 h

pub begun : (n p rest : List ℕ) → n ≡ p ++ rest → starts_with nat_eq n p ≡ true
begun n p rest e = (starts_is Decides-eqb n p (starts_with nat_eq n p) refl).1 rest e

not_below : (p rest : List ℕ) → is_ge (key_cmp (p ++ rest) p) ≡ true
not_below [] [] = refl
not_below [] (x ∷ rest) = refl
not_below (a ∷ p) rest = ap (λ o. is_ge (ordering_then o (key_cmp (p ++ rest) p))) (tied_itself nat_cmp_total a) ∙ not_below p rest

-- it is not below the prefix
pub from_prefix : (n p : List ℕ) → starts_with nat_eq n p ≡ true → is_ge (key_cmp n p) ≡ true
from_prefix n p h = ap (λ k. is_ge (key_cmp k p)) (begins n p h) ∙ not_below p (drop (length p) n)

same_number : (a b : ℕ) → nat_cmp a b ≡ Equal → a ≡ b
same_number a b e = grind (arith, nat_tests)

still_below : (p e rest : List ℕ) → key_cmp p e ≡ Less → ((more : List ℕ) → e ≢ p ++ more) → key_cmp (p ++ rest) e ≡ Less
still_below [] e rest less apart = absurd (apart e refl)
still_below (a ∷ p) [] rest less apart = let bad : Greater ≡ Less = less in cc
still_below (a ∷ p) (b ∷ e) rest less apart = go (nat_cmp a b) refl less (still_below p e rest)
  where
    go : (o : Ordering) → nat_cmp a b ≡ o → ordering_then o (key_cmp p e) ≡ Less → (key_cmp p e ≡ Less → ((more : List ℕ) → e ≢ p ++ more) → key_cmp (p ++ rest) e ≡ Less)
        → key_cmp ((a ∷ p) ++ rest) (b ∷ e) ≡ Less
    go Less is h later = rw is refl
    go Equal is h later = rw is (later h (λ more same. apart more (ap (λ l. b ∷ l) same ∙ ap (λ x. x ∷ (p ++ more)) (sym (same_number a b is)))))
    go Greater is h later = let bad : Greater ≡ Less = h in cc

-- and below each text above the prefix that does not begin so
pub below_end : (n p e : List ℕ) → key_cmp p e ≡ Less → starts_with nat_eq e p ≡ false → starts_with nat_eq n p ≡ true → key_cmp n e ≡ Less
below_end n p e less other h =
    ap (λ k. key_cmp k e) (begins n p h) ∙ still_below p e (drop (length p) n) less (λ more same. let bad : true ≡ false = sym (begun e p more same) ∙ other in true≢false bad)
