-- A value put in the place of another.
use Rattle.std.proofs.Common.{◌≡◌, ℕ, suc, ◌+◌, ◌<◌, List, ◌∷◌, ◌++◌, length, get_or, take, drop, sym, ◌∙◌, ap, add-one}
use Rattle.std.specs.Prelude.{slice_set}
use Rattle.std.proofs.Math.Seq.{drop-cons}
use Rattle.std.proofs.lemmas.List.{take-append-drop, take-set, drop-set}
use Rattle.std.specs.declared.cmp.Ordering.TheVariants.{Equal}
use Rattle.ep_outside.specs.declared.keeper.Pair.{Pair}
use Rattle.ep_outside.specs.Kept.{with, key_cmp, by_order}

with_equal : (q : Pair) (rest : List Pair) (key value : List ℕ) → key_cmp key q.key ≡ Equal → with (q ∷ rest) key value ≡ record { key = key; value = value } ∷ rest
with_equal q rest key value e = ap (λ o. by_order o (record { key = key; value = value } ∷ q ∷ rest) (record { key = key; value = value } ∷ rest) (q ∷ with rest key value)) e

set_parts : (xs : List Pair) (i : ℕ) (p : Pair) → i < length xs → slice_set xs i p ≡ take i xs ++ p ∷ drop (i + 1) xs
set_parts xs i p below = sym (take-append-drop i (slice_set xs i p)) ∙ (ap (λ t. t ++ drop i (slice_set xs i p)) (take-set xs i p) ∙ ap (λ t. take i xs ++ t) (drop-set xs i p below))

pub put_equal : (xs : List Pair) (i : ℕ) (q : Pair) (key value : List ℕ) → i < length xs → q ≡ get_or xs i q → key_cmp key q.key ≡ Equal → slice_set xs i (record { key = key; value = value }) ≡ take i xs ++ with (drop i xs) key value
put_equal xs i q key value below is e =
    let p : Pair = record { key = key; value = value } in
    let d : drop i xs ≡ q ∷ drop (suc i) xs = drop-cons xs i q below ∙ ap (λ x. x ∷ drop (suc i) xs) (sym is) in
    let w : with (drop i xs) key value ≡ p ∷ drop (suc i) xs = ap (λ t. with t key value) d ∙ with_equal q (drop (suc i) xs) key value e in
    set_parts xs i p below ∙ (ap (λ n. take i xs ++ p ∷ drop n xs) (add-one i) ∙ ap (λ t. take i xs ++ t) (sym w))
