-- Places in written ranges.
use Rattle.std.proofs.Common.{◌≡◌, inl, inr, ⊎_elim, ℕ, ◌≤◌, ◌<◌, ◌⊎◌, List, [], ◌∷◌, ◌++◌, length, get_or, take, sym, ◌∙◌, subst, arith}
use Rattle.std.proofs.lemmas.List.{get_or-take, ext_get_or, length-take}
use Rattle.std.proofs.lemmas.Bool.{cases_lt}
use Rattle.ep_outside.specs.Disk.{IsUntouched}
use Rattle.ep_outside.specs.Crash.{IsTouched}
use Rattle.ep_outside.proofs.Images.{untouched_too}

pub exclusive : (rs : List (ℕ × ℕ)) (i : ℕ) → IsTouched rs i → IsUntouched rs i → ⊥
exclusive [] i t u = t
exclusive (r ∷ rs) i (inl h) u = ⊎_elim (λ lt. omega arith) (λ le. omega arith) u.0
exclusive (r ∷ rs) i (inr h) u = exclusive rs i h u.1

-- where all but some ranges are copied, and then one of these
pub copied_one : (old new from : List ℕ) (ranges rest : List (ℕ × ℕ)) (at end : ℕ) → ranges ≡ rest ++ (at, end) ∷ [] → length new ≡ length old
    → ((i : ℕ) → i < length old → IsUntouched ranges i → get_or old i 0 ≡ get_or from i 0)
    → ((i : ℕ) → i < length old → at ≤ i → i < end → get_or new i 0 ≡ get_or from i 0)
    → ((i : ℕ) → (i < at) ⊎ (end ≤ i) → get_or new i 0 ≡ get_or old i 0)
    → (i : ℕ) → i < length new → IsUntouched rest i → get_or new i 0 ≡ get_or from i 0
copied_one old new from ranges rest at end is len same inside outside i lt u =
    let out : (i < at) ⊎ (end ≤ i) → get_or new i 0 ≡ get_or from i 0 = λ o.
    outside i o ∙ same i (omega arith) (subst (λ (rs : List (ℕ × ℕ)). IsUntouched rs i) (sym is) (untouched_too rest (at, end) i u o)) in
    ⊎_elim (λ before. out (inl before)) (λ from_at. ⊎_elim (λ within. inside i (omega arith) from_at within) (λ behind. out (inr behind)) (cases_lt i end)) (cases_lt i at)

pub copied_all : (now from : List ℕ) (n : ℕ) → length now ≡ n → n ≤ length from → ((i : ℕ) → i < length now → get_or now i 0 ≡ get_or from i 0) → now ≡ take n from
copied_all now from n len le same = ext_get_or 0 now (take n from) (omega (arith, length-take n from)) (λ i lt. same i lt ∙ sym (get_or-take n from i 0 (omega arith)))
