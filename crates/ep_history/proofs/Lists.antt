-- Lists by place.
use Rattle.std.proofs.Common.{◌≡◌, ℕ, zero, suc, ◌<◌, ◌≤◌, List, [], ◌∷◌, ◌++◌, ◌⊎◌, inl, inr, length, take, drop, Option, Some, None, refl, sym, ap, arith}
use Rattle.ep_history.specs.Lists.{Among, at, or_else}

pub none_some : {A : Type 0} {x : A} {Z : Type 0} → ◌≡◌ {A = Option A} None (Some x) → Z
none_some e = absurd (cc e)

pub some_same : {A : Type 0} {x y : A} → ◌≡◌ {A = Option A} (Some x) (Some y) → x ≡ y
some_same {x = x} e = ap (λ o. or_else o x) e

pub at-below : {A : Type 0} (xs : List A) (i : ℕ) (v : A) → at xs i ≡ Some v → i < length xs
at-below [] i v e = none_some e
at-below (x ∷ xs) zero v e = omega arith
at-below (x ∷ xs) (suc i) v e = let h = at-below xs i v e in omega (arith, h)

pub at-left : {A : Type 0} (xs ys : List A) (i : ℕ) (v : A) → at xs i ≡ Some v → at (xs ++ ys) i ≡ Some v
at-left [] ys i v e = none_some e
at-left (x ∷ xs) ys zero v e = e
at-left (x ∷ xs) ys (suc i) v e = at-left xs ys i v e

pub at-back : {A : Type 0} (xs ys : List A) (i : ℕ) (v : A) → i < length xs → at (xs ++ ys) i ≡ Some v → at xs i ≡ Some v
at-back [] ys i v h e = absurd (omega (arith, h))
at-back (x ∷ xs) ys zero v h e = e
at-back (x ∷ xs) ys (suc i) v h e = at-back xs ys i v (omega (arith, h)) e

-- an element of a list that grew is an old one or one of the new
pub at-grown : {A : Type 0} (xs ys : List A) (i : ℕ) (v : A) → at (xs ++ ys) i ≡ Some v → (at xs i ≡ Some v) ⊎ ((length xs ≤ i) × Among v ys)
at-grown {A = A} [] ys i v e = inr (omega arith, among ys i e)
  where
    among : (ys : List A) (i : ℕ) → at ys i ≡ Some v → Among v ys
    among [] i e = none_some e
    among (y ∷ ys) zero e = inl (sym (some_same e))
    among (y ∷ ys) (suc i) e = inr (among ys i e)
at-grown (x ∷ xs) ys zero v e = inl e
at-grown {A = A} (x ∷ xs) ys (suc i) v e = go (at-grown xs ys i v e)
  where
    go : (at xs i ≡ Some v) ⊎ ((length xs ≤ i) × Among v ys) → (at xs i ≡ Some v) ⊎ ((suc (length xs) ≤ suc i) × Among v ys)
    go (inl h) = inl h
    go (inr h) = let l = h.0 in inr (omega (arith, l), h.1)

-- an element behind a list is an old one, the first behind it, or one of the later ones
pub at-past : {A : Type 0} (xs : List A) (y : A) (ys : List A) (i : ℕ) (v : A) → at (xs ++ y ∷ ys) i ≡ Some v → (at xs i ≡ Some v) ⊎ (((i ≡ length xs) × (v ≡ y)) ⊎ Among v ys)
at-past [] y ys zero v e = inr (inl (refl, sym (some_same e)))
at-past {A = A} [] y ys (suc i) v e = inr (inr (among ys i e))
  where
    among : (ys : List A) (i : ℕ) → at ys i ≡ Some v → Among v ys
    among [] i e = none_some e
    among (y ∷ ys) zero e = inl (sym (some_same e))
    among (y ∷ ys) (suc i) e = inr (among ys i e)
at-past (x ∷ xs) y ys zero v e = inl e
at-past {A = A} (x ∷ xs) y ys (suc i) v e = go (at-past xs y ys i v e)
  where
    go : (at xs i ≡ Some v) ⊎ (((i ≡ length xs) × (v ≡ y)) ⊎ Among v ys) → (at xs i ≡ Some v) ⊎ (((suc i ≡ suc (length xs)) × (v ≡ y)) ⊎ Among v ys)
    go (inl h) = inl h
    go (inr (inl h)) = inr (inl (ap suc h.0, h.1))
    go (inr (inr h)) = inr (inr h)

pub at-new : {A : Type 0} (xs ys : List A) (y : A) → at (xs ++ y ∷ ys) (length xs) ≡ Some y
at-new [] ys y = refl
at-new (x ∷ xs) ys y = at-new xs ys y

pub take-next : {A : Type 0} (xs : List A) (i : ℕ) (v : A) → at xs i ≡ Some v → take (suc i) xs ≡ take i xs ++ v ∷ []
take-next [] i v e = none_some e
take-next (x ∷ xs) zero v e = ap (λ y. y ∷ []) (some_same e)
take-next (x ∷ xs) (suc i) v e = ap (λ ys. x ∷ ys) (take-next xs i v e)

pub drop-next : {A : Type 0} (xs : List A) (i : ℕ) (v : A) → at xs i ≡ Some v → drop i xs ≡ v ∷ drop (suc i) xs
drop-next [] i v e = none_some e
drop-next (x ∷ xs) zero v e = ap (λ y. y ∷ xs) (some_same e)
drop-next (x ∷ xs) (suc i) v e = drop-next xs i v e

pub at-taken : {A : Type 0} (xs : List A) (i n : ℕ) (v : A) → i < n → at xs i ≡ Some v → at (take n xs) i ≡ Some v
at-taken [] i n v h e = none_some e
at-taken (x ∷ xs) i zero v h e = absurd (omega (arith, h))
at-taken (x ∷ xs) zero (suc n) v h e = e
at-taken (x ∷ xs) (suc i) (suc n) v h e = at-taken xs i n v (omega (arith, h)) e

pub at-some : {A : Type 0} (xs : List A) (i : ℕ) → i < length xs → (v : A) × (at xs i ≡ Some v)
at-some [] i h = absurd (omega (arith, h))
at-some (x ∷ xs) zero h = (x, refl)
at-some (x ∷ xs) (suc i) h = at-some xs i (omega (arith, h))
