-- Items one after the other.
use Rattle.std.proofs.Common.{◌≡◌, ℕ, zero, suc, ◌<◌, ◌≤◌, Bool, true, false, cond, List, [], ◌∷◌, ◌++◌, length, Result, Ok, Err, refl, sym, ap, ◌∙◌, append_assoc, append-nil, arith}
use Rattle.ep_units.specs.Text.{Text}
use Rattle.ep_csread.specs.declared.fault.Fault.{Fault}
use Rattle.ep_csread.specs.declared.fault.Fault.TheVariants as faults
use Rattle.ep_csread.specs.Syntax.{◌>>=◌, many_in, many, with_first}
use Rattle.ep_csread.specs.Views.{Fails}

-- what was read before, and what is still read
abbrev pub with_front : {A : Type 0} → List A → Result (List A × Text) ℕ → Result (List A × Text) ℕ
with_front front read = read >>= λ x. Ok (front ++ x.0, x.1)

abbrev okay : {A : Type 0} → List A × Text → Result (List A × Text) ℕ
okay x = Ok x

module _ {A : Type 0} (more : Text → Bool) (item : Text → Result (A × Text) ℕ) where
  -- each item that is read takes a unit at least
  pub record Shortens : Type 0 where
    pub shorter : (t : Text) (x : A × Text) → more t ≡ true → item t ≡ Ok x → length x.1 < length t

  enough : Shortens → (n m : ℕ) (t : Text) → length t < n → length t < m → many_in more item n t ≡ many_in more item m t
  enough s zero m t h k = absurd (omega arith)
  enough s (suc n) zero t h k = absurd (omega arith)
  enough s (suc n) (suc m) t h k = by_cases (λ u hn hm. enough s n m u hn hm) (more t) (item t) refl refl
    where
      by_cases : ((u : Text) → length u < n → length u < m → many_in more item n u ≡ many_in more item m u) → (b : Bool) (r : Result (A × Text) ℕ) → more t ≡ b → item t ≡ r
          → cond b (r >>= λ x. with_first x.0 (many_in more item n x.1)) (Ok ([], t)) ≡ cond b (r >>= λ x. with_first x.0 (many_in more item m x.1)) (Ok ([], t))
      by_cases again false r b e = refl
      by_cases again true (Err f) b e = refl
      by_cases again true (Ok x) b e =
          let l : length x.1 < length t = s.shorter t x b e in
          ap (with_first x.0) (again x.1 (omega arith) (omega arith))

  pub many_more : Shortens → (t : Text) (a : A) (after : Text) → more t ≡ true → item t ≡ Ok (a, after) → many more item t ≡ with_first a (many more item after)
  unfolding many
  many_more s t a after b e =
      let l : length after < length t = s.shorter t (a, after) b e in
      ap (λ (c : Bool). cond c (item t >>= λ x. with_first x.0 (many_in more item (length t) x.1)) (Ok ([], t))) b
      ∙ ap (λ (r : Result (A × Text) ℕ). r >>= λ x. with_first x.0 (many_in more item (length t) x.1)) e
      ∙ ap (with_first a) (enough s (length t) (suc (length after)) after l (omega arith))

  pub many_err : (t : Text) (f : ℕ) → more t ≡ true → item t ≡ Err f → many more item t ≡ Err f
  unfolding many
  many_err t f b e =
      ap (λ (c : Bool). cond c (item t >>= λ x. with_first x.0 (many_in more item (length t) x.1)) (Ok ([], t))) b
      ∙ ap (λ (r : Result (A × Text) ℕ). r >>= λ x. with_first x.0 (many_in more item (length t) x.1)) e

  pub many_none : (t : Text) → more t ≡ false → many more item t ≡ Ok ([], t)
  unfolding many
  many_none t b = ap (λ (c : Bool). cond c (item t >>= λ x. with_first x.0 (many_in more item (length t) x.1)) (Ok ([], t))) b

  regroup : (front : List A) (a : A) (read : Result (List A × Text) ℕ) → with_front front (with_first a read) ≡ with_front (front ++ a ∷ []) read
  regroup front a (Ok x) = ap (λ (ns : List A). okay (ns, x.1)) (sym (append_assoc front (a ∷ []) x.0))
  regroup front a (Err f) = refl

  pub goes_on : Shortens → (front : List A) (t : Text) (a : A) (after : Text) (total : Result (List A × Text) ℕ) → more t ≡ true → item t ≡ Ok (a, after)
      → with_front front (many more item t) ≡ total → with_front (front ++ a ∷ []) (many more item after) ≡ total
  goes_on s front t a after total b e so_far = sym (regroup front a (many more item after)) ∙ sym (ap (with_front front) (many_more s t a after b e)) ∙ so_far

  pub ends : (f : Fault) (front : List A) (t : Text) (total : Result (List A × Text) ℕ) → more t ≡ true → Fails f (item t)
      → with_front front (many more item t) ≡ total → Fails f total
  ends faults.Memory front t total b e so_far = tt
  ends (faults.Syntax left) front t total b e so_far = sym so_far ∙ ap (with_front front) (many_err t left b e)

  pub is_done : (front : List A) (t : Text) (total : Result (List A × Text) ℕ) → more t ≡ false → with_front front (many more item t) ≡ total → total ≡ Ok (front, t)
  is_done front t total b so_far = sym so_far ∙ ap (with_front front) (many_none t b) ∙ ap (λ (xs : List A). okay (xs, t)) (append-nil front)

  first_is : (a : A) (r : Result (List A × Text) ℕ) (x : List A × Text) → with_first a r ≡ Ok x → (xs : List A) × (r ≡ okay (xs, x.1))
  first_is a (Ok (xs, rest)) x e =
      let r : rest ≡ x.1 = cc in
      (xs, ap (λ (t : Text). okay (xs, t)) r)
  first_is a (Err f) x e = absurd cc

  shorter_in : Shortens → (n : ℕ) (t : Text) (x : List A × Text) → many_in more item n t ≡ Ok x → length x.1 ≤ length t
  shorter_in s zero t x e = absurd cc
  shorter_in s (suc n) t x e = by_cases (λ u y. shorter_in s n u y) (more t) (item t) refl refl e
    where
      by_cases : ((u : Text) (y : List A × Text) → many_in more item n u ≡ Ok y → length y.1 ≤ length u) → (b : Bool) (r : Result (A × Text) ℕ) → more t ≡ b → item t ≡ r
          → cond b (r >>= λ x. with_first x.0 (many_in more item n x.1)) (Ok ([], t)) ≡ Ok x → length x.1 ≤ length t
      by_cases again false r b i e = let q : t ≡ x.1 = cc in omega (arith, ap length q)
      by_cases again true (Err f) b i e = absurd cc
      by_cases again true (Ok y) b i e =
          let f = first_is y.0 (many_in more item n y.1) x e in
          omega (arith, s.shorter t y b i, again y.1 (f.0, x.1) f.1)

  pub many_shorter : Shortens → (t : Text) (x : List A × Text) → many more item t ≡ Ok x → length x.1 ≤ length t
  unfolding many
  many_shorter s t x e = shorter_in s (suc (length t)) t x e
