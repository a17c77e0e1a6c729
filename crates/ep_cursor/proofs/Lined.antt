-- The newlines of a stretch and of its parts.
use Rattle.std.proofs.Common.{◌≡◌, ℕ, zero, suc, ◌+◌, ◌-◌, ◌<◌, ◌≤◌, true, false, cond, ◌⊎◌, inl, inr, List, [], ◌∷◌, ◌++◌, length, take, drop, refl, sym, ap, ◌∙◌, subst, arith, take-append-drop, length-drop}
use Rattle.std.proofs.Math.Seq.{take-length}
use Rattle.ep_units.specs.Text.{Text, is_newline}
use Rattle.ep_cs.specs.Change.{newlines}
use Rattle.ep_cs.specs.NormalRuns.{IsLined}

pub less_or_same : (k m : ℕ) → k ≤ m → (k < m) ⊎ (k ≡ m)
less_or_same zero zero h = inr refl
less_or_same zero (suc m) h = inl (omega arith)
less_or_same (suc k) zero h = absurd (omega (arith, h))
less_or_same (suc k) (suc m) h = elim (less_or_same k m (omega (arith, h))) as (λ _. (suc k < suc m) ⊎ (suc k ≡ suc m)) [ inl a ↦ inl (omega (arith, a)) | inr e ↦ inr (ap suc e) ]

-- what is left behind a front
pub cut_lined : (lo l : ℕ) (xs ys : List ℕ) → 1 ≤ length ys → IsLined l xs → IsLined lo (xs ++ ys) → (l ≤ lo) × IsLined (lo - l) ys
cut_lined lo l [] ys n h k = absurd h
cut_lined lo l (x ∷ []) [] n h k = absurd (omega (arith, n))
cut_lined lo l (x ∷ []) (y ∷ ys) n h k =
    let e : k.0 ≡ lo - l = omega (arith, h, k.1) in
    (omega (arith, h, k.1), subst (λ (j : ℕ). IsLined j (y ∷ ys)) e k.3)
cut_lined lo l (x ∷ (z ∷ xs)) ys n h k =
    let again = cut_lined k.0 h.0 (z ∷ xs) ys n h.3 k.3 in
    let e : k.0 - h.0 ≡ lo - l = omega (arith, h.1, k.1) in
    (omega (arith, again.0, h.1, k.1), subst (λ (j : ℕ). IsLined j ys) e again.1)

pub lined_once : (a b : ℕ) (ks : List ℕ) → IsLined a ks → IsLined b ks → a ≡ b
lined_once a b [] h k = absurd h
lined_once a b (m ∷ []) h k = h ∙ sym k
lined_once a b (m ∷ (n ∷ ms)) h k = omega (arith, h.1, k.1, lined_once h.0 k.0 (n ∷ ms) h.3 k.3)

one_or_none : (u : ℕ) → cond (is_newline u) 1 0 ≤ 1
one_or_none u = elim (is_newline u) as (λ b. cond b 1 0 ≤ 1) [ true ↦ omega arith | false ↦ omega arith ]

pub lined_within : (l : ℕ) (us : Text) → IsLined l (newlines us) → l ≤ length us
lined_within l [] h = absurd h
lined_within l (u ∷ []) h = omega (arith, h, one_or_none u)
lined_within l (u ∷ (v ∷ us)) h = omega (arith, h.1, one_or_none u, lined_within h.0 (v ∷ us) h.3)

-- two stretches that begin alike, as far as the shorter one
pub record IsPiece (k n m l lo lp : ℕ) (ks ls : List ℕ) : Type 0 where
  pub lined : IsLined l (take k ks)
  pub first_within : l ≤ lo
  pub second_within : l ≤ lp
  pub first_rest : k < n → IsLined (lo - l) (drop k ks)
  pub second_rest : k < m → IsLined (lp - l) (drop k ls)

whole : (k : ℕ) (ks : List ℕ) → length ks ≡ k → take k ks ≡ ks
whole k ks e = ap (λ (j : ℕ). take j ks) (sym e) ∙ take-length ks

behind : (k lo l : ℕ) (ks : List ℕ) → k < length ks → IsLined lo ks → IsLined l (take k ks) → (l ≤ lo) × IsLined (lo - l) (drop k ks)
behind k lo l ks h a b = cut_lined lo l (take k ks) (drop k ks) (omega (arith, h, length-drop k ks)) b (subst (IsLined lo) (sym (take-append-drop k ks)) a)

-- the second is used up
pub shorter_second : (k n m lo lp : ℕ) (ks ls : List ℕ) → k < n → k ≡ m → length ks ≡ n → length ls ≡ m → IsLined lo ks → IsLined lp ls → take k ks ≡ take k ls → IsPiece k n m lp lo lp ks ls
shorter_second k n m lo lp ks ls h e kn lm a b same =
    let here : IsLined lp (take k ks) = subst (IsLined lp) (sym (same ∙ whole k ls (lm ∙ sym e))) b in
    let rest = behind k lo lp ks (omega (arith, h, kn)) a here in
    record { lined = here; first_within = rest.0; second_within = omega arith; first_rest = λ _. rest.1; second_rest = λ g. absurd (omega (arith, g, e)) }

-- the first is used up
pub shorter_first : (k n m lo lp : ℕ) (ks ls : List ℕ) → k ≡ n → k ≤ m → length ks ≡ n → length ls ≡ m → IsLined lo ks → IsLined lp ls → take k ks ≡ take k ls → IsPiece k n m lo lo lp ks ls
shorter_first k n m lo lp ks ls e h kn lm a b same = elim (less_or_same k m h) as (λ _. IsPiece k n m lo lo lp ks ls) [ inl g ↦ less g | inr g ↦ equal g ]
  where
    all : take k ks ≡ ks
    all = whole k ks (kn ∙ sym e)

    less : k < m → IsPiece k n m lo lo lp ks ls
    less g =
        let here : IsLined lo (take k ks) = subst (IsLined lo) (sym all) a in
        let rest = behind k lp lo ls (omega (arith, g, lm)) b (subst (IsLined lo) same here) in
        record { lined = here; first_within = omega arith; second_within = rest.0; first_rest = λ f. absurd (omega (arith, f, e)); second_rest = λ _. rest.1 }

    equal : k ≡ m → IsPiece k n m lo lo lp ks ls
    equal g =
        let ls_are : ks ≡ ls = sym all ∙ same ∙ whole k ls (lm ∙ sym g) in
        let same_lines : lo ≡ lp = lined_once lo lp ls (subst (IsLined lo) ls_are a) b in
        record { lined = subst (IsLined lo) (sym all) a; first_within = omega arith; second_within = omega (arith, same_lines); first_rest = λ f. absurd (omega (arith, f, e)); second_rest = λ f. absurd (omega (arith, f, g)) }
