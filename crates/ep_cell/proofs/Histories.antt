-- Histories that begin one another.
use Rattle.std.proofs.Common.{◌≡◌, ◌≢◌, ℕ, ◌≤◌, ◌==◌, true, false, List, [], ◌∷◌, ◌++◌, length, sym, refl, ap, ◌∙◌, arith, append_assoc, append-nil, length-append, eq-eqb, ne_eqb}
use Rattle.std.specs.Prelude.{nat_lt, if◌then◌else◌}
use Rattle.std.proofs.lemmas.Bool.Decides.{nat_tests}
use Rattle.std.proofs.lemmas.List.Elements.{filter-append}
use Rattle.ep_cell.specs.declared.view.Call.{Call}
use Rattle.ep_cell.specs.History.{StartsWith, call, calls_by, longer}

pub no_length : {A : Type 0} (xs : List A) → length xs ≡ 0 → xs ≡ []
no_length [] e = refl
no_length (x ∷ xs) e = absurd (omega arith)

module _ {E R : Type 0} where
  pub starts_on : (log mid seen : List (Call E R)) → StartsWith log mid → StartsWith mid seen → StartsWith log seen
  starts_on log mid seen p q = (q.0 ++ p.0, p.1 ∙ (ap (λ (l : List (Call E R)). l ++ p.0) q.1 ∙ append_assoc seen q.0 p.0))

  -- a beginning has no calls where the whole has none
  pub none_before : (q : ℕ) (log seen rest : List (Call E R)) → log ≡ seen ++ rest → calls_by q log ≡ [] → calls_by q seen ≡ []
  none_before q log seen rest is none = left_nil (calls_by q seen) (calls_by q rest) (sym (ap (calls_by q) is ∙ filter-append (λ c. c.by == q) seen rest) ∙ none) where
    left_nil : {A : Type 0} (xs ys : List A) → xs ++ ys ≡ [] → xs ≡ []
    left_nil [] ys e = refl
    left_nil (x ∷ xs) ys e = let c : x ∷ (xs ++ ys) ≡ [] = e in cc

  -- of two beginnings of one list the one that isn't longer begins the other
  pub two_beginnings : (log xs ys : List (Call E R)) → StartsWith log xs → StartsWith log ys → length xs ≤ length ys → StartsWith ys xs
  two_beginnings log [] ys p q le = (ys, refl)
  two_beginnings log (x ∷ xs) [] p q le = absurd (omega arith)
  two_beginnings [] (x ∷ xs) (y ∷ ys) p q le = let c : [] ≡ x ∷ (xs ++ p.0) = p.1 in cc
  two_beginnings (z ∷ zs) (x ∷ xs) (y ∷ ys) p q le =
      let rest_is = two_beginnings zs xs ys (p.0, ap tail_of p.1) (q.0, ap tail_of q.1) (omega arith) in
      (rest_is.0, λ j. (ap (head_or z) (sym q.1) ∙ ap (head_or z) p.1) j ∷ rest_is.1 j)
    where
      tail_of : List (Call E R) → List (Call E R)
      tail_of [] = []
      tail_of (a ∷ l) = l

      head_or : Call E R → List (Call E R) → Call E R
      head_or d [] = d
      head_or d (a ∷ l) = a

  -- what lies between two lists with the same calls of a pass has the same
  pub between_calls : (q : ℕ) (log mid seen : List (Call E R)) → StartsWith log mid → StartsWith mid seen → calls_by q log ≡ calls_by q seen → calls_by q mid ≡ calls_by q seen
  between_calls q log mid seen p r same =
      let all : calls_by q log ≡ calls_by q mid ++ calls_by q p.0 = ap (calls_by q) p.1 ∙ filter-append (λ c. c.by == q) mid p.0 in
      let part : calls_by q mid ≡ calls_by q seen ++ calls_by q r.0 = ap (calls_by q) r.1 ∙ filter-append (λ c. c.by == q) seen r.0 in
      let n : length (calls_by q r.0) ≡ 0 = omega (arith, ap length all, ap length part, ap length same, length-append (calls_by q mid) (calls_by q p.0), length-append (calls_by q seen) (calls_by q r.0)) in
      part ∙ (ap (λ (l : List (Call E R)). calls_by q seen ++ l) (no_length (calls_by q r.0) n) ∙ append-nil (calls_by q seen))

  pub longer_begins : (log xs ys : List (Call E R)) → StartsWith log xs → StartsWith log ys → StartsWith log (longer xs ys) × StartsWith (longer xs ys) xs × StartsWith (longer xs ys) ys
  longer_begins log xs ys p q = elim (nat_lt (length xs) (length ys)) as (λ b. nat_lt (length xs) (length ys) ≡ b → StartsWith log (if b then ys else xs) × StartsWith (if b then ys else xs) xs × StartsWith (if b then ys else xs) ys) [
    | true ↦ λ e. (q, two_beginnings log xs ys p q (grind (arith, nat_tests)), ([], sym (append-nil ys)))
    | false ↦ λ e. (p, ([], sym (append-nil xs)), two_beginnings log ys xs q p (grind (arith, nat_tests)))
  ] refl

  pub other_calls : (q p : ℕ) (e : E) (r : R) → p ≢ q → calls_by q (call p e r ∷ []) ≡ []
  other_calls q p e r ne = rw (ne_eqb p q ne)

  pub own_calls : (q : ℕ) (e : E) (r : R) → calls_by q (call q e r ∷ []) ≡ call q e r ∷ []
  own_calls q e r = rw (eq-eqb q q refl)
