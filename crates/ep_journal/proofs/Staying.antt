-- What stays of a journal up to its first closed gate while an opening mends it.
use Rattle.std.proofs.Common.{◌≡◌, ◌⊎◌, inl, inr, ⊎_elim, ℕ, ◌+◌, ◌<◌, List, [], ◌∷◌, ◌++◌, length, get_or, take, drop, sym, ◌∙◌, ap, arith, length-append, take-append-drop}
use Rattle.std.proofs.lemmas.List.{length-take, drop_more, take_more, take_all, get_or_at}
use Rattle.std.proofs.lemmas.Bool.{cond-true, lt-ltb}
use Rattle.ep_journal.specs.File.{closed_gate, mended, IsAtRest, IsLongOrNew, IsMending}
use Rattle.ep_journal.proofs.Append.{whole}
use Rattle.ep_journal.proofs.Mending.{fresh, fresh_gate}
use Rattle.ep_journal.proofs.Sparing.{gate_within}

-- what an opening leaves of a journal up to its first closed gate
module _ (file next : List ℕ) (known : IsLongOrNew file) (m : IsMending file next) where
  abbrev p : ℕ
  p = closed_gate file

  abbrev MendedIs : List ℕ → Type 0
  MendedIs f = mended f ≡ take (closed_gate f) f ++ 0 ∷ []

  mended_by : IsLongOrNew file → MendedIs file
  mended_by (inl long) = cond-true _ _ _ (lt-ltb 9 (length file) long)
  mended_by (inr new) =
      let gate : closed_gate file ≡ 8 = ap (λ (l : List ℕ). closed_gate l) new ∙ fresh_gate in
      let is : take (closed_gate file) file ++ 0 ∷ [] ≡ fresh = (λ i. take (gate i) (new i) ++ 0 ∷ []) in
      ap mended new ∙ sym is

  inside : p < length file
  inside = gate_within file known

  length-front : length (take p file) ≡ p
  length-front = omega (arith, length-take p file, inside)

  size_mended : length (mended file) ≡ p + 1
  size_mended = omega (arith, ap length (mended_by known), length-append (take p file) (0 ∷ []), length-front)

  zero_mended : get_or (mended file) p 0 ≡ 0
  zero_mended = ap (λ (l : List ℕ). get_or l p 0) (mended_by known) ∙ get_or_at (take p file) 0 [] 0 p length-front

  with_zero : get_or next p 0 ≡ 0 → take (p + 1) next ≡ take p file ++ 0 ∷ []
  with_zero there =
      let front = (m.before known).0 in
      take_more next p 0 (m.before known).1 ∙ (λ i. front i ++ there i ∷ [])

  -- a gate 00 stays
  pub shut_stays : get_or file p 0 ≡ 0 → take (p + 1) next ≡ take p file ++ 0 ∷ []
  shut_stays shut = with_zero ((m.right known p (omega (arith, size_mended)) (shut ∙ sym zero_mended)).1 ∙ shut)

  -- a file at rest stays
  pub rest_stays : IsAtRest file → next ≡ file
  rest_stays rest = sym (take_all (p + 1) next (omega (arith, m.no_longer known, rest.ends))) ∙ shut_stays rest.closed ∙ sym (whole file [] rest (omega arith))

  -- the gate is 00, or only the byte there is another
  pub shut_or_same : (take (p + 1) next ≡ take p file ++ 0 ∷ []) ⊎ (next ≡ take p file ++ get_or next p 0 ∷ drop (p + 1) file)
  shut_or_same =
      let front = (m.before known).0 in
      ⊎_elim (λ shut. inl (with_zero shut))
      (λ same. inr (sym (take-append-drop p next) ∙ ap (λ (l : List ℕ). l ++ drop p next) front
      ∙ ap (λ (l : List ℕ). take p file ++ l) (drop_more next p 0 (m.before known).1 ∙ ap (λ (l : List ℕ). get_or next p 0 ∷ l) same)))
      (m.behind known)
