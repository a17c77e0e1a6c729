-- What a crash leaves in each step of writing a whole file.
use Rattle.std.proofs.Common.{◌≡◌, ◌≢◌, inl, inr, ℕ, ◌+◌, ◌-◌, ◌==◌, List, [], ◌∷◌, ◌++◌, length, get_or, take, drop, refl, sym, ◌∙◌, ap, subst, arith, take-append-drop, Some}
use Rattle.std.proofs.lemmas.List.{append-nil, drop_all, drop_more, take_all}
use Rattle.std.proofs.lemmas.Bool.{cases_Bool, both_ways, eqb-true}
use Rattle.ep_outside.specs.Disk.{written}
use Rattle.ep_outside.specs.Images.{Torn}
use Rattle.ep_journal.specs.File.{header, stands_for}
use Rattle.ep_journal.proofs.File.{none_shut, shut_gate}
use Rattle.ep_journal.proofs.Append.{stands}
use Rattle.ep_put.specs.Steps.{IsWholeOrNone, new_file}

-- a header with a closed gate, and anything behind it
pub shut_none : (b : ℕ) (tail : List ℕ) → b ≢ 1 → stands_for (header ++ b ∷ tail) ≡ Some []
shut_none b tail shut = stands (header ++ b ∷ tail) refl ∙ ap (λ (rs : List (List ℕ)). Some rs) (none_shut (b ∷ tail) (shut_gate (b ∷ tail) shut))

pub torn_first : (n : ℕ) (body image : List ℕ) → Torn 9 n new_file image → IsWholeOrNone body image
torn_first n body image torn =
    let tail = drop 9 image in
    let same : image ≡ header ++ 0 ∷ tail = sym (take-append-drop 9 image) ∙ ap (λ (l : List ℕ). l ++ tail) torn.before in
    inl (ap stands_for same ∙ shut_none 0 tail (λ e. omega arith))

torn_second : (body image : List ℕ) → Torn 8 1 (header ++ 0 ∷ body) image → IsWholeOrNone body image
torn_second body image torn =
    let b = get_or image 8 0 in
    let same : image ≡ header ++ b ∷ body =
    sym (take-append-drop 8 image) ∙ ap (λ (l : List ℕ). l ++ drop 8 image) torn.before
    ∙ ap (λ (l : List ℕ). header ++ l) (drop_more image 8 0 (omega (arith, torn.no_shorter)) ∙ ap (λ (l : List ℕ). b ∷ l) torn.after) in
    elim (cases_Bool (b == 1)) [
      | inl one ↦ let is : b ≡ 1 = eqb-true b 1 one in inr (same ∙ ap (λ (k : ℕ). header ++ k ∷ body) is)
      | inr other ↦ inl (ap stands_for same ∙ shut_none b body (λ is. both_ways (b == 1) other (ap (λ (k : ℕ). k == 1) is)))
    ]

-- what is written first: all but the first gate
rest_is : (gated body : List ℕ) → gated ≡ 1 ∷ body → take (length gated - 1) (drop 1 gated) ≡ body
rest_is gated body is = ap (λ (l : List ℕ). take (length l - 1) (drop 1 l)) is ∙ take_all (length (1 ∷ body) - 1) body (omega arith)

written_rest : (body : List ℕ) → written new_file 9 body ≡ header ++ 0 ∷ body
written_rest body = ap (λ (l : List ℕ). new_file ++ body ++ l) (drop_all (9 + length body) new_file (omega arith)) ∙ append-nil (new_file ++ body)

pub staged_is : (gated body : List ℕ) → gated ≡ 1 ∷ body → written new_file 9 (take (length gated - 1) (drop 1 gated)) ≡ header ++ 0 ∷ body
staged_is gated body is = ap (λ (l : List ℕ). written new_file 9 l) (rest_is gated body is) ∙ written_rest body

-- and then the first gate
gate_is : (gated body : List ℕ) → gated ≡ 1 ∷ body → take 1 gated ≡ 1 ∷ []
gate_is gated body is = ap (λ (l : List ℕ). take 1 l) is

pub torn_gate : (gated body : List ℕ) → gated ≡ 1 ∷ body → (image : List ℕ) → Torn 8 (length (take 1 gated)) (header ++ 0 ∷ body) image → IsWholeOrNone body image
torn_gate gated body is image torn = torn_second body image (subst (λ (l : List ℕ). Torn 8 (length l) (header ++ 0 ∷ body) image) (gate_is gated body is) torn)

pub opened_is : (gated body : List ℕ) → gated ≡ 1 ∷ body → written (header ++ 0 ∷ body) 8 (take 1 gated) ≡ header ++ 1 ∷ body
opened_is gated body is = ap (λ (l : List ℕ). written (header ++ 0 ∷ body) 8 l) (gate_is gated body is)
