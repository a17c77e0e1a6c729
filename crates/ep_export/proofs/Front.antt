-- The operations in the front of a spelling.
use Rattle.std.proofs.Common.{◌≡◌, ℕ, ◌+◌, ◌-◌, ◌<◌, Bool, true, cond, List, [], ◌∷◌, ◌++◌, length, take, drop, nat_le, sym, ap, ◌∙◌, arith, append_assoc, length-append}
use Rattle.std.proofs.lemmas.Bool.Decides.{nat_tests}
use Rattle.std.proofs.lemmas.List.{append_cancel_right}
use Rattle.std.proofs.Math.Seq.{take-append_seam, drop-append_seam}
use Rattle.ep_units.specs.Text.{Text}
use Rattle.ep_units.specs.Base36.{write36}
use Rattle.ep_attr.specs.AttrMap.{Pair}
use Rattle.ep_cs.specs.Change.{Change, bank_of}
use Rattle.ep_cs.specs.Spelling.{difference_text, new_len, old_len}
use Rattle.ep_csread.specs.Spelling.{ops_text, printed}

-- what stands before the operations
abbrev before : Text → Text → Text
before a b = 90 ∷ 58 ∷ (a ++ 62 ∷ b)

front_is : (front bank a b ops : Text) → front ++ bank ≡ 90 ∷ 58 ∷ (a ++ 62 ∷ (b ++ (ops ++ 36 ∷ bank))) → front ≡ before a b ++ (ops ++ 36 ∷ [])
front_is front bank a b ops e = append_cancel_right front (before a b ++ (ops ++ 36 ∷ [])) bank (e ∙ sym (simp append_assoc))

length-before : (a b : Text) → length (before a b) ≡ 3 + length (a ++ b)
length-before a b = omega (arith, length-append a (62 ∷ b), length-append a b)

length-front : (front a b ops : Text) → front ≡ before a b ++ (ops ++ 36 ∷ []) → length front ≡ 3 + length (a ++ b) + (length ops + 1)
length-front front a b ops f = omega (arith, ap length f, length-append (before a b) (ops ++ 36 ∷ []), length-append ops (36 ∷ []), length-before a b)

cut_is : (front a b ops : Text) (n : ℕ) → front ≡ before a b ++ (ops ++ 36 ∷ []) → n ≡ 3 + length (a ++ b) → take (length front - 1 - n) (drop n front) ≡ ops
cut_is front a b ops n f e =
    let l : length front - 1 - n ≡ length ops = omega (arith, length-front front a b ops f) in
    let d : drop n front ≡ ops ++ 36 ∷ [] =
    ap (λ k. drop k front) (e ∙ sym (length-before a b)) ∙ ap (drop (length (before a b))) f ∙ drop-append_seam (before a b) (ops ++ 36 ∷ []) in
    ap (λ k. take k (drop n front)) l ∙ ap (take (length ops)) d ∙ take-append_seam ops (36 ∷ [])

none_less : (n : ℕ) → nat_le 0 n ≡ true
none_less n = grind (arith, nat_tests)

longer : (n : ℕ) → difference_text 0 n ≡ 62 ∷ write36 n
longer n = ap (λ (b : Bool). cond b (62 ∷ write36 (n - 0)) (60 ∷ write36 (0 - n))) (none_less n) ∙ ap (λ k. 62 ∷ write36 k) (omega arith)

-- the operations of a change on no units, in the front of its spelling
pub record IsCut (pool : List Pair) (c : Change) (out : Text) (n : ℕ) : Type 0 where
  pub inside : n < length out
  pub cut : take (length out - 1 - n) (drop n out) ≡ ops_text pool c.runs

pub is_cut : (pool : List Pair) (c : Change) (out : Text) (n : ℕ) → old_len c.edit ≡ 0 → out ++ bank_of c.edit ≡ printed pool c
    → n ≡ 3 + length (write36 0 ++ write36 (new_len c.edit)) → IsCut pool c out n
is_cut pool c out n z p e =
    let a = write36 0 in
    let b = write36 (new_len c.edit) in
    let ops = ops_text pool c.runs in
    let bank = bank_of c.edit in
    let says : out ++ bank ≡ 90 ∷ 58 ∷ (a ++ 62 ∷ (b ++ (ops ++ 36 ∷ bank))) =
    p ∙ ap (λ k. 90 ∷ 58 ∷ (write36 k ++ (difference_text k (new_len c.edit) ++ (ops ++ 36 ∷ bank)))) z ∙ ap (λ (us : Text). 90 ∷ 58 ∷ (a ++ (us ++ (ops ++ 36 ∷ bank)))) (longer (new_len c.edit)) in
    let f = front_is out bank a b ops says in
    record { inside = omega (arith, length-front out a b ops f); cut = cut_is out a b ops n f e }
