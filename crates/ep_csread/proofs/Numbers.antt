-- Digits, and the number that they spell.
use Rattle.std.proofs.Common.{◌≡◌, suc, ◌<◌, ◌≤◌, Bool, true, false, cond, [], ◌∷◌, length, Ok, refl, sym, ap, ◌∙◌, arith}
use Rattle.ep_units.specs.Text.{Text}
use Rattle.ep_csread.specs.declared.written.Number.{Number}
use Rattle.ep_units.specs.Base36.{behind, digits_of, is_digit}
use Rattle.ep_csread.specs.Syntax.{number_in, number_at}

shorter_behind : (text : Text) → length (behind text) ≤ length text
shorter_behind [] = omega arith
shorter_behind (u ∷ us) = elim (is_digit u) as (λ b. length (cond b (behind us) (u ∷ us)) ≤ suc (length us)) [ true ↦ omega (arith, shorter_behind us) | false ↦ omega arith ]

-- a number takes a digit at least
pub number_shorter : (text : Text) (x : Number × Text) → number_at text ≡ Ok x → length x.1 < length text
number_shorter [] x e = absurd cc
number_shorter (u ∷ us) x e = go (is_digit u) refl e
  where
    go : (b : Bool) → is_digit u ≡ b → number_in (cond b (u ∷ digits_of us) []) (u ∷ us) ≡ Ok x → length x.1 < suc (length us)
    go true b e =
        let r : behind (u ∷ us) ≡ x.1 = cc in
        let s : behind (u ∷ us) ≡ behind us = ap (λ c. cond c (behind us) (u ∷ us)) b in
        let t : length x.1 ≡ length (behind us) = ap length (sym r ∙ s) in
        omega (arith, t, shorter_behind us)
    go false b e = absurd cc
