-- Texts one after another are a text.
use Rattle.std.proofs.Common.{◌≡◌, ℕ, zero, suc, ◌<◌, ◌^◌, Bool, true, false, true≢false, not, cond, [], ◌∷◌, ◌++◌, get_or, refl, sym, arith}
use Rattle.ep_units.specs.Text.{Text, is_high, is_low, is_paired}
use Rattle.ep_pool.specs.Read.{IsText}
use Rattle.ep_wire_words.proofs.Units.{both}

paired : (half : Bool) (a b : Text) → is_paired half a ≡ true → is_paired false b ≡ true → is_paired half (a ++ b) ≡ true
paired true [] b p q = absurd (true≢false (sym p))
paired false [] b p q = q
paired half (u ∷ us) b p q =
    let parts = both (cond half (is_low u) (not (is_low u))) (is_paired (is_high u) us) p in
    rw (parts.0) (paired (is_high u) us b parts.1 q)

small_units : (a b : Text) → ((k : ℕ) → get_or a k 0 < 2 ^ 16) → ((k : ℕ) → get_or b k 0 < 2 ^ 16) → (k : ℕ) → get_or (a ++ b) k 0 < 2 ^ 16
small_units [] b p q k = q k
small_units (u ∷ us) b p q zero = p 0
small_units (u ∷ us) b p q (suc k) = small_units us b (λ j. p (suc j)) q k

pub text_appended : (a b : Text) → IsText a → IsText b → IsText (a ++ b)
text_appended a b p q = (small_units a b p.0 q.0, paired false a b p.1 q.1)

pub comma : IsText (44 ∷ [])
comma = (small, refl)
  where
    small : (k : ℕ) → get_or (44 ∷ []) k 0 < 2 ^ 16
    small zero = omega arith
    small (suc k) = omega arith

pub nothing : IsText []
nothing = (λ k. omega arith, refl)
