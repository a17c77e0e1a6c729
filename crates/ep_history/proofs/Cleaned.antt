-- Cleaning twice is cleaning once.
use Rattle.std.proofs.Common.{◌≡◌, ℕ, Bool, true, false, ◌==◌, if◌then◌else◌, [], ◌∷◌, ◌++◌, replicate, refl, ap}
use Rattle.ep_units.specs.Text.{Text}
use Rattle.ep_units.specs.Clean.{begins_with, clean}

-- a unit that stays when it is cleaned stays when it is cleaned again
again : (u : ℕ) (us : Text) (cr tab space : Bool) (feed : Bool) → (u == 13) ≡ cr → (u == 9) ≡ tab → (u == 160) ≡ space → clean (clean us) ≡ clean us
    → clean (if cr then (if feed then clean us else 10 ∷ clean us) else (if tab then replicate 8 32 ++ clean us else (if space then 32 ∷ clean us else u ∷ clean us)))
    ≡ (if cr then (if feed then clean us else 10 ∷ clean us) else (if tab then replicate 8 32 ++ clean us else (if space then 32 ∷ clean us else u ∷ clean us)))
again u us true tab space true c t s e = e
again u us true tab space false c t s e = ap (λ x. 10 ∷ x) e
again u us false true space feed c t s e = ap (λ x. replicate 8 32 ++ x) e
again u us false false true feed c t s e = ap (λ x. 32 ∷ x) e
again u us false false false feed c t s e = rw (c, t, s) (ap (λ x. u ∷ x) e)

pub clean-clean : (us : Text) → clean (clean us) ≡ clean us
clean-clean [] = refl
clean-clean (u ∷ us) = again u us (u == 13) (u == 9) (u == 160) (begins_with 10 us) refl refl refl (clean-clean us)
