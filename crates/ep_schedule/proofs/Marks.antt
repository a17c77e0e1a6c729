-- Marks of takes, as the induction keeps them: no number twice, and each number that is known.
use Rattle.std.proofs.Common.{◌≡◌, ℕ, List, [], ◌∷◌, ◌⊎◌, inl, inr, refl, sym, ap, ◌∙◌}
use Rattle.ep_history.specs.Lists.{Among}
use Rattle.ep_schedule.specs.Headline.{AreOnce}
use Rattle.ep_schedule.specs.World.{Taken}

-- a mark of this number is there
abbrev pub IsIn : ℕ → List Taken → Type 0
IsIn number [] = ⊥
IsIn number (t ∷ ts) = (t.number ≡ number) ⊎ IsIn number ts

-- no two carry one number
abbrev pub AreDistinct : List Taken → Type 0
AreDistinct [] = Unit {0}
AreDistinct (t ∷ ts) = (IsIn t.number ts → ⊥) × AreDistinct ts

-- each number that is known to be committed is carried
abbrev pub AreKnown : List ℕ → List Taken → Type 0
AreKnown numbers taken = (number : ℕ) → Among number numbers → IsIn number taken

in-numbered : (ts : List Taken) (u : Taken) (number : ℕ) → Among u ts → u.number ≡ number → IsIn number ts
in-numbered [] u number b e = absurd b
in-numbered (y ∷ ys) u number (inl b) e = inl (ap (λ (z : Taken). z.number) (sym b) ∙ e)
in-numbered (y ∷ ys) u number (inr b) e = inr (in-numbered ys u number b e)

-- of two that say one number, one is the other
pub once-same : (ts : List Taken) → AreDistinct ts → AreOnce ts
once-same [] o t u a b e = absurd a
once-same (x ∷ xs) o t u (inl a) (inl b) e = a ∙ sym b
once-same (x ∷ xs) o t u (inl a) (inr b) e = absurd (o.0 (in-numbered xs u x.number b (sym e ∙ ap (λ (y : Taken). y.number) a)))
once-same (x ∷ xs) o t u (inr a) (inl b) e = absurd (o.0 (in-numbered xs t x.number a (e ∙ ap (λ (y : Taken). y.number) b)))
once-same (x ∷ xs) o t u (inr a) (inr b) e = once-same xs o.1 t u a b e

pub among-in : (ts : List Taken) (u : Taken) → Among u ts → IsIn u.number ts
among-in ts u b = in-numbered ts u u.number b refl

pub in-among : (ts : List Taken) (number : ℕ) → IsIn number ts → (t : Taken) × Among t ts × (t.number ≡ number)
in-among [] number h = absurd h
in-among (t ∷ ts) number (inl h) = (t, inl refl, h)
in-among (t ∷ ts) number (inr h) = let r = in-among ts number h in (r.0, inr r.1, r.2)
