-- Causes that are known as well as others.
use Rattle.std.proofs.Common.{◌≡◌, ◌≤◌, ℕ, subst, arith}
use Rattle.std.specs.Prelude.{IfErr, IfOk, Result, Ok, Err}
use Rattle.ep_outside.specs.Outside.{HasRisen}

-- a count that rose since later rose since earlier
pub risen_since : (a b c : ℕ) → a ≤ b → HasRisen b c → HasRisen a c
risen_since a b c le h = omega (arith, le, h)

-- and is above none
pub risen_some : (a b : ℕ) → HasRisen a b → 1 ≤ b
risen_some a b h = omega (arith, h)

pub ok_then : {T E : Type 0} (r : Result T E) (P Q : T → Type 0) → IfOk r P → ((v : T) → P v → Q v) → IfOk r Q
ok_then (Ok v) P Q h f = f v h
ok_then (Err e) P Q h f = tt

pub err_then : {T E : Type 0} (r : Result T E) (P Q : E → Type 0) → IfErr r P → ((e : E) → P e → Q e) → IfErr r Q
err_then (Ok v) P Q h f = tt
err_then (Err e) P Q h f = f e h

pub err_of : {T E : Type 0} (r : Result T E) (x : E) (P : E → Type 0) → IfErr r P → r ≡ Err x → P x
err_of r x P h e = subst (λ q. IfErr q P) e h
