-- Units of 16 bits, one by one and by place.
use Rattle.std.proofs.Common.{◌≡◌, ℕ, zero, suc, ◌<◌, ◌^◌, ◌&&◌, Bool, true, false, true≢false, [], ◌∷◌, ◌++◌, slice_index, refl, sym, arith}
use Rattle.std.specs.List.{AllByRecursion}
use Rattle.ep_units.specs.Text.{Text}

abbrev pub IsUnit : ℕ → Type 0
IsUnit u = u < 2 ^ 16

pub both : (a b : Bool) → (a && b) ≡ true → (a ≡ true) × (b ≡ true)
both true b e = (refl, e)
both false b e = absurd (true≢false (sym e))

pub units_all : (us : Text) → ((k : ℕ) → slice_index us k < 2 ^ 16) → AllByRecursion IsUnit us
units_all [] each = tt
units_all (u ∷ us) each = (each 0, units_all us (λ k. each (suc k)))

pub all_units : (us : Text) → AllByRecursion IsUnit us → (k : ℕ) → slice_index us k < 2 ^ 16
all_units [] all k = omega arith
all_units (u ∷ us) all zero = all.0
all_units (u ∷ us) all (suc k) = all_units us all.1 k

pub behind_all : (a b : Text) → AllByRecursion IsUnit (a ++ b) → AllByRecursion IsUnit b
behind_all [] b all = all
behind_all (u ∷ us) b all = behind_all us b all.1
