-- A text is well-formed exactly where no half stands alone.
use Rattle.std.proofs.Common.{◌≡◌, ℕ, suc, ◌+◌, Bool, true, false, cond, not, ◌&&◌, ◌||◌, [], ◌∷◌, Option, Some, None, is_some, refl, ap, ◌∙◌, ◌<◌, length, get_or, take, drop, sym, ◌-◌, drop-cons, add-one, subst, T, ◌↔◌}
use Rattle.std.proofs.lemmas.List.{take_rest}
use Rattle.ep_units.specs.Text.{Text, is_high, is_low, is_paired, is_well_formed}
use Rattle.ep_units.specs.Halves.{begins_low, lone_from, first_lone}

one_unit_on : (paired low high next : Bool) (at : ℕ) (rest : Option ℕ)
    → (cond paired low (not low) && ((not high || next) && not (is_some rest))) ≡ ((not paired || low) && not (is_some (cond ((low && not paired) || (high && not next)) (Some at) rest)))
one_unit_on true true true true at rest = refl
one_unit_on true true true false at rest = refl
one_unit_on true true false next at rest = refl
one_unit_on true false high next at rest = refl
one_unit_on false true high next at rest = refl
one_unit_on false false true true at rest = refl
one_unit_on false false true false at rest = refl
one_unit_on false false false next at rest = refl

-- the second half that a first half before the text asks for is there, and no half stands alone
is_paired-lone_from : (at : ℕ) (paired : Bool) (us : Text) → is_paired paired us ≡ ((not paired || begins_low us) && not (is_some (lone_from at paired us)))
is_paired-lone_from at true [] = refl
is_paired-lone_from at false [] = refl
is_paired-lone_from at paired (u ∷ us) =
    ap (λ b. cond paired (is_low u) (not (is_low u)) && b) (is_paired-lone_from (suc at) (is_high u) us)
    ∙ one_unit_on paired (is_low u) (is_high u) (begins_low us) at (lone_from (suc at) (is_high u) us)

pub alone_nowhere : (us : Text) → is_well_formed us ≡ not (is_some (first_lone us))
alone_nowhere us = is_paired-lone_from 0 false us

-- one unit further
pub lone_from_more : (us : Text) (at : ℕ) (paired : Bool) → at < length us
    → lone_from at paired (drop at us)
    ≡ cond ((is_low (get_or us at 0) && not paired) || (is_high (get_or us at 0) && not (begins_low (drop (at + 1) us)))) (Some at) (lone_from (at + 1) (is_high (get_or us at 0)) (drop (at + 1) us))
lone_from_more us at paired h = rw (add-one, drop-cons us at 0) refl

-- a unit that doesn't stand alone is passed
pub lone_from_passed : (us : Text) (at : ℕ) (paired alone high : Bool) → at < length us
    → alone ≡ ((is_low (get_or us at 0) && not paired) || (is_high (get_or us at 0) && not (begins_low (take (length us - (at + 1)) (drop (at + 1) us)))))
    → alone ≡ false → high ≡ is_high (get_or us at 0) → lone_from (at + 1) high (drop (at + 1) us) ≡ lone_from at paired (drop at us)
lone_from_passed us at paired alone high h test passed next =
    let t = rw (take_rest us (at + 1)) at (sym test ∙ passed) in
    rw (lone_from_more us at paired h, t, next) refl

none_is : (o : Option ℕ) → not (is_some o) ≡ true → o ≡ None
none_is None e = refl
none_is (Some x) e = absurd (subst T (sym e) tt)

pub well_formed-first_lone : (us : Text) → (is_well_formed us ≡ true) ↔ (first_lone us ≡ None)
well_formed-first_lone us = (λ h. none_is (first_lone us) (sym (alone_nowhere us) ∙ h), λ e. alone_nowhere us ∙ ap (λ o. not (is_some o)) e)
