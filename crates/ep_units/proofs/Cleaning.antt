-- Cleaning, one unit further, and that it leaves pairs whole.
use Rattle.std.proofs.Common.{◌≡◌, ℕ, ◌+◌, ◌-◌, ◌<◌, ◌≤◌, ◌==◌, Bool, true, false, cond, not, T, [], ◌∷◌, ◌++◌, length, get_or, take, drop, replicate, subst, append-nil, refl, sym, ap, ◌∙◌, arith}
use Rattle.std.proofs.lemmas.Bool.{and_parts, and_from, eqb-true}
use Rattle.std.proofs.lemmas.List.{take_rest, at_drop_more, at_drop_all}
use Rattle.ep_units.specs.Text.{Text, is_high, is_low, is_paired, is_well_formed}
use Rattle.ep_units.specs.Clean.{begins_with, clean}
use Rattle.ep_units.proofs.Pairing.{high_below, low_below}

-- what is written with what the rest becomes, one unit further
pub clean_more : (us : Text) (at : ℕ) (old new : Text) → at < length us → old ++ clean (drop at us) ≡ clean us
    → new ++ clean (take (length us - (at + 1)) (drop (at + 1) us)) ≡ old ++ clean (get_or us at 0 ∷ take (length us - (at + 1)) (drop (at + 1) us))
    → new ++ clean (drop (at + 1) us) ≡ clean us
clean_more us at old new h before written =
    rw (take_rest us (at + 1)) at written ∙ ap (λ t. old ++ t) (sym (at_drop_more clean us at 0 h)) ∙ before

pub clean_all : (us : Text) (at : ℕ) (out : Text) → length us ≤ at → out ++ clean (drop at us) ≡ clean us → out ≡ clean us
clean_all us at out h done = sym (append-nil out) ∙ rw (at_drop_all clean us at h) at done

-- before a unit that is no half no pair is open
plain_first : (half : Bool) (u : ℕ) (us : Text) → u < 55296 → is_paired half (u ∷ us) ≡ true → (half ≡ false) × (is_well_formed us ≡ true)
plain_first true u us below h = let low = rw (low_below u (omega arith)) at h in absurd (subst T (sym low) tt)
plain_first false u us below h = (refl, rw (low_below u (omega arith), high_below u below) at h)

closed : (half : Bool) (us : Text) → half ≡ false → is_well_formed us ≡ true → is_paired half us ≡ true
closed true us e h = absurd (subst T e tt)
closed false us e h = h

clean_unit : (half : Bool) (u : ℕ) (us : Text) (cr tab space feed : Bool) → (u == 13) ≡ cr → (u == 9) ≡ tab → (u == 160) ≡ space
    → is_paired half (u ∷ us) ≡ true → ((b : Bool) → is_paired b us ≡ true → is_paired b (clean us) ≡ true)
    → is_paired half (cond cr (cond feed (clean us) (10 ∷ clean us)) (cond tab (replicate 8 32 ++ clean us) (cond space (32 ∷ clean us) (u ∷ clean us)))) ≡ true
clean_unit half u us true tab space feed cr_is tab_is space_is h again =
    let code = eqb-true u 13 cr_is in
    let p = plain_first half u us (omega arith) h in
    lines feed p
  where
    lines : (feed : Bool) → (half ≡ false) × (is_well_formed us ≡ true) → is_paired half (cond feed (clean us) (10 ∷ clean us)) ≡ true
    lines true p = closed half (clean us) p.0 (again false p.1)
    lines false p = closed half (10 ∷ clean us) p.0 (again false p.1)
clean_unit half u us false true space feed cr_is tab_is space_is h again =
    let code = eqb-true u 9 tab_is in
    let p = plain_first half u us (omega arith) h in
    closed half (replicate 8 32 ++ clean us) p.0 (again false p.1)
clean_unit half u us false false true feed cr_is tab_is space_is h again =
    let code = eqb-true u 160 space_is in
    let p = plain_first half u us (omega arith) h in
    closed half (32 ∷ clean us) p.0 (again false p.1)
clean_unit half u us false false false feed cr_is tab_is space_is h again = kept half h
  where
    kept : (half : Bool) → is_paired half (u ∷ us) ≡ true → is_paired half (u ∷ clean us) ≡ true
    kept half h =
        let p = and_parts (cond half (is_low u) (not (is_low u))) (is_paired (is_high u) us) h in
        and_from (cond half (is_low u) (not (is_low u))) (is_paired (is_high u) (clean us)) p.0 (again (is_high u) p.1)

is_paired-clean : (half : Bool) (us : Text) → is_paired half us ≡ true → is_paired half (clean us) ≡ true
is_paired-clean half [] h = h
is_paired-clean half (u ∷ us) h =
    clean_unit half u us (u == 13) (u == 9) (u == 160) (begins_with 10 us) refl refl refl h (λ b. is_paired-clean b us)

pub is_well_formed-clean : (us : Text) → is_well_formed us ≡ true → is_well_formed (clean us) ≡ true
is_well_formed-clean us h = is_paired-clean false us h
