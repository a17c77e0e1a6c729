-- The shorter of two runs that begin alike.
use Rattle.std.proofs.Common.{◌≡◌, ℕ, ◌<◌, ◌≤◌, inl, inr, length, take, refl, sym, ap, ◌∙◌, subst, arith, take-take}
use Rattle.std.proofs.lemmas.List.{length-take-le, length-map}
use Rattle.ep_units.specs.Text.{Text}
use Rattle.ep_cs.specs.Change.{newlines}
use Rattle.ep_cursor.specs.Said.{IsSaid}
use Rattle.ep_cursor.specs.Part.{IsShorter}
use Rattle.ep_cursor.proofs.Lined.{IsPiece, shorter_first, shorter_second}
use Rattle.ep_cursor.proofs.Cuts.{newlines_take}

pub inside_first : (k j n lo m lp : ℕ) → IsShorter k j n lo m lp → k ≤ n
inside_first k j n lo m lp h = elim h as (λ _. k ≤ n) [ inl a ↦ omega (arith, a.0) | inr a ↦ omega (arith, a.0) ]

pub inside_second : (k j n lo m lp : ℕ) → IsShorter k j n lo m lp → k ≤ m
inside_second k j n lo m lp h = elim h as (λ _. k ≤ m) [ inl a ↦ omega (arith, a.1) | inr a ↦ a.1 ]

pub some_shorter : (k j n lo m lp : ℕ) → IsShorter k j n lo m lp → 1 ≤ n → 1 ≤ m → 1 ≤ k
some_shorter k j n lo m lp h a b = elim h as (λ _. 1 ≤ k) [ inl s ↦ omega (arith, s.1, b) | inr s ↦ omega (arith, s.0, a) ]

pub lines_front : (k n : ℕ) (us : Text) → k ≤ n → take k (newlines (take n us)) ≡ newlines (take k us)
lines_front k n us h = newlines_take k (take n us) ∙ ap newlines (take-take k n us h)

pub lines_wide : (n : ℕ) (us : Text) → n ≤ length us → length (newlines (take n us)) ≡ n
lines_wide n us h = length-map (take n us) _ ∙ length-take-le n us h

-- two texts that begin alike, of which each run says its newlines
pub piece : (k j n lo m lp : ℕ) (us vs : Text) → IsShorter k j n lo m lp → IsSaid n lo us → IsSaid m lp vs → take k us ≡ take k vs
    → IsPiece k n m j lo lp (newlines (take n us)) (newlines (take m vs))
piece k j n lo m lp us vs h a b same = elim h as (λ _. IsPiece k n m j lo lp (newlines (take n us)) (newlines (take m vs))) [ inl s ↦ second s | inr s ↦ first s ]
  where
    alike : take k (newlines (take n us)) ≡ take k (newlines (take m vs))
    alike = lines_front k n us (inside_first k j n lo m lp h) ∙ ap newlines same ∙ sym (lines_front k m vs (inside_second k j n lo m lp h))

    second : (k < n) × (k ≡ m) × (j ≡ lp) → IsPiece k n m j lo lp (newlines (take n us)) (newlines (take m vs))
    second s =
        subst (λ (i : ℕ). IsPiece k n m i lo lp (newlines (take n us)) (newlines (take m vs))) (sym s.2)
        (shorter_second k n m lo lp (newlines (take n us)) (newlines (take m vs)) s.0 s.1 (lines_wide n us a.0) (lines_wide m vs b.0) a.1 b.1 alike)

    first : (k ≡ n) × (k ≤ m) × (j ≡ lo) → IsPiece k n m j lo lp (newlines (take n us)) (newlines (take m vs))
    first s =
        subst (λ (i : ℕ). IsPiece k n m i lo lp (newlines (take n us)) (newlines (take m vs))) (sym s.2)
        (shorter_first k n m lo lp (newlines (take n us)) (newlines (take m vs)) s.0 s.1 (lines_wide n us a.0) (lines_wide m vs b.0) a.1 b.1 alike)
