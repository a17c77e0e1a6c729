-- What is read and written piece by piece is read and written whole.
use Rattle.std.proofs.Common.{◌≡◌, ℕ, List, [], ◌++◌, Option, Some, None, refl, sym, ◌∙◌, ap, append_assoc, append-nil}
use Rattle.std.specs.Prelude.{Result, Ok, Err, OnErr}
use Rattle.ep_outside.specs.Outside.{Gives, IsAtEnd, IsWhole, Takes, TakesAllBut, TakesPart}

pub Takes-nil : (o : Option (List ℕ)) → Takes o o []
Takes-nil None = tt
Takes-nil (Some xs) = sym (append-nil xs)

pub Takes-append : (a b c : Option (List ℕ)) (p q : List ℕ) → Takes a b p → Takes b c q → Takes a c (p ++ q)
Takes-append None None None p q h k = tt
Takes-append (Some xs) (Some ys) (Some zs) p q h k = k ∙ (ap (λ w. w ++ q) h ∙ append_assoc xs p q)
Takes-append None (Some ys) c p q h k = absurd h
Takes-append (Some xs) None c p q h k = absurd h
Takes-append None None (Some zs) p q h k = absurd k
Takes-append (Some xs) (Some ys) None p q h k = absurd k

pub started : (o : Option (List ℕ)) (all : List ℕ) → TakesAllBut o o all all
started o all = record { gone = []; whole = refl; takes = Takes-nil o }

pub goes_on : (a b c : Option (List ℕ)) (all p rest : List ℕ) → TakesAllBut a b all (p ++ rest) → Takes b c p → TakesAllBut a c all rest
goes_on a b c all p rest h k = record { gone = h.gone ++ p; whole = h.whole ∙ sym (append_assoc h.gone p rest); takes = Takes-append a b c h.gone p h.takes k }

pub breaks_off : (a b c : Option (List ℕ)) (all p rest : List ℕ) → TakesAllBut a b all (p ++ rest) → TakesPart b c p → TakesPart a c all
breaks_off a b c all p rest h (left, k) = (
  left ++ rest,
  record {
    gone = h.gone ++ k.gone;
    whole = h.whole ∙ (ap (λ w. h.gone ++ (w ++ rest)) k.whole ∙ (ap (λ w. h.gone ++ w) (append_assoc k.gone left rest) ∙ sym (append_assoc h.gone k.gone (left ++ rest))));
    takes = Takes-append a b c h.gone k.gone h.takes k.takes;
  },
)

pub stopped : (a b : Option (List ℕ)) (all rest : List ℕ) → TakesAllBut a b all rest → TakesPart a b all
stopped a b all rest h = (rest, h)

pub finished : (a b : Option (List ℕ)) (all : List ℕ) → TakesAllBut a b all [] → Takes a b all
finished a b all h = let e : all ≡ h.gone = h.whole ∙ append-nil h.gone in rw e h.takes

pub whole : (a b c : Option (List ℕ)) (text : List ℕ) → Gives a b text → Gives b c [] → IsAtEnd b → IsWhole a c text
whole None None None text h k e = tt
whole (Some xs) (Some ys) (Some zs) text h k e = (h ∙ (ap (λ w. text ++ w) e ∙ append-nil text), sym k ∙ e)
whole None (Some ys) c text h k e = absurd h
whole (Some xs) None c text h k e = absurd h
whole None None (Some zs) text h k e = absurd k
whole (Some xs) (Some ys) None text h k e = absurd k

pub OnErr-of : {T E : Type 0} (r : Result T E) (P : Type 0) → P → OnErr r P
OnErr-of (Ok x) P p = tt
OnErr-of (Err e) P p = p
