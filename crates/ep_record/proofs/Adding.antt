-- What writing adds, one thing after another.
use Rattle.std.proofs.Common.{◌≡◌, ℕ, ◌+◌, ◌<◌, List, [], ◌∷◌, ◌++◌, length, take, slice_get, Some, None, Result, Ok, Err, sym, ap, subst, ◌∙◌, append_assoc, arith}
use Rattle.std.proofs.lemmas.List.{flat_map_more, take_more}
use Rattle.std.proofs.lemmas.Option.{get_or_from_slice_get, slice_get-get_or, slice_get_within}
use Rattle.std.specs.List.{AllByRecursion, flat_map}
use Rattle.ep_attr.specs.AttrMap.{Pair}
use Rattle.ep_record.specs.declared.fault.Fault.{Fault}
use Rattle.ep_record.specs.declared.fault.Fault.TheVariants.{Memory, NoRecord}
use Rattle.ep_record.specs.Bytes.{pair, IsPair}
use Rattle.ep_record.specs.Writing.{Adds}

-- behind what was added before, the rest is added
pub adds_then : {X : Type 0} (r : Result X Fault) (a b c x y : List ℕ) (P Q : Type 0) → b ≡ a ++ x → (Q → P) → (P → Q) → Adds r b c y Q → Adds r a c (x ++ y) P
adds_then (Ok v) a b c x y P Q front to from added = (added.0 ∙ ap (λ (t : List ℕ). t ++ y) front ∙ append_assoc a x y, to added.1)
adds_then (Err Memory) a b c x y P Q front to from added = tt
adds_then (Err NoRecord) a b c x y P Q front to from added = λ p. added (from p)

-- ---- pairs one after the other

next_taken : (ps : List Pair) (i : ℕ) (p : Pair) → slice_get ps i ≡ Some p → take (i + 1) ps ≡ take i ps ++ p ∷ []
next_taken ps i p e =
    take_more ps i p (slice_get_within ps i p e) ∙ ap (λ (q : Pair). take i ps ++ q ∷ []) (get_or_from_slice_get ps i p p e)

each_more : (ps : List Pair) (p : Pair) → AllByRecursion IsPair ps → IsPair p → AllByRecursion IsPair (ps ++ p ∷ [])
each_more [] p all is = (is, tt)
each_more (q ∷ ps) p all is = (all.0, each_more ps p all.1 is)

pub pairs_more : (ps : List Pair) (i : ℕ) (p : Pair) (a b c : List ℕ) → slice_get ps i ≡ Some p → (b ≡ a ++ flat_map pair (take i ps)) × AllByRecursion IsPair (take i ps)
    → (c ≡ b ++ pair p) × IsPair p → (c ≡ a ++ flat_map pair (take (i + 1) ps)) × AllByRecursion IsPair (take (i + 1) ps)
pairs_more ps i p a b c e before added =
    let more = next_taken ps i p e in (
      added.0 ∙ ap (λ (t : List ℕ). t ++ pair p) before.0 ∙ flat_map_more pair a (take i ps) p ∙ ap (λ (qs : List Pair). a ++ flat_map pair qs) (sym more),
      subst (AllByRecursion IsPair) (sym more) (each_more (take i ps) p before.1 added.1),
    )

-- ---- several fields

pub two_added : {X : Type 0} (r : Result X Fault) (a b c d k s n : List ℕ) (S N : Type 0) → b ≡ a ++ k → (c ≡ b ++ s) × S → Adds r c d n N → Adds r a d (k ++ (s ++ n)) (S × N)
two_added r a b c d k s n S N first second last =
    adds_then r a b d k (s ++ n) (S × N) (S × N) first (λ q. q) (λ p. p)
    (adds_then r b c d s n (S × N) N second.0 (λ q. (second.1, q)) (λ p. p.1) last)

pub five_added : {X : Type 0} (r : Result X Fault) (a b c d e f g k s n t o x : List ℕ) (S N T C : Type 0)
    → b ≡ a ++ k → (c ≡ b ++ s) × S → (d ≡ c ++ n) × N → (e ≡ d ++ t) × T → f ≡ e ++ o → Adds r f g x C → Adds r a g (k ++ (s ++ (n ++ (t ++ (o ++ x))))) (S × N × T × C)
five_added r a b c d e f g k s n t o x S N T C first second third fourth fifth last =
    let on_flag : Adds r e g (o ++ x) C = adds_then r e f g o x C C fifth (λ q. q) (λ p. p) last in
    let on_text : Adds r d g (t ++ (o ++ x)) (T × C) = adds_then r d e g t (o ++ x) (T × C) C fourth.0 (λ q. (fourth.1, q)) (λ p. p.1) on_flag in
    let on_time : Adds r c g (n ++ (t ++ (o ++ x))) (N × T × C) = adds_then r c d g n (t ++ (o ++ x)) (N × T × C) (T × C) third.0 (λ q. (third.1, q.0, q.1)) (λ p. (p.1, p.2)) on_text in
    let on_by : Adds r b g (s ++ (n ++ (t ++ (o ++ x)))) (S × N × T × C) =
    adds_then r b c g s (n ++ (t ++ (o ++ x))) (S × N × T × C) (N × T × C) second.0 (λ q. (second.1, q.0, q.1, q.2)) (λ p. (p.1, p.2, p.3)) on_time in
    adds_then r a b g k (s ++ (n ++ (t ++ (o ++ x)))) (S × N × T × C) (S × N × T × C) first (λ q. q) (λ p. p) on_by

pub not_past : (ps : List Pair) (i n : ℕ) → None ≡ slice_get ps i → n ≡ length ps → i < n → ⊥
not_past ps i n e len lt =
    let some = e ∙ slice_get-get_or ps i ([], []) (omega (arith, len, lt)) in
    absurd cc
