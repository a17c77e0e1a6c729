-- What writing adds, one thing after another.
use Rattle.std.proofs.Common.{◌≡◌, ℕ, ◌+◌, ◌<◌, List, [], ◌∷◌, ◌++◌, length, take, slice_get, Some, None, Result, Ok, Err, sym, ap, subst, ◌∙◌, append_assoc, arith}
use Rattle.std.proofs.lemmas.List.{flat_map_more, take_more}
use Rattle.std.proofs.lemmas.Option.{get_or_from_slice_get, slice_get-get_or, slice_get_within}
use Rattle.std.specs.List.{AllByRecursion, flat_map}
use Rattle.ep_attr.specs.AttrMap.{Pair}
use Rattle.ep_fields.specs.declared.fault.Fault.{Fault}
use Rattle.ep_fields.specs.declared.fault.Fault.TheVariants.{Memory, NoRecord}
use Rattle.ep_fields.specs.Bytes.{pair, IsPair}
use Rattle.ep_fields.specs.Writing.{Adds}

-- behind what was added before, the rest is added
pub adds_then : {X : Type 0} (r : Result X Fault) (a b c x y : List ℕ) (P Q : Type 0) → b ≡ a ++ x → (Q → P) → (P → Q) → Adds r b c y Q → Adds r a c (x ++ y) P
adds_then (Ok v) a b c x y P Q front to from added = (added.0 ∙ ap (λ (t : List ℕ). t ++ y) front ∙ append_assoc a x y, to added.1)
adds_then (Err Memory) a b c x y P Q front to from added = tt
adds_then (Err NoRecord) a b c x y P Q front to from added = λ p. added (from p)

-- ---- pairs one after the other

next_taken : (ps : List Pair) (i : ℕ) (p : Pair) → slice_get ps i ≡ Some p → take (i + 1) ps ≡ take i ps ++ p ∷ []
next_taken ps i p e =
    take_more ps i p (slice_get_within ps i p e) ∙ ap (λ (q : Pair). take i ps ++ q ∷ []) (get_or_from_slice_get ps i p p e)

each_more : (ps : List Pair) (p : Pair) → AllByRecursion IsPair ps → IsPair p → AllByRecursion IsPair (ps ++ p ∷ [])
each_more [] p all is = (is, tt)
each_more (q ∷ ps) p all is = (all.0, each_more ps p all.1 is)

pub pairs_more : (ps : List Pair) (i : ℕ) (p : Pair) (a b c : List ℕ) → slice_get ps i ≡ Some p → (b ≡ a ++ flat_map pair (take i ps)) × AllByRecursion IsPair (take i ps)
    → (c ≡ b ++ pair p) × IsPair p → (c ≡ a ++ flat_map pair (take (i + 1) ps)) × AllByRecursion IsPair (take (i + 1) ps)
pairs_more ps i p a b c e before added =
    let more = next_taken ps i p e in (
      added.0 ∙ ap (λ (t : List ℕ). t ++ pair p) before.0 ∙ flat_map_more pair a (take i ps) p ∙ ap (λ (qs : List Pair). a ++ flat_map pair qs) (sym more),
      subst (AllByRecursion IsPair) (sym more) (each_more (take i ps) p before.1 added.1),
    )

pub not_past : (ps : List Pair) (i n : ℕ) → None ≡ slice_get ps i → n ≡ length ps → i < n → ⊥
not_past ps i n e len lt =
    let some = e ∙ slice_get-get_or ps i ([], []) (omega (arith, len, lt)) in
    absurd cc
