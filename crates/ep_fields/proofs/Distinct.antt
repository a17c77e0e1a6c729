-- The pairs that runs name make the same pool again.
use Rattle.std.proofs.Common.{◌≡◌, Bool, true, false, cond, List, [], ◌∷◌, ◌++◌, fold, refl, sym, ap, ◌∙◌, append_assoc, append-nil}
use Rattle.std.specs.List.{flat_map}
use Rattle.ep_attr.specs.AttrMap.{Pair}
use Rattle.ep_pool.specs.Pool.{has, put}
use Rattle.ep_cs.specs.declared.op.Op.{Op}
use Rattle.ep_csread.specs.Spelling.{pairs_named}

-- none of a list is among those before it, nor among these
abbrev AreNew : List Pair → List Pair → Type 0
AreNew before [] = Unit {0}
AreNew before (p ∷ ps) = (has before p ≡ false) × AreNew (before ++ p ∷ []) ps

new_more : (before ps : List Pair) (p : Pair) → AreNew before ps → has (before ++ ps) p ≡ false → AreNew before (ps ++ p ∷ [])
new_more before [] p are new = (ap (λ (xs : List Pair). has xs p) (sym (append-nil before)) ∙ new, tt)
new_more before (q ∷ ps) p are new =
    (are.0, new_more (before ++ q ∷ []) ps p are.1 (ap (λ (xs : List Pair). has xs p) (append_assoc before (q ∷ []) ps) ∙ new))

put_new : (ps : List Pair) (p : Pair) → AreNew [] ps → AreNew [] (put ps p)
put_new ps p are = by (has ps p) refl
  where
    by : (b : Bool) → has ps p ≡ b → AreNew [] (cond b ps (ps ++ p ∷ []))
    by true e = are
    by false e = new_more [] ps p are e

fold_new : (pool ps : List Pair) → AreNew [] pool → AreNew [] (fold put pool ps)
fold_new pool [] are = are
fold_new pool (p ∷ ps) are = fold_new (put pool p) ps (put_new pool p are)

new_again : (before ps : List Pair) → AreNew before ps → fold put before ps ≡ before ++ ps
new_again before [] are = sym (append-nil before)
new_again before (p ∷ ps) are =
    let one : put before p ≡ before ++ p ∷ [] = rw are.0 refl in
    ap (λ (xs : List Pair). fold put xs ps) one ∙ new_again (before ++ p ∷ []) ps are.1 ∙ append_assoc before (p ∷ []) ps

pub put_again : (runs : List Op) → fold put [] (pairs_named runs) ≡ pairs_named runs
put_again runs = new_again [] (pairs_named runs) (fold_new [] (flat_map (λ (o : Op). o.attrs.pairs) runs) tt)
