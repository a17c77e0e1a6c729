-- The pool of the pairs that runs name has the pairs of those runs.
use Rattle.std.proofs.Common.{◌≡◌, ℕ, Bool, true, false, true≢false, cond, ◌&&◌, ◌||◌, List, [], ◌∷◌, ◌++◌, fold, Option, Some, None, is_none, is_some, map, append_assoc, refl, sym, ap, ◌∙◌}
use Rattle.std.proofs.lemmas.Grind.{flat_map-append}
use Rattle.std.proofs.lemmas.List.Folds.{list_all-append, list_any-append}
use Rattle.std.specs.List.{flat_map, list_all, position}
use Rattle.ep_units.specs.Text.{Text}
use Rattle.ep_attr.specs.AttrMap.{Pair}
use Rattle.ep_attr.proofs.SameMap.{both_true, first_true, second_true}
use Rattle.ep_pool.specs.Pool.{has, put, same_pair}
use Rattle.ep_pool.proofs.Gathering.{same_pair_itself}
use Rattle.ep_cs.specs.Change.{Change}
use Rattle.ep_cs.specs.declared.op.Op.{Op}
use Rattle.ep_csread.proofs.Numbering.{found_there}
use Rattle.ep_csread.specs.Spelling.{has_pairs, all_named, pairs_named, printed}

either : (a b : Bool) → b ≡ true → (a || b) ≡ true
either true b e = refl
either false b e = e

put_keeps : (pool : List Pair) (p q : Pair) → has pool q ≡ true → has (put pool p) q ≡ true
put_keeps pool p q h = go (has pool p)
  where
    go : (b : Bool) → has (cond b pool (pool ++ p ∷ [])) q ≡ true
    go true = h
    go false = list_any-append (same_pair q) pool (p ∷ []) ∙ ap (λ b. b || (same_pair q p || false)) h

put_has : (pool : List Pair) (p : Pair) → has (put pool p) p ≡ true
put_has pool p = go (has pool p) refl
  where
    go : (b : Bool) → has pool p ≡ b → has (cond b pool (pool ++ p ∷ [])) p ≡ true
    go true e = e
    go false e = list_any-append (same_pair p) pool (p ∷ []) ∙ either (has pool p) _ (ap (λ b. b || false) (same_pair_itself p))

fold_keeps : (pool ps : List Pair) (q : Pair) → has pool q ≡ true → has (fold put pool ps) q ≡ true
fold_keeps pool [] q h = h
fold_keeps pool (p ∷ ps) q h = fold_keeps (put pool p) ps q (put_keeps pool p q h)

fold_has : (pool ps : List Pair) → list_all (has (fold put pool ps)) ps ≡ true
fold_has pool [] = refl
fold_has pool (p ∷ ps) = both_true _ _ (fold_keeps (put pool p) ps p (put_has pool p)) (fold_has (put pool p) ps)

all_keep : (pool more qs : List Pair) → list_all (has pool) qs ≡ true → list_all (has (fold put pool more)) qs ≡ true
all_keep pool more [] h = refl
all_keep pool more (q ∷ qs) h = go (has pool q) refl (λ t. all_keep pool more qs t) h
  where
    go : (b : Bool) → has pool q ≡ b → (list_all (has pool) qs ≡ true → list_all (has (fold put pool more)) qs ≡ true) → (b && list_all (has pool) qs) ≡ true → list_all (has (fold put pool more)) (q ∷ qs) ≡ true
    go true e again t = both_true _ _ (fold_keeps pool more q e) (again t)
    go false e again t = absurd (true≢false (sym t))

pub fold_append : (pool ps qs : List Pair) → fold put pool (ps ++ qs) ≡ fold put (fold put pool ps) qs
fold_append pool [] qs = refl
fold_append pool (p ∷ ps) qs = fold_append (put pool p) ps qs

runs_there : (pool : List Pair) (runs : List Op) → has_pairs (fold put pool (flat_map (λ o. o.attrs.pairs) runs)) runs ≡ true
runs_there pool [] = refl
runs_there pool (o ∷ os) =
    let rest = flat_map (λ (o : Op). o.attrs.pairs) os in
    ap (λ ps. has_pairs ps (o ∷ os)) (fold_append pool o.attrs.pairs rest)
    ∙ both_true _ _ (all_keep (fold put pool o.attrs.pairs) rest o.attrs.pairs (fold_has pool o.attrs.pairs)) (runs_there (fold put pool o.attrs.pairs) os)

pub named_there : (pool : List Pair) (ops runs : List Op) → ops ≡ runs → pool ≡ pairs_named ops → has_pairs pool runs ≡ true
named_there pool ops runs same is = ap (λ ps. has_pairs ps runs) (is ∙ ap pairs_named same) ∙ runs_there [] runs

pub printed_named : (pool : List Pair) (ops : List Op) (c : Change) (text : Text) → ops ≡ c.runs → pool ≡ pairs_named ops → text ≡ printed pool c → text ≡ printed (pairs_named c.runs) c
printed_named pool ops c text same is told = told ∙ ap (λ ps. printed ps c) (is ∙ ap pairs_named same)

-- a pair that was found isn't put again
pub put_found : (ps : List Pair) (p : Pair) → is_none (position (same_pair p) ps) ≡ false → ps ≡ put ps p
put_found ps p found = go (has ps p) refl
  where
    missing : (o : Option ℕ) → is_none o ≡ false → is_some o ≡ true
    missing None e = absurd (true≢false e)
    missing (Some n) e = refl

    go : (b : Bool) → has ps p ≡ b → ps ≡ cond b ps (ps ++ p ∷ [])
    go true e = refl
    go false e = absurd (true≢false (sym (missing _ found) ∙ (found_there ps p ∙ e)))

-- what the rest of the changes name is still to be put
abbrev pub IsNaming : List Change → List Change → List Pair → Type 0
IsNaming all rest pool = fold put pool (flat_map (λ (o : Op). o.attrs.pairs) (flat_map (λ (c : Change). c.runs) rest)) ≡ all_named all

pub names_more : (all : List Change) (c : Change) (rest : List Change) (pool pool' : List Pair) → IsNaming all (c ∷ rest) pool
    → pool' ≡ fold put pool (flat_map (λ (o : Op). o.attrs.pairs) c.runs) → IsNaming all rest pool'
names_more all c rest pool pool' way is =
    let named = λ (os : List Op). flat_map (λ (o : Op). o.attrs.pairs) os in
    let later = flat_map (λ (c : Change). c.runs) rest in
    ap (λ ps. fold put ps (named later)) is ∙ sym (fold_append pool (named c.runs) (named later)) ∙ ap (fold put pool) (sym (flat_map-append (λ (o : Op). o.attrs.pairs) c.runs later)) ∙ way

-- the spellings of the rest of the changes are still to come, and the pool has their pairs
abbrev pub IsSpelling : List Pair → List Change → List Change → List Text → Type 0
IsSpelling pool all rest texts = (texts ++ map (printed pool) rest ≡ map (printed pool) all) × (list_all (λ (c : Change). has_pairs pool c.runs) rest ≡ true)

pub spells_more : (pool : List Pair) (all : List Change) (c : Change) (rest : List Change) (texts : List Text) → IsSpelling pool all (c ∷ rest) texts
    → IsSpelling pool all rest (texts ++ printed pool c ∷ [])
spells_more pool all c rest texts way =
    (append_assoc texts (printed pool c ∷ []) (map (printed pool) rest) ∙ way.0, second_true (has_pairs pool c.runs) _ way.1)

all_there : (pool : List Pair) (cs : List Change) → has_pairs pool (flat_map (λ (c : Change). c.runs) cs) ≡ true → list_all (λ (c : Change). has_pairs pool c.runs) cs ≡ true
all_there pool [] h = refl
all_there pool (c ∷ cs) h =
    let parts = sym (list_all-append (λ (o : Op). list_all (has pool) o.attrs.pairs) c.runs (flat_map (λ (c : Change). c.runs) cs)) ∙ h in
    both_true _ _ (first_true _ _ parts) (all_there pool cs (second_true (has_pairs pool c.runs) _ parts))

-- the pool of all that changes name has the pairs of each
pub all_named_there : (pool : List Pair) (cs : List Change) → pool ≡ all_named cs → list_all (λ (c : Change). has_pairs pool c.runs) cs ≡ true
all_named_there pool cs is = all_there pool cs (ap (λ ps. has_pairs ps (flat_map (λ (c : Change). c.runs) cs)) is ∙ runs_there [] (flat_map (λ (c : Change). c.runs) cs))
