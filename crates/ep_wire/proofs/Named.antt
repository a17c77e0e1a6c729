-- What holds of each pair that operations name, and of each unit of their bank, holds of those of the change that they make.
use Rattle.std.proofs.Common.{◌≡◌, ℕ, zero, suc, ◌-◌, Bool, true, false, cond, List, [], ◌∷◌, ◌++◌, fold, map, replicate, Option, Some, None, Ordering, Less, Equal, Greater, refl, sym, subst}
use Rattle.std.specs.List.{AllByRecursion, flat_map}
use Rattle.std.specs.Ordering.{eq_by_cmp}
use Rattle.std.specs.FinMap.Entries.{by_order, find, put}
use Rattle.ep_units.specs.Text.{Text, is_newline, text_cmp}
use Rattle.ep_attr.specs.AttrMap.{AttrMap, Pair, none, after, checked, get, insert, insert_some, keys, map_of, value_after}
use Rattle.ep_attr.proofs.Maps.{exact_test, exact_text}
use Rattle.ep_pool.specs.Pool as pools
use Rattle.ep_cs.specs.Change.{Change, change_of}
use Rattle.ep_cs.specs.Doc.{Cell}
use Rattle.ep_cs.specs.Edit.{Fate, Place, Step, edit_of, inserts, settle}
use Rattle.ep_cs.specs.Edit.Fate.{Drop, Keep}
use Rattle.ep_cs.specs.Edit.Step.{Insert, Pass}
use Rattle.ep_cs.specs.Normal as normal
use Rattle.ep_cs.specs.Normal.{is_bare, joined, joins, one, put_cells, put_place, runs_from}
use Rattle.ep_cs.specs.Runs.{all_passed, cells, inserted, marks_of, op_steps, rest_kept, run_steps, steps_of}
use Rattle.std.proofs.Common.{take, drop}
use Rattle.ep_cs.specs.declared.op.Kind.{Kind}
use Rattle.ep_cs.specs.declared.op.Kind.TheVariants as kind
use Rattle.ep_cs.specs.declared.op.Op.{Op}
use Rattle.ep_csread.specs.Reading.{map_for, map_from, pair_at, resolved, with_pair}
use Rattle.ep_csread.specs.Spelling.{Numbered, pairs_named}

module _ (Q : Pair → Type 0) (R : ℕ → Type 0) where
  abbrev pub Of : AttrMap → Type 0
  Of m = AllByRecursion Q m.pairs

  abbrev pub OfCells : List Cell → Type 0
  OfCells cs = AllByRecursion (λ (c : Cell). Of c.attrs × R c.unit) cs

  abbrev pub OfFate : Fate → Type 0
  OfFate Drop = Unit {0}
  OfFate (Keep m) = Of m

  abbrev pub OfPlaces : List Place → Type 0
  OfPlaces ps = AllByRecursion (λ (p : Place). OfCells p.before × OfFate p.fate) ps

  abbrev pub OfStep : Step → Type 0
  OfStep (Insert c) = Of c.attrs × R c.unit
  OfStep (Pass fate) = OfFate fate

  abbrev pub OfSteps : List Step → Type 0
  OfSteps steps = AllByRecursion OfStep steps

  abbrev pub OfOps : List Op → Type 0
  OfOps ops = AllByRecursion (λ (o : Op). Of o.attrs) ops

  -- ---- maps

  put_of : (k v : Text) (ps : List Pair) → Q (k, v) → AllByRecursion Q ps → AllByRecursion Q (put text_cmp k v ps)
  put_of k v [] q all = (q, tt)
  put_of k v (e ∷ es) q all = by (text_cmp k e.0) refl (put_of k v es q all.1)
    where
      by : (o : Ordering) → text_cmp k e.0 ≡ o → AllByRecursion Q (put text_cmp k v es) → AllByRecursion Q (by_order o ((k, v) ∷ (e ∷ es)) ((e.0, v) ∷ es) (e ∷ put text_cmp k v es))
      by Less is rest = (q, all)
      by Equal is rest = (subst (λ (t : Text). Q (t, v)) (exact_text k e.0 is) q, all.1)
      by Greater is rest = (all.0, rest)

  checked_of : (ps : List Pair) (b : Bool) (e : _ ≡ b) (m : AttrMap) → AllByRecursion Q ps → Of m → Of (checked ps b e m)
  checked_of ps true e m q all = q
  checked_of ps false e m q all = all

  insert_of : (m : AttrMap) (k v : Text) → Q (k, v) → Of m → Of (insert m k v)
  insert_of m k v q all = checked_of (put text_cmp k v m.pairs) _ refl m (put_of k v m.pairs q all) all

  found_of : (ps : List Pair) (k v : Text) → find text_cmp k ps ≡ Some v → AllByRecursion Q ps → Q (k, v)
  found_of [] k v is all = absurd cc
  found_of (e ∷ es) k v is all = by (eq_by_cmp text_cmp k e.0) refl is (λ told. found_of es k v told all.1)
    where
      by : (b : Bool) → eq_by_cmp text_cmp k e.0 ≡ b → cond b (Some e.1) (find text_cmp k es) ≡ Some v → (find text_cmp k es ≡ Some v → Q (k, v)) → Q (k, v)
      by true same told rest =
          let value : e.1 ≡ v = cc in
          subst (λ (t : Text). Q (k, t)) value (subst (λ (t : Text). Q (t, e.1)) (sym (exact_test k e.0 same)) all.0)
      by false other told rest = rest told

  map_of_of : (f : Text → Option Text) (ks : List Text) → ((k v : Text) → f k ≡ Some v → Q (k, v)) → Of (map_of f ks)
  map_of_of f [] each = tt
  map_of_of f (k ∷ ks) each = by (f k) refl (map_of_of f ks each)
    where
      by : (o : Option Text) → f k ≡ o → Of (map_of f ks) → Of (insert_some (map_of f ks) k o)
      by None is rest = rest
      by (Some v) is rest = insert_of (map_of f ks) k v (each k v is) rest

  after_of : (m : AttrMap) → Of m → Of (after none m)
  after_of m all = map_of_of (λ k. value_after None (get m k)) (keys m) (λ k v is. found_of m.pairs k v (there (get m k) v is) all)
    where
      there : (o : Option Text) (v : Text) → value_after None o ≡ Some v → o ≡ Some v
      there None v is = absurd cc
      there (Some []) v is = absurd cc
      there (Some (u ∷ us)) v is = is

  -- ---- what is read

  pair_of : (pool : List Pair) (n : ℕ) (m : AttrMap) → AllByRecursion Q pool → Of m → Of (with_pair (pair_at pool n) m)
  pair_of [] n m all of = of
  pair_of (p ∷ ps) zero m all of = insert_of m p.0 p.1 all.0 of
  pair_of (p ∷ ps) (suc n) m all of = pair_of ps n m all.1 of

  stars_of : (pool : List Pair) (m : AttrMap) (ns : List ℕ) → AllByRecursion Q pool → Of m → Of (map_from pool m ns)
  stars_of pool m [] all of = of
  stars_of pool m (n ∷ ns) all of = stars_of pool (with_pair (pair_at pool n) m) ns all (pair_of pool n m all of)

  kind_of : (k : Kind) (m : AttrMap) → Of m → Of (map_for k m)
  kind_of kind.Keep m of = of
  kind_of kind.Drop m of = tt
  kind_of kind.Insert m of = after_of m of

  pub resolved_of : (pool : List Pair) (os : List Numbered) → AllByRecursion Q pool → OfOps (map (resolved pool) os)
  resolved_of pool [] all = tt
  resolved_of pool (o ∷ os) all = (kind_of o.kind (map_from pool none o.stars) (stars_of pool none o.stars all tt), resolved_of pool os all)

  -- ---- what is made of it

  both_of : {A : Type 0} (P : A → Type 0) (xs ys : List A) → AllByRecursion P xs → AllByRecursion P ys → AllByRecursion P (xs ++ ys)
  both_of P [] ys p q = q
  both_of P (x ∷ xs) ys p q = (p.0, both_of P xs ys p.1 q)

  passes_of : (n : ℕ) (fate : Fate) → OfFate fate → OfSteps (replicate n (Pass fate))
  passes_of zero fate of = tt
  passes_of (suc n) fate of = (of, passes_of n fate of)

  inserts_of : (m : AttrMap) (us : Text) → Of m → AllByRecursion R us → OfSteps (inserts (cells m us))
  inserts_of m [] of us = tt
  inserts_of m (u ∷ us) of are = ((of, are.0), inserts_of m us of are.1)

  run_of : (k : Kind) (n : ℕ) (m : AttrMap) (us : Text) → Of m → AllByRecursion R us → OfSteps (run_steps k n m us)
  run_of kind.Keep n m us of are = passes_of n (Keep m) of
  run_of kind.Drop n m us of are = passes_of n Drop tt
  run_of kind.Insert n m us of are = inserts_of m us of are

  front_of : (n : ℕ) (us : Text) → AllByRecursion R us → AllByRecursion R (take n us)
  front_of zero us are = tt
  front_of (suc n) [] are = tt
  front_of (suc n) (u ∷ us) are = (are.0, front_of n us are.1)

  rest_of : (n : ℕ) (us : Text) → AllByRecursion R us → AllByRecursion R (drop n us)
  rest_of zero us are = are
  rest_of (suc n) [] are = tt
  rest_of (suc n) (u ∷ us) are = rest_of n us are.1

  steps_of_of : (ops : List Op) (bank : Text) → OfOps ops → AllByRecursion R bank → OfSteps (steps_of ops bank)
  steps_of_of [] bank of are = tt
  steps_of_of (o ∷ os) bank of are =
      let n = inserted o.kind o.units in
      both_of OfStep (op_steps o (take n bank)) _ (run_of o.kind o.units o.attrs (take n bank) of.0 (front_of n bank are)) (steps_of_of os (drop n bank) of.1 (rest_of n bank are))

  settle_of : (waiting : List Cell) (steps : List Step) → OfCells waiting → OfSteps steps → OfPlaces (settle waiting steps).places × OfCells (settle waiting steps).last
  settle_of waiting [] w of = (tt, w)
  settle_of waiting (Insert c ∷ steps) w of = settle_of (waiting ++ c ∷ []) steps (both_of (λ (x : Cell). Of x.attrs × R x.unit) waiting (c ∷ []) w (of.0, tt)) of.1
  settle_of waiting (Pass Drop ∷ steps) w of =
      let rest = settle_of waiting steps w of.1 in
      (((tt, tt), rest.0), rest.1)
  settle_of waiting (Pass (Keep m) ∷ steps) w of =
      let rest = settle_of [] steps tt of.1 in
      (((w, of.0), rest.0), rest.1)

  put_run : (o : Op) (os : List Op) → Of o.attrs → OfOps os → OfOps (normal.put o os)
  put_run o [] of all = by (is_bare o)
    where
      by : (b : Bool) → OfOps (cond b [] (o ∷ []))
      by true = tt
      by false = (of, tt)
  put_run o (p ∷ ps) of all = by (joins o p)
    where
      by : (b : Bool) → OfOps (cond b (joined o p ∷ ps) (o ∷ (p ∷ ps)))
      by true = all
      by false = (of, all)

  cells_of : (cs : List Cell) (os : List Op) → OfCells cs → OfOps os → OfOps (put_cells cs os)
  cells_of [] os of all = all
  cells_of (c ∷ cs) os of all = put_run (one kind.Insert c.attrs (cond (is_newline c.unit) 1 0)) (put_cells cs os) of.0.0 (cells_of cs os of.1 all)

  place_of : (fate : Fate) (mark : ℕ) (os : List Op) → OfFate fate → OfOps os → OfOps (put_place fate mark os)
  place_of Drop mark os of all = put_run (one kind.Drop none mark) os tt all
  place_of (Keep m) mark os of all = put_run (one kind.Keep m mark) os of all

  runs_of : (places : List Place) (last : List Cell) (marks : List ℕ) → OfPlaces places → OfCells last → OfOps (runs_from places last marks)
  runs_of [] last marks of end = cells_of last [] end tt
  runs_of (p ∷ ps) last [] of end = cells_of p.before _ of.0.0 (place_of p.fate 0 _ of.0.1 (runs_of ps last [] of.1 end))
  runs_of (p ∷ ps) last (mark ∷ marks) of end = cells_of p.before _ of.0.0 (place_of p.fate mark _ of.0.1 (runs_of ps last marks of.1 end))

  pub record OfChange (c : Change) : Type 0 where
    pub runs : OfOps c.runs
    pub places : OfPlaces c.edit.places
    pub last : OfCells c.edit.last

  pub change_of_of : (n : ℕ) (ops : List Op) (bank : Text) → OfOps ops → AllByRecursion R bank → OfChange (change_of n ops bank)
  change_of_of n ops bank of are =
      let steps : List Step = steps_of ops bank ++ rest_kept (n - all_passed ops) in
      let all : OfSteps steps = both_of OfStep (steps_of ops bank) _ (steps_of_of ops bank of are) (passes_of (n - all_passed ops) (Keep none) tt) in
      let edit = settle_of [] steps tt all in
      record { runs = runs_of (edit_of steps).places (edit_of steps).last (marks_of ops) edit.0 edit.1; places = edit.0; last = edit.1 }

  -- ---- the pairs of it

  fold_of : (pool ps : List Pair) → AllByRecursion Q pool → AllByRecursion Q ps → AllByRecursion Q (fold pools.put pool ps)
  fold_of pool [] all of = all
  fold_of pool (p ∷ ps) all of = fold_of (pools.put pool p) ps (by (pools.has pool p)) of.1
    where
      by : (b : Bool) → AllByRecursion Q (cond b pool (pool ++ p ∷ []))
      by true = all
      by false = both_of Q pool (p ∷ []) all (of.0, tt)

  each_of : (runs : List Op) → OfOps runs → AllByRecursion Q (flat_map (λ (o : Op). o.attrs.pairs) runs)
  each_of [] of = tt
  each_of (o ∷ os) of = both_of Q o.attrs.pairs _ of.0 (each_of os of.1)

  pub named_of : (runs : List Op) → OfOps runs → AllByRecursion Q (pairs_named runs)
  named_of runs of = fold_of [] _ tt (each_of runs of)
