-- What the query of a prefix answers.
use Rattle.std.proofs.Common.{◌≡◌, ◌∙◌, inl, inr, ℕ, zero, suc, ◌+◌, ◌<◌, length, get_or, drop, add-one, arith, negsuc, pos, List, [], ◌∷◌, ◌++◌, map, filter, flat_map, Bool, cond, true, false, nat_eq, refl, sym, ap, ap₂, subst, Option, Some, None, true≢false, IsPermutation, subst₂}
use Rattle.std.specs.Prelude.{IsTrue, ◌&&◌, if◌then◌else◌}
use Rattle.std.specs.List.{AllByRecursion, list_all, starts_with}
use Rattle.std.specs.Ordering.{is_lt, is_ge, ordering_then}
use Rattle.std.specs.Cmp.Lexicographic.{slice_cmp, nat_list_cmp_total}
use Rattle.std.specs.declared.cmp.Ordering.TheVariants.{Less, Equal, Greater}
use Rattle.std.proofs.lemmas.Bool.{and_from, cases_Bool}
use Rattle.std.proofs.lemmas.List.Sorted.{IsPermutation-refl, IsPermutation-cons, IsPermutation-map, IsPermutation-middle, IsPermutation-sym, IsPermutation-trans}
use Rattle.sqlite.specs.Collation.TheVariants.{Binary}
use Rattle.sqlite.specs.declared.types.Value.TheVariants.{Text}
use Rattle.sqlite_value.specs.Order.{Row, column, value_cmp}
use Rattle.sqlite_value.proofs.OrderLemmas.{value_cmp-Text, then-Equal}
use Rattle.sqlite_trees.specs.Tree.{Trees, IsAscending}
use Rattle.sqlite_keyed.proofs.ListLemmas.{all-filter, all_weaker, ascending-filter, ascending-map, ascending_weaker, filter-filter, map-map, IsPermutation-filter}
use Rattle.sqlite_keyed.proofs.SortLemmas.{sorted_unique}
use Rattle.sqlite_sql.proofs.QueryLemmas.{output_cmp_total}
use Rattle.sqlite.specs.Ops.{binary, from_truth, is_true}
use Rattle.sqlite.specs.Term.{Term, holds}
use Rattle.sqlite.specs.Query.{IsAnswer, Output, output, output_cmp}
use Rattle.sqlite.specs.Program.{overlay}
use Rattle.sqlite_sql.specs.declared.ops.BinaryOp.TheVariants.{Compare}
use Rattle.sqlite_sql.specs.declared.ops.CompareOp.TheVariants.{Ge, Lt}
use Rattle.ep_outside.proofs.Rising.{and_left, and_right}
use Rattle.ep_outside.specs.declared.keeper.Pair.{Pair}
use Rattle.ep_outside.specs.Kept.{is_first, key_cmp, listed, rises, value_at, with}
use Rattle.ep_keep_sql.specs.Told.{ShowsListed, shows, told_in}
use Rattle.ep_keep_sql.proofs.Get.{IsPair, told_more}
use Rattle.ep_keep_sql.proofs.Texts.{between_terms, from_query, from_terms}
use Rattle.ep_keep_sql.proofs.Prefixes.{from_prefix}
use Rattle.ep_keep_sql.proofs.With.{orders}
use Rattle.ep_keep_sql.proofs.Without.{is_less, told_rises}

-- ---- a map's pairs in order

with_permutes : (ps : List Pair) (k v : List ℕ) → value_at ps k ≡ None → IsPermutation (record { key = k; value = v } ∷ ps) (with ps k v)
with_permutes [] k v e = IsPermutation-refl (record { key = k; value = v } ∷ [])
with_permutes (p ∷ ps) k v e =
    let new : Pair = record { key = k; value = v } in
    elim (orders (key_cmp k p.key)) [
      | inl l ↦ rw l (IsPermutation-refl (new ∷ p ∷ ps))
      | inr (inl q) ↦ let bad : Some p.value ≡ None = rw q at e in absurd (cc)
      | inr (inr g) ↦
          let rest : value_at ps k ≡ None = rw g at e in
          rw g (IsPermutation-trans _ _ _ (IsPermutation-sym _ _ (IsPermutation-middle (p ∷ []) new ps)) (IsPermutation-cons p _ _ (with_permutes ps k v rest)))
    ]

abbrev pub Below : Pair → Pair → Type 0
Below p q = key_cmp p.key q.key ≡ Less

below_later : (p : Pair) (ps : List Pair) → IsTrue (is_first p.key ps) → IsTrue (rises ps) → AllByRecursion (Below p) ps
below_later p [] h k = tt
below_later p (q ∷ ps) h k =
    let first : key_cmp p.key q.key ≡ Less = is_less (key_cmp p.key q.key) h in
    (first, all_weaker (Below q) (Below p) (λ r later. nat_list_cmp_total.trans p.key q.key r.key first later) ps (below_later q ps (and_left (is_first q.key ps) (rises ps) k) (and_right (is_first q.key ps) (rises ps) k)))

ascending : (m : List Pair) → IsTrue (rises m) → IsAscending Below m
ascending [] h = tt
ascending (p ∷ ps) h =
    let rest = and_right (is_first p.key ps) (rises ps) h in
    (below_later p ps (and_left (is_first p.key ps) (rises ps) h) rest, ascending ps rest)

-- ---- the outputs of the query

abbrev pub out_of : Pair → Output
out_of p = (Text p.key ∷ [], shows p)

module _ (terms : List Term) (params : Row) (test : Pair → Bool) (agree : (r : Row) (p : Pair) → IsPair r p → list_all (holds (params ∷ r ∷ [])) terms ≡ test p) where
  abbrev outs : List Row → List Output
  outs rows = map (output (from_query terms)) (flat_map (λ r. if list_all (holds (params ∷ r ∷ [])) terms then (params ∷ r ∷ []) ∷ [] else []) rows)

  permuted : (rows : List Row) (m : List Pair) → told_in rows ≡ Some m → IsPermutation (outs rows) (map out_of (filter test m))
  permuted [] m e = let is : [] ≡ m = cc in subst (λ l. IsPermutation [] (map out_of (filter test l))) is (IsPermutation-refl [])
  permuted (r ∷ rs) m e =
      let t = told_more r rs m e in
      let ih = permuted rs t.rest t.told in
      let whole : IsPermutation (map out_of (filter test (t.pair ∷ t.rest))) (map out_of (filter test m)) =
      IsPermutation-map out_of _ _ (IsPermutation-filter test _ _ (subst (IsPermutation (t.pair ∷ t.rest)) (sym t.whole) (with_permutes t.rest t.pair.key t.pair.value t.fresh))) in
      let same = agree r t.pair t.is in
      let shown : output (from_query terms) (params ∷ r ∷ []) ≡ out_of t.pair = ap₂ (λ a b. (a ∷ [], a ∷ b ∷ [])) t.is.name t.is.value in
      elim (cases_Bool (test t.pair)) [
        | inl yes_it ↦
            let mine : outs (r ∷ rs) ≡ out_of t.pair ∷ outs rs = rw (same, yes_it) (ap (λ o. o ∷ outs rs) shown) in
            let theirs : map out_of (filter test (t.pair ∷ t.rest)) ≡ out_of t.pair ∷ map out_of (filter test t.rest) = rw yes_it refl in
            IsPermutation-trans _ _ _ (subst₂ IsPermutation (sym mine) (sym theirs) (IsPermutation-cons (out_of t.pair) _ _ ih)) whole
        | inr not_it ↦
            let mine : outs (r ∷ rs) ≡ outs rs = rw (same, not_it) refl in
            let theirs : map out_of (filter test (t.pair ∷ t.rest)) ≡ map out_of (filter test t.rest) = rw not_it refl in
            IsPermutation-trans _ _ _ (subst₂ IsPermutation (sym mine) (sym theirs) ih) whole
      ]

  out_below : (p q : Pair) → Below p q → output_cmp (from_query terms) (out_of p) (out_of q) ≡ Less
  out_below p q h = then-Equal (value_cmp (Text p.key) (Text q.key)) ∙ (value_cmp-Text p.key q.key ∙ h)

  -- the pairs of the map that pass, in their order
  pub answered : (db : Trees) (m : List Pair) (rows : List Row) → told_in (db 0) ≡ Some m → IsAnswer (from_query terms) (overlay db []) params rows → rows ≡ map shows (filter test m)
  answered db m rows told a =
      let kept : a.kept ≡ outs (db 0) = a.distinct ∙ ap (map (output (from_query terms))) a.grouped in
      let same : IsPermutation (map out_of (filter test m)) a.ordered =
      IsPermutation-trans _ _ _ (IsPermutation-sym _ _ (permuted (db 0) m told)) (subst (λ k. IsPermutation k a.ordered) kept a.same) in
      let strict : IsAscending (λ x y. output_cmp (from_query terms) x y ≡ Less) (map out_of (filter test m)) =
      ascending-map (λ x y. output_cmp (from_query terms) x y ≡ Less) out_of (filter test m)
      (ascending_weaker Below (λ p q. output_cmp (from_query terms) (out_of p) (out_of q) ≡ Less) out_below (filter test m) (ascending-filter Below test m (ascending m (told_rises (db 0) m told)))) in
      let ordered = sorted_unique (output_cmp (from_query terms)) (output_cmp_total (from_query terms)) _ a.ordered strict same a.sorted in
      a.shown ∙ (ap (map (λ (o : Output). o.1)) ordered ∙ map-map (λ (o : Output). o.1) out_of (filter test m))

-- ---- the tests of the two queries

true_of : (b : Bool) → is_true (from_truth (Some b)) ≡ b
true_of true = refl
true_of false = refl

texts_ge : (a b : List ℕ) → is_true (binary (Compare Ge Binary) (Text a) (Text b)) ≡ is_ge (key_cmp a b)
unfolding binary value_cmp lib.Ieee.is_nan lib.Ieee.lt
texts_ge a b = true_of (is_ge (key_cmp a b))

texts_lt : (a b : List ℕ) → is_true (binary (Compare Lt Binary) (Text a) (Text b)) ≡ is_lt (key_cmp a b)
unfolding binary value_cmp lib.Ieee.is_nan lib.Ieee.lt
texts_lt a b = true_of (is_lt (key_cmp a b))

abbrev pub is_from : List ℕ → Pair → Bool
is_from from p = is_ge (key_cmp p.key from) && true

abbrev pub is_between : List ℕ → List ℕ → Pair → Bool
is_between from end p = is_ge (key_cmp p.key from) && (is_lt (key_cmp p.key end) && true)

from_agrees : (from : List ℕ) (r : Row) (p : Pair) → IsPair r p → list_all (holds ((Text from ∷ []) ∷ r ∷ [])) (from_terms) ≡ is_from from p
from_agrees from r p is = ap (λ v. is_true (binary (Compare Ge Binary) v (Text from)) && true) is.name ∙ ap (λ b. b && true) (texts_ge p.key from)

between_agrees : (from end : List ℕ) (r : Row) (p : Pair) → IsPair r p → list_all (holds ((Text from ∷ Text end ∷ []) ∷ r ∷ [])) (between_terms) ≡ is_between from end p
between_agrees from end r p is =
    ap (λ v. is_true (binary (Compare Ge Binary) v (Text from)) && (is_true (binary (Compare Lt Binary) v (Text end)) && true)) is.name
    ∙ ap₂ (λ a b. a && (b && true)) (texts_ge p.key from) (texts_lt p.key end)

-- a test that lets each pair through that begins so leaves what is listed
still_listed : (test : Pair → Bool) (m : List Pair) (prefix : List ℕ) → ((p : Pair) → starts_with nat_eq p.key prefix ≡ true → test p ≡ true) → listed (filter test m) prefix ≡ listed m prefix
still_listed test m prefix lets = filter-filter (λ p. starts_with nat_eq p.key prefix) test lets m

pub from_shows : (db : Trees) (m : List Pair) (prefix : List ℕ) (rows : List Row) → told_in (db 0) ≡ Some m → IsAnswer (from_query from_terms) (overlay db []) (Text prefix ∷ []) rows → ShowsListed m prefix rows
from_shows db m prefix rows told a = (
  filter (is_from prefix) m,
  answered from_terms (Text prefix ∷ []) (is_from prefix) (from_agrees prefix) db m rows told a,
  still_listed (is_from prefix) m prefix (λ p h. and_from _ _ (from_prefix p.key prefix h) refl),
)

pub between_shows : (db : Trees) (m : List Pair) (prefix end : List ℕ) (rows : List Row) → ((n : List ℕ) → starts_with nat_eq n prefix ≡ true → key_cmp n end ≡ Less) → told_in (db 0) ≡ Some m
    → IsAnswer (from_query between_terms) (overlay db []) (Text prefix ∷ Text end ∷ []) rows → ShowsListed m prefix rows
between_shows db m prefix end rows above told a = (
  filter (is_between prefix end) m,
  answered between_terms (Text prefix ∷ Text end ∷ []) (is_between prefix end) (between_agrees prefix end) db m rows told a,
  still_listed (is_between prefix end) m prefix (λ p h. and_from _ _ (from_prefix p.key prefix h) (and_from _ _ (ap is_lt (above p.key h)) refl)),
)

-- ---- the rows in turn

pub next_shown : (ps : List Pair) (i : ℕ) (row : Row) → i < length (map shows ps) → row ≡ get_or (map shows ps) i row → (p : Pair) × (row ≡ shows p) × (drop i ps ≡ p ∷ drop (i + 1) ps)
next_shown [] i row low is = absurd (omega arith)
next_shown (p ∷ ps) zero row low is = (p, is, refl)
next_shown (p ∷ ps) (suc i) row low is =
    let next = next_shown ps i row (omega arith) is in
    (next.0, next.1, next.2 ∙ ap (λ l. next.0 ∷ l) (rw (add-one, add-one) refl))

pub listed_first : (p : Pair) (ps : List Pair) (prefix : List ℕ) → listed (p ∷ ps) prefix ≡ listed (p ∷ []) prefix ++ listed ps prefix
listed_first p ps prefix =
    elim (starts_with nat_eq p.key prefix) as (λ b. cond b (p ∷ listed ps prefix) (listed ps prefix) ≡ cond b (p ∷ []) [] ++ listed ps prefix) [ true ↦ refl | false ↦ refl ]
