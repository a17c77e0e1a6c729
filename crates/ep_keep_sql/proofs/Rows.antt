-- Tables of rows: their ids rise, and rows go in and out by their ids.
use Rattle.std.proofs.Common.{◌≡◌, ◌∙◌, inl, inr, ℤ, List, [], ◌∷◌, map, filter, Bool, true, false, cond, not, refl, sym, ap, true≢false}
use Rattle.std.specs.Prelude.{◌&&◌, ◌||◌}
use Rattle.std.specs.List.{AllByRecursion, list_all, list_any}
use Rattle.std.specs.Ordering.{is_eq, is_lt}
use Rattle.std.specs.declared.cmp.Ordering.{Ordering}
use Rattle.std.specs.declared.cmp.Ordering.TheVariants.{Less, Equal, Greater}
use Rattle.std.proofs.lemmas.Bool.{cases_Bool, and_parts, and_from, false_from_ne_true, both_ways}
use Rattle.std.proofs.lemmas.Cmp.{tied_itself, alike_right}
use Rattle.sqlite.specs.declared.types.Value.TheVariants.{Int}
use Rattle.sqlite_value.specs.Order.{Row, value_cmp}
use Rattle.sqlite_value.proofs.OrderLemmas.{value_cmp_total}
use Rattle.sqlite_trees.specs.View.{is_int}
use Rattle.sqlite_trees.specs.Tree.{rowid, has_rowid, without_rowid, IsTable, put_row}
use Rattle.sqlite_trees.proofs.TreeLemmas.{IsTable-put_row}
use Rattle.sqlite_trees.proofs.ListLemmas.{ascending-filter}
use Rattle.sqlite_rules.specs.Lists.{Has}
use Rattle.sqlite_rules.specs.Edit.{id_in, without_all, is_taken}
use Rattle.sqlite_rules.proofs.ListLemmas.{all_has, all_from, test_has, test_from, some_has, some_from, has_filtered}
use Rattle.sqlite_rules.proofs.PlaceLemmas.{tied_same}
use Rattle.sqlite_rules.proofs.TableLemmas.{int_is, put_has}
use Rattle.ep_keep_sql.specs.Told.{are_numbered}
use Rattle.ep_keep_sql.proofs.Get.{eq_is}

less_is : (o : Ordering) → is_lt o ≡ true → o ≡ Less
less_is Less h = refl
less_is Equal h = absurd (true≢false (sym h))
less_is Greater h = absurd (true≢false (sym h))

abbrev pub AreInts : List Row → Type 0
AreInts rows = (r : Row) → Has rows r → is_int (rowid r) ≡ true

-- what the test of the ids says
pub record IsNumbered (rows : List Row) : Type 0 where
  pub rising : IsTable rows
  pub ints : AreInts rows

pub numbered : (rows : List Row) → are_numbered rows ≡ true → IsNumbered rows
numbered [] e = record { rising = tt; ints = λ r h. absurd h }
numbered (r ∷ rs) e =
    let first = and_parts _ _ e in
    let head = and_parts _ _ first.0 in
    let rest = numbered rs first.1 in
    record {
      rising = (all_from _ rs (λ s h. less_is _ (test_has (λ t. is_lt (value_cmp (rowid r) (rowid t))) rs s head.1 h)), rest.rising);
      ints = λ s h. elim h [ inl same ↦ rw same head.0 | inr later ↦ rest.ints s later ];
    }

pub numbered_from : (rows : List Row) → IsNumbered rows → are_numbered rows ≡ true
numbered_from [] n = refl
numbered_from (r ∷ rs) n =
    let rest = numbered_from rs (record { rising = n.rising.1; ints = λ s h. n.ints s (inr h) }) in
    and_from _ _ (and_from _ _ (n.ints r (inl refl)) (test_from (λ t. is_lt (value_cmp (rowid r) (rowid t))) rs (λ s h. ap is_lt (all_has _ rs s n.rising.0 h)))) rest

pub numbered_put : (rows : List Row) (new : Row) → IsNumbered rows → is_int (rowid new) ≡ true → IsNumbered (put_row new rows)
numbered_put rows new n int = record {
  rising = IsTable-put_row new rows n.rising;
  ints = λ r h. elim (put_has new rows r h) [ inl same ↦ rw same int | inr was ↦ n.ints r was ];
}

pub numbered_filter : (p : Row → Bool) (rows : List Row) → IsNumbered rows → IsNumbered (filter p rows)
numbered_filter p rows n = record {
  rising = ascending-filter _ p rows n.rising;
  ints = λ r h. n.ints r (has_filtered p rows r h).0;
}

-- tests that agree on the rows leave the same
pub filter_same : {X : Type 0} (p q : X → Bool) (xs : List X) → ((x : X) → Has xs x → p x ≡ q x) → filter p xs ≡ filter q xs
filter_same p q [] h = refl
filter_same p q (x ∷ xs) h =
    let rest = filter_same p q xs (λ y k. h y (inr k)) in
    rw (h x (inl refl), rest)

filter_both : {X : Type 0} (p q : X → Bool) (xs : List X) → filter p (filter q xs) ≡ filter (λ x. q x && p x) xs
filter_both p q [] = refl
filter_both p q (x ∷ xs) =
    elim (q x) as (λ b. filter p (cond b (x ∷ filter q xs) (filter q xs)) ≡ cond (b && p x) (x ∷ filter (λ y. q y && p y) xs) (filter (λ y. q y && p y) xs)) [
      | true ↦ elim (p x) as (λ b. cond b (x ∷ filter p (filter q xs)) (filter p (filter q xs)) ≡ cond b (x ∷ filter (λ y. q y && p y) xs) (filter (λ y. q y && p y) xs)) [
        | true ↦ ap (λ l. x ∷ l) (filter_both p q xs)
        | false ↦ filter_both p q xs
      ]
      | false ↦ filter_both p q xs
    ]

filter_every : {X : Type 0} (xs : List X) → filter (λ x. true) xs ≡ xs
filter_every [] = refl
filter_every (x ∷ xs) = ap (λ l. x ∷ l) (filter_every xs)

neither : (a b : Bool) → (not a && not b) ≡ not (a || b)
neither true b = refl
neither false b = refl

-- a row is left where it has none of the ids
without_filter : (ids : List ℤ) (rows : List Row) → without_all rows ids ≡ filter (λ r. not (list_any (λ id. has_rowid id r) ids)) rows
without_filter [] rows = sym (filter_every rows)
without_filter (id ∷ ids) rows =
    without_filter ids (without_rowid id rows) ∙ (filter_both _ _ rows ∙ filter_same _ _ rows (λ r h. neither (has_rowid id r) (list_any (λ j. has_rowid j r) ids)))

-- The ids are those of the rows that pass a test.
pub record AreIdsOf (test : Row → Bool) (rows : List Row) (ids : List ℤ) : Type 0 where
  pub sound : (id : ℤ) → Has ids id → (r : Row) × Has rows r × (test r ≡ true) × (id ≡ id_in (rowid r))
  pub complete : (r : Row) → Has rows r → test r ≡ true → Has ids (id_in (rowid r))

-- so taking the ids out leaves the others
pub left_by_test : (test : Row → Bool) (rows : List Row) (ids : List ℤ) → IsNumbered rows → AreIdsOf test rows ids → without_all rows ids ≡ filter (λ r. not (test r)) rows
left_by_test test rows ids n are =
    without_filter ids rows ∙ filter_same _ _ rows (λ r h. ap not (elim (cases_Bool (test r)) [
      | inl yes_it ↦
          let there = some_from (λ id. has_rowid id r) ids (id_in (rowid r)) (are.complete r h yes_it) (has_own r (n.ints r h)) in
          there ∙ sym yes_it
      | inr not_it ↦ false_from_ne_true _ (λ any.
          let found = some_has (λ id. has_rowid id r) ids any in
          let from = are.sound found.0 found.1 in
          let same : r ≡ from.0 = tied_same rows r from.0 n.rising h from.1 (tie r from.0 found.0 (n.ints from.0 from.1) from.3 found.2) in
          let bad : true ≡ false = sym from.2 ∙ (ap test (sym same) ∙ not_it) in
          absurd (true≢false bad)) ∙ sym not_it
    ]))
  where
    has_own : (r : Row) → is_int (rowid r) ≡ true → has_rowid (id_in (rowid r)) r ≡ true
    has_own r int = ap is_eq (ap (λ v. value_cmp (rowid r) v) (sym (int_is (rowid r) int)) ∙ tied_itself value_cmp_total (rowid r))

    tie : (r s : Row) (id : ℤ) → is_int (rowid s) ≡ true → id ≡ id_in (rowid s) → has_rowid id r ≡ true → value_cmp (rowid r) (rowid s) ≡ Equal
    tie r s id int is has = ap (λ v. value_cmp (rowid r) v) (int_is (rowid s) int ∙ ap Int (sym is)) ∙ eq_is _ has
