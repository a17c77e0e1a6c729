-- What the statement that puts a value does.
use Rattle.std.proofs.Common.{◌≡◌, ◌∙◌, ◌⊎◌, inl, inr, ℕ, ℤ, List, [], ◌∷◌, map, flat_map, Bool, true, false, not, cond, refl, sym, ap, ap₂, subst, Option, Some, None, Ok, Err, Result, true≢false}
use Rattle.std.specs.Prelude.{◌&&◌, ◌||◌, MatchBool}
use Rattle.std.specs.List.{list_all}
use Rattle.std.specs.Ordering.{is_eq}
use Rattle.std.specs.declared.cmp.Ordering.TheVariants.{Equal}
use Rattle.std.proofs.lemmas.Bool.{and_parts, and_from, cases_Bool, false_from_ne_true, not-true}
use Rattle.std.proofs.lemmas.Map.Lookups.{exact_bytes}
use Rattle.std.specs.List.Sorted.{IsPermutation}
use Rattle.sqlite.specs.declared.types.Value.{Value}
use Rattle.sqlite.specs.declared.types.Value.TheVariants.{Null, Int, Text}
use Rattle.sqlite.specs.Kind.TheVariants.{Integer}
use Rattle.sqlite_value.specs.Order.{Row, column, value_cmp}
use Rattle.sqlite_value.proofs.KeyLemmas.{first_key-plain}
use Rattle.sqlite_value.proofs.OrderLemmas.{value_cmp_total}
use Rattle.std.proofs.lemmas.Cmp.{tied_itself}
use Rattle.std.specs.Cmp.Lexicographic.{nat_list_cmp_total}
use Rattle.sqlite.specs.Ops.{unary, binary, from_truth, is_true}
use Rattle.sqlite.specs.Term.{holds}
use Rattle.sqlite.specs.Query.{IsAnswer, Output, output}
use Rattle.sqlite.specs.Program.{overlay}
use Rattle.sqlite.specs.Cast.{cast, cast_row}
use Rattle.sqlite_trees.specs.Tree.{Trees, rowid, put_row, IsTable}
use Rattle.sqlite_rules.proofs.ListLemmas.{all_has}
use Rattle.sqlite_rules.proofs.TableLemmas.{int_is}
use Rattle.sqlite_schema.specs.declared.command.Upsert.{Upsert}
use Rattle.sqlite_trees.specs.View.{is_int}
use Rattle.sqlite_rules.specs.Lists.{Has}
use Rattle.sqlite_rules.specs.Edit.{Applies, Edit, edit_of, edited, id_in, is_taken, next_rowid, with_rowid, without_all}
use Rattle.sqlite_rules.specs.Keys.{AreConflicts, conflicts}
use Rattle.sqlite_rules.specs.Calls.{ids_of}
use Rattle.sqlite_rules.specs.Steps.{IsJudged}
use Rattle.sqlite_rules.specs.declared.error.Refusal.{Refusal}
use Rattle.sqlite_rules.specs.declared.error.Rowids.TheVariants.{Given, Chosen}
use Rattle.sqlite_rules.proofs.PlaceLemmas.{tied_same}
use Rattle.sqlite_sql.specs.declared.ops.BinaryOp.TheVariants.{Compare}
use Rattle.sqlite_sql.specs.declared.ops.CompareOp.TheVariants.{Eq}
use Rattle.sqlite.specs.Collation.TheVariants.{Binary}
use Rattle.sqlite_schema.specs.declared.schema.Keys.TheVariants.{Enforced}
use Rattle.sqlite_schema.specs.declared.command.Conflict.TheVariants.{Abort}
use Rattle.sqlite.specs.Command.TheVariants.{InsertOr}
use Rattle.sqlite.specs.declared.error.Error.{Error}
use Rattle.sqlite.specs.Does.{Tally, Does}
use Rattle.sqlite.specs.Effect.{Database}
use Rattle.sqlite.specs.Rows.{Clears, Judged, Meets, Puts, Task, Tries, TriesEach, Updates, Upserts, Written, count_of, mended, nothing, rowids_for}
use Rattle.sqlite.specs.State.{State, Executes, mode_of}
use Rattle.sqlite.specs.Listing.{understood}
use Rattle.sqlite.proofs.Callers.{one_permutation, one_step, runs_as, statement_of}
use Rattle.ep_outside.specs.declared.keeper.Pair.{Pair}
use Rattle.ep_outside.specs.Kept.{key_cmp, value_at, with, without}
use Rattle.ep_keep_sql.specs.KeptTable.{index, kept, kept_schema}
use Rattle.ep_keep_sql.specs.Told.{map_in, told_in, Holds}
use Rattle.ep_keep_sql.proofs.Again.{none_after, with_after}
use Rattle.ep_keep_sql.proofs.Get.{IsPair, passes, passes_pair, told_more, eq_is, turned_other}
use Rattle.ep_keep_sql.proofs.Make.{went, same_value}
use Rattle.ep_keep_sql.proofs.Put.{told_put}
use Rattle.ep_keep_sql.proofs.Removes.{Tells, tells, tells_from, tells_without}
use Rattle.ep_keep_sql.proofs.Rows.{AreIdsOf, IsNumbered, numbered_put}
use Rattle.ep_keep_sql.proofs.Texts.{put_clause, put_is, put_plain, put_source, put_text, update_query}
use Rattle.ep_keep_sql.proofs.With.{put_elsewhere, put_there}
use Rattle.ep_keep_sql.proofs.Without.{told_rises}

and_true : (b : Bool) → (b && true) ≡ b
and_true true = refl
and_true false = refl

-- ---- the new row

either : (b : Bool) (x : Value) → cond b x x ≡ x
either true x = refl
either false x = refl

cast_null : cast Integer Null ≡ Null
unfolding unary
cast_null = either _ Null

abbrev pub new_row : Trees → List ℕ → List ℕ → Row
new_row db key value = Int (next_rowid (db 0)) ∷ Text key ∷ Text value ∷ []

new_is : (db : Trees) (key value : List ℕ) (top : ℤ) → with_rowid (rowids_for kept top) (db 0) (cast_row kept (mended Abort kept (Null ∷ Text key ∷ Text value ∷ []))) ≡ new_row db key value
new_is db key value top = rw cast_null refl

-- ---- the rows that it meets

alone : (b : Bool) → ((b && true) || false) ≡ b
alone true = refl
alone false = refl

meets : (db : Trees) (key value : List ℕ) (r : Row) → conflicts (Some (1 ∷ [])) (index ∷ []) kept (new_row db key value) r ≡ passes key r
meets db key value r = rw first_key-plain (alone (passes key r))

none_passes : (rows : List Row) (m : List Pair) (key : List ℕ) → told_in rows ≡ Some m → ((r : Row) → Has rows r → passes key r ≡ false) → value_at m key ≡ None
none_passes [] m key e none = let is : [] ≡ m = cc in ap (λ x. value_at x key) (sym is)
none_passes (r ∷ rs) m key e none =
    let t = told_more r rs m e in
    let other : is_eq (key_cmp key t.pair.key) ≡ false = turned_other key t.pair.key (sym (passes_pair key r t.pair t.is) ∙ none r (inl refl)) in
    ap (λ x. value_at x key) t.whole ∙ (put_elsewhere t.rest key t.pair.key t.pair.value other ∙ none_passes rs t.rest key t.told (λ s h. none s (inr h)))

-- the pair of a row is in the map
pub record Stands (r : Row) (m : List Pair) : Type 0 where
  pub pair : Pair
  pub is : IsPair r pair
  pub there : value_at m pair.key ≡ Some pair.value

pub row_stands : (rows : List Row) (m : List Pair) (r : Row) → told_in rows ≡ Some m → Has rows r → Stands r m
row_stands [] m r e h = absurd h
row_stands (s ∷ rs) m r e (inl same) =
    let t = told_more s rs m e in
    record { pair = t.pair; is = subst (λ x. IsPair x t.pair) (sym same) t.is; there = ap (λ x. value_at x t.pair.key) t.whole ∙ put_there t.rest t.pair.key t.pair.key t.pair.value (itself t.pair.key) }
  where
    itself : (k : List ℕ) → key_cmp k k ≡ Equal
    itself k = tied_itself nat_list_cmp_total k
row_stands (s ∷ rs) m r e (inr later) =
    let t = told_more s rs m e in
    let st = row_stands rs t.rest r t.told later in
    let other : is_eq (key_cmp st.pair.key t.pair.key) ≡ false = false_from_ne_true _ (λ same.
    let key : st.pair.key ≡ t.pair.key = exact_bytes _ _ (eq_is _ same) in
    let bad : Some st.pair.value ≡ None = sym st.there ∙ (ap (value_at t.rest) key ∙ t.fresh) in
    cc) in
    record { pair = st.pair; is = st.is; there = ap (λ x. value_at x st.pair.key) t.whole ∙ (put_elsewhere t.rest st.pair.key t.pair.key t.pair.value other ∙ st.there) }

-- the row's name is the key where it passes
pub named : (key : List ℕ) (r : Row) (p : Pair) → IsPair r p → passes key r ≡ true → p.key ≡ key
named key r p is yes_it = exact_bytes _ _ (eq_is _ (sym (passes_pair key r p is) ∙ yes_it))

apart : (x : Row) (xs : List Row) (m : List Pair) (key : List ℕ) (s : Row) → told_in (x ∷ xs) ≡ Some m → Has xs s → passes key x ≡ true → passes key s ≡ true → ⊥
apart x xs m key s e h p q =
    let t = told_more x xs m e in
    let st = row_stands xs t.rest s t.told h in
    let same : st.pair.key ≡ t.pair.key = named key s st.pair st.is q ∙ sym (named key x t.pair t.is p) in
    let bad : Some st.pair.value ≡ None = sym st.there ∙ (ap (value_at t.rest) same ∙ t.fresh) in
    cc

-- no two rows have one key
one_passes : (rows : List Row) (m : List Pair) (key : List ℕ) (r s : Row) → told_in rows ≡ Some m → Has rows r → Has rows s → passes key r ≡ true → passes key s ≡ true → r ≡ s
one_passes [] m key r s e h k p q = absurd h
one_passes (x ∷ xs) m key r s e (inl h) (inl k) p q = h ∙ sym k
one_passes (x ∷ xs) m key r s e (inl h) (inr k) p q = absurd (apart x xs m key s e k (ap (passes key) (sym h) ∙ p) q)
one_passes (x ∷ xs) m key r s e (inr h) (inl k) p q = absurd (apart x xs m key r e h (ap (passes key) (sym k) ∙ q) p)
one_passes (x ∷ xs) m key r s e (inr h) (inr k) p q = one_passes xs (told_more x xs m e).rest key r s (told_more x xs m e).told h k p q

-- ---- a row goes in

stored_tells : (m : List Pair) (key value : List ℕ) (id : Value) (rows : List Row) → Tells rows m → value_at m key ≡ None → is_int id ≡ true → is_taken rows (id ∷ Text key ∷ Text value ∷ []) ≡ false
    → Tells (put_row (id ∷ Text key ∷ Text value ∷ []) rows) (with m key value)
stored_tells m key value id rows t fresh int free = record {
  ordered = numbered_put rows (id ∷ Text key ∷ Text value ∷ []) t.ordered int;
  told = told_put rows m (id ∷ Text key ∷ Text value ∷ []) (record { key = key; value = value }) t.told refl fresh free;
}

abbrev pub kept_task : Option ℕ → Row → Task
kept_task limit params = record { limit = limit; keys = Enforced; schema = kept_schema; table = kept; params = params }

put_new : (limit : Option ℕ) (params : Row) (db : Trees) (key value : List ℕ) (m : List Pair) (one : Written) → Tells (db 0) m → value_at m key ≡ None
    → Puts (kept_task limit params) (new_row db key value) db (Ok one) → Tells (one.trees 0) (with m key value)
put_new limit params db key value m one t fresh h =
    let put = went h in
    let edit = edit_of db kept [] Given 0 (new_row db key value ∷ []) in
    let applies = one_step kept_schema Enforced db put.0 edit refl put.1 in
    let trees : one.trees ≡ put.0 = ap (λ (it : Written). it.trees) (same_value put.2) in
    let is : one.trees 0 ≡ put_row (cast Integer (Int (next_rowid (db 0))) ∷ Text key ∷ Text value ∷ []) (db 0) = ap (λ (t : Trees). t 0) trees ∙ applies.rows in
    subst (λ rows. Tells rows (with m key value)) (sym is)
    (stored_tells m key value (cast Integer (Int (next_rowid (db 0)))) (db 0) t fresh (and_parts _ _ applies.keyed).0 (not-true _ (and_parts _ _ applies.fresh).0))

-- ---- a row is replaced

true_of : (b : Bool) → is_true (from_truth (Some b)) ≡ b
true_of true = refl
true_of false = refl

ids_pass : (a b : ℤ) → is_true (binary (Compare Eq Binary) (Int a) (Int b)) ≡ is_eq (value_cmp (Int a) (Int b))
unfolding binary
ids_pass a b = true_of (is_eq (value_cmp (Int a) (Int b)))

-- of a table's rows one alone is that row
one_selected : {Y : Type 0} (p : Row → Bool) (f : Row → Y) (rows : List Row) (r : Row) → IsTable rows → Has rows r → p r ≡ true → ((s : Row) → Has rows s → p s ≡ true → s ≡ r)
    → flat_map (λ s. cond (p s) (f s ∷ []) []) rows ≡ f r ∷ []
one_selected p f [] r up h yes_it only = absurd h
one_selected {Y} p f (x ∷ xs) r up (inl same) yes_it only =
    let none : flat_map (λ s. cond (p s) (f s ∷ []) []) xs ≡ [] = none_selected xs (λ s h. false_from_ne_true _ (λ also.
    let below = all_has _ xs s up.0 h in
    let is : s ≡ x = only s (inr h) also ∙ same in
    let bad = rw is at below in
    let tie = tied_itself value_cmp_total (rowid x) in
    cc)) in
    rw (← same, yes_it) (ap (λ l. f r ∷ l) none)
  where
    none_selected : (ys : List Row) → ((s : Row) → Has ys s → p s ≡ false) → flat_map (λ s. cond (p s) (f s ∷ []) []) ys ≡ []
    none_selected [] h = refl
    none_selected (y ∷ ys) h = rw (h y (inl refl)) (none_selected ys (λ s k. h s (inr k)))
one_selected p f (x ∷ xs) r up (inr later) yes_it only =
    let other : p x ≡ false = false_from_ne_true _ (λ also.
    let below = all_has _ xs r up.0 later in
    let is : x ≡ r = only x (inl refl) also in
    let bad = rw is at below in
    let tie = tied_itself value_cmp_total (rowid r) in
    cc) in
    rw other (one_selected p f xs r up.1 later yes_it (λ s h. only s (inr h)))

abbrev pub update_given : Trees → List ℕ → List ℕ → Value → Row
update_given db key value id = Text key ∷ Text value ∷ id ∷ Int (next_rowid (db 0)) ∷ Text key ∷ Text value ∷ []

update_answer : (db : Trees) (key value : List ℕ) (r : Row) (rows : List Row) → IsNumbered (db 0) → Has (db 0) r → IsAnswer update_query (overlay db []) (update_given db key value (rowid r)) rows
    → rows ≡ (rowid r ∷ rowid r ∷ column r 1 ∷ Text value ∷ []) ∷ []
update_answer db key value r rows n h a =
    let given = update_given db key value (rowid r) in
    let test : Row → Bool = λ s. list_all (holds (given ∷ s ∷ [])) update_query.filter in
    let o : Output = ([], rowid r ∷ rowid r ∷ column r 1 ∷ Text value ∷ []) in
    let tested : (s : Row) → Has (db 0) s → test s ≡ is_eq (value_cmp (rowid s) (rowid r)) = λ s k.
    ap (λ b. b && true) (ap₂ (λ v w. is_true (binary (Compare Eq Binary) v w)) (int_is (rowid s) (n.ints s k)) (int_is (rowid r) (n.ints r h)) ∙ ids_pass (id_in (rowid s)) (id_in (rowid r)))
    ∙ (and_true _ ∙ ap₂ (λ v w. is_eq (value_cmp v w)) (sym (int_is (rowid s) (n.ints s k))) (sym (int_is (rowid r) (n.ints r h)))) in
    let own : test r ≡ true = tested r h ∙ ap is_eq (tied_itself value_cmp_total (rowid r)) in
    let selected : flat_map (λ s. cond (test s) ((given ∷ s ∷ []) ∷ []) []) (db 0) ≡ (given ∷ r ∷ []) ∷ [] =
    one_selected test (λ s. given ∷ s ∷ []) (db 0) r n.rising h own (λ s k yes_it. tied_same (db 0) s r n.rising k h (eq_is _ (sym (tested s k) ∙ yes_it))) in
    let kept : a.kept ≡ o ∷ [] = a.distinct ∙ ap (map (output update_query)) (a.grouped ∙ selected) in
    let ordered = one_permutation o a.ordered (subst (λ k. IsPermutation k a.ordered) kept a.same) in
    a.shown ∙ ap (map (λ (p : Output). p.1)) ordered

put_over : (limit : Option ℕ) (params : Row) (db : Trees) (key value : List ℕ) (m : List Pair) (one : Written) (r : Row) → Tells (db 0) m → Has (db 0) r → passes key r ≡ true
    → Updates (kept_task limit params) (record { lets = []; body = update_query }) (update_given db key value (rowid r)) db (Ok one) → Tells (one.trees 0) (with m key value)
put_over limit params db key value m one r t there yes_it h =
    let found = went h in
    let st = row_stands (db 0) m r t.told there in
    let name : column r 1 ≡ Text key = st.is.name ∙ ap Text (named key r st.pair st.is yes_it) in
    let rows : found.0 ≡ (rowid r ∷ rowid r ∷ Text key ∷ Text value ∷ []) ∷ [] =
    update_answer db key value r found.0 t.ordered there (found.1.answer Null) ∙ ap (λ v. (rowid r ∷ rowid r ∷ v ∷ Text value ∷ []) ∷ []) name in
    let put = went found.2 in
    let edit = edit_of db kept (ids_of found.0) Given 1 found.0 in
    let applies = one_step kept_schema Enforced db put.0 edit refl put.1 in
    let known = subst (λ rs. Applies kept_schema Enforced db (edit_of db kept (ids_of rs) Given 1 rs) put.0) rows applies in
    let left = without_all (db 0) (id_in (rowid r) ∷ []) in
    let trees : one.trees ≡ put.0 = ap (λ (it : Written). it.trees) (same_value put.2) in
    let is : one.trees 0 ≡ put_row (cast Integer (rowid r) ∷ Text key ∷ Text value ∷ []) left = ap (λ (t : Trees). t 0) trees ∙ known.rows in
    let are : AreIdsOf (passes key) (db 0) (id_in (rowid r) ∷ []) = record {
      sound = λ id k. elim k [ inl same ↦ (r, there, yes_it, same) | inr none ↦ absurd none ];
      complete = λ s k passes_it. inl (ap (λ x. id_in (rowid x)) (one_passes (db 0) m key s r t.told k there passes_it yes_it));
    } in
    let gone : Tells left (without m key) = tells_without (db 0) m key (id_in (rowid r) ∷ []) t are in
    let rising = told_rises (db 0) m t.told in
    let stored = stored_tells (without m key) key value (cast Integer (rowid r)) left gone (none_after m key rising) (and_parts _ _ known.keyed).0 (not-true _ (and_parts _ _ known.fresh).0) in
    subst (λ rs. Tells rs (with m key value)) (sym is) (subst (Tells (put_row (cast Integer (rowid r) ∷ Text key ∷ Text value ∷ []) left)) (with_after m key value rising) stored)

-- ---- the statement

cleared : (limit : Option ℕ) (params new : Row) (db : Trees) (found : List Row) (one : Written) → Clears (kept_task limit params) Abort new db found (Ok one) → Puts (kept_task limit params) new db (Ok one)
cleared limit params new db [] one h = h
cleared limit params new db (x ∷ more) one h = h

judged : (limit : Option ℕ) (params new : Row) (db : Trees) (clauses : List Upsert) (verdict : Option Refusal) (one : Written)
    → Judged (kept_task limit params) Abort clauses new db verdict (Ok one) → Upserts (kept_task limit params) Abort new db clauses (Ok one)
judged limit params new db clauses None one h = h
judged limit params new db clauses (Some why) one h = absurd (let e = h in cc)

upserted : (limit : Option ℕ) (db : Trees) (key value : List ℕ) (m : List Pair) (one : Written) → Tells (db 0) m
    → Upserts (kept_task limit (Text key ∷ Text value ∷ [])) Abort (new_row db key value) db (put_clause ∷ []) (Ok one) → Tells (one.trees 0) (with m key value)
upserted limit db key value m one t h = go h.0 h.1 h.2
  where
    params : Row
    params = Text key ∷ Text value ∷ []

    go : (found : List Row) → AreConflicts (Some (1 ∷ [])) (index ∷ []) kept (db 0) (new_row db key value) found
        → Meets (kept_task limit params) (Upserts (kept_task limit params) Abort (new_row db key value) db []) (new_row db key value) db put_clause found (Ok one) → Tells (one.trees 0) (with m key value)
    go [] are h =
        let fresh = none_passes (db 0) m key t.told (λ r k. false_from_ne_true _ (λ yes_it. are.complete r k (meets db key value r ∙ yes_it))) in
        put_new limit params db key value m one t fresh (cleared limit params (new_row db key value) db h.0 one h.2)
    go (there ∷ more) are h =
        let r = are.sound there (inl refl) in
        let id : rowid there ≡ rowid r.0 = ap rowid r.3 in
        put_over limit params db key value m one r.0 t r.1 (sym (meets db key value r.0) ∙ r.2)
        (subst (λ v. Updates (kept_task limit params) (record { lets = []; body = update_query }) (update_given db key value v) db (Ok one)) id h)

tried : (limit : Option ℕ) (db : Trees) (key value : List ℕ) (m : List Pair) (one : Written) → Tells (db 0) m
    → Tries (kept_task limit (Text key ∷ Text value ∷ [])) Abort (put_clause ∷ []) (new_row db key value) db (Ok one) → Tells (one.trees 0) (with m key value)
tried limit db key value m one t (inl refused) = absurd (let e = refused.1 in cc)
tried limit db key value m one t (inr h) = upserted limit db key value m one t (judged limit (Text key ∷ Text value ∷ []) (new_row db key value) db (put_clause ∷ []) h.0 one h.2)

pub puts : (old new : State) (key value : List ℕ) (m : List Pair) (count : ℕ) → Holds old.now m → Executes put_text (Text key ∷ Text value ∷ []) old new (Ok count) → Holds new.now (with m key value)
puts old new key value m count holds h =
    let params = Text key ∷ Text value ∷ [] in
    let db = old.now.trees in
    let command = InsertOr 0 Abort put_source (put_clause ∷ []) in
    let w = runs_as put_text params old new kept_schema holds.schema command put_is put_plain count h in
    let text = statement_of put_text (understood kept_schema put_text) in
    let task = kept_task old.step_limit params in
    let done = went (subst (λ s. Does old.step_limit (mode_of old) params (record old.now { schema = s }) text None command (Ok (w.tally, new.now))) holds.schema w.changed) in
    let now = ap (λ (p : Tally × Database). p.1) (same_value (went (went done.2).2).2) in
    let given = went done.1 in
    let counted = went given.2 in
    let each = went counted.2 in
    let last = went each.2 in
    let source = Null ∷ Text key ∷ Text value ∷ [] in
    let one = went (subst (λ rows. TriesEach task Abort (put_clause ∷ []) rows (count_of counted.0) (nothing db) (Ok each.0)) given.1.1 each.1) in
    let single = subst (λ row. Tries task Abort (put_clause ∷ []) row db (Ok one.0)) (new_is db key value (count_of counted.0)) one.1 in
    let t = tried old.step_limit db key value m one.0 (tells (db 0) m holds.rows) single in
    let written : done.0.trees ≡ one.0.trees = ap (λ (it : Written). it.trees) (same_value last.2) ∙ (same_value last.1 ∙ ap (λ (p : Written × ℤ). p.0.trees) (same_value one.2)) in
    let is : new.now.trees 0 ≡ one.0.trees 0 = ap (λ (d : Database). d.trees 0) now ∙ ap (λ (t : Trees). t 0) written in
    record {
      schema = ap (λ (d : Database). d.schema) now;
      rows = ap map_in is ∙ tells_from _ _ t;
    }
