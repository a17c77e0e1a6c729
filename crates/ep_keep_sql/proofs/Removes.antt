-- What the statement that removes a key does.
use Rattle.std.proofs.Common.{◌≡◌, ◌∙◌, ◌⊎◌, inl, inr, ℕ, ℤ, List, [], ◌∷◌, filter, Bool, true, false, not, cond, refl, sym, ap, subst, Some, None, Ok, Err, Result}
use Rattle.std.proofs.lemmas.Bool.{and_parts, and_from, cases_Bool}
use Rattle.sqlite.specs.declared.types.Value.TheVariants.{Null, Text}
use Rattle.sqlite_value.specs.Order.{Row}
use Rattle.sqlite.specs.Query.{IsAnswer}
use Rattle.sqlite.specs.Program.{overlay}
use Rattle.sqlite_trees.specs.Tree.{Trees, rowid}
use Rattle.sqlite_rules.specs.Lists.{Has}
use Rattle.sqlite_rules.specs.Edit.{Edit, edit_of, id_in, without_all}
use Rattle.sqlite_rules.specs.Calls.{ids_of}
use Rattle.sqlite_rules.specs.Probe.{AreFound}
use Rattle.sqlite_rules.specs.declared.error.Rowids.TheVariants.{Given}
use Rattle.sqlite_rules.proofs.ProbeLemmas.{found_rowids, has_mapped, mapped_has, rowid_query}
use Rattle.sqlite.specs.Command.TheVariants.{Delete}
use Rattle.sqlite.specs.declared.error.Error.{Error}
use Rattle.sqlite.specs.Does.{Tally, Does}
use Rattle.sqlite.specs.Effect.{Database}
use Rattle.sqlite.specs.Rows.{Written}
use Rattle.sqlite.specs.State.{State, Executes, mode_of}
use Rattle.sqlite.specs.Listing.{understood}
use Rattle.sqlite.proofs.Callers.{one_step, runs_as, statement_of}
use Rattle.ep_outside.specs.declared.keeper.Pair.{Pair}
use Rattle.ep_outside.specs.Kept.{without}
use Rattle.ep_keep_sql.specs.KeptTable.{kept, kept_schema}
use Rattle.ep_keep_sql.specs.Told.{are_numbered, map_in, told_in, Holds}
use Rattle.ep_keep_sql.proofs.Get.{passes}
use Rattle.ep_keep_sql.proofs.Make.{went, same_value}
use Rattle.ep_keep_sql.proofs.Rows.{AreIdsOf, IsNumbered, left_by_test, numbered, numbered_from, numbered_filter}
use Rattle.ep_keep_sql.proofs.Texts.{remove_is, remove_plain, remove_query, remove_text}
use Rattle.ep_keep_sql.proofs.Without.{rows_but, told_without}

-- the rows tell a map: they are a table's, and their pairs are its
pub record Tells (rows : List Row) (m : List Pair) : Type 0 where
  pub ordered : IsNumbered rows
  pub told : told_in rows ≡ Some m

pub tells : (rows : List Row) (m : List Pair) → map_in rows ≡ Some m → Tells rows m
tells rows m e = go (are_numbered rows) refl e
  where
    go : (b : Bool) → are_numbered rows ≡ b → cond b (told_in rows) None ≡ Some m → Tells rows m
    go true is e = record { ordered = numbered rows is; told = e }
    go false is e = absurd (let bad : None ≡ Some m = e in cc)

pub tells_from : (rows : List Row) (m : List Pair) → Tells rows m → map_in rows ≡ Some m
tells_from rows m t = rw (numbered_from rows t.ordered) t.told

pub but_filter : (key : List ℕ) (rows : List Row) → rows_but key rows ≡ filter (λ r. not (passes key r)) rows
but_filter key [] = refl
but_filter key (r ∷ rs) =
    elim (passes key r) as (λ b. cond b (rows_but key rs) (r ∷ rows_but key rs) ≡ cond (not b) (r ∷ filter (λ s. not (passes key s)) rs) (filter (λ s. not (passes key s)) rs)) [
      | true ↦ but_filter key rs
      | false ↦ ap (λ l. r ∷ l) (but_filter key rs)
    ]

-- the rows without those of a key tell the map without it
pub tells_without : (rows : List Row) (m : List Pair) (key : List ℕ) (ids : List ℤ) → Tells rows m → AreIdsOf (passes key) rows ids → Tells (without_all rows ids) (without m key)
tells_without rows m key ids t are =
    let left : without_all rows ids ≡ filter (λ r. not (passes key r)) rows = left_by_test (passes key) rows ids t.ordered are in
    record {
      ordered = subst IsNumbered (sym left) (numbered_filter (λ r. not (passes key r)) rows t.ordered);
      told = ap told_in (left ∙ sym (but_filter key rows)) ∙ told_without rows m key t.told;
    }

ids_found : (test : Row → Bool) (rows found : List Row) → ((x : Row) → Has found x → (r : Row) × Has rows r × (test r ≡ true) × (x ≡ rowid r ∷ []))
    → ((r : Row) → Has rows r → test r ≡ true → Has found (rowid r ∷ [])) → AreIdsOf test rows (ids_of found)
ids_found test rows found sound complete = record {
  sound = λ id h.
      let x = has_mapped (λ r. id_in (rowid r)) found id h in
      let r = sound x.0 x.1 in
      (r.0, r.1, r.2, x.2 ∙ ap (λ y. id_in (rowid y)) r.3);
  complete = λ r h yes_it. mapped_has (λ s. id_in (rowid s)) found (rowid r ∷ []) (complete r h yes_it);
}

removed_ids : (db : Trees) (key : List ℕ) (found : List Row) → IsAnswer remove_query (overlay db []) (Text key ∷ []) found → AreIdsOf (passes key) (db 0) (ids_of found)
removed_ids db key found a =
    let plainly : IsAnswer (rowid_query 0 remove_query.filter) (overlay db []) (Text key ∷ []) found =
    record { staged = a.staged; grouped = a.grouped; kept = a.kept; distinct = a.distinct; ordered = a.ordered; same = a.same; sorted = a.sorted; shown = a.shown } in
    let are : AreFound remove_query.filter (db 0) (Text key ∷ []) found = found_rowids 0 remove_query.filter (overlay db []) (Text key ∷ []) found plainly in
    ids_found (passes key) (db 0) found
    (λ x h. let r = are.sound x h in (r.0, r.1, (and_parts _ _ r.2).0, r.3))
    (λ r h yes_it. are.complete r h (and_from _ _ yes_it refl))

pub removes : (old new : State) (key : List ℕ) (m : List Pair) (count : ℕ) → Holds old.now m → Executes remove_text (Text key ∷ []) old new (Ok count) → Holds new.now (without m key)
removes old new key m count holds h =
    let params = Text key ∷ [] in
    let db = old.now.trees in
    let command = Delete 0 (record { lets = []; body = remove_query }) in
    let w = runs_as remove_text params old new kept_schema holds.schema command remove_is remove_plain count h in
    let text = statement_of remove_text (understood kept_schema remove_text) in
    let done = went (subst (λ s. Does old.step_limit (mode_of old) params (record old.now { schema = s }) text None command (Ok (w.tally, new.now))) holds.schema w.changed) in
    let now = ap (λ (p : Tally × Database). p.1) (same_value (went (went done.2).2).2) in
    let given = went done.1 in
    let edit = edit_of db kept (ids_of given.0) Given 0 [] in
    let written = went given.2 in
    let trees : done.0.trees ≡ written.0 = ap (λ (it : Written). it.trees) (same_value written.2) in
    let rows = (one_step kept_schema _ db written.0 edit refl written.1).rows in
    let are = removed_ids db key given.0 (given.1.answer Null) in
    let left = tells_without (db 0) m key (ids_of given.0) (tells (db 0) m holds.rows) are in
    let is : new.now.trees 0 ≡ without_all (db 0) (ids_of given.0) = ap (λ (d : Database). d.trees 0) now ∙ (ap (λ (t : Trees). t 0) trees ∙ rows) in
    record {
      schema = ap (λ (d : Database). d.schema) now;
      rows = ap map_in is ∙ tells_from _ _ left;
    }
