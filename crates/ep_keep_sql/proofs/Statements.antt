-- What the statement of a reading does.
use Rattle.std.proofs.Common.{◌≡◌, ◌∙◌, inl, inr, ℕ, List, [], ◌∷◌, append-nil, sym, ap, subst, Option, Some, None, Ok, Err, Result, IfOk, IfErr}
use Rattle.sqlite.specs.declared.types.Value.TheVariants.{Null, Text}
use Rattle.sqlite.specs.Order.{Row, column}
use Rattle.sqlite.specs.Program.{overlay}
use Rattle.sqlite.specs.declared.error.Error.{Error}
use Rattle.sqlite_schema.specs.declared.command.Returning.{Returning}
use Rattle.sqlite.specs.declared.error.Error.TheVariants.{QueryReturnedNoRows}
use Rattle.sqlite.specs.Listing.{understood}
use Rattle.sqlite.specs.State.{State, Fails, FailsToQuery, FailsToShow, IsNoStatement, IsNotRun, IsUnchanged, QueriesRow, RunsCommand, Shown, store_error}
use Rattle.sqlite.specs.Effect.{Database, RefusesQuery, RefusesToRead}
use Rattle.sqlite.specs.Clock.{timed}
use Rattle.sqlite_schema.specs.declared.program.Program.{Program}
use Rattle.sqlite_trees.specs.declared.error.StoreError.{StoreError}
use Rattle.sqlite_trees.specs.declared.error.StoreError.TheVariants as store
use Rattle.sqlite.proofs.Callers.{IsPlain, command_of, first_as, reads_as}
use Rattle.ep_outside.specs.declared.keeper.Pair.{Pair}
use Rattle.ep_outside.specs.Kept.{value_at}
use Rattle.ep_keep_sql.specs.KeptTable.{kept_schema}
use Rattle.ep_keep_sql.specs.Inside.{Finds, IsSettled, Rests}
use Rattle.ep_keep_sql.specs.Told.{Holds, told_in}
use Rattle.ep_keep_sql.proofs.Removes.{tells}
use Rattle.ep_keep_sql.proofs.Texts.{get_is, get_listing, get_plain, get_query, get_text}
use Rattle.ep_keep_sql.proofs.Get.{Finds as Found, answer_finds, answer_none}

pub finds_some : (old new : State) (key : List ℕ) (row : Row) (m : List Pair) → old.now.schema ≡ kept_schema → told_in (old.now.trees 0) ≡ Some m
    → QueriesRow get_text (Text key ∷ []) old new (Ok row) → Found m key row
finds_some old new key row m has told h =
    let got = (first_as get_text (Text key ∷ []) old new kept_schema has _ get_is get_plain get_listing row h).1 in
    answer_finds (overlay old.now.trees []) m key row got.0 told (got.1 Null)

-- a query changes nothing
pub shown_same : (sql : List ℕ) → IsPlain (understood kept_schema sql) → (old new : State) (params : Row) (rows : List Row) → old.now.schema ≡ kept_schema → Shown sql params old new rows → IsUnchanged old new
unfolding Shown
shown_same sql plain old new params rows has h =
    let known = sym h.1.is ∙ ap (λ s. understood s sql) has in
    let bare = subst IsPlain (sym known) plain in
    let it = rw (bare.0, bare.1, append-nil params) at h.2 in
    it.3

pub stays_as_read : (old new : State) (params : Row) (row : Row) → old.now.schema ≡ kept_schema → QueriesRow get_text params old new (Ok row) → IsUnchanged old new
unfolding QueriesRow
stays_as_read old new params row has (inl h) = h.1
stays_as_read old new params row has (inr h) = shown_same get_text get_plain old new params h.0 has h.1

pub no_store_error : (cause : StoreError) → QueryReturnedNoRows ≡ store_error cause → ⊥
no_store_error store.OutOfMemory e = cc
no_store_error store.Io e = cc
no_store_error store.Corrupt e = cc
no_store_error store.Full e = cc
no_store_error store.Broken e = cc
no_store_error store.Unstorable e = cc

no_statement_error : (s : State) (sql : List ℕ) (params : Row) → IsNoStatement s sql params QueryReturnedNoRows → ⊥
no_statement_error s sql params (inl h) = let bad = h.2 in cc
no_statement_error s sql params (inr h) =
    elim h.2 [
      | inl a ↦ let bad = a.1 in cc
      | inr (inl a) ↦ let bad = a.1 in cc
      | inr (inr a) ↦ let bad = a.1 in cc
    ]

no_query_error : (limit : Option ℕ) (db : Database) (p : Program) (params : Row) → RefusesQuery limit db p params QueryReturnedNoRows → ⊥
no_query_error limit db p params (inl a) = let bad = a.0 in cc
no_query_error limit db p params (inr (inl a)) = let bad = a.0 in cc
no_query_error limit db p params (inr (inr a)) = let bad = a.0 in cc

no_failure : (old new : State) (params : Row) → old.now.schema ≡ kept_schema → FailsToQuery get_text params old new QueryReturnedNoRows → ⊥
unfolding FailsToQuery IsNotRun
no_failure old new params has (inl (inl h)) = no_statement_error old get_text params h.0
no_failure old new params has (inl (inr h)) = no_store_error h.0 h.1
no_failure old new params has (inr h) =
    let known = sym h.1.is ∙ ap (λ s. understood s get_text) has in
    let bare = subst IsPlain (sym known) get_plain in
    let it = rw bare.0 at h.2 in
    let command = ap command_of known ∙ get_is in
    no_query_error old.step_limit it.0 (record { lets = []; body = get_query }) (timed params h.0.formats h.1.now) (subst (λ k. RefusesToRead old.step_limit k it.0 (timed params h.0.formats h.1.now) QueryReturnedNoRows) command it.2)

pub finds_none : (old new : State) (key : List ℕ) (m : List Pair) → old.now.schema ≡ kept_schema → told_in (old.now.trees 0) ≡ Some m
    → QueriesRow get_text (Text key ∷ []) old new (Err QueryReturnedNoRows) → value_at m key ≡ None
unfolding QueriesRow
finds_none old new key m has told (inl h) = absurd (no_failure old new (Text key ∷ []) has h)
finds_none old new key m has told (inr h) =
    let reads = reads_as get_text (Text key ∷ []) old new kept_schema has _ get_is get_plain get_listing [] h.1 in
    answer_none (overlay old.now.trees []) m key told (reads.answer Null)

pub stays_as_none : (old new : State) (params : Row) → old.now.schema ≡ kept_schema → QueriesRow get_text params old new (Err QueryReturnedNoRows) → IsUnchanged old new
unfolding QueriesRow
stays_as_none old new params has (inl h) = absurd (no_failure old new params has h)
stays_as_none old new params has (inr h) = shown_same get_text get_plain old new params [] has h.1

pub text_shown : (row : Row) (v t : List ℕ) → row ≡ Text v ∷ [] → column row 0 ≡ Text t → t ≡ v
text_shown row v t shows is = let same : Text v ≡ Text t = sym (ap (λ r. column r 0) shows) ∙ is in cc

-- ---- what a refused query leaves

fails_rests : (old new : State) (e : Error) → Fails old new ⊥ e → IsSettled old → Rests old new
fails_rests old new e h settled clean is_open =
    let undone = h.3.undone is_open in
    (undone.0 ∙ sym (settled (h.3.was_open is_open)), undone.1)

unchanged_rests : (old new : State) → IsUnchanged old new → Rests old new
unchanged_rests old new h clean is_open = (h.0.now_is, h.0.committed_is)

pub failed_rests : (sql : List ℕ) (params : Row) (old new : State) (e : Error) → FailsToQuery sql params old new e → IsSettled old → Rests old new
unfolding FailsToQuery IsNotRun
failed_rests sql params old new e (inl (inl h)) settled = unchanged_rests old new h.1
failed_rests sql params old new e (inl (inr h)) settled = fails_rests old new e h settled
failed_rests sql params old new e (inr h) settled = go h.0.returning h.2
  where
    ran : (r : Result ℕ Error) → RunsCommand old new sql h.0 (timed params h.0.formats h.1.now) (Err e) → Rests old new
    ran r (inl k) = unchanged_rests old new k.1
    ran r (inr k) = λ clean is_open. let undone = k.3.undone is_open in (undone.0 ∙ sym (settled (k.3.was_open is_open)), undone.1)

    go : (r : Option Returning) → FailsToShow old new sql h.0 (timed params h.0.formats h.1.now) e r → Rests old new
    go None k = unchanged_rests old new k.3
    go (Some what) k = ran (Err e) k

pub row_rests : (old new : State) (params : Row) (r : Result Row Error) → old.now.schema ≡ kept_schema → IsSettled old → QueriesRow get_text params old new r → Rests old new
unfolding QueriesRow
row_rests old new params (Ok row) has settled (inl h) = unchanged_rests old new h.1
row_rests old new params (Ok row) has settled (inr h) = unchanged_rests old new (shown_same get_text get_plain old new params h.0 has h.1)
row_rests old new params (Err e) has settled (inl h) = failed_rests get_text params old new e h settled
row_rests old new params (Err e) has settled (inr h) = unchanged_rests old new (shown_same get_text get_plain old new params [] has h.1)

-- of a query that answers all rows at once
pub rows_rest : {X : Type 0} (items : X → List Row) (sql : List ℕ) → IsPlain (understood kept_schema sql) → (old new : State) (params : Row) (r : Result X Error) → old.now.schema ≡ kept_schema → IsSettled old
    → IfOk r (λ rows. Shown sql params old new (items rows)) → IfErr r (FailsToQuery sql params old new) → Rests old new
rows_rest items sql plain old new params (Ok rows) has settled ok err = unchanged_rests old new (shown_same sql plain old new params (items rows) has ok)
rows_rest items sql plain old new params (Err e) has settled ok err = failed_rests sql params old new e err settled

-- what the query of one key answers
pub finds : (old new : State) (key : List ℕ) (m : List Pair) (r : Result Row Error) → Holds old.now m → QueriesRow get_text (Text key ∷ []) old new r → Finds m key r
finds old new key m (Ok row) holds h = let found = finds_some old new key row m holds.schema (tells (old.now.trees 0) m holds.rows).told h in (found.value, found.shows, found.there)
finds old new key m (Err QueryReturnedNoRows) holds h = finds_none old new key m holds.schema (tells (old.now.trees 0) m holds.rows).told h
finds old new key m (Err e) holds h = tt
