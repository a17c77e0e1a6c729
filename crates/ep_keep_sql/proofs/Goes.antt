-- What is open before a query, and behind one that was answered.
use Rattle.std.proofs.Common.{◌⊎◌, inl, inr, ℕ, List, [], Option, Some, None, Ok, Err, Result, IfOk, IfErr, OnOk, ◌≤◌}
use Rattle.std.specs.Prelude.{IsTrue}
use Rattle.sqlite.specs.Order.{Row}
use Rattle.sqlite.specs.View.{doubt}
use Rattle.sqlite.specs.Disk.{MoreFaults}
use Rattle.sqlite.specs.Clock.{timed}
use Rattle.sqlite.specs.declared.error.Error.{Error}
use Rattle.sqlite.specs.declared.error.Error.TheVariants.{QueryReturnedNoRows}
use Rattle.sqlite_schema.specs.declared.command.Returning.{Returning}
use Rattle.sqlite_resolve.specs.declared.compiled.Compiled.{Compiled}
use Rattle.sqlite.specs.State.{State, FailsToQuery, FailsToShow, HasCleanDisk, IsNotRun, QueriesRow, RunsCommand, Shown, ShowsRows}
use Rattle.ep_keep_sql.specs.Inside.{IsFound}
use Rattle.ep_keep_sql.specs.Keeps.{Goes}
use Rattle.ep_keep_sql.proofs.Statements.{no_store_error}

ran_open : (old new : State) (sql : List ℕ) (c : Compiled) (params : Row) (e : Error) → RunsCommand old new sql c params (Err e) → IsTrue new.is_open → IsTrue old.is_open
ran_open old new sql c params e (inl h) is_open = h.1.0.was_open
ran_open old new sql c params e (inr h) is_open = h.3.was_open is_open

failed_open : (sql : List ℕ) (params : Row) (old new : State) (e : Error) → FailsToQuery sql params old new e → IsTrue new.is_open → IsTrue old.is_open
unfolding FailsToQuery IsNotRun
failed_open sql params old new e (inl (inl h)) is_open = h.1.0.was_open
failed_open sql params old new e (inl (inr h)) is_open = h.3.was_open is_open
failed_open sql params old new e (inr h) is_open = go h.0.returning h.2
  where
    go : (r : Option Returning) → FailsToShow old new sql h.0 (timed params h.0.formats h.1.now) e r → IsTrue old.is_open
    go None k = k.3.0.was_open
    go (Some what) k = ran_open old new sql h.0 (timed params h.0.formats h.1.now) e k is_open

shown_open : (sql : List ℕ) (params : Row) (old new : State) (rows : List Row) → Shown sql params old new rows → IsTrue old.is_open
unfolding Shown
shown_open sql params old new rows h = go h.0.returning h.2
  where
    go : (r : Option Returning) → ShowsRows old new sql h.0 (timed params h.0.formats h.1.now) rows r → IsTrue old.is_open
    go None k = k.3.0.was_open
    go (Some what) k = k.1.shown.was_open

row_open : (sql : List ℕ) (params : Row) (old new : State) (r : Result Row Error) → QueriesRow sql params old new r → IsTrue new.is_open → IsTrue old.is_open
unfolding QueriesRow
row_open sql params old new (Ok row) (inl h) is_open = h.1.0.was_open
row_open sql params old new (Ok row) (inr h) is_open = shown_open sql params old new h.0 h.1
row_open sql params old new (Err e) (inl h) is_open = failed_open sql params old new e h is_open
row_open sql params old new (Err e) (inr h) is_open = shown_open sql params old new [] h.1

pub row_goes : (sql : List ℕ) (params : Row) (old new : State) (r : Result Row Error) → doubt old.is_clean ≤ doubt new.is_clean → old.faults ≤ new.faults → (HasCleanDisk new → IsTrue old.is_open → IsTrue new.is_open ⊎ MoreFaults old.faults new.faults)
    → (HasCleanDisk new → QueriesRow sql params old new r) → Goes old new
row_goes sql params old new r clean counts closes row = record { clean = clean; was_open = λ c is_open. row_open sql params old new r (row c) is_open; counts = counts; closes = closes }

pub rows_go : {X : Type 0} (items : X → List Row) (sql : List ℕ) (params : Row) (old new : State) (r : Result X Error) → doubt old.is_clean ≤ doubt new.is_clean → old.faults ≤ new.faults → (HasCleanDisk new → IsTrue old.is_open → IsTrue new.is_open ⊎ MoreFaults old.faults new.faults)
    → (HasCleanDisk new → IfOk r (λ rows. Shown sql params old new (items rows))) → (HasCleanDisk new → IfErr r (FailsToQuery sql params old new)) → Goes old new
rows_go {X} items sql params old new r clean counts closes ok err = record { clean = clean; was_open = λ c is_open. go r (ok c) (err c) is_open; counts = counts; closes = closes }
  where
    go : (s : Result X Error) → IfOk s (λ rows. Shown sql params old new (items rows)) → IfErr s (FailsToQuery sql params old new) → IsTrue new.is_open → IsTrue old.is_open
    go (Ok rows) h k is_open = shown_open sql params old new (items rows) h
    go (Err e) h k is_open = failed_open sql params old new e k is_open

-- ---- what was answered was answered by an open connection

shown_opens : (sql : List ℕ) (params : Row) (old new : State) (rows : List Row) → Shown sql params old new rows → IsTrue new.is_open
unfolding Shown
shown_opens sql params old new rows h = go h.0.returning h.2
  where
    go : (r : Option Returning) → ShowsRows old new sql h.0 (timed params h.0.formats h.1.now) rows r → IsTrue new.is_open
    go None k = k.3.0.is_open
    go (Some what) k = k.1.shown.is_open

-- no failure of the store says that there is no row
none_opens : (sql : List ℕ) (params : Row) (old new : State) → FailsToQuery sql params old new QueryReturnedNoRows → IsTrue new.is_open
unfolding FailsToQuery IsNotRun
none_opens sql params old new (inl (inl h)) = h.1.0.is_open
none_opens sql params old new (inl (inr h)) = absurd (no_store_error h.0 h.1)
none_opens sql params old new (inr h) = go h.0.returning h.2
  where
    ran : RunsCommand old new sql h.0 (timed params h.0.formats h.1.now) (Err QueryReturnedNoRows) → IsTrue new.is_open
    ran (inl k) = k.1.0.is_open
    ran (inr k) = absurd (no_store_error k.0 k.1)

    go : (r : Option Returning) → FailsToShow old new sql h.0 (timed params h.0.formats h.1.now) QueryReturnedNoRows r → IsTrue new.is_open
    go None k = k.3.0.is_open
    go (Some what) k = ran k

pub row_opens : (sql : List ℕ) (params : Row) (old new : State) (r : Result Row Error) → QueriesRow sql params old new r → IsFound r → IsTrue new.is_open
unfolding QueriesRow
row_opens sql params old new (Ok row) (inl h) found = h.1.0.is_open
row_opens sql params old new (Ok row) (inr h) found = shown_opens sql params old new h.0 h.1
row_opens sql params old new (Err QueryReturnedNoRows) (inl h) found = none_opens sql params old new h
row_opens sql params old new (Err QueryReturnedNoRows) (inr h) found = shown_opens sql params old new [] h.1
row_opens sql params old new (Err e) h found = absurd found

pub rows_open : {X : Type 0} (items : X → List Row) (sql : List ℕ) (params : Row) (old new : State) (r : Result X Error) → IfOk r (λ rows. Shown sql params old new (items rows)) → OnOk r (IsTrue new.is_open)
rows_open items sql params old new (Ok rows) h = shown_opens sql params old new (items rows) h
rows_open items sql params old new (Err e) h = tt
