-- A statement of a transaction commits nothing.
use Rattle.std.proofs.Common.{◌∙◌, ◌≤◌, ◌+◌, ◌-◌, ◌^◌, ◌⊎◌, inl, inr, ℕ, List, Bool, true, refl, sym, true≢false, arith, Ok, Err, Result}
use Rattle.std.specs.Prelude.{IsTrue, OnOk, is_ok, min}
use Rattle.sqlite.specs.Order.{Row}
use Rattle.sqlite.specs.View.{doubt}
use Rattle.sqlite.specs.Disk.{MoreFaults}
use Rattle.sqlite.specs.declared.error.Error.{Error}
use Rattle.sqlite.specs.State.{State, Executes, ExecutesInside, HasCleanDisk, IsRolledBack, IsUnchanged, KeepsCommit}
use Rattle.ep_keep_sql.specs.Inside.{StepsInside}

unchanged_keeps : (old new : State) → IsUnchanged old new → KeepsCommit old new
unchanged_keeps old new same = record { was_open = λ _. same.0.was_open; committed = λ _. same.0.committed_is }

rolled_keeps : (old new : State) → IsRolledBack old new → KeepsCommit old new
rolled_keeps old new rolled = record { was_open = rolled.was_open; committed = λ o. (rolled.undone o).1 }

pub inside_keeps : (sql : List ℕ) (params : Row) (old new : State) (r : Result ℕ Error) → ExecutesInside 0 sql params old new r → KeepsCommit old new
inside_keeps sql params old new (Ok count) h = record { was_open = λ _. h.1.was_open; committed = λ _. h.1.committed_is }
inside_keeps sql params old new (Err e) (inl (ran, inl same)) = unchanged_keeps old new same
inside_keeps sql params old new (Err e) (inl (ran, inr rolled)) = rolled_keeps old new rolled
inside_keeps sql params old new (Err e) (inr h) = unchanged_keeps old new h.2

pub inside_goes_on : (sql : List ℕ) (params : Row) (old new : State) (count : ℕ) → ExecutesInside 0 sql params old new (Ok count) → IsTrue new.in_transaction
inside_goes_on sql params old new count h = h.1.mode

pub keeps_then : (a b c : State) → KeepsCommit a b → KeepsCommit b c → KeepsCommit a c
keeps_then a b c p q = record { was_open = λ o. p.was_open (q.was_open o); committed = λ o. q.committed o ∙ p.committed (q.was_open o) }

pub keeps_self : (a : State) → KeepsCommit a a
keeps_self a = record { was_open = λ o. o; committed = λ o. refl }

goes_on_where : (sql : List ℕ) (params : Row) (old new : State) (r : Result ℕ Error) → ExecutesInside 0 sql params old new r → IsTrue (is_ok r) → IsTrue new.in_transaction
goes_on_where sql params old new (Ok count) h went = inside_goes_on sql params old new count h
goes_on_where sql params old new (Err e) h went = absurd (true≢false (sym went))

pub steps_of : (sql : List ℕ) (params : Row) (old new : State) (r : Result ℕ Error) → doubt old.is_clean ≤ doubt new.is_clean → old.faults ≤ new.faults → (HasCleanDisk new → IsTrue old.is_open → IsTrue new.is_open ⊎ MoreFaults old.faults new.faults)
    → (HasCleanDisk new → IsTrue old.in_transaction → ExecutesInside 0 sql params old new r) → StepsInside old new (is_ok r)
steps_of sql params old new r clean counts closes runs = record {
  clean = clean;
  kept = λ c o. inside_keeps sql params old new r (runs c o);
  goes_on = λ c o went. goes_on_where sql params old new r (runs c o) went;
  counts = counts;
  closes = closes;
}

-- what the statement does holds of it inside a transaction
pub makes_of : {P : Type 0} (sql : List ℕ) (params : Row) (old new : State) (r : Result ℕ Error) → ExecutesInside 0 sql params old new r → ((count : ℕ) → Executes sql params old new (Ok count) → P) → OnOk r P
makes_of sql params old new (Ok count) h does = does count h.0
makes_of sql params old new (Err e) h does = tt

-- a fault that was counted between two moments was counted
more_before : (x y z : ℕ) → x ≤ y → MoreFaults y z → MoreFaults x z
more_before x y z low more = omega arith

more_behind : (x y z : ℕ) → MoreFaults x y → y ≤ z → MoreFaults x z
more_behind x y z more low = omega arith

-- what is open stays so through both, or a fault was counted
pub closes_then : (a b c : State) → a.faults ≤ b.faults → b.faults ≤ c.faults → (IsTrue a.is_open → IsTrue b.is_open ⊎ MoreFaults a.faults b.faults) → (IsTrue b.is_open → IsTrue c.is_open ⊎ MoreFaults b.faults c.faults)
    → IsTrue a.is_open → IsTrue c.is_open ⊎ MoreFaults a.faults c.faults
closes_then a b c low high first second is_open =
    elim (first is_open) [
      | inl still ↦ elim (second still) [ inl yes_it ↦ inl yes_it | inr more ↦ inr (more_before a.faults b.faults c.faults low more) ]
      | inr more ↦ inr (more_behind a.faults b.faults c.faults more high)
    ]

pub steps_then : (a b c : State) (went : Bool) → StepsInside a b true → StepsInside b c went → StepsInside a c went
steps_then a b c went p q = record {
  clean = omega (arith, p.clean, q.clean);
  kept = λ clean inside.
      let was : HasCleanDisk b = omega (arith, q.clean) in
      keeps_then a b c (p.kept was inside) (q.kept clean (p.goes_on was inside refl));
  goes_on = λ clean inside on.
      let was : HasCleanDisk b = omega (arith, q.clean) in
      q.goes_on clean (p.goes_on was inside refl) on;
  counts = omega (arith, p.counts, q.counts);
  closes = λ clean.
      let was : HasCleanDisk b = omega (arith, q.clean) in
      closes_then a b c p.counts q.counts (p.closes was) (q.closes clean);
}
