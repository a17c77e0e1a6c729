-- A record that is kept or not, and the machine's state then.
use Rattle.std.proofs.Common.{◌≡◌, ◌⊎◌, inl, inr, ℕ, ◌≤◌, Bool, true, false, true≢false, List, [], ◌∷◌, ◌++◌, Option, Some, None, refl, sym, ◌∙◌, subst, arith}
use Rattle.ep_outside.specs.Disk.{Contents, KeepsMarks}
use Rattle.ep_outside.specs.Moments.{LeavesOnly}
use Rattle.ep_outside.proofs.Moments.{weaker}
use Rattle.ep_history.specs.Pad.{PadState}
use Rattle.ep_history.specs.Machine.{MachineState, closed, journal_fault}
use Rattle.ep_history.specs.declared.pad_bad.PadBad.{PadBad}
use Rattle.ep_history.specs.declared.pad_bad.PadBad.TheVariants.{NoMemory, Store}
use Rattle.ep_history.specs.declared.record.Record.{Record}
use Rattle.ep_pad_file.specs.Standing.{size, Holds, IsOldOrMore, MayHold, StandsFor}
use Rattle.ep_pad_state.specs.Held.{IsPad}
use Rattle.ep_pad.specs.Crashes.{Comes, MayRemain}
use Rattle.ep_pad.specs.Held.{Held}
use Rattle.ep_pad.specs.Keeping.{IsKept, IsNotKept}
use Rattle.ep_pad.specs.Keeping.IsNotKept.{Lacks, IsFull, Fails}
use Rattle.ep_pad.specs.Opening.{HasRisenTo}
use Rattle.ep_pad.specs.Standing.{Stands}
use Rattle.ep_pad.proofs.Crashing.{first-all, first-more, remains-appended}
use Rattle.ep_pad.proofs.Steps.{with_faults}
use Rattle.ep_pad.proofs.Waking.{risen-from}

module _ {D : Type 0} (told_by : D → Option Contents) (failures moment : D → ℕ) (since : D → ℕ → List ℕ → Type 0) (is_steady stops_alone : D → Bool) (left : D → Option ℕ) where
  -- a machine that is open still
  open-still : (st : MachineState) (m : Held D) (records : List Record) (p : PadState) → st.is_open ≡ true → m.is_open ≡ true → st.pending ≡ [] → p.limits ≡ m.limits
      → Holds (told_by m.disk) records → IsPad m.pad p → Stands told_by failures m (record st { records = records; pad = p; faults = failures m.disk })
  open-still st m records p was on none limits holds is = record {
    is_open = was ∙ sym on;
    limits = limits;
    faults = refl;
    open_has = λ _. record { holds = holds; pad = is; settled = none };
    closed_has = λ off. absurd (true≢false (sym on ∙ off));
  }

  -- its record was not made ready
  pub not-prepared : (st : MachineState) (old new : Held D) (r : Record) (bad : PadBad) (fault : Option PadBad) → Stands told_by failures old st → old.is_open ≡ true → new.is_open ≡ true
      → new.limits ≡ old.limits → new.pad ≡ old.pad → told_by new.disk ≡ told_by old.disk → failures new.disk ≡ failures old.disk
      → (Holds (told_by old.disk) st.records → fault ≡ journal_fault size st r) → (bad ≡ NoMemory) ⊎ (fault ≡ Some bad)
      → LeavesOnly moment since old.disk new.disk (StandsFor st.records) → KeepsMarks is_steady stops_alone left old.disk new.disk
      → (next : MachineState) × IsNotKept st r bad next × Comes told_by failures moment since is_steady stops_alone left old st new next
  not-prepared st old new r bad fault s on still limits pad same count machine why run marks = (
    with_faults st (failures new.disk),
    go why,
    (stands, weaker moment since old.disk new.disk (StandsFor st.records) (MayRemain st (with_faults st (failures new.disk))) (λ image h. inl (inl h)) run, marks),
  )
    where
      few : st.faults ≤ failures new.disk
      few = let a = s.faults in omega (arith, a, count)

      holds : Holds (told_by old.disk) st.records
      holds = let o = s.open_has on in o.holds

      go : (bad ≡ NoMemory) ⊎ (fault ≡ Some bad) → IsNotKept st r bad (with_faults st (failures new.disk))
      go (inl lacks) = Lacks lacks (refl, few)
      go (inr full) = IsFull (sym (machine holds) ∙ full) (refl, few)

      stands : Stands told_by failures new (with_faults st (failures new.disk))
      stands =
          let o = s.open_has on in
          open-still st new st.records st.pad (s.is_open ∙ on) still o.settled (s.limits ∙ sym limits) (subst (λ t. Holds t st.records) (sym same) holds)
          (subst (λ k. IsPad k st.pad) (sym pad) o.pad)

  -- the store failed at it
  pub store-failed : (st : MachineState) (old new : Held D) (r : Record) (bad : PadBad) (fault : Option PadBad) (before : ℕ) → Stands told_by failures old st → new.is_open ≡ false
      → new.limits ≡ old.limits → before ≡ failures old.disk → before ≤ failures new.disk → fault ≡ journal_fault size st r → fault ≡ None
      → (n : ℕ) × (bad ≡ Store n) × HasRisenTo before (failures new.disk) n → MayHold (told_by new.disk) st.records (r ∷ [])
      → LeavesOnly moment since old.disk new.disk (IsOldOrMore st.records (r ∷ [])) → KeepsMarks is_steady stops_alone left old.disk new.disk
      → (next : MachineState) × IsNotKept st r bad next × Comes told_by failures moment since is_steady stops_alone left old st new next
  store-failed st old new r bad fault before s off limits count later machine fits why may run marks = (
    with_faults (closed r st) (failures new.disk),
    Fails why.0 why.1 (sym machine ∙ fits) (why.2.is, risen-from st.faults before why.0 (let a = s.faults in omega (arith, a, count)) why.2.risen)
        (refl, let a = s.faults in omega (arith, a, count, later)),
    (
      record {
        is_open = sym off;
        limits = s.limits ∙ sym limits;
        faults = refl;
        open_has = λ on. absurd (true≢false (sym on ∙ off));
        closed_has = λ _. may;
      },
      weaker moment since old.disk new.disk (IsOldOrMore st.records (r ∷ [])) (MayRemain st (with_faults (closed r st) (failures new.disk)))
          (λ image h. remains-appended st (with_faults (closed r st) (failures new.disk)) st.records (r ∷ []) image (first-all st.records) (first-all (st.records ++ r ∷ [])) h) run,
      marks,
    ),
  )

  -- it is kept, and its change is made
  pub is-kept : (st : MachineState) (old new : Held D) (r : Record) (p : PadState) (fault : Option PadBad) → Stands told_by failures old st → old.is_open ≡ true → new.is_open ≡ true
      → new.limits ≡ old.limits → failures old.disk ≤ failures new.disk → fault ≡ journal_fault size st r → fault ≡ None
      → Holds (told_by new.disk) (st.records ++ r ∷ []) → IsPad new.pad p → p.limits ≡ st.pad.limits
      → LeavesOnly moment since old.disk new.disk (IsOldOrMore st.records (r ∷ [])) → KeepsMarks is_steady stops_alone left old.disk new.disk
      → (next : MachineState) × IsKept st r p next × Comes told_by failures moment since is_steady stops_alone left old st new next
  is-kept st old new r p fault s on still limits later machine fits holds is same run marks =
      let a = s.faults in
      let o = s.open_has on in
      let next : MachineState = record st { records = st.records ++ r ∷ []; pad = p; faults = failures new.disk } in (
        next,
        (sym machine ∙ fits, (refl, omega (arith, a, later))),
        (
          open-still st new (st.records ++ r ∷ []) p (s.is_open ∙ on) still o.settled (same ∙ s.limits ∙ sym limits) holds is,
          weaker moment since old.disk new.disk (IsOldOrMore st.records (r ∷ [])) (MayRemain st next)
              (λ image h. remains-appended st next st.records (r ∷ []) image (first-all st.records) (first-more (st.records ++ r ∷ []) st.pending) h) run,
          marks,
        ),
      )
