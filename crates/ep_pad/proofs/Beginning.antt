-- Why a machine does not begin, and what it is then.
use Rattle.std.proofs.Common.{◌≡◌, ◌⊎◌, inl, inr, ℕ, ◌≤◌, List, [], ◌∷◌, Option, Some, None, sym, ◌∙◌, subst, arith}
use Rattle.ep_outside.specs.Disk.{Contents, IsImage}
use Rattle.ep_outside.specs.Moments.{LeavesOnly}
use Rattle.ep_outside.proofs.Moments.{joined, weaker}
use Rattle.ep_outside.specs.declared.limits.Limits.{Limits}
use Rattle.ep_history.specs.Records.{told}
use Rattle.ep_history.specs.Machine.{MachineState, journal_fault}
use Rattle.ep_history.specs.declared.pad_bad.PadBad.{PadBad}
use Rattle.ep_history.specs.declared.pad_bad.PadBad.TheVariants.{NoMemory, Store}
use Rattle.ep_history.specs.declared.record.Record.{Record}
use Rattle.ep_pad_file.specs.Standing.{size, IsOldOrMore, MayHold, StandsFor}
use Rattle.ep_pad.specs.Standing.{opening}
use Rattle.ep_pad.specs.Opening.{appended, HasRisenTo, IsReadFault, OpensWith, BeginsNot}
use Rattle.ep_pad.specs.Opening.IsReadFault.{Wants}
use Rattle.ep_pad.specs.Opening.IsCause.{IsUnread, IsFull, FailsAt}
use Rattle.ep_pad.proofs.Crashing.{image-stands}
use Rattle.ep_pad.proofs.Waking.{risen-from}

-- what a file says of the opening's record, of each machine with these records
pub opens-with : (limits : Limits) (rs : List Record) (r : Record) (fault : Option PadBad) → r ≡ opening (told limits rs)
    → ((st : MachineState) → st.records ≡ rs → st.pad.limits ≡ limits → fault ≡ journal_fault size st r) → (why : Option PadBad) → fault ≡ why → OpensWith limits rs why
opens-with limits rs r fault is machine why f st records same = subst (λ (q : Record). journal_fault size st q ≡ why) is (sym (machine st records same) ∙ f)

module _ {D : Type 0} (told_by : D → Option Contents) (failures moment : D → ℕ) (since : D → ℕ → List ℕ → Type 0) (limits : Limits) (rs : List Record) where
  -- its records were not read
  pub not-read : (old new : D) (bad : PadBad) → failures old ≤ failures new → told_by new ≡ told_by old → IsReadFault (failures old) (failures new) bad
      → LeavesOnly moment since old new (StandsFor rs) → (b : BeginsNot told_by failures limits rs old bad new)
      × LeavesOnly moment since old new (IsOldOrMore rs (appended told_by failures limits rs b.cause))
  not-read old new bad later same fault run = (record { later = later; cause = IsUnread fault same }, weaker moment since old new (StandsFor rs) (IsOldOrMore rs []) (λ image s. inl s) run)

  -- its record was not made ready
  pub not-ready : (old mid new : D) (bad : PadBad) (fault : Option PadBad) → failures old ≤ failures mid → failures new ≡ failures mid → told_by new ≡ told_by old
      → MayHold (told_by old) rs [] → ((why : Option PadBad) → fault ≡ why → OpensWith limits rs why) → (bad ≡ NoMemory) ⊎ (fault ≡ Some bad)
      → LeavesOnly moment since old new (StandsFor rs) → (b : BeginsNot told_by failures limits rs old bad new)
      × LeavesOnly moment since old new (IsOldOrMore rs (appended told_by failures limits rs b.cause))
  not-ready old mid new bad fault later still same may opens (inl lacks) run =
      not-read old new bad (omega (arith, later, still)) same (Wants lacks) run
  not-ready old mid new bad fault later still same may opens (inr full) run = (
    record {
      later = omega (arith, later, still);
      cause = IsFull (opens (Some bad) full) (subst (λ t. MayHold t rs []) (sym same) may);
    },
    weaker moment since old new (StandsFor rs) (IsOldOrMore rs []) (λ image s. inl s) run,
  )

  -- its record was not kept
  pub not-kept : (old mid new : D) (bad : PadBad) (r : Record) (fault : Option PadBad) → failures old ≤ failures mid → failures mid ≤ failures new → r ≡ opening (told limits rs)
      → MayHold (told_by new) rs (r ∷ []) → ((why : Option PadBad) → fault ≡ why → OpensWith limits rs why) → fault ≡ None
      → (n : ℕ) × (bad ≡ Store n) × HasRisenTo (failures mid) (failures new) n
      → LeavesOnly moment since old new (IsOldOrMore rs (r ∷ [])) → (b : BeginsNot told_by failures limits rs old bad new)
      × LeavesOnly moment since old new (IsOldOrMore rs (appended told_by failures limits rs b.cause))
  not-kept old mid new bad r fault later more is left opens fits why run = (
    record {
      later = omega (arith, later, more);
      cause = FailsAt why.0 why.1 (record { is = why.2.is; risen = risen-from (failures old) (failures mid) why.0 later why.2.risen }) (opens None fits)
          (subst (λ q. MayHold (told_by new) rs (q ∷ [])) is left);
    },
    subst (λ (q : Record). LeavesOnly moment since old new (IsOldOrMore rs (q ∷ []))) is run,
  )

  -- nothing was read and made ready but the records
  pub still-stands : (old mid new : D) → MayHold (told_by old) rs [] → told_by mid ≡ told_by old → LeavesOnly moment since old mid (IsImage (told_by old))
      → LeavesOnly moment since mid new (IsImage (told_by mid)) → LeavesOnly moment since old new (StandsFor rs)
  still-stands old mid new may same first then_ =
      joined moment since old mid new (StandsFor rs)
      (weaker moment since old mid (IsImage (told_by old)) (StandsFor rs) (λ image left. image-stands (told_by old) rs may image left) first)
      (weaker moment since mid new (IsImage (told_by mid)) (StandsFor rs) (λ image left. image-stands (told_by old) rs may image (subst (λ t. IsImage t image) same left)) then_)

  pub stands-only : (old new : D) → MayHold (told_by old) rs [] → LeavesOnly moment since old new (IsImage (told_by old)) → LeavesOnly moment since old new (StandsFor rs)
  stands-only old new may run = weaker moment since old new (IsImage (told_by old)) (StandsFor rs) (λ image left. image-stands (told_by old) rs may image left) run

  -- and then this record was being appended
  pub then-appends : (old mid new : D) (more : List Record) → LeavesOnly moment since old mid (StandsFor rs) → LeavesOnly moment since mid new (IsOldOrMore rs more)
      → LeavesOnly moment since old new (IsOldOrMore rs more)
  then-appends old mid new more first then_ =
      joined moment since old mid new (IsOldOrMore rs more) (weaker moment since old mid (StandsFor rs) (IsOldOrMore rs more) (λ image s. inl s) first) then_

  -- which is that one
  pub then-appends-this : (old mid new : D) (r q : Record) → r ≡ q → LeavesOnly moment since old mid (StandsFor rs) → LeavesOnly moment since mid new (IsOldOrMore rs (r ∷ []))
      → LeavesOnly moment since old new (IsOldOrMore rs (q ∷ []))
  then-appends-this old mid new r q same first then_ =
      subst (λ (x : Record). LeavesOnly moment since old new (IsOldOrMore rs (x ∷ []))) same (then-appends old mid new (r ∷ []) first then_)
