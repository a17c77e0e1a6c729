-- What opening a closed machine comes to.
use Rattle.std.proofs.Common.{◌≡◌, ◌⊎◌, inl, inr, ⊎_elim, ℕ, ◌-◌, ◌^◌, ◌<◌, ◌≤◌, Bool, true, false, true≢false, List, [], ◌∷◌, ◌++◌, Option, Some, None, Err, refl, sym, ap, ◌∙◌, subst, arith}
use Rattle.ep_outside.specs.Disk.{Contents}
use Rattle.ep_outside.specs.declared.limits.Limits.{Limits}
use Rattle.ep_history.specs.Pad.{reopened}
use Rattle.ep_history.specs.Records.{AreLegal, told, unopened, without_sessions}
use Rattle.ep_history.specs.Entries.{Entry}
use Rattle.ep_history.specs.Machine.{MachineState, IsFirst, IsKeptState, IsClosedStep, closed, journal_fault, open_record, reopening, settled}
use Rattle.ep_history.specs.Machine.IsClosedStep.{Finds, LacksOpening, FailsOpening}
use Rattle.ep_history.specs.Machine.IsFoundStep.{IsFull as FullOpening, FailsOpened}
use Rattle.ep_history.specs.declared.pad_bad.PadBad.{PadBad}
use Rattle.ep_history.specs.declared.pad_bad.PadBad.TheVariants.{JournalFull, NoMemory, Store}
use Rattle.ep_history.specs.declared.record.Record.{Record}
use Rattle.ep_history.proofs.Recorded.{next-more, told-more}
use Rattle.ep_history.proofs.Steps.{settled-kept, told-limits}
use Rattle.ep_pad_file.specs.Standing.{size, Holds, IsOldOrMore, MayHold}
use Rattle.ep_pad_state.specs.Held.{IsPad}
use Rattle.ep_pad.specs.Crashes.{MayRemain}
use Rattle.ep_pad.specs.Held.{Held}
use Rattle.ep_pad.specs.Standing.{opening, Stands}
use Rattle.ep_pad.specs.Opening.{appended, IsReadFault, OpensWith, Begins, BeginsNot, IsCause, IsFullThen, IsWoken, Sleeps, stopped}
use Rattle.ep_pad.specs.Opening.IsReadFault.{Wants, Faults}
use Rattle.ep_pad.specs.Opening.IsCause.{IsUnread, IsFull, FailsAt}
use Rattle.ep_pad.specs.Opening.IsWoken.{Opened}
use Rattle.ep_pad.proofs.Crashing.{first-all, old-found, remains-found}
use Rattle.ep_pad.proofs.Steps.{with_faults}

-- ---- counts of faults

pub risen-from : (a b count : ℕ) → a ≤ b → (b < count) ⊎ (count ≡ 2 ^ 64 - 1) → (a < count) ⊎ (count ≡ 2 ^ 64 - 1)
risen-from a b count h (inl l) = inl (omega (arith, h, l))
risen-from a b count h (inr m) = inr m

pub fault-from : (a b now : ℕ) (bad : PadBad) → a ≤ b → IsReadFault b now bad → IsReadFault a now bad
fault-from a b now bad h (Wants is) = Wants is
fault-from a b now bad h (Faults count is rose) = Faults count is (record { is = rose.is; risen = risen-from a b count h rose.risen })

-- ---- the pad that records tell, and the one with sessions that they tell

-- the records tell the pad apart from its sessions
abbrev pub IsTold : MachineState → Type 0
IsTold st = without_sessions st.pad ≡ told st.pad.limits st.records

told-same : (st : MachineState) (limits : Limits) → IsTold st → st.pad.limits ≡ limits → told limits st.records ≡ without_sessions st.pad
told-same st limits t same = ap (λ (l : Limits). told l st.records) (sym same) ∙ sym t

opening-same : (st : MachineState) (limits : Limits) → IsTold st → st.pad.limits ≡ limits → opening (told limits st.records) ≡ open_record st
opening-same st limits k same = ap opening (told-same st limits k same)

reopened-same : (st : MachineState) (limits : Limits) → IsTold st → st.pad.limits ≡ limits → reopened (told limits st.records) ≡ reopened st.pad
reopened-same st limits k same = ap reopened (told-same st limits k same)

-- of a state whose records tell it, whatever is found tells what it comes to
pub settled-told : (st : MachineState) (kept : Bool) → IsKeptState st → IsTold (settled kept st)
settled-told st kept k = (settled-kept st kept k).kept.told

pub settled-legal : (st : MachineState) (kept : Bool) → IsKeptState st → AreLegal (settled kept st).pad.limits (settled kept st).records
settled-legal st kept k = (settled-kept st kept k).kept.legal

-- a state that stopped is one whose records tell it
pub stopped-kept : (st : MachineState) → IsKeptState st → IsKeptState (stopped st)
stopped-kept st k = record { kept = k.kept; pending = k.pending; whole = λ on. absurd (true≢false (sym on)) }

-- whether the pending record was found
pub was-kept : (t : Option Contents) (st : MachineState) → Holds t st.records ⊎ Holds t (st.records ++ st.pending) → (kept : Bool) × Holds t (settled kept st).records
was-kept t st (inl h) = (false, h)
was-kept t st (inr h) = (true, h)

none-pending : (kept : Bool) (st : MachineState) → (settled kept st).pending ≡ []
none-pending true st = refl
none-pending false st = refl

same-faults : (kept : Bool) (st : MachineState) → (settled kept st).faults ≡ st.faults
same-faults true st = refl
same-faults false st = refl

same-open : (kept : Bool) (st : MachineState) → (settled kept st).is_open ≡ st.is_open
same-open true st = refl
same-open false st = refl

-- whatever is found, the limits are the same
settled-limits : (kept : Bool) (st : MachineState) → (settled kept st).pad.limits ≡ st.pad.limits
settled-limits true st = told-limits st.pad st.pending
settled-limits false st = refl

-- the file took the opening's record or not, of the state that was found
opens-at : (st : MachineState) (limits : Limits) (why : Option PadBad) → IsTold st → st.pad.limits ≡ limits → OpensWith limits st.records why
    → journal_fault size st (open_record st) ≡ why
opens-at st limits why t same o = subst (λ (q : Record). journal_fault size st q ≡ why) (opening-same st limits t same) (o st refl same)

-- a closed state, with these limits and this count of faults
pub record IsShut (within : Limits) (count : ℕ) (st : MachineState) : Type 0 where
  pub shut : st.is_open ≡ false
  pub limits : st.pad.limits ≡ within
  pub faults : st.faults ≡ count

pub legal-found : (st : MachineState) (kept : Bool) (limits : Limits) → IsKeptState st → st.pad.limits ≡ limits → AreLegal limits (settled kept st).records
legal-found st kept limits k same =
    subst (λ (l : Limits). AreLegal l (settled kept st).records) (settled-limits kept st ∙ same) (settled-legal st kept k)

-- it did not open, and is asleep with this file; what a crash left on the way may remain
abbrev pub StaysShut : Option Contents → Limits → ℕ → (List ℕ → Type 0) → MachineState → PadBad → Type 0
StaysShut file limits count Left st bad =
    (next : MachineState) × Sleeps st bad next × IsShut limits count next × MayHold file next.records next.pending × ((image : List ℕ) → Left image → MayRemain st next image)

-- its file did not open, or its records were not read: it is as it was, but for the count of faults
pub unread : (file : Option Contents) (limits : Limits) (before now : ℕ) (Left : List ℕ → Type 0) (st : MachineState) (bad : PadBad) → IsShut limits before st → before ≤ now
    → IsReadFault before now bad → MayHold file st.records st.pending → ((image : List ℕ) → Left image → IsOldOrMore st.records st.pending image)
    → StaysShut file limits now Left st bad
unread file limits before now Left st bad s more fault may left =
    (with_faults st now, (s.shut, λ e. step e fault), record { shut = s.shut; limits = s.limits; faults = refl }, may, λ image h. inl (left image h))
  where
    later : st.faults ≤ now
    later = let a = s.faults in omega (arith, a, more)

    step : (e : Entry) → IsReadFault before now bad → IsClosedStep size st e (Err bad) (with_faults st now)
    step e (Wants is) = LacksOpening (ap (λ b. Err b) is) (refl, later)
    step e (Faults count is rose) = FailsOpening count (ap (λ b. Err b) is) (rose.is, risen-from st.faults before count (let a = s.faults in omega (arith, a)) rose.risen) (refl, later)

module _ {D : Type 0} (told_by : D → Option Contents) (failures : D → ℕ) where
  -- its file was opened, and yet the machine was not
  pub unbegun : (limits : Limits) (before : ℕ) (st : MachineState) (then new : D) (kept : Bool) (bad : PadBad) → IsTold (settled kept st) → IsShut limits before st
      → before ≤ failures then → MayHold (told_by then) st.records st.pending → (b : BeginsNot told_by failures limits (settled kept st).records then bad new)
      → StaysShut (told_by new) limits (failures new)
      (λ image. IsOldOrMore st.records st.pending image ⊎ IsOldOrMore (settled kept st).records (appended told_by failures limits (settled kept st).records b.cause) image) st bad
  unbegun limits before st then new kept bad legal s later may b = go b.cause
    where
      at : MachineState
      at = settled kept st

      same : at.pad.limits ≡ limits
      same = settled-limits kept st ∙ s.limits

      few_then : at.faults ≤ failures then
      few_then = let x = same-faults kept st in let y = s.faults in omega (arith, x, y, later)

      few : at.faults ≤ failures new
      few = let x = few_then in let y = b.later in omega (arith, x, y)

      go : (cause : IsCause told_by failures limits at.records then bad new) → StaysShut (told_by new) limits (failures new)
          (λ image. IsOldOrMore st.records st.pending image ⊎ IsOldOrMore at.records (appended told_by failures limits at.records cause) image) st bad
      go (IsUnread fault file) =
          unread (told_by new) limits before (failures new) (λ image. IsOldOrMore st.records st.pending image ⊎ IsOldOrMore at.records [] image) st bad s
          (let y = b.later in omega (arith, later, y)) (fault-from before (failures then) (failures new) bad later fault)
          (subst (λ t. MayHold t st.records st.pending) (sym file) may) (λ image h. ⊎_elim (λ was. was) (old-found st kept image) h)
      go (IsFull full rests) = (
        with_faults at (failures new),
        (s.shut, λ e. Finds kept (FullOpening bad (opens-at at limits (Some bad) legal same full) refl (refl, few))),
        record { shut = same-open kept st ∙ s.shut; limits = same; faults = refl },
        subst (MayHold (told_by new) at.records) (sym (none-pending kept st)) rests,
        λ image h. ⊎_elim (λ was. inl was) (λ made. inl (old-found st kept image made)) h,
      )
      go (FailsAt count is rose fits left) = (
        with_faults (closed (open_record at) at) (failures new),
        (
          s.shut,
          λ e. Finds kept (FailsOpened count (opens-at at limits None legal same fits) (ap (λ b. Err b) is) (rose.is, risen-from at.faults (failures then) count few_then rose.risen) (refl, few)),
        ),
        record { shut = refl; limits = same; faults = refl },
        subst (λ q. MayHold (told_by new) at.records (q ∷ [])) (opening-same at limits legal same) left,
        λ image h. ⊎_elim (λ was. inl was)
            (λ made. remains-found st (with_faults (closed (open_record at) at) (failures new)) kept (open_record at ∷ []) image (first-all (at.records ++ open_record at ∷ []))
            (subst (λ q. IsOldOrMore at.records (q ∷ []) image) (opening-same at limits legal same) made)) h,
      )

  -- its records were read, and the journal has no room for its opening's
  pub found-full : (limits : Limits) (at : MachineState) (then new : D) (n : ℕ) (bad : PadBad) → bad ≡ JournalFull n → IsTold at → at.pad.limits ≡ limits → at.is_open ≡ false → at.pending ≡ []
      → at.faults ≤ failures then → (b : BeginsNot told_by failures limits at.records then bad new)
      → IsFullThen at bad (with_faults at (failures new)) × IsShut limits (failures new) (with_faults at (failures new)) × MayHold (told_by new) at.records at.pending
  found-full limits at then new n bad is legal same shut none few_then b = go b.cause
    where
      few : at.faults ≤ failures new
      few = let x = few_then in let y = b.later in omega (arith, x, y)

      go : IsCause told_by failures limits at.records then bad new
          → IsFullThen at bad (with_faults at (failures new)) × IsShut limits (failures new) (with_faults at (failures new)) × MayHold (told_by new) at.records at.pending
      go (IsUnread (Wants lacks) file) = let e : NoMemory ≡ JournalFull n = sym lacks ∙ is in absurd (cc)
      go (IsUnread (Faults count store rose) file) = let e : Store count ≡ JournalFull n = sym store ∙ is in absurd (cc)
      go (FailsAt count store rose fits left) = let e : Store count ≡ JournalFull n = sym store ∙ is in absurd (cc)
      go (IsFull full rests) =
          ((opens-at at limits (Some bad) legal same full, (refl, few)), record { shut = shut; limits = same; faults = refl }, subst (MayHold (told_by new) at.records) (sym none) rests)

  -- the opening went through
  pub woken : (before : ℕ) (st : MachineState) (then : D) (new : Held D) (kept : Bool) → IsTold (settled kept st) → IsShut new.limits before st → before ≤ failures then
      → Begins told_by failures new.limits (settled kept st).records then new.disk new.pad → new.is_open ≡ true
      → (mid : MachineState) × IsWoken st mid × Stands told_by failures new mid
      × ((image : List ℕ) → IsOldOrMore st.records st.pending image ⊎ IsOldOrMore (settled kept st).records (opening (told new.limits (settled kept st).records) ∷ []) image → MayRemain st mid image)
  woken before st then new kept legal s later b on =
      let at = settled kept st in
      let same : at.pad.limits ≡ new.limits = settled-limits kept st ∙ s.limits in
      let faults = same-faults kept st in
      let counted = s.faults in
      let more = b.later in
      let few : at.faults ≤ failures new.disk = omega (arith, faults, counted, later, more) in (
        with_faults (reopening at) (failures new.disk),
        Opened kept s.shut (opens-at at new.limits None legal same b.fits) (refl, few),
        record {
          is_open = sym on;
          limits = same;
          faults = refl;
          open_has = λ _. record {
            holds = subst (λ (q : Record). Holds (told_by new.disk) (at.records ++ q ∷ [])) (opening-same at new.limits legal same) b.holds;
            pad = subst (IsPad new.pad) (reopened-same at new.limits legal same) b.pad;
            settled = none-pending kept st;
          };
          closed_has = λ off. absurd (true≢false (sym on ∙ off));
        },
        λ image h. ⊎_elim (λ was. inl was)
            (λ made. remains-found st (with_faults (reopening at) (failures new.disk)) kept (open_record at ∷ []) image
            (at.pending, refl)
            (subst (λ q. IsOldOrMore at.records (q ∷ []) image) (opening-same at new.limits legal same) made)) h,
      )

  -- ---- machines and their states

  pub shut-of : (st : MachineState) (m : Held D) → Stands told_by failures m st → m.is_open ≡ false → IsShut m.limits (failures m.disk) st
  shut-of st m s off = record { shut = s.is_open ∙ off; limits = s.limits; faults = s.faults }

  pub stands-shut : (st : MachineState) (m : Held D) (bad : PadBad) (Left : List ℕ → Type 0) → m.is_open ≡ false → StaysShut (told_by m.disk) m.limits (failures m.disk) Left st bad
      → (next : MachineState) × Sleeps st bad next × Stands told_by failures m next × ((image : List ℕ) → Left image → MayRemain st next image)
  stands-shut st m bad Left off s = (
    s.0,
    s.1,
    record {
      is_open = s.2.shut ∙ sym off;
      limits = s.2.limits;
      faults = s.2.faults;
      open_has = λ on. absurd (true≢false (sym on ∙ off));
      closed_has = λ _. s.3;
    },
    s.4,
  )

  -- a closed machine is in a closed state
  pub stands-closed : (next : MachineState) (m : Held D) → m.is_open ≡ false → IsShut m.limits (failures m.disk) next → MayHold (told_by m.disk) next.records next.pending → Stands told_by failures m next
  stands-closed next m off s may = record {
    is_open = s.shut ∙ sym off;
    limits = s.limits;
    faults = s.faults;
    open_has = λ on. absurd (true≢false (sym on ∙ off));
    closed_has = λ _. may;
  }

  -- a machine that stopped
  pub stops : (st : MachineState) (m : Held D) → Stands told_by failures m st → (m.is_open ≡ true → Holds (told_by m.disk) st.records → MayHold (told_by m.disk) st.records [])
      → IsShut m.limits (failures m.disk) (stopped st) × MayHold (told_by m.disk) st.records st.pending
  stops st m s rests = (record { shut = refl; limits = s.limits; faults = s.faults }, go m.is_open refl)
    where
      go : (b : Bool) → m.is_open ≡ b → MayHold (told_by m.disk) st.records st.pending
      go true on = let o = s.open_has on in subst (MayHold (told_by m.disk) st.records) (sym o.settled) (rests on o.holds)
      go false off = s.closed_has off

  -- ---- a disk that is opened

  pub first : (limits : Limits) (rs : List Record) (old : D) (new : Held D) → AreLegal limits rs → new.limits ≡ limits → new.is_open ≡ true → Begins told_by failures limits rs old new.disk new.pad
      → (st : MachineState) × IsFirst st × (st.records ≡ rs ++ opening (told limits rs) ∷ []) × Stands told_by failures new st
  first limits rs old new legal same on b = (
    st,
    record {
      legal = subst (λ (l : Limits). AreLegal l (rs ++ opening (told limits rs) ∷ [])) (sym limits-told) (next-more (unopened limits) rs (opening (told limits rs)) legal refl);
      told = sym (told-more (unopened limits) rs (opening (told limits rs))) ∙ ap (λ (l : Limits). told l (rs ++ opening (told limits rs) ∷ [])) (sym limits-told);
      opened = omega arith;
      is_open = refl;
      pending = refl;
    },
    refl,
    record {
      is_open = sym on;
      limits = limits-told ∙ sym same;
      faults = refl;
      open_has = λ _. record { holds = b.holds; pad = b.pad; settled = refl };
      closed_has = λ off. absurd (true≢false (sym on ∙ off));
    },
  )
    where
      limits-told : (told limits rs).limits ≡ limits
      limits-told = told-limits (unopened limits) rs

      st : MachineState
      st = record { records = rs ++ opening (told limits rs) ∷ []; pad = reopened (told limits rs); is_open = true; pending = []; faults = failures new.disk }
