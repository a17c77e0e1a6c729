-- A pad that is shut, and one that is open.
use Rattle.std.proofs.Common.{◌≡◌, ℕ, suc, ◌<◌, Bool, true, false, List, [], ◌∷◌, ◌++◌, Option, Some, None, inl, inr, if◌then◌else◌, refl, sym, ap, ◌∙◌, subst, append-nil, zero, arith}
use Rattle.std.proofs.lemmas.Bool.Decides.{nat_tests}
use Rattle.std.specs.Prelude.{nat_lt, ◌==◌, ◌+◌, sum_by}
use Rattle.std.proofs.lemmas.List.Sums.{sum_by_push}
use Rattle.ep_units.specs.declared.session.Session.{Session}
use Rattle.ep_outside.specs.Disk.{Contents}
use Rattle.ep_outside.specs.declared.limits.Limits.{Limits}
use Rattle.ep_history.specs.Lists.{numbered}
use Rattle.ep_history.specs.Machine.{MachineState, IsKeptState, IsThen, file_bytes, journal_fault, most_bytes, open_record, settled}
use Rattle.ep_history.specs.Pad.{PadState, reopened, seat_of}
use Rattle.ep_history.specs.Records.{told as told_pad, told_from}
use Rattle.ep_history.specs.Refusals.{first_fault, fault_if}
use Rattle.ep_history.specs.declared.pad_bad.PadBad.{PadBad}
use Rattle.ep_history.specs.declared.pad_bad.PadBad.TheVariants as bad
use Rattle.ep_history.specs.declared.record.Record.{Record}
use Rattle.ep_history.specs.declared.record.Record.TheVariants as record_of
use Rattle.ep_history.specs.declared.seat.Seat.{Seat}
use Rattle.ep_history.proofs.Lists.{none_some}
use Rattle.ep_record.specs.Bytes.{number}
use Rattle.ep_pad.specs.Held.{Held}
use Rattle.ep_pad.specs.Standing.{Stands, opening}
use Rattle.ep_pad_file.specs.Standing.{size}
use Rattle.ep_world.specs.Journal.{full_by, full_in, is_shut, unopened}
use Rattle.ep_world.specs.Standing.{IsAt, IsOpenAt, IsShutAt}

-- ---- what is pending

pub settled-whole : (kept : Bool) (st : MachineState) → st.pending ≡ [] → (settled kept st).pad ≡ st.pad
settled-whole true st e = ap (told_from st.pad) e
settled-whole false st e = refl

pub settled-records : (kept : Bool) (st : MachineState) → st.pending ≡ [] → (settled kept st).records ≡ st.records
settled-records true st e = ap (λ rs. st.records ++ rs) e ∙ append-nil st.records
settled-records false st e = refl

pub none-pending : (kept : Bool) (st : MachineState) → (settled kept st).pending ≡ []
none-pending true st = refl
none-pending false st = refl

pub settled-closed : (kept : Bool) (st : MachineState) → (settled kept st).is_open ≡ st.is_open
settled-closed true st = refl
settled-closed false st = refl

-- ---- the record of an opening

-- it has as many bytes whatever its number
size-open : (x y : ℕ) → size (record_of.Open x) ≡ size (record_of.Open y)
unfolding number
size-open x y = refl

total-open : (rs : List Record) (x y : ℕ) → file_bytes size (rs ++ record_of.Open x ∷ []) ≡ file_bytes size (rs ++ record_of.Open y ∷ [])
total-open rs x y =
    ap (λ n. 9 + n)
    (sum_by_push (λ r. size r + 5) rs (record_of.Open x) ∙ ap (λ n. sum_by (λ r. size r + 5) rs + (n + 5)) (size-open x y)
    ∙ sym (sum_by_push (λ r. size r + 5) rs (record_of.Open y)))

-- so its fault is told by the records and the limit
pub unopened-alike : (rs : List Record) (p q : PadState) → p.limits ≡ q.limits → unopened rs p ≡ unopened rs q
unopened-alike rs p q e =
    ap (λ (l : Limits). of l (size (opening p)) (file_bytes size (rs ++ opening p ∷ []))) e
    ∙ ap (λ n. of q.limits n (file_bytes size (rs ++ opening p ∷ []))) (size-open (suc p.epoch) (suc q.epoch))
    ∙ ap (of q.limits (size (opening q))) (total-open rs (suc p.epoch) (suc q.epoch))
  where
    of : Limits → ℕ → ℕ → Option PadBad
    of l n bytes = first_fault (fault_if (nat_lt most_bytes n) (bad.JournalFull n) ∷ fault_if (nat_lt (l.journal + l.openings) bytes) (bad.JournalFull bytes) ∷ [])

pub opening-fault : (kept : Bool) (st : MachineState) (rs : List Record) (p : PadState) → (settled kept st).records ≡ rs → (settled kept st).pad.limits ≡ p.limits
    → journal_fault size (settled kept st) (open_record (settled kept st)) ≡ unopened rs p
opening-fault kept st rs p r l =
    ap (λ q. unopened q (settled kept st).pad) r ∙ unopened-alike rs (settled kept st).pad p l

-- ---- whether it is shut

not-below : (a b : ℕ) → a ≡ b → nat_lt a b ≡ false
not-below a b e = grind (arith, nat_tests)

is-below : (a b : ℕ) → a < b → nat_lt a b ≡ true
is-below a b h = grind (arith, nat_tests)

-- the records tell the number of the pad's opening
told-epoch : (st : MachineState) → IsKeptState st → (told_pad st.pad.limits st.records).epoch ≡ st.pad.epoch
told-epoch st k = sym (ap (λ (p : PadState). p.epoch) k.kept.told)

module _ {D : Type 0} (told_by : D → Option Contents) (failures : D → ℕ) (stops_alone : D → Bool) (alone : Bool) (rs : List Record) where
  pub open-shut : (m : Held D) (p : PadState) → IsOpenAt told_by failures stops_alone alone rs m p → is_shut rs p ≡ false
  open-shut m p a =
      subst (λ q. is_shut q p ≡ false) a.records
      (subst (λ q. is_shut a.state.records q ≡ false) a.pad (not-below (told_pad a.state.pad.limits a.state.records).epoch a.state.pad.epoch (told-epoch a.state a.kept)))

  pub shut-limits : (m : Held D) (p : PadState) (a : IsShutAt told_by failures stops_alone alone rs m p) → a.state.pad.limits ≡ p.limits
  shut-limits m p a = sym (ap (λ (q : PadState). q.limits) a.pad)

  pub shut-shut : (m : Held D) (p : PadState) → IsShutAt told_by failures stops_alone alone rs m p → is_shut rs p ≡ true
  shut-shut m p a =
      is-below (told_pad p.limits rs).epoch p.epoch
      (subst (λ (n : ℕ). n < p.epoch)
      (sym (told-epoch a.state a.kept) ∙ ap (λ l. (told_pad l a.state.records).epoch) (shut-limits m p a) ∙ ap (λ q. (told_pad p.limits q).epoch) a.records) a.older)

  pub open-full : (m : Held D) (p : PadState) (o : Option Record) → IsOpenAt told_by failures stops_alone alone rs m p → full_in rs p o ≡ full_by rs p o
  open-full m p o a = ap (λ b. if b then unopened rs p else full_by rs p o) (open-shut m p a)

  pub shut-full : (m : Held D) (p : PadState) (o : Option Record) (a : IsShutAt told_by failures stops_alone alone rs m p) → full_in rs p o ≡ Some (bad.JournalFull a.bytes)
  shut-full m p o a = ap (λ b. if b then unopened rs p else full_by rs p o) (shut-shut m p a) ∙ a.full

  -- where nothing hinders, it is open
  pub opens-free : (m : Held D) (p : PadState) (o : Option Record) → IsAt told_by failures stops_alone alone rs m p → full_in rs p o ≡ None → IsOpenAt told_by failures stops_alone alone rs m p
  opens-free m p o (inl a) f = a
  opens-free m p o (inr a) f = absurd (unlike (sym (shut-full m p o a) ∙ f))
    where
      unlike : ◌≡◌ {A = Option PadBad} (Some (bad.JournalFull a.bytes)) None → ⊥
      unlike e = cc

  pub opens : (m : Held D) (p : PadState) → IsAt told_by failures stops_alone alone rs m p → is_shut rs p ≡ false → IsOpenAt told_by failures stops_alone alone rs m p
  opens m p (inl a) f = a
  opens m p (inr a) f = absurd (let e : true ≡ false = sym (shut-shut m p a) ∙ f in cc)

  pub shuts : (m : Held D) (p : PadState) → IsAt told_by failures stops_alone alone rs m p → is_shut rs p ≡ true → IsShutAt told_by failures stops_alone alone rs m p
  shuts m p (inl a) f = absurd (let e : true ≡ false = sym f ∙ open-shut m p a in cc)
  shuts m p (inr a) f = a

  -- where a reading is refused for the journal, it is shut
  pub full-shut : (m : Held D) (p : PadState) (b : PadBad) → IsAt told_by failures stops_alone alone rs m p → full_in rs p None ≡ Some b → is_shut rs p ≡ true
  full-shut m p b (inl a) f = none_some (sym (open-full m p None a) ∙ f)
  full-shut m p b (inr a) f = shut-shut m p a

  -- nobody is in a pad that is shut
  shut-sessions : (m : Held D) (p : PadState) → IsShutAt told_by failures stops_alone alone rs m p → p.sessions ≡ []
  shut-sessions m p a = ap (λ (q : PadState). q.sessions) a.pad

  pub shut-seat : (m : Held D) (p : PadState) (s : Session) → IsShutAt told_by failures stops_alone alone rs m p → seat_of p s ≡ None
  shut-seat m p s a =
      ap (λ ls. if s.epoch == p.epoch then numbered ls s.count else None) (shut-sessions m p a) ∙ none (s.epoch == p.epoch) s.count
    where
      none : (b : Bool) (n : ℕ) → ◌≡◌ {A = Option Seat} (if b then numbered [] n else None) None
      none false n = refl
      none true zero = refl
      none true (suc n) = refl

  -- ---- its state

  abbrev pub at-state : (m : Held D) (p : PadState) → IsAt told_by failures stops_alone alone rs m p → MachineState
  at-state m p (inl a) = a.state
  at-state m p (inr a) = a.state

  pub at-kept : (m : Held D) (p : PadState) (a : IsAt told_by failures stops_alone alone rs m p) → IsKeptState (at-state m p a)
  at-kept m p (inl a) = a.kept
  at-kept m p (inr a) = a.kept

  pub at-stands : (m : Held D) (p : PadState) (a : IsAt told_by failures stops_alone alone rs m p) → Stands told_by failures m (at-state m p a)
  at-stands m p (inl a) = a.stands
  at-stands m p (inr a) = a.stands

  pub at-mark : (m : Held D) (p : PadState) → IsAt told_by failures stops_alone alone rs m p → stops_alone m.disk ≡ alone
  at-mark m p (inl a) = a.mark
  at-mark m p (inr a) = a.mark

  -- a machine that stays shut
  pub stays-shut : (old new : Held D) (p : PadState) (kept : Bool) (next : MachineState) (a : IsShutAt told_by failures stops_alone alone rs old p) → IsKeptState next → Stands told_by failures new next
      → stops_alone new.disk ≡ alone → IsThen (settled kept a.state) next → IsShutAt told_by failures stops_alone alone rs new p
  stays-shut old new p kept next a k s mark t =
      let same : next.pad ≡ a.state.pad = ap (λ (x : MachineState). x.pad) t.0 ∙ settled-whole kept a.state a.settled in
      record {
        state = next;
        stands = s;
        kept = k;
        is_closed = ap (λ (x : MachineState). x.is_open) t.0 ∙ settled-closed kept a.state ∙ a.is_closed;
        settled = ap (λ (x : MachineState). x.pending) t.0 ∙ none-pending kept a.state;
        records = ap (λ (x : MachineState). x.records) t.0 ∙ settled-records kept a.state a.settled ∙ a.records;
        pad = a.pad ∙ ap (λ (q : PadState). record q { epoch = p.epoch; sessions = [] }) (sym same);
        older = subst (λ (q : PadState). q.epoch < p.epoch) (sym same) a.older;
        bytes = a.bytes;
        full = a.full;
        mark = mark;
      }

  -- a crash of one
  pub shut-again : (m : Held D) (p : PadState) → IsShutAt told_by failures stops_alone alone rs m p → IsShutAt told_by failures stops_alone alone rs m (reopened p)
  shut-again m p a =
      let older = a.older in
      record {
        state = a.state;
        stands = a.stands;
        kept = a.kept;
        is_closed = a.is_closed;
        settled = a.settled;
        records = a.records;
        pad = ap reopened a.pad;
        older = omega (arith, older);
        bytes = a.bytes;
        full = unopened-alike rs (reopened p) p refl ∙ a.full;
        mark = a.mark;
      }
