-- What a call of a machine comes to.
use Rattle.std.proofs.Common.{◌≡◌, ℕ, Bool, List, true, false, [], ◌∷◌, ◌++◌, Option, Some, None, Ok, Err, inl, inr, refl, sym, ap, ◌∙◌, subst}
use Rattle.std.specs.Prelude.{nat_lt}
use Rattle.ep_outside.specs.Disk.{Contents}
use Rattle.ep_history.specs.Pad.{PadState}
use Rattle.ep_history.specs.Entries.{Entry, Answer, Outcome, Reply, outcome, is_recordable}
use Rattle.ep_history.specs.Entries.Outcome.{Refuses, Answers, Records}
use Rattle.ep_history.specs.Machine.{MachineState, Turn, IsClosedStep, IsFoundStep, IsOpenStep, IsStep, IsStepAs, IsThen, IsKeptState, file_bytes, journal_fault, keeping, longest_with, most_bytes, open_record, settled, turn, turn_of}
use Rattle.ep_history.specs.Machine.IsFoundStep.{Opens, IsFull, FailsOpened}
use Rattle.ep_history.specs.Machine.IsClosedStep.{Finds, LacksOpening, FailsOpening}
use Rattle.ep_history.specs.Machine.IsOpenStep.{Does, Lacks, Fails}
use Rattle.ep_history.specs.Refusals.{first_fault, fault_if}
use Rattle.ep_history.specs.declared.pad_bad.PadBad.{PadBad}
use Rattle.ep_history.specs.declared.pad_bad.PadBad.TheVariants as bad
use Rattle.ep_history.specs.declared.record.Record.{Record}
use Rattle.ep_history.proofs.Lists.{none_some, some_same}
use Rattle.ep_history.proofs.Steps.{step-kept}
use Rattle.ep_pad.specs.Held.{Held}
use Rattle.ep_pad.specs.Standing.{Stands}
use Rattle.ep_pad_file.specs.Standing.{size}
use Rattle.ep_world.specs.Journal.{behind, full_by, full_in, record_in}
use Rattle.ep_world.specs.Standing.{IsAnswered, IsAt, IsOpenAt, IsShutAt, answer_of, pad_after}
use Rattle.ep_world.proofs.Plain.{IsPlainOutcome, outcome-plain}
use Rattle.ep_world.proofs.Shut.{at-kept, at-stands, at-state, open-full, opening-fault, settled-records, settled-whole, shut-full, shut-limits, stays-shut}

-- a journal that doesn't take a record says so with a length
pub journal-full : (st : MachineState) (r : Record) (full : PadBad) → journal_fault size st r ≡ Some full → (bytes : ℕ) × (full ≡ bad.JournalFull bytes)
journal-full st r full e = go (nat_lt most_bytes (size r)) (nat_lt (longest_with st.pad.limits r) (file_bytes size (st.records ++ r ∷ []))) e
  where
    go : (a b : Bool) → first_fault (fault_if a (bad.JournalFull (size r)) ∷ fault_if b (bad.JournalFull (file_bytes size (st.records ++ r ∷ []))) ∷ []) ≡ Some full
        → (bytes : ℕ) × (full ≡ bad.JournalFull bytes)
    go true b e = (size r, sym (some_same e))
    go false true e = (file_bytes size (st.records ++ r ∷ []), sym (some_same e))
    go false false e = none_some e

module _ {D : Type 0} (told_by : D → Option Contents) (failures : D → ℕ) (stops_alone : D → Bool) (alone : Bool) (rs : List Record) where
  -- a refusal leaves the pad
  refused-answered : (old new : Held D) (pad : PadState) (e : Entry) (b : PadBad) → outcome pad e ≡ Refuses b → IsAt told_by failures stops_alone alone rs new pad → full_in rs pad None ≡ None
      → IsAnswered told_by failures stops_alone alone rs old pad e (Err b) new
  refused-answered old new pad e bad.NoMemory h a f = tt
  refused-answered old new pad e (bad.Store n) h a f = tt
  refused-answered old new pad e (bad.JournalFull n) h a f = absurd (subst IsPlainOutcome h (outcome-plain pad e))
  refused-answered old new pad e (bad.Dead why) h a f = (h, a, f)
  refused-answered old new pad e (bad.Denied n) h a f = (h, a, f)
  refused-answered old new pad e (bad.Full n) h a f = (h, a, f)
  refused-answered old new pad e bad.Gone h a f = (h, a, f)
  refused-answered old new pad e (bad.BadRev n) h a f = (h, a, f)
  refused-answered old new pad e (bad.NoRev n) h a f = (h, a, f)
  refused-answered old new pad e bad.Exists h a f = (h, a, f)
  refused-answered old new pad e bad.ReadOnly h a f = (h, a, f)
  refused-answered old new pad e (bad.NoBase n) h a f = (h, a, f)
  refused-answered old new pad e (bad.Author n) h a f = (h, a, f)
  refused-answered old new pad e (bad.Fit why) h a f = (h, a, f)
  refused-answered old new pad e (bad.TooLong n) h a f = (h, a, f)
  refused-answered old new pad e bad.Foreign h a f = (h, a, f)
  refused-answered old new pad e (bad.BadRecord n) h a f = (h, a, f)

  -- a machine that is then in this state
  at : (next : MachineState) (new : Held D) (t : MachineState) → IsKeptState next → Stands told_by failures new next → stops_alone new.disk ≡ alone → IsThen t next
      → t.is_open ≡ true → IsOpenAt told_by failures stops_alone alone t.records new t.pad
  at next new t kept stands mark then opens = record {
    state = next;
    stands = stands;
    kept = kept;
    is_open = ap (λ (x : MachineState). x.is_open) then.0 ∙ opens;
    records = ap (λ (x : MachineState). x.records) then.0;
    pad = ap (λ (x : MachineState). x.pad) then.0;
    mark = mark;
  }

module _ {D : Type 0} (told_by : D → Option Contents) (failures : D → ℕ) (stops_alone : D → Bool) (alone : Bool) where
  answered-at : (old new : Held D) (st next : MachineState) (e : Entry) (reply : Reply) → IsKeptState next → Stands told_by failures new next → stops_alone new.disk ≡ alone → st.is_open ≡ true
      → ((o : Option Record) → full_in st.records st.pad o ≡ full_by st.records st.pad o) → IsOpenStep size st e reply next → IsAnswered told_by failures stops_alone alone st.records old st.pad e reply new
  answered-at old new st next e reply kept stands mark opens free (Lacks r t) = subst (λ x. IsAnswered told_by failures stops_alone alone st.records old st.pad e x new) (sym r) tt
  answered-at old new st next e reply kept stands mark opens free (Fails count r adds q f t) = subst (λ x. IsAnswered told_by failures stops_alone alone st.records old st.pad e x new) (sym q) tt
  answered-at old new st next e reply kept stands mark opens free (Does r t) = go (outcome st.pad e) refl
    where
      is : Reply → Type 0
      is x = IsAnswered told_by failures stops_alone alone st.records old st.pad e x new

      then : (t : MachineState) → IsThen t next → t.is_open ≡ true → IsAt told_by failures stops_alone alone t.records new t.pad
      then t u o = inl (at told_by failures stops_alone alone st.records next new t kept stands mark u o)

      -- an answer, of which this comes
      answers : (o : Outcome) (a : Answer) → outcome st.pad e ≡ o → answer_of o ≡ Some a → full_by st.records st.pad (record_in o) ≡ None
          → IsAt told_by failures stops_alone alone (behind st.records (record_in o)) new (pad_after st.pad o) → is (Ok a)
      answers o a h x f m = (
        ap answer_of h ∙ x,
        subst (λ y. IsAt told_by failures stops_alone alone (behind st.records (record_in y)) new (pad_after st.pad y)) (sym h) m,
        ap (λ y. full_in st.records st.pad (record_in y)) h ∙ free (record_in o) ∙ f,
      )

      turned : (o : Outcome) → outcome st.pad e ≡ o → (turn size st e) ≡ turn_of size st (is_recordable e) o
      turned o h = ap (turn_of size st (is_recordable e)) h

      keeps : (x : Record) (a : Answer) (p : PadState) (f : Option PadBad) → outcome st.pad e ≡ Records x a p → journal_fault size st x ≡ f
          → reply ≡ (keeping st f x a p).reply → IsThen (keeping st f x a p).state next → is reply
      keeps x a p None h j q u = subst is (sym q) (answers (Records x a p) a h refl j (then (keeping st None x a p).state u opens))
      keeps x a p (Some full) h j q u =
          let f = journal-full st x full j in
          subst is (sym (q ∙ ap Err f.1)) (then st u opens, ap (λ y. full_in st.records st.pad (record_in y)) h ∙ free (Some x) ∙ j ∙ ap Some f.1)

      records : (x : Record) (a : Answer) (p : PadState) (can : Bool) → outcome st.pad e ≡ Records x a p
          → reply ≡ (turn_of size st can (Records x a p)).reply → IsThen (turn_of size st can (Records x a p)).state next → is reply
      records x a p false h q u = subst is (sym q) tt
      records x a p true h q u = keeps x a p (journal_fault size st x) h refl q u

      go : (o : Outcome) → outcome st.pad e ≡ o → is reply
      go (Refuses b) h =
          let q = r ∙ ap (λ (x : Turn). x.reply) (turned (Refuses b) h) in
          let u = subst (λ (x : Turn). IsThen x.state next) (turned (Refuses b) h) t in
          subst is (sym q) (refused-answered told_by failures stops_alone alone st.records old new st.pad e b h (then st u opens) (free None))
      go (Answers a p) h =
          let q = r ∙ ap (λ (x : Turn). x.reply) (turned (Answers a p) h) in
          let u = subst (λ (x : Turn). IsThen x.state next) (turned (Answers a p) h) t in
          subst is (sym q) (answers (Answers a p) a h refl refl (then (record st { pad = p }) u opens))
      go (Records x a p) h =
          records x a p (is_recordable e) h (r ∙ ap (λ (y : Turn). y.reply) (turned (Records x a p) h))
          (subst (λ (y : Turn). IsThen y.state next) (turned (Records x a p) h) t)

  -- what a call makes of a machine, and of the mark of its disk
  abbrev pub MakesMarked : Held D → Entry → Reply → Held D → Type 0
  MakesMarked old e reply new =
      (st : MachineState) → IsKeptState st → Stands told_by failures old st
      → (next : MachineState) × IsStep size st e reply next × Stands told_by failures new next × (stops_alone new.disk ≡ stops_alone old.disk)

  -- a call of an open machine, of its state
  open-answered : (rs : List Record) (old new : Held D) (pad : PadState) (e : Entry) (reply : Reply) (a : IsOpenAt told_by failures stops_alone alone rs old pad)
      → (next : MachineState) × IsStep size a.state e reply next × Stands told_by failures new next × (stops_alone new.disk ≡ stops_alone old.disk)
      → IsAnswered told_by failures stops_alone alone rs old pad e reply new
  open-answered rs old new pad e reply a n =
      let step = subst (λ b. IsStepAs b size a.state e reply n.0) a.is_open n.1 in
      subst (λ q. IsAnswered told_by failures stops_alone alone q old pad e reply new) a.records
      (subst (λ p. IsAnswered told_by failures stops_alone alone a.state.records old p e reply new) a.pad
      (answered-at old new a.state n.0 e reply (step-kept size a.state e reply n.0 a.kept n.1) n.2 (n.3 ∙ a.mark) a.is_open
      (λ o. open-full told_by failures stops_alone alone a.state.records old a.state.pad o own) step))
    where
      own : IsOpenAt told_by failures stops_alone alone a.state.records old a.state.pad
      own = record { state = a.state; stands = a.stands; kept = a.kept; is_open = a.is_open; records = refl; pad = refl; mark = a.mark }

  -- of one that is shut: it is refused, as its opening is
  shut-answered : (rs : List Record) (old new : Held D) (pad : PadState) (e : Entry) (reply : Reply) (a : IsShutAt told_by failures stops_alone alone rs old pad)
      → (next : MachineState) × IsStep size a.state e reply next × Stands told_by failures new next × (stops_alone new.disk ≡ stops_alone old.disk)
      → IsAnswered told_by failures stops_alone alone rs old pad e reply new
  shut-answered rs old new pad e reply a n = go (subst (λ b. IsStepAs b size a.state e reply n.0) a.is_closed n.1)
    where
      is : Reply → Type 0
      is x = IsAnswered told_by failures stops_alone alone rs old pad e x new

      fault : (k : Bool) → journal_fault size (settled k a.state) (open_record (settled k a.state)) ≡ Some (bad.JournalFull a.bytes)
      fault k =
          opening-fault k a.state rs pad (settled-records k a.state a.settled ∙ a.records)
          (ap (λ (q : PadState). q.limits) (settled-whole k a.state a.settled) ∙ shut-limits told_by failures stops_alone alone rs old pad a) ∙ a.full

      found : (k : Bool) → IsFoundStep size (settled k a.state) e reply n.0 → is reply
      found k (Opens fits step) = absurd (unlike (sym (fault k) ∙ fits))
        where
          unlike : ◌≡◌ {A = Option PadBad} (Some (bad.JournalFull a.bytes)) None → ⊥
          unlike e = cc
      found k (IsFull full j r t) =
          subst is (sym (r ∙ ap Err (some_same (sym j ∙ fault k)))) (
            inr (stays-shut told_by failures stops_alone alone rs old new pad k n.0 a (step-kept size a.state e reply n.0 a.kept n.1) n.2 (n.3 ∙ a.mark) t),
            shut-full told_by failures stops_alone alone rs old pad (record_in (outcome pad e)) a,
          )
      found k (FailsOpened count j r h t) = subst is (sym r) tt

      go : IsClosedStep size a.state e reply n.0 → is reply
      go (Finds k step) = found k step
      go (LacksOpening r t) = subst is (sym r) tt
      go (FailsOpening count r h t) = subst is (sym r) tt

  -- a call of a machine, of its state
  pub answered-once : (rs : List Record) (old new : Held D) (pad : PadState) (e : Entry) (reply : Reply) (a : IsAt told_by failures stops_alone alone rs old pad)
      → (next : MachineState) × IsStep size (at-state told_by failures stops_alone alone rs old pad a) e reply next × Stands told_by failures new next × (stops_alone new.disk ≡ stops_alone old.disk)
      → IsAnswered told_by failures stops_alone alone rs old pad e reply new
  answered-once rs old new pad e reply (inl a) n = open-answered rs old new pad e reply a n
  answered-once rs old new pad e reply (inr a) n = shut-answered rs old new pad e reply a n

  -- a call of a machine
  pub answered : (rs : List Record) (old new : Held D) (pad : PadState) (e : Entry) (reply : Reply) → IsAt told_by failures stops_alone alone rs old pad → MakesMarked old e reply new
      → IsAnswered told_by failures stops_alone alone rs old pad e reply new
  answered rs old new pad e reply a makes =
      answered-once rs old new pad e reply a
      (makes (at-state told_by failures stops_alone alone rs old pad a) (at-kept told_by failures stops_alone alone rs old pad a) (at-stands told_by failures stops_alone alone rs old pad a))
