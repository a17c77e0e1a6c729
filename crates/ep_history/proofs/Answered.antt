-- What a machine replies: a refusal changes nothing, and an admissible edit is committed.
use Rattle.std.proofs.Common.{◌⊎◌, ◌≡◌, ℕ, ◌-◌, Bool, true, false, if◌then◌else◌, List, [], ◌∷◌, ◌++◌, inl, inr, length, Option, Some, None, Err, refl, sym, ap, ◌∙◌, subst}
use Rattle.ep_units.specs.declared.session.Session.{Session}
use Rattle.ep_units.specs.Text.{is_well_formed}
use Rattle.ep_attr.proofs.SameMap.{both_true, first_true}
use Rattle.ep_cs.specs.Doc.{Cell, text_of, has_equal_halves}
use Rattle.ep_cs.specs.Edit.{Edit, Place, Step, are_settled, settle}
use Rattle.ep_cs.specs.Edit.Fate.{Drop, Keep}
use Rattle.ep_cs.specs.Edit.Step.{Insert, Pass}
use Rattle.ep_cs.specs.Runs.{rest_kept, all_passed, steps_of}
use Rattle.ep_cs.specs.Change.{Change, bank_of}
use Rattle.ep_cs.specs.Fits.{AreDocuments}
use Rattle.ep_cs.specs.NormalRuns.{IsNormal}
use Rattle.ep_cs.specs.EditFits.{are_pieces, is_edit}
use Rattle.std.specs.Prelude.{nat_lt}
use Rattle.ep_cs.specs.Fits.{is_identity}
use Rattle.ep_history.specs.History.{head, rebase}
use Rattle.ep_history.specs.Pad.{PadState, newest}
use Rattle.ep_history.specs.Refusals.{first_fault, fault_if}
use Rattle.ep_history.specs.Accept.{at_head, committed}
use Rattle.ep_history.specs.Admissible.{IsAdmissible}
use Rattle.ep_history.specs.Readings.{Committed, became_nothing, revised, commit}
use Rattle.ep_history.specs.Records.{accept_record}
use Rattle.ep_history.specs.Entries.{Entry, Outcome, Reply, outcome, unless, is_recordable}
use Rattle.ep_history.specs.Entries.Answer.{CommitAnswer}
use Rattle.ep_history.specs.Entries.Entry.{Accept}
use Rattle.ep_history.specs.Entries.Outcome.{Refuses, Answers, Records}
use Rattle.ep_history.specs.Machine.{MachineState, Size, Turn, CommitsUnless, IsOpenStep, IsFoundStep, IsClosedStep, IsStep, IsStepAs, IsThen, StaysAs, file_bytes, journal_fault, keeping, longest_with, most_bytes, reopening, settled, turn, turn_of}
use Rattle.ep_history.specs.Machine.IsOpenStep.{Does, Lacks, Fails}
use Rattle.ep_history.specs.Machine.IsFoundStep.{Opens, IsFull, FailsOpened}
use Rattle.ep_history.specs.Machine.IsClosedStep.{Finds, LacksOpening, FailsOpening}
use Rattle.ep_history.specs.declared.pad_bad.PadBad.{PadBad}
use Rattle.ep_history.specs.declared.pad_bad.PadBad.TheVariants.{JournalFull, Store}
use Rattle.ep_history.specs.declared.record.Record.{Record}
use Rattle.ep_history.proofs.Lists.{none_some, some_same}
use Rattle.ep_history.proofs.Refused.{taken}

-- ---- the change of a program is an edit

settled-settle : (waiting : List Cell) (steps : List Step) → are_settled (settle waiting steps).places ≡ true
settled-settle waiting [] = refl
settled-settle waiting (Insert c ∷ steps) = settled-settle (waiting ++ c ∷ []) steps
settled-settle waiting (Pass Drop ∷ steps) = settled-settle waiting steps
settled-settle waiting (Pass (Keep m) ∷ steps) = settled-settle [] steps

pieces-documents : (ps : List Place) (last : List Cell) → AreDocuments ps last → are_pieces ps last ≡ true
pieces-documents [] last h = first_true (is_well_formed (text_of last)) (has_equal_halves last) h
pieces-documents (p ∷ ps) last h =
    both_true _ _ (first_true (is_well_formed (text_of p.before)) (has_equal_halves p.before) h.0) (pieces-documents ps last h.1)

pub normal-edit : (c : Change) → IsNormal c → is_edit c.edit ≡ true
normal-edit c n = both_true _ _ (ap (λ (x : Change). are_settled x.edit.places) n.is ∙ settled-settle [] (steps_of c.runs (bank_of c.edit) ++ rest_kept (length c.edit.places - all_passed c.runs))) (pieces-documents c.edit.places c.edit.last n.pieces)

-- ---- refusals

pub turn-stays : (size : Size) (st : MachineState) (can : Bool) (o : Outcome) (bad : PadBad) → (turn_of size st can o).reply ≡ Err bad → (turn_of size st can o).state ≡ st
turn-stays size st can (Refuses why) bad e = refl
turn-stays size st can (Answers answer pad) bad e = absurd cc
turn-stays size st false (Records r answer pad) bad e = refl
turn-stays size st true (Records r answer pad) bad e = go (journal_fault size st r) e
  where
    go : (f : Option PadBad) → (keeping st f r answer pad).reply ≡ Err bad → (keeping st f r answer pad).state ≡ st
    go (Some full) e = refl
    go None e = absurd cc

open-stays : (size : Size) (st : MachineState) (e : Entry) (reply : Reply) (new : MachineState) (bad : PadBad)
    → reply ≡ Err bad → ((count : ℕ) → bad ≡ Store count → ⊥) → IsOpenStep size st e reply new → IsThen st new
open-stays size st e reply new bad h other (Does r t) =
    subst (λ x. IsThen x new) (turn-stays size st (is_recordable e) (outcome st.pad e) bad (sym r ∙ h)) t
open-stays size st e reply new bad h other (Lacks r t) = t
open-stays size st e reply new bad h other (Fails count r adds q f t) = absurd (other count cc)

found-stays : (size : Size) (st : MachineState) (e : Entry) (reply : Reply) (new : MachineState) (bad : PadBad)
    → reply ≡ Err bad → ((count : ℕ) → bad ≡ Store count → ⊥) → IsFoundStep size st e reply new → IsThen st new ⊎ IsThen (reopening st) new
found-stays size st e reply new bad h other (Opens f step) = inr (open-stays size (reopening st) e reply new bad h other step)
found-stays size st e reply new bad h other (IsFull full f r t) = inl t
found-stays size st e reply new bad h other (FailsOpened count f r g t) = absurd (other count cc)

closed-stays : (size : Size) (st : MachineState) (e : Entry) (reply : Reply) (new : MachineState) (bad : PadBad)
    → reply ≡ Err bad → ((count : ℕ) → bad ≡ Store count → ⊥) → IsClosedStep size st e reply new → StaysAs false st new
closed-stays size st e reply new bad h other (Finds kept step) = inr (kept, found-stays size (settled kept st) e reply new bad h other step)
closed-stays size st e reply new bad h other (LacksOpening r t) = inl t
closed-stays size st e reply new bad h other (FailsOpening count r f t) = inl t

pub refused-stays : (size : Size) (st : MachineState) (e : Entry) (bad : PadBad) (new : MachineState)
    → IsStep size st e (Err bad) new → ((count : ℕ) → bad ≡ Store count → ⊥) → StaysAs st.is_open st new
refused-stays size st e bad new step other = go st.is_open step
  where
    go : (b : Bool) → IsStepAs b size st e (Err bad) new → StaysAs b st new
    go true step = open-stays size st e (Err bad) new bad refl other step
    go false step = closed-stays size st e (Err bad) new bad refl other step

-- ---- an admissible edit

journal-full : (size : Size) (st : MachineState) (r : Record) (full : PadBad) → journal_fault size st r ≡ Some full → (bytes : ℕ) × (full ≡ JournalFull bytes)
journal-full size st r full e = go (nat_lt most_bytes (size r)) (nat_lt (longest_with st.pad.limits r) (file_bytes size (st.records ++ r ∷ []))) e
  where
    go : (a b : Bool) → first_fault (fault_if a (JournalFull (size r)) ∷ fault_if b (JournalFull (file_bytes size (st.records ++ r ∷ []))) ∷ []) ≡ Some full
        → (bytes : ℕ) × (full ≡ JournalFull bytes)
    go true b e = (size r, sym (some_same e))
    go false true e = (file_bytes size (st.records ++ r ∷ []), sym (some_same e))
    go false false e = none_some e

keeping-commits : (size : Size) (st : MachineState) (told : Committed) (r : Record) (pad : PadState) (n : ℕ)
    → CommitsUnless st told r pad (keeping st (journal_fault size st r) r (CommitAnswer told) pad).reply
    (record (keeping st (journal_fault size st r) r (CommitAnswer told) pad).state { faults = n })
keeping-commits size st told r pad n = go (journal_fault size st r) refl
  where
    go : (f : Option PadBad) → journal_fault size st r ≡ f
        → CommitsUnless st told r pad (keeping st f r (CommitAnswer told) pad).reply (record (keeping st f r (CommitAnswer told) pad).state { faults = n })
    go None e = (refl, refl, refl)
    go (Some full) e =
        let b = journal-full size st r full e in subst (λ f. CommitsUnless st told r pad (Err f) (record st { faults = n })) (sym b.1) tt

pub admitted : (size : Size) (st : MachineState) (s : Session) (now base : ℕ) (c : Change) (reply : Reply) (new : MachineState)
    → IsNormal c → IsAdmissible st.pad s base c → IsOpenStep size st (Accept s base c now) reply new
    → CommitsUnless st (commit st.pad (at_head st.pad base c.edit)) (accept_record st.pad s now base c) (committed st.pad s now base c) reply new
admitted size st s now base c reply new normal a step = go step
  where
    told : Committed
    told = commit st.pad (at_head st.pad base c.edit)

    r : Record
    r = accept_record st.pad s now base c

    pad : PadState
    pad = committed st.pad s now base c

    turned : (n : ℕ) → CommitsUnless st told r pad (turn size st (Accept s base c now)).reply (record (turn size st (Accept s base c now)).state { faults = n })
    turned n =
        subst (λ (t : Turn). CommitsUnless st told r pad t.reply (record t.state { faults = n }))
        (sym (ap (λ can. turn_of size st can (outcome st.pad (Accept s base c now))) (normal-edit c normal)
        ∙ ap (λ f. turn_of size st true (unless f (Records r (CommitAnswer told) pad))) ((taken st.pad s base c normal).0 a)))
        (keeping-commits size st told r pad n)

    go : IsOpenStep size st (Accept s base c now) reply new → CommitsUnless st told r pad reply new
    go (Does e t) = subst (λ x. CommitsUnless st told r pad x new) (sym e) (subst (λ x. CommitsUnless st told r pad (turn size st (Accept s base c now)).reply x) (sym t.0) (turned new.faults))
    go (Lacks e t) = subst (λ x. CommitsUnless st told r pad x new) (sym e) tt
    go (Fails count q adds e h t) = subst (λ x. CommitsUnless st told r pad x new) (sym e) tt

-- what is told has the change that was brought to the head
pub commit-rebased : (pad : PadState) (base : ℕ) (e : Edit) → (commit pad (at_head pad base e)).change.edit ≡ rebase (newest pad) e base (head (newest pad))
commit-rebased pad base e = go (is_identity (at_head pad base e))
  where
    go : (b : Bool) → (if b then became_nothing pad (at_head pad base e) else revised pad (at_head pad base e)).change.edit ≡ at_head pad base e
    go true = refl
    go false = refl

-- and says where it had become nothing
pub commit-nop : (pad : PadState) (e : Edit) → (commit pad e).nop ≡ is_identity e
commit-nop pad e = go (is_identity e)
  where
    go : (b : Bool) → (if b then became_nothing pad e else revised pad e).nop ≡ b
    go true = refl
    go false = refl
