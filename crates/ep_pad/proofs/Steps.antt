-- A call's step of a machine, from its parts.
use Rattle.std.proofs.Common.{◌≡◌, inl, inr, ℕ, ◌≤◌, Bool, true, false, Option, Some, None, refl, sym, ap, ◌∙◌, subst, arith}
use Rattle.ep_history.specs.Entries.{Entry, Outcome, Reply, outcome, is_recordable}
use Rattle.ep_history.specs.Entries.Outcome.{Refuses, Answers, Records}
use Rattle.ep_history.specs.Machine.{MachineState, Size, Turn, IsOpenStep, IsStep, IsStepAs, IsThen, HasRisen, closed, journal_fault, keeping, open_record, reopening, settled, turn, turn_of}
use Rattle.ep_history.specs.Machine.IsOpenStep.{Does, Lacks, Fails}
use Rattle.ep_history.specs.Machine.IsFoundStep.{Opens}
use Rattle.ep_history.specs.Machine.IsClosedStep.{Finds}
use Rattle.ep_history.specs.declared.pad_bad.PadBad.{PadBad}

-- ---- the count of faults

abbrev pub with_faults : MachineState → ℕ → MachineState
with_faults st n = record st { faults = n }

abbrev turn_with : Turn → ℕ → Turn
turn_with t n = record { reply = t.reply; state = with_faults t.state n }

-- a turn doesn't ask how many faults were counted
turn-faults : (size : Size) (st : MachineState) (n : ℕ) (can : Bool) (o : Outcome) → turn_of size (with_faults st n) can o ≡ turn_with (turn_of size st can o) n
turn-faults size st n can (Refuses bad) = refl
turn-faults size st n can (Answers a pad) = refl
turn-faults size st n false (Records r a pad) = refl
turn-faults size st n true (Records r a pad) = go (journal_fault size st r)
  where
    go : (f : Option PadBad) → keeping (with_faults st n) f r a pad ≡ turn_with (keeping st f r a pad) n
    go (Some full) = refl
    go None = refl

same-faults : (size : Size) (st : MachineState) (can : Bool) (o : Outcome) → (turn_of size st can o).state.faults ≡ st.faults
same-faults size st can (Refuses bad) = refl
same-faults size st can (Answers a pad) = refl
same-faults size st false (Records r a pad) = refl
same-faults size st true (Records r a pad) = go (journal_fault size st r)
  where
    go : (f : Option PadBad) → (keeping st f r a pad).state.faults ≡ st.faults
    go (Some full) = refl
    go None = refl

-- what comes behind a state with more faults comes behind the state
then-later : (st new : MachineState) (n : ℕ) → st.faults ≤ n → IsThen (with_faults st n) new → IsThen st new
then-later st new n h t = let l = t.1 in (t.0, omega (arith, h, l))

risen-later : (st new : MachineState) (n count : ℕ) → st.faults ≤ n → HasRisen (with_faults st n) new count → HasRisen st new count
risen-later st new n count h (e, inl l) = (e, inl (omega (arith, h, l)))
risen-later st new n count h (e, inr m) = (e, inr m)

open-later : (size : Size) (st : MachineState) (n : ℕ) (e : Entry) (reply : Reply) (new : MachineState) → st.faults ≤ n
    → IsOpenStep size (with_faults st n) e reply new → IsOpenStep size st e reply new
open-later size st n e reply new h step = go step
  where
    t : Turn
    t = turn size st e

    same : turn size (with_faults st n) e ≡ turn_with t n
    same = turn-faults size st n (is_recordable e) (outcome st.pad e)

    few : t.state.faults ≤ n
    few = let s = same-faults size st (is_recordable e) (outcome st.pad e) in omega (arith, s, h)

    go : IsOpenStep size (with_faults st n) e reply new → IsOpenStep size st e reply new
    go (Does r x) = Does (r ∙ ap (λ (y : Turn). y.reply) same) (then-later t.state new n few (subst (λ (y : Turn). IsThen y.state new) same x))
    go (Lacks r x) = Lacks r (then-later st new n h x)
    go (Fails count r adds q rose x) =
        Fails count r (ap (λ (y : Turn). y.state.records) (sym same) ∙ adds) q (risen-later st new n count h rose) (then-later (closed r st) new n h x)

-- an open machine's step is one behind an earlier state
pub open-behind : (size : Size) (st mid : MachineState) (e : Entry) (reply : Reply) (new : MachineState) → IsThen st mid
    → IsOpenStep size mid e reply new → IsOpenStep size st e reply new
open-behind size st mid e reply new t step =
    open-later size st mid.faults e reply new t.1 (subst (λ x. IsOpenStep size x e reply new) t.0 step)

pub then-behind : (st mid new : MachineState) → IsThen st mid → IsThen mid new → IsThen st new
then-behind st mid new t u =
    let a = t.1 in
    let b = u.1 in
    (u.0 ∙ ap (λ (x : MachineState). record x { faults = new.faults }) t.0, omega (arith, a, b))

-- ---- whole steps

pub step-open : (size : Size) (st : MachineState) (e : Entry) (reply : Reply) (new : MachineState) → st.is_open ≡ true
    → IsOpenStep size st e reply new → IsStep size st e reply new
step-open size st e reply new o step = subst (λ b. IsStepAs b size st e reply new) (sym o) step

pub step-opened : (size : Size) (st mid : MachineState) (kept : Bool) (e : Entry) (reply : Reply) (new : MachineState) → st.is_open ≡ false
    → journal_fault size (settled kept st) (open_record (settled kept st)) ≡ None
    → IsThen (reopening (settled kept st)) mid → IsOpenStep size mid e reply new → IsStep size st e reply new
step-opened size st mid kept e reply new o j t step =
    subst (λ b. IsStepAs b size st e reply new) (sym o) (Finds kept (Opens j (open-behind size (reopening (settled kept st)) mid e reply new t step)))
