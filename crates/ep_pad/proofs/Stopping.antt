-- Entries in which a machine was stopped.
use Rattle.std.proofs.Common.{◌≡◌, ◌⊎◌, inl, inr, ⊎_elim, ℕ, ◌≤◌, Bool, true, false, true≢false, cond, List, [], ◌∷◌, ◌++◌, Option, Some, None, Ok, Err, Result, refl, sym, ap, ◌∙◌, subst, arith}
use Rattle.std.specs.Prelude.{MatchResult}
use Rattle.ep_outside.specs.Crash.{IsAsked}
use Rattle.ep_outside.specs.Disk.{Contents}
use Rattle.ep_outside.specs.declared.image.Image.{Image}
use Rattle.ep_outside.specs.declared.limits.Limits.{Limits}
use Rattle.ep_history.specs.Pad.{PadState}
use Rattle.ep_history.specs.Records.{AreNext}
use Rattle.ep_history.specs.Entries.{Entry, Answer, Reply, outcome, is_recordable}
use Rattle.ep_history.specs.Entries.Outcome.{Records}
use Rattle.ep_history.specs.Machine.{MachineState, IsKeptState, IsStepAs, IsThen, Turn, journal_fault, turn}
use Rattle.ep_history.specs.Machine.IsClosedStep.{LacksOpening}
use Rattle.ep_history.specs.Machine.IsOpenStep.{Does, Lacks}
use Rattle.ep_history.specs.declared.pad_bad.PadBad.{PadBad}
use Rattle.ep_history.specs.declared.pad_bad.PadBad.TheVariants.{JournalFull, NoMemory, Store}
use Rattle.ep_history.specs.declared.record.Record.{Record}
use Rattle.ep_history.proofs.Steps.{open-kept}
use Rattle.ep_pad_file.specs.Standing.{size, MayHold, StandsFor}
use Rattle.ep_pad_file.specs.Stopping.{gate_behind, is_kept, IsStopped}
use Rattle.ep_pad_file.proofs.Left.{left_stands}
use Rattle.ep_pad_file.proofs.Telling.{asked_left, held_tells, left_tells}
use Rattle.ep_pad_state.specs.Answering.{IsRefused}
use Rattle.ep_pad_state.specs.Making.{after, change_of}
use Rattle.ep_pad_state.specs.declared.change.Ready.{Ready}
use Rattle.ep_pad.specs.Held.{Held}
use Rattle.ep_pad.specs.Keeping.{AllStand, IsStoppedAt}
use Rattle.ep_pad.specs.Keeping.IsStoppedAt.{IsUnmade, IsMade}
use Rattle.ep_pad.specs.Opening.{stopped, IsFullThen, IsWoken, MayFind}
use Rattle.ep_pad.specs.Standing.{replied, Stands}
use Rattle.ep_pad.specs.Stopping.{HasNoRoom, StaysStopped, StopsIn}
use Rattle.ep_pad.specs.Stopping.HasNoRoom.{FullBehind}
use Rattle.ep_pad.specs.Stopping.StaysStopped.{Behind}
use Rattle.ep_pad.proofs.Crashing.{none-more}
use Rattle.ep_pad.proofs.Stepping.{after-limits, woken-kept}
use Rattle.ep_pad.proofs.Turns.{turn-of, turn-recorded}
use Rattle.ep_pad.proofs.Waking.{stopped-kept}

-- a disk that is settled stands for its records, whichever image is asked for
pub all-stand : (told : Option Contents) (rs : List Record) → MayHold told rs [] → AllStand told rs
all-stand told rs may asked c image is asks =
    none-more rs image (left_stands rs [] image (asked_left c asked image rs [] (subst (λ o. MayHold o rs []) is may) asks))

-- ---- what it stopped in

if-same : (kept : Bool) (a b : MachineState) → a ≡ b → (cond kept a b) ≡ b
if-same true a b is = is
if-same false a b is = refl

-- the entry does nothing, or memory was wanting
pub stops-still : (st : MachineState) (e : Entry) (reply : Reply) (kept : Bool) → ((turn size st e).state ≡ st) ⊎ (reply ≡ Err NoMemory) → StopsIn st e reply kept (stopped st)
stops-still st e reply kept (inl same) = record { lacks = λ _. refl; does = λ _. ap stopped (sym (if-same kept (turn size st e).state st same)) }
stops-still st e reply kept (inr is) = record { lacks = λ _. refl; does = λ other. absurd (other is) }

-- it is recorded
pub stops-recorded : (st next : MachineState) (e : Entry) (reply : Reply) (kept : Bool) → (turn size st e).state ≡ next → (reply ≡ Err NoMemory → ⊥)
    → StopsIn st e reply kept (stopped (cond kept next st))
stops-recorded st next e reply kept same other = record { lacks = λ is. absurd (other is); does = λ _. ap (λ (t : MachineState). stopped (cond kept t st)) (sym same) }

-- what was answered
pub replied-lacks : {A : Type 0} (f : A → Answer) (r : Result A PadBad) → replied f r ≡ Err NoMemory → r ≡ Err NoMemory
replied-lacks f (Ok x) is = absurd (cc)
replied-lacks f (Err bad) is = let e : bad ≡ NoMemory = cc in ap (λ (b : PadBad). Err b) e

pub never-full : (said : PadBad) (n : ℕ) → said ≡ NoMemory → said ≡ JournalFull n → ⊥
never-full said n lacks full = let e : NoMemory ≡ JournalFull n = sym lacks ∙ full in absurd (cc)

-- ---- the journal has no room for the opening behind

pub full-behind : (st mid at next : MachineState) (e : Entry) (reply : Reply) (kept : MachineState → Bool) (bad : PadBad) → IsWoken st mid → StopsIn mid e reply (kept mid) at
    → (reply ≡ Err NoMemory → ⊥) → IsFullThen at bad next → HasNoRoom st e kept bad next
full-behind st mid at next e reply kept bad w s other full = FullBehind mid w (subst (λ (x : MachineState). IsFullThen x bad next) (s.does other) full)

-- memory was wanting for the entry: it is as if it had been wanting for the opening too
pub lacks-behind : (st mid at next : MachineState) (e : Entry) (reply : Reply) (kept : Bool) (bad : PadBad) → IsWoken st mid → mid.is_open ≡ true → StopsIn mid e reply kept at
    → reply ≡ Err NoMemory → IsFullThen at bad next → StaysStopped st e NoMemory next
lacks-behind st mid at next e reply kept bad w on s is full =
    Behind mid mid (Err NoMemory) w (subst (λ (b : Bool). IsStepAs b size mid e (Err NoMemory) mid) (sym on) (Lacks refl (refl, omega arith)))
    (refl, λ f. LacksOpening refl (subst (λ (x : MachineState). IsThen x next) (s.lacks is) full.1))

-- ---- what may be found then

pub may-find : (within : Limits) (faults : ℕ) (image : List ℕ) (st : MachineState) → StandsFor st.records image → IsKeptState st → st.pending ≡ [] → st.pad.limits ≡ within
    → st.faults ≤ faults → MayFind within faults image (stopped st)
may-find within faults image st s k none limits few = record { stands = s; kept = stopped-kept st k; shut = refl; settled = none; limits = limits; few = few }

turn-kept : (st : MachineState) (e : Entry) → IsKeptState st → st.is_open ≡ true → IsKeptState (turn size st e).state
turn-kept st e k on = let t = turn size st e in open-kept size st e t.reply t.state k.kept (k.whole on) (Does refl (refl, omega arith))

-- with the record, or without it
find-either : (within : Limits) (faults : ℕ) (image : List ℕ) (st next : MachineState) (kept : Bool) → StandsFor (cond kept next.records st.records) image → IsKeptState next → IsKeptState st
    → next.pending ≡ [] → st.pending ≡ [] → next.pad.limits ≡ within → st.pad.limits ≡ within → next.faults ≤ faults → st.faults ≤ faults
    → MayFind within faults image (stopped (cond kept next st))
find-either within faults image st next true s kn ks pn ps ln ls fn fs = may-find within faults image next s kn pn ln fn
find-either within faults image st next false s kn ks pn ps ln ls fn fs = may-find within faults image st s ks ps ls fs

-- the parts of an open state
pub record IsAwake (within : Limits) (faults : ℕ) (st : MachineState) : Type 0 where
  pub kept : IsKeptState st
  pub on : st.is_open ≡ true
  pub limits : st.pad.limits ≡ within
  pub few : st.faults ≤ faults

pub found-still : (within : Limits) (faults : ℕ) (image : List ℕ) (st : MachineState) (e : Entry) (reply : Reply) (kept : Bool) → IsAwake within faults st
    → ((turn size st e).state ≡ st) ⊎ (reply ≡ Err NoMemory) → StandsFor st.records image → (at : MachineState) × StopsIn st e reply kept at × MayFind within faults image at
found-still within faults image st e reply kept a why s =
    (stopped st, stops-still st e reply kept why, may-find within faults image st s a.kept (a.kept.whole a.on) a.limits a.few)

pub found-recorded : (within : Limits) (faults : ℕ) (image : List ℕ) (st : MachineState) (e : Entry) (reply : Reply) (kept : Bool) (r : Record) (answer : Answer) (pad : PadState) → IsAwake within faults st
    → outcome st.pad e ≡ Records r answer pad → is_recordable e ≡ true → journal_fault size st r ≡ None → pad.limits ≡ st.pad.limits → (reply ≡ Err NoMemory → ⊥)
    → StandsFor (cond kept (st.records ++ r ∷ []) st.records) image → (at : MachineState) × StopsIn st e reply kept at × MayFind within faults image at
found-recorded within faults image st e reply kept r answer pad a is can fits same other s =
    let next : MachineState = record st { records = st.records ++ r ∷ []; pad = pad } in
    let t : (turn size st e).state ≡ next = ap (λ (x : Turn). x.state) (turn-recorded size st e r answer pad None is can fits) in
    let kept_next = subst IsKeptState t (turn-kept st e a.kept a.on) in (
      stopped (cond kept next st),
      stops-recorded st next e reply kept t other,
      find-either within faults image st next kept s kept_next a.kept (a.kept.whole a.on) (a.kept.whole a.on) (same ∙ a.limits) a.limits a.few a.few,
    )

pub turn-refused : (st : MachineState) (e : Entry) (bad : PadBad) (reply : Reply) → reply ≡ Err bad → IsRefused (outcome st.pad e) bad → ((turn size st e).state ≡ st) ⊎ (reply ≡ Err NoMemory)
turn-refused st e bad reply says (inl is) = inl (ap (λ (x : Turn). x.state) (turn-of size st e _ is))
turn-refused st e bad reply says (inr lacks) = inr (says ∙ ap (λ b. Err b) lacks)

pub turn-full : (st : MachineState) (e : Entry) (r : Record) (answer : Answer) (pad : PadState) (bad : PadBad) → outcome st.pad e ≡ Records r answer pad → is_recordable e ≡ true
    → journal_fault size st r ≡ Some bad → (turn size st e).state ≡ st
turn-full st e r answer pad bad is can full = ap (λ (x : Turn). x.state) (turn-recorded size st e r answer pad (Some bad) is can full)

-- a record was to be kept, and wasn't
pub found-unkept : (told : Option Contents) (within : Limits) (faults : ℕ) (asked : Image) (c : Contents) (image : List ℕ) (st : MachineState) (e : Entry) (bad : PadBad) (calls : ℕ) (r : Record) (answer : Answer) (pad : PadState)
    → IsAwake within faults st → outcome st.pad e ≡ Records r answer pad → is_recordable e ≡ true → pad.limits ≡ st.pad.limits → told ≡ Some c → IsAsked c asked image
    → IsStoppedAt told st r calls bad
    → (at : MachineState) × StopsIn st e (Err bad) (is_kept (gate_behind st.records) calls asked) at × MayFind within faults image at
found-unkept told within faults asked c image st e bad calls r answer pad a is can same tells asks (IsUnmade (inl lacks) all) =
    found-still within faults image st e (Err bad) _ a (inr (ap (λ b. Err b) lacks)) (all asked c image tells asks)
found-unkept told within faults asked c image st e bad calls r answer pad a is can same tells asks (IsUnmade (inr full) all) =
    found-still within faults image st e (Err bad) _ a (inl (turn-full st e r answer pad bad is can full)) (all asked c image tells asks)
found-unkept told within faults asked c image st e bad calls r answer pad a is can same tells asks (IsMade n why fits made) =
    found-recorded within faults image st e (Err bad) _ r answer pad a is can fits same (λ none. let store : Store n ≡ bad = sym why in cc) (made asked c image tells asks)

module _ {A : Type 0} where
  -- or was kept
  pub found-kept : (told : Option Contents) (within : Limits) (faults : ℕ) (asked : Image) (c : Contents) (image : List ℕ) (st : MachineState) (e : Entry) (f : A → Answer) (x : Ready A) (result : Result A PadBad) (calls : ℕ)
      → IsAwake within faults st → outcome st.pad e ≡ Records x.record (f x.answer) (after (change_of x) st.pad) → is_recordable e ≡ true → told ≡ Some c → IsAsked c asked image
      → MatchResult result (λ _. (journal_fault size st x.record ≡ None) × IsStopped told st.records x.record calls) (IsStoppedAt told st x.record calls)
      → (at : MachineState) × StopsIn st e (replied f result) (is_kept (gate_behind st.records) calls asked) at × MayFind within faults image at
  found-kept told within faults asked c image st e f x (Ok answer) calls a is can tells asks h =
      found-recorded within faults image st e (Ok (f answer)) _ x.record (f x.answer) (after (change_of x) st.pad) a is can h.0 (after-limits (change_of x) st.pad) (λ none. cc) (h.1 asked c image tells asks)
  found-kept told within faults asked c image st e f x (Err bad) calls a is can tells asks h =
      found-unkept told within faults asked c image st e bad calls x.record (f x.answer) (after (change_of x) st.pad) a is can (after-limits (change_of x) st.pad) tells asks h

-- ---- states that are open

pub woken-state : (st mid : MachineState) → IsKeptState st → IsWoken st mid → mid.pending ≡ [] → IsKeptState mid
woken-state st mid k w none = record {
  kept = woken-kept st mid k w;
  pending = subst (AreNext mid.pad) (sym none) tt;
  whole = λ _. none;
}

module _ {D : Type 0} (told_by : D → Option Contents) (failures : D → ℕ) where
  -- a machine that stands for a state has a disk that tells
  pub stands-tells : (m : Held D) (st : MachineState) → Stands told_by failures m st → (c : Contents) × (told_by m.disk ≡ Some c)
  stands-tells m st s = go m.is_open refl
    where
      go : (b : Bool) → m.is_open ≡ b → (c : Contents) × (told_by m.disk ≡ Some c)
      go true on = let o = s.open_has on in let t = held_tells (told_by m.disk) st.records o.holds in (t.0, t.1)
      go false off = let t = left_tells (told_by m.disk) st.records st.pending (s.closed_has off) in (t.0, t.1)
