-- What holds of each state of a legal history.
use Rattle.std.proofs.Common.{◌≡◌, ℕ, ◌≤◌, Bool, true, false, ◌&&◌, if◌then◌else◌, List, [], ◌∷◌, ◌++◌, length, Option, Some, None, refl, sym, ap, ◌∙◌, subst, T, arith, append_assoc, append-nil}
use Rattle.std.proofs.lemmas.List.{length-append}
use Rattle.ep_units.specs.Text.{Text}
use Rattle.ep_units.specs.declared.session.Session.{Session}
use Rattle.ep_units.specs.declared.grant.Grant.{Grant}
use Rattle.ep_attr.proofs.SameMap.{first_true}
use Rattle.ep_outside.specs.declared.limits.Limits.{Limits}
use Rattle.ep_history.specs.Pad.{PadState, seat_of, with_session, leave, create, delete, set_public}
use Rattle.ep_history.specs.Refusals.{login_fault, resume_fault, resume_faults, is_birth}
use Rattle.ep_history.specs.Accept.{refusal, committed}
use Rattle.ep_history.specs.Server.{create_fault, set_fault, gone_fault, set_text}
use Rattle.ep_history.specs.Readings.{end_of, dead_if, dead_fault, fetch_fault, text_fault, history_fault, welcome}
use Rattle.ep_history.specs.Records.{AreLegal, AreNext, IsNext, next_pad, told, told_from, unopened, without_sessions, IsKept, accept_record, create_record, set_record, IsSoundPad}
use Rattle.ep_history.specs.Entries.{Entry, Outcome, Reply, outcome, unless, logs_in, is_recordable}
use Rattle.ep_history.specs.Entries.Answer.{LoginAnswer}
use Rattle.ep_history.specs.Entries.Entry.{Login, Resume, Accept, Fetch, Leave, Create, SetText, Delete, SetPublic, ReadText, ReadHistory, ReadStatus}
use Rattle.ep_history.specs.Entries.Outcome.{Refuses, Answers, Records}
use Rattle.ep_history.specs.Machine.{MachineState, Size, Call, IsOpenStep, IsFoundStep, IsClosedStep, IsStep, IsStepAs, IsThen, IsFirst, IsKeptState, Runs, closed, journal_fault, keeping, open_record, reopening, settled, turn, turn_of}
use Rattle.ep_history.specs.Machine.IsOpenStep.{Does, Lacks, Fails}
use Rattle.ep_history.specs.Machine.IsFoundStep.{Opens, IsFull, FailsOpened}
use Rattle.ep_history.specs.Machine.IsClosedStep.{Finds, LacksOpening, FailsOpening}
use Rattle.ep_history.specs.declared.seat.Seat.{Seat}
use Rattle.ep_history.specs.declared.seat.Why.{Why}
use Rattle.ep_history.specs.declared.pad_bad.PadBad.{PadBad}
use Rattle.ep_history.specs.declared.pad_bad.PadBad.TheVariants.{Gone}
use Rattle.ep_history.specs.declared.record.Record.{Record}
use Rattle.ep_history.specs.declared.record.Record.TheVariants as record_of
use Rattle.ep_history.proofs.Lists.{none_some}
use Rattle.ep_history.proofs.Refused.{AreNone, none-of}
use Rattle.ep_history.proofs.Sound.{legal-sound, next-sound, create-sound}
use Rattle.ep_history.proofs.Recorded.{accept-recorded, birth-recorded, create-recorded, gone-present, if-there, live-present, next-apart, next-more, next-without, set-recorded, told-more}

-- ---- the pad after an entry

-- what an outcome leaves: a sound pad, which is as it was apart from sessions, or as the record tells that may come next
abbrev pub IsGoodOutcome : PadState → Bool → Outcome → Type 0
IsGoodOutcome pad can (Refuses bad) = Unit {0}
IsGoodOutcome pad can (Answers answer next) = (without_sessions next ≡ without_sessions pad) × IsSoundPad next
IsGoodOutcome pad can (Records r answer next) =
    can ≡ true → IsNext pad r × (without_sessions next ≡ without_sessions (next_pad pad r)) × IsSoundPad next

unless-good : (pad : PadState) (can : Bool) (f : Option PadBad) (o : Outcome) → (f ≡ None → IsGoodOutcome pad can o) → IsGoodOutcome pad can (unless f o)
unless-good pad can None o g = g refl
unless-good pad can (Some bad) o g = tt

-- what is recorded as the call makes it
recorded-good : (pad : PadState) (r : Record) (next : PadState) → IsSoundPad pad → IsNext pad r × (next_pad pad r ≡ next)
    → IsNext pad r × (without_sessions next ≡ without_sessions (next_pad pad r)) × IsSoundPad next
recorded-good pad r next s n = (n.0, ap without_sessions (sym n.1), subst IsSoundPad n.1 (next-sound pad r s n.0))

-- a session enters a pad that is there
enters : (pad : PadState) (author : Text) (read_only : Bool) → IsSoundPad pad → pad.present ≡ true → IsSoundPad (with_session pad author read_only)
enters pad author read_only s p = record { births = s.births; present = s.present; absent = λ a. absurd (subst T (sym p ∙ a) tt) }

login-good : (pad : PadState) (g : Grant) (now : ℕ) → IsSoundPad pad → 1 ≤ pad.epoch → IsGoodOutcome pad true (logs_in pad g now)
login-good pad g now s o = go pad.present refl
  where
    there : Bool → PadState
    there b = if b then pad else create pad now []

    go : (b : Bool) → pad.present ≡ b
        → IsGoodOutcome pad true (if b then Answers (LoginAnswer (welcome (there b) g)) (with_session (there b) g.author g.read_only)
        else Records (create_record pad now []) (LoginAnswer (welcome (there b) g)) (with_session (there b) g.author g.read_only))
    go true p = (refl, enters pad g.author g.read_only s p)
    go false p = λ can.
        let n = birth-recorded pad now [] o p refl in
        (n.0, ap without_sessions (sym n.1), enters (create pad now []) g.author g.read_only (create-sound pad now [] s refl) refl)

pub dead-live : (pad : PadState) (s : Session) → dead_fault pad s ≡ None → (l : Seat) × (seat_of pad s ≡ Some l) × (l.end ≡ None)
dead-live pad s e = go (seat_of pad s) refl e
  where
    live : (o : Option Why) → dead_if o ≡ None → o ≡ None
    live None e = refl
    live (Some why) e = none_some (sym e)

    go : (o : Option Seat) → seat_of pad s ≡ o → dead_if (end_of pad.epoch o) ≡ None → (l : Seat) × (seat_of pad s ≡ Some l) × (l.end ≡ None)
    go None f e = none_some (sym e)
    go (Some l) f e = (l, f, live l.end e)

pub outcome-good : (pad : PadState) (e : Entry) → IsSoundPad pad → 1 ≤ pad.epoch → IsGoodOutcome pad (is_recordable e) (outcome pad e)
outcome-good pad (Login g now) s o = unless-good pad true (login_fault pad g) (logs_in pad g now) (λ f. login-good pad g now s o)
outcome-good pad (Resume g rev birth author now) s o =
    unless-good pad true (resume_fault pad g rev birth author) _ (λ f. (refl, enters pad g.author g.read_only s (there (none-of (resume_faults pad g rev birth author) f))))
  where
    there : AreNone (resume_faults pad g rev birth author) → pad.present ≡ true
    there f = first_true pad.present (is_birth (length pad.births) birth) (if-there (pad.present && is_birth (length pad.births) birth) Gone f.1.1.1.1.0)
outcome-good pad (Accept t base c now) s o =
    unless-good pad _ (refusal pad t base c) _ (λ f can. recorded-good pad (accept_record pad t now base c) (committed pad t now base c) s (accept-recorded pad t now base c s f can))
outcome-good pad (Fetch t from told) s o = unless-good pad true (fetch_fault pad t from) _ (λ f. (refl, s))
outcome-good pad (Leave t) s o = unless-good pad true (dead_fault pad t) _ (λ f. (refl, left (dead-live pad t f)))
  where
    left : (l : Seat) × (seat_of pad t ≡ Some l) × (l.end ≡ None) → IsSoundPad (leave pad t)
    left l = let p = live-present pad t l.0 s l.1 l.2 in
        record { births = s.births; present = s.present; absent = λ a. absurd (subst T (sym p ∙ a) tt) }
outcome-good pad (Create text now) s o = unless-good pad _ (create_fault pad text) _ (λ f can. recorded-good pad (create_record pad now text) (create pad now text) s (create-recorded pad now text o f can))
outcome-good pad (SetText text now) s o = unless-good pad _ (set_fault pad text) _ (λ f can. recorded-good pad (set_record pad now text) (set_text pad now text) s (set-recorded pad now text s f can))
outcome-good pad (Delete now) s o = unless-good pad true (gone_fault pad) _ (λ f can. recorded-good pad (record_of.Delete now) (delete pad) s (gone-present pad f, refl))
outcome-good pad (SetPublic on) s o = unless-good pad true (gone_fault pad) _ (λ f can. recorded-good pad (record_of.Public on) (set_public pad on) s (gone-present pad f, refl))
outcome-good pad (ReadText rev) s o = unless-good pad true (text_fault pad rev) _ (λ f. (refl, s))
outcome-good pad (ReadHistory t start count) s o = unless-good pad true (history_fault pad t start) _ (λ f. (refl, s))
outcome-good pad ReadStatus s o = unless-good pad true (gone_fault pad) _ (λ f. (refl, s))

-- ---- the records and the pad

-- another pad that differs in sessions alone
kept-same : (rs : List Record) (pad next : PadState) → IsKept rs pad → without_sessions next ≡ without_sessions pad → IsSoundPad next → IsKept rs next
kept-same rs pad next k e s = record {
  legal = subst (λ (l : Limits). AreLegal l rs) (sym limits) k.legal;
  told = e ∙ k.told ∙ ap (λ (l : Limits). told l rs) (sym limits);
  sound = s;
  opened = let n : next.epoch ≡ pad.epoch = ap (λ (p : PadState). p.epoch) e in let o = k.opened in omega (arith, n, o);
}
  where
    limits : next.limits ≡ pad.limits
    limits = ap (λ (p : PadState). p.limits) e

next-limits : (pad : PadState) (r : Record) → (next_pad pad r).limits ≡ pad.limits
next-limits pad (record_of.Open epoch) = refl
next-limits pad (record_of.Create birth time text) = refl
next-limits pad (record_of.Rev by time author fixed change) = refl
next-limits pad (record_of.Delete time) = refl
next-limits pad (record_of.Public on) = refl
next-limits pad (record_of.Nop by time) = refl

pub told-limits : (pad : PadState) (rs : List Record) → (told_from pad rs).limits ≡ pad.limits
told-limits pad [] = refl
told-limits pad (r ∷ rs) = told-limits (next_pad pad r) rs ∙ next-limits pad r

pub next-epoch : (pad : PadState) (r : Record) → pad.epoch ≤ (next_pad pad r).epoch
next-epoch pad (record_of.Open epoch) = omega arith
next-epoch pad (record_of.Create birth time text) = omega arith
next-epoch pad (record_of.Rev by time author fixed change) = omega arith
next-epoch pad (record_of.Delete time) = omega arith
next-epoch pad (record_of.Public on) = omega arith
next-epoch pad (record_of.Nop by time) = omega arith

-- a record more, and the pad that it tells
pub kept-next : (rs : List Record) (pad : PadState) (r : Record) → IsKept rs pad → IsNext pad r → IsKept (rs ++ r ∷ []) (next_pad pad r)
kept-next rs pad r k n = record {
  legal = subst (λ (l : Limits). AreLegal l (rs ++ r ∷ [])) (sym limits) (next-more (unopened pad.limits) rs r k.legal (subst (λ p. IsNext p r) k.told (next-without pad r n)));
  told =
      next-apart pad r
      ∙ ap (λ p. next_pad p r) k.told
      ∙ sym (told-more (unopened pad.limits) rs r)
      ∙ ap (λ (l : Limits). told l (rs ++ r ∷ [])) (sym limits);
  sound = next-sound pad r k.sound n;
  opened = let e = next-epoch pad r in let o = k.opened in omega (arith, e, o);
}
  where
    limits : (next_pad pad r).limits ≡ pad.limits
    limits = next-limits pad r

-- nothing was added
none-added : (rs : List Record) (r : Record) → rs ≡ rs ++ r ∷ [] → ⊥
none-added rs r e = let n : length rs ≡ length (rs ++ r ∷ []) = ap (λ (xs : List Record). length xs) e in let m = length-append rs (r ∷ []) in omega (arith, n, m)

same-added : (rs : List Record) (q r : Record) → rs ++ q ∷ [] ≡ rs ++ r ∷ [] → q ≡ r
same-added [] q r e = cc
same-added (x ∷ rs) q r e = same-added rs q r cc

turn-kept : (size : Size) (st : MachineState) (can : Bool) (o : Outcome) → IsKept st.records st.pad → IsGoodOutcome st.pad can o
    → IsKept (turn_of size st can o).state.records (turn_of size st can o).state.pad
turn-kept size st can (Refuses bad) k g = k
turn-kept size st can (Answers answer next) k g = kept-same st.records st.pad next k g.0 g.1
turn-kept size st false (Records r answer next) k g = k
turn-kept size st true (Records r answer next) k g = go (journal_fault size st r)
  where
    go : (f : Option PadBad) → IsKept (keeping st f r answer next).state.records (keeping st f r answer next).state.pad
    go (Some full) = k
    go None =
        let n = g refl in
        kept-same (st.records ++ r ∷ []) (next_pad st.pad r) next (kept-next st.records st.pad r k n.0) n.1 n.2

-- a turn leaves what is pending
turn-pending : (size : Size) (st : MachineState) (can : Bool) (o : Outcome) → (turn_of size st can o).state.pending ≡ st.pending
turn-pending size st can (Refuses bad) = refl
turn-pending size st can (Answers answer next) = refl
turn-pending size st false (Records r answer next) = refl
turn-pending size st true (Records r answer next) = go (journal_fault size st r)
  where
    go : (f : Option PadBad) → (keeping st f r answer next).state.pending ≡ st.pending
    go (Some full) = refl
    go None = refl

-- what a turn keeps may come next
turn-adds : (size : Size) (st : MachineState) (can : Bool) (o : Outcome) (r : Record) → IsGoodOutcome st.pad can o
    → (turn_of size st can o).state.records ≡ st.records ++ r ∷ [] → IsNext st.pad r
turn-adds size st can (Refuses bad) r g e = absurd (none-added st.records r e)
turn-adds size st can (Answers answer next) r g e = absurd (none-added st.records r e)
turn-adds size st false (Records q answer next) r g e = absurd (none-added st.records r e)
turn-adds size st true (Records q answer next) r g e = go (journal_fault size st q) e
  where
    go : (f : Option PadBad) → (keeping st f q answer next).state.records ≡ st.records ++ r ∷ [] → IsNext st.pad r
    go (Some full) e = absurd (none-added st.records r e)
    go None e = subst (λ (x : Record). IsNext st.pad x) (same-added st.records q r e) (g refl).0

then-state : (st new : MachineState) → IsKeptState st → IsThen st new → IsKeptState new
then-state st new k t = subst IsKeptState (sym t.0) record { kept = k.kept; pending = k.pending; whole = k.whole }

-- closed at a record that may come next
closed-state : (st new : MachineState) (r : Record) → IsKept st.records st.pad → IsNext st.pad r → IsThen (closed r st) new → IsKeptState new
closed-state st new r k n t = subst IsKeptState (sym t.0) record { kept = k; pending = (n, tt); whole = λ e. absurd (subst T (sym e) tt) }

pub open-kept : (size : Size) (st : MachineState) (e : Entry) (reply : Reply) (new : MachineState) → IsKept st.records st.pad → st.pending ≡ []
    → IsOpenStep size st e reply new → IsKeptState new
open-kept size st e reply new k p step = go step
  where
    good : IsGoodOutcome st.pad (is_recordable e) (outcome st.pad e)
    good = outcome-good st.pad e k.sound k.opened

    none : (turn size st e).state.pending ≡ []
    none = turn-pending size st (is_recordable e) (outcome st.pad e) ∙ p

    go : IsOpenStep size st e reply new → IsKeptState new
    go (Does r t) = subst IsKeptState (sym t.0) record {
      kept = turn-kept size st (is_recordable e) (outcome st.pad e) k good;
      pending = subst (AreNext (turn size st e).state.pad) (sym none) tt;
      whole = λ _. none;
    }
    go (Lacks r t) = subst IsKeptState (sym t.0) record { kept = k; pending = subst (AreNext st.pad) (sym p) tt; whole = λ _. p }
    go (Fails count r adds q h t) = closed-state st new r k (turn-adds size st (is_recordable e) (outcome st.pad e) r good adds) t

pub reopening-kept : (st : MachineState) → IsKept st.records st.pad → IsKept (reopening st).records (reopening st).pad
reopening-kept st k = kept-next st.records st.pad (open_record st) k refl

found-kept : (size : Size) (st : MachineState) (e : Entry) (reply : Reply) (new : MachineState) → IsKeptState st → st.pending ≡ []
    → IsFoundStep size st e reply new → IsKeptState new
found-kept size st e reply new k p (Opens f step) = open-kept size (reopening st) e reply new (reopening-kept st k.kept) p step
found-kept size st e reply new k p (IsFull full f r t) = then-state st new k t
found-kept size st e reply new k p (FailsOpened count f r h t) = closed-state st new (open_record st) k.kept refl t

-- several records more
kept-all : (rs : List Record) (pad : PadState) (qs : List Record) → IsKept rs pad → AreNext pad qs → IsKept (rs ++ qs) (told_from pad qs)
kept-all rs pad [] k n = subst (λ (xs : List Record). IsKept xs pad) (sym (append-nil rs)) k
kept-all rs pad (q ∷ qs) k n =
    subst (λ (xs : List Record). IsKept xs (told_from (next_pad pad q) qs)) (append_assoc rs (q ∷ []) qs) (kept-all (rs ++ q ∷ []) (next_pad pad q) qs (kept-next rs pad q k n.0) n.1)

pub settled-kept : (st : MachineState) (kept : Bool) → IsKeptState st → IsKeptState (settled kept st)
settled-kept st true k = record { kept = kept-all st.records st.pad st.pending k.kept k.pending; pending = tt; whole = λ _. refl }
settled-kept st false k = record { kept = k.kept; pending = tt; whole = λ _. refl }

settled-none : (kept : Bool) (st : MachineState) → (settled kept st).pending ≡ []
settled-none true st = refl
settled-none false st = refl

closed-kept : (size : Size) (st : MachineState) (e : Entry) (reply : Reply) (new : MachineState) → IsKeptState st → IsClosedStep size st e reply new → IsKeptState new
closed-kept size st e reply new k (Finds kept step) = found-kept size (settled kept st) e reply new (settled-kept st kept k) (settled-none kept st) step
closed-kept size st e reply new k (LacksOpening r t) = then-state st new k t
closed-kept size st e reply new k (FailsOpening count r h t) = then-state st new k t

pub step-kept : (size : Size) (st : MachineState) (e : Entry) (reply : Reply) (new : MachineState) → IsKeptState st → IsStep size st e reply new → IsKeptState new
step-kept size st e reply new k = go st.is_open refl
  where
    go : (b : Bool) → st.is_open ≡ b → IsStepAs b size st e reply new → IsKeptState new
    go true o step = open-kept size st e reply new k.kept (k.whole o) step
    go false o step = closed-kept size st e reply new k step

pub runs-kept : (size : Size) (st : MachineState) (calls : List Call) (last : MachineState) → IsKeptState st → Runs size st calls last → IsKeptState last
runs-kept size st [] last k r = subst IsKeptState (sym r) k
runs-kept size st (c ∷ cs) last k r = runs-kept size r.0 cs last (step-kept size st c.entry c.reply r.0 k r.1) r.2

told-silent : (pad : PadState) (rs : List Record) → without_sessions pad ≡ pad → without_sessions (told_from pad rs) ≡ told_from pad rs
told-silent pad [] e = e
told-silent pad (r ∷ rs) e = told-silent (next_pad pad r) rs (next-apart pad r ∙ ap (λ p. next_pad p r) e)

pub first-kept : (st : MachineState) → IsFirst st → IsKeptState st
first-kept st f = record {
  kept = record {
    legal = f.legal;
    told = ap without_sessions f.told ∙ told-silent (unopened st.pad.limits) st.records refl;
    sound = subst IsSoundPad (sym f.told) (legal-sound st.pad.limits st.records f.legal);
    opened = f.opened;
  };
  pending = subst (AreNext st.pad) (sym f.pending) tt;
  whole = λ _. f.pending;
}
