-- The revisions that one session's fetches were answered are those of its birth.
use Rattle.std.proofs.Common.{◌≡◌, ℕ, suc, ◌+◌, ◌≤◌, Bool, true, false, not, ◌==◌, if◌then◌else◌, List, [], ◌∷◌, ◌++◌, ◌⊎◌, inl, inr, map, length, take, drop, Option, Some, None, Ok, Err, refl, sym, ap, ◌∙◌, subst, arith}
use Rattle.std.specs.Prelude.{is_ok, is_some, nat_le, nat_lt}
use Rattle.std.specs.List.{prefix_len, take_while}
use Rattle.std.proofs.lemmas.Bool.Decides.{nat_tests}
use Rattle.std.proofs.lemmas.List.{drop-append-le, drop-drop, length-append, length-drop, length-map, length-take, map-append, take-append-le, take_min}
use Rattle.std.proofs.Math.Seq.{take-add}
use Rattle.ep_units.specs.Text.{Text}
use Rattle.ep_units.specs.declared.session.Session.{Session}
use Rattle.ep_units.specs.declared.grant.Grant.{Grant}
use Rattle.ep_attr.proofs.SameMap.{first_true, second_true}
use Rattle.ep_history.specs.Lists.{numbered}
use Rattle.ep_history.specs.History.{Birth, doc_at, head, is_session, nops_of}
use Rattle.ep_history.specs.Pad.{PadState, birth_at, create, is_live, newest, next_session, replaced, seat_of, with_session}
use Rattle.ep_history.specs.Entry.{opened}
use Rattle.ep_history.specs.Refusals.{login_fault, resume_fault, resume_faults}
use Rattle.ep_history.specs.Readings.{CatchUp, Fetched, Piece, Welcome, catch_up, fetch, fetch_fault, fetch_faults, fetch_size, history, history_fault, history_faults, nop_heads, revs_behind, welcome}
use Rattle.ep_history.specs.Records.{create_record}
use Rattle.ep_history.specs.Entries.{Answer, Entry, Outcome, Reply, is_recordable, logs_in, outcome, unless}
use Rattle.ep_history.specs.Entries.Answer.{FetchAnswer, HistoryAnswer, LoginAnswer, ResumeAnswer}
use Rattle.ep_history.specs.Entries.Entry.{Login, Resume, Fetch, ReadHistory}
use Rattle.ep_history.specs.Entries.Outcome.{Refuses, Answers, Records}
use Rattle.ep_history.specs.Machine.{Call, IsClosedStep, IsFoundStep, IsKeptState, IsOpenStep, IsStep, IsStepAs, MachineState, Runs, Size, journal_fault, keeping, reopening, settled, turn_of}
use Rattle.ep_history.specs.Machine.IsOpenStep.{Does, Lacks, Fails}
use Rattle.ep_history.specs.Machine.IsFoundStep.{Opens, IsFull, FailsOpened}
use Rattle.ep_history.specs.Machine.IsClosedStep.{Finds, LacksOpening, FailsOpening}
use Rattle.ep_history.specs.Fetches.{AreBehind, AreNops, GoOn, IsPart, TellOn, all_given, all_told, fetch_start, fetch_told, fetched_nops, fetched_revs, given, told_nops}
use Rattle.ep_history.specs.declared.pad_bad.PadBad.{PadBad}
use Rattle.ep_history.specs.declared.pad_bad.PadBad.TheVariants.{BadRev, NoRev}
use Rattle.ep_history.specs.declared.nop.Nop.{Nop}
use Rattle.ep_history.specs.declared.rev.Rev.{Rev}
use Rattle.ep_history.specs.declared.seat.Seat.{Seat}
use Rattle.ep_history.proofs.Lists.{none_some, some_same}
use Rattle.ep_history.proofs.Refused.{none-of, not-if, not-less}
use Rattle.ep_history.proofs.Births.{numbered-newest}
use Rattle.ep_history.proofs.Steps.{dead-live, runs-kept, step-kept}
use Rattle.ep_history.proofs.Growing.{IsGrown, IsOf, grown-doc, runs-later, settled-past, step-later, step-of}

-- ---- what is answered

-- an outcome answers this, and the pad is this then
abbrev IsAnswered : Outcome → Answer → PadState → Type 0
IsAnswered (Refuses bad) answer pad = ⊥
IsAnswered (Answers a next) answer pad = (a ≡ answer) × (pad ≡ next)
IsAnswered (Records r a next) answer pad = (a ≡ answer) × (pad ≡ next)

unless-answers : (f : Option PadBad) (o : Outcome) (answer : Answer) (pad : PadState) → IsAnswered (unless f o) answer pad → (f ≡ None) × IsAnswered o answer pad
unless-answers None o answer pad h = (refl, h)
unless-answers (Some bad) o answer pad h = absurd h

turn-answers : (size : Size) (st : MachineState) (can : Bool) (o : Outcome) (answer : Answer) → (turn_of size st can o).reply ≡ Ok answer
    → IsAnswered o answer (turn_of size st can o).state.pad × ((turn_of size st can o).state.is_open ≡ st.is_open)
turn-answers size st can (Refuses bad) answer e = absurd cc
turn-answers size st can (Answers a next) answer e = ((cc, refl), refl)
turn-answers size st false (Records r a next) answer e = absurd cc
turn-answers size st true (Records r a next) answer e = go (journal_fault size st r) e
  where
    go : (f : Option PadBad) → (keeping st f r a next).reply ≡ Ok answer
        → ((a ≡ answer) × ((keeping st f r a next).state.pad ≡ next)) × ((keeping st f r a next).state.is_open ≡ st.is_open)
    go (Some full) e = absurd cc
    go None e = ((cc, refl), refl)

open-answers : (size : Size) (st : MachineState) (e : Entry) (answer : Answer) (reply : Reply) (new : MachineState) → reply ≡ Ok answer → IsOpenStep size st e reply new
    → IsAnswered (outcome st.pad e) answer new.pad × (new.is_open ≡ st.is_open)
open-answers size st e answer reply new h (Does r t) =
    subst (λ (x : MachineState). IsAnswered (outcome st.pad e) answer x.pad × (x.is_open ≡ st.is_open)) (sym t.0)
    (turn-answers size st (is_recordable e) (outcome st.pad e) answer (sym r ∙ h))
open-answers size st e answer reply new h (Lacks r t) = absurd cc
open-answers size st e answer reply new h (Fails count r adds q f t) = absurd cc

-- an answer is that of an open machine: this one, or as it is opened
record IsAnswering (st : MachineState) (e : Entry) (answer : Answer) (new : MachineState) : Type 0 where
  pub mid : MachineState
  pub from : (mid ≡ st) ⊎ ((kept : Bool) × (mid ≡ reopening (settled kept st)))
  pub is_open : mid.is_open ≡ true
  pub answered : IsAnswered (outcome mid.pad e) answer new.pad
  pub stays : new.is_open ≡ true

step-answers : (size : Size) (st : MachineState) (e : Entry) (answer : Answer) (new : MachineState) → IsStep size st e (Ok answer) new → IsAnswering st e answer new
step-answers size st e answer new = go st.is_open refl
  where
    found-answers : (kept : Bool) (reply : Reply) → reply ≡ Ok answer → IsFoundStep size (settled kept st) e reply new → IsAnswering st e answer new
    found-answers kept reply h (Opens f step) =
        let mid = reopening (settled kept st) in
        let a = open-answers size mid e answer reply new h step in
        record { mid = mid; from = inr (kept, refl); is_open = refl; answered = a.0; stays = a.1 }
    found-answers kept reply h (IsFull full f r t) = absurd cc
    found-answers kept reply h (FailsOpened count f r g t) = absurd cc

    closed-answers : (reply : Reply) → reply ≡ Ok answer → IsClosedStep size st e reply new → IsAnswering st e answer new
    closed-answers reply h (Finds kept step) = found-answers kept reply h step
    closed-answers reply h (LacksOpening r t) = absurd cc
    closed-answers reply h (FailsOpening count r f t) = absurd cc

    go : (b : Bool) → st.is_open ≡ b → IsStepAs b size st e (Ok answer) new → IsAnswering st e answer new
    go true b step = let a = open-answers size st e answer (Ok answer) new refl step in record { mid = st; from = inl refl; is_open = b; answered = a.0; stays = a.1 ∙ b }
    go false b step = closed-answers (Ok answer) refl step

-- ---- parts of a list

nothing-part : {A : Type 0} (xs : List A) (i : ℕ) → i ≤ length xs → IsPart xs i []
nothing-part xs i h = (omega (arith, h), refl)

some-part : {A : Type 0} (xs : List A) (i n : ℕ) → i ≤ length xs → IsPart xs i (take n (drop i xs))
some-part {A = A} xs i n h =
    let t = length-take n (drop i xs) in
    let d = length-drop i xs in
    (omega (arith, h, t, d), sym (ap (λ m. take m (drop i xs)) t ∙ take_min n (drop i xs)))

more-part : {A : Type 0} (xs : List A) (i : ℕ) (us vs : List A) → IsPart xs i us → IsPart xs (i + length us) vs → IsPart xs i (us ++ vs)
more-part xs i us vs f g =
    let n = length-append us vs in
    let m = g.0 in (
      omega (arith, n, m),
      (λ j. f.1 j ++ g.1 j)
          ∙ ap (λ ys. take (length us) (drop i xs) ++ take (length vs) ys) (sym (drop-drop (length us) i xs))
          ∙ sym (take-add (length us) (length vs) (drop i xs))
          ∙ ap (λ k. take k (drop i xs)) (sym n),
    )

-- a part of a list is one of the list with more behind it
grown-part : {A : Type 0} (xs zs more : List A) → zs ≡ xs ++ more → (i : ℕ) (vs : List A) → IsPart xs i vs → IsPart zs i vs
grown-part {A = A} xs zs more e i vs f =
    let l : length zs ≡ length (xs ++ more) = ap (λ (ws : List A). length ws) e in
    let n = length-append xs more in
    let h = f.0 in
    let d = length-drop i xs in (
      omega (arith, l, n, h),
      f.1
          ∙ sym (take-append-le (length vs) (drop i xs) more (omega (arith, h, d)))
          ∙ ap (take (length vs)) (sym (drop-append-le i xs more (omega (arith, h))))
          ∙ ap (λ ws. take (length vs) (drop i ws)) (sym e),
    )

grown-behind : (b c : Birth) → IsGrown b c → (r : ℕ) (vs : List Rev) → AreBehind b r vs → AreBehind c r vs
grown-behind b c g r vs f = grown-part b.later c.later g.more g.later r vs f

nops_of-append : (s : Session) (xs ys : List Nop) → nops_of s (xs ++ ys) ≡ nops_of s xs ++ nops_of s ys
nops_of-append s [] ys = refl
nops_of-append s (x ∷ xs) ys = go (is_session x.session s) (nops_of-append s xs ys)
  where
    go : (b : Bool) → nops_of s (xs ++ ys) ≡ nops_of s xs ++ nops_of s ys
        → (if b then x ∷ nops_of s (xs ++ ys) else nops_of s (xs ++ ys)) ≡ (if b then x ∷ nops_of s xs else nops_of s xs) ++ nops_of s ys
    go true e = ap (λ zs. x ∷ zs) e
    go false e = e

grown-nops : (s : Session) (b c : Birth) → IsGrown b c → (i : ℕ) (ns : List ℕ) → IsPart (nop_heads s b) i ns → IsPart (nop_heads s c) i ns
grown-nops s b c g i ns f = grown-part (nop_heads s b) (nop_heads s c) (map (λ x. x.rev) (nops_of s g.notes)) heads i ns f
  where
    heads : nop_heads s c ≡ nop_heads s b ++ map (λ x. x.rev) (nops_of s g.notes)
    heads =
        ap (λ xs. map (λ x. x.rev) (nops_of s xs)) g.nops
        ∙ ap (map (λ x. x.rev)) (nops_of-append s b.nops g.notes)
        ∙ map-append (λ x. x.rev) (nops_of s b.nops) (nops_of s g.notes)

-- ---- one call

same-session : (t s : Session) → is_session t s ≡ true → (t.epoch ≡ s.epoch) × (t.count ≡ s.count)
same-session t s e =
    let a : (t.epoch == s.epoch) ≡ true = first_true (t.epoch == s.epoch) (t.count == s.count) e in
    let b : (t.count == s.count) ≡ true = second_true (t.epoch == s.epoch) (t.count == s.count) e in
    (grind (arith, nat_tests, a), grind (arith, nat_tests, b))

seat-at : (pad : PadState) (t : Session) (l : Seat) → seat_of pad t ≡ Some l → (t.epoch ≡ pad.epoch) × (numbered pad.sessions t.count ≡ Some l)
seat-at pad t l = go (t.epoch == pad.epoch) refl
  where
    go : (b : Bool) → (t.epoch == pad.epoch) ≡ b → (if b then numbered pad.sessions t.count else None) ≡ Some l → (t.epoch ≡ pad.epoch) × (numbered pad.sessions t.count ≡ Some l)
    go true b e = (grind (arith, nat_tests, b), e)
    go false b e = none_some e

-- a fetch that isn't refused is of the last birth
fetches-of : (s t : Session) (k : ℕ) (pad : PadState) (from : ℕ) → IsOf s k pad true → is_session t s ≡ true → fetch_fault pad t from ≡ None → k ≡ length pad.births
fetches-of s t k pad from o same f =
    let live = dead-live pad t (none-of (fetch_faults pad t from) f).0 in
    let seat = seat-at pad t live.0 live.1 in
    let id = same-session t s same in
    let old = o.seat refl (sym id.0 ∙ seat.0) in
    let is : old.0 ≡ live.0 = some_same (sym old.1 ∙ ap (numbered pad.sessions) (sym id.1) ∙ seat.1) in
    old.2 (ap is_live is ∙ alive live.0 live.2)
  where
    alive : (l : Seat) → l.end ≡ None → is_live l ≡ true
    alive l e = ap (λ o. not (is_some o)) e

-- a session that a fetch is answered is of this opening, and its birth is the last one
answered-birth : (s t : Session) (k : ℕ) (st mid : MachineState) (from : ℕ) → IsOf s k st.pad st.is_open → (mid ≡ st) ⊎ ((kept : Bool) × (mid ≡ reopening (settled kept st)))
    → mid.is_open ≡ true → is_session t s ≡ true → fetch_fault mid.pad t from ≡ None → newest mid.pad ≡ birth_at st.pad k
answered-birth s t k st mid from o (inl e) b same f =
    let here : IsOf s k mid.pad mid.is_open = subst (λ (x : MachineState). IsOf s k x.pad x.is_open) (sym e) o in
    let n = fetches-of s t k mid.pad from (subst (λ c. IsOf s k mid.pad c) b here) same f in
    ap (birth_at mid.pad) (sym n) ∙ ap (λ (x : MachineState). birth_at x.pad k) e
answered-birth s t k st mid from o (inr (kept, e)) b same f =
    let live = dead-live mid.pad t (none-of (fetch_faults mid.pad t from) f).0 in
    let seat = (seat-at mid.pad t live.0 live.1).0 in
    let id = (same-session t s same).0 in
    let epoch : mid.pad.epoch ≡ suc (settled kept st).pad.epoch = ap (λ (x : MachineState). x.pad.epoch) e in
    let past = o.past in
    let later = settled-past kept st in
    absurd (omega (arith, seat, id, epoch, past, later))

-- what a call gave a session stands in its birth behind where its fetches have come
call-behind : (size : Size) (s : Session) (k : ℕ) (st : MachineState) (e : Entry) (reply : Reply) (new : MachineState) (r : ℕ) → IsOf s k st.pad st.is_open
    → IsStep size st e reply new → ((from : ℕ) → fetch_start s e ≡ Some from → is_ok reply ≡ true → from ≡ r) → r ≤ head (birth_at st.pad k)
    → AreBehind (birth_at st.pad k) r (given s (record { entry = e; reply = reply }))
call-behind size s k st e (Err bad) new r o step on h = go (is_some (fetch_start s e))
  where
    go : (b : Bool) → AreBehind (birth_at st.pad k) r (if b then [] else [])
    go true = nothing-part (birth_at st.pad k).later r h
    go false = nothing-part (birth_at st.pad k).later r h
call-behind size s k st (Fetch t from told) (Ok answer) new r o step on h = go (is_session t s) refl on
  where
    a : IsAnswering st (Fetch t from told) answer new
    a = step-answers size st (Fetch t from told) answer new step

    go : (b : Bool) → is_session t s ≡ b → ((at : ℕ) → (if b then Some from else None) ≡ Some at → true ≡ true → at ≡ r)
        → AreBehind (birth_at st.pad k) r (if is_some (if b then Some from else None) then fetched_revs (Ok answer) else [])
    go false same on = nothing-part (birth_at st.pad k).later r h
    go true same on =
        let pad = a.mid.pad in
        let u = unless-answers (fetch_fault pad t from) (Answers (FetchAnswer (fetch pad t from told)) pad) answer new.pad a.answered in
        let b = answered-birth s t k st a.mid from o a.from a.is_open same u.0 in
        subst (λ (x : Answer). AreBehind (birth_at st.pad k) r (fetched_revs (Ok x))) u.1.0
        (subst (λ (c : Birth). AreBehind (birth_at st.pad k) r (revs_behind c from fetch_size)) (sym b)
        (subst (λ i. AreBehind (birth_at st.pad k) r (revs_behind (birth_at st.pad k) i fetch_size)) (sym (on from refl refl)) (some-part (birth_at st.pad k).later r fetch_size h)))
call-behind size s k st e (Ok answer) new r o step on h = nothing-part (birth_at st.pad k).later r h

-- what a call told a session of its Nops goes on where its fetches have come
call-told : (size : Size) (s : Session) (k : ℕ) (st : MachineState) (e : Entry) (reply : Reply) (new : MachineState) (i : ℕ) → IsOf s k st.pad st.is_open
    → IsStep size st e reply new → ((told : ℕ) → fetch_told s e ≡ Some told → is_ok reply ≡ true → told ≡ i) → i ≤ length (nop_heads s (birth_at st.pad k))
    → IsPart (nop_heads s (birth_at st.pad k)) i (told_nops s (record { entry = e; reply = reply }))
call-told size s k st e (Err bad) new i o step on h = go (is_some (fetch_told s e))
  where
    go : (b : Bool) → IsPart (nop_heads s (birth_at st.pad k)) i (if b then [] else [])
    go true = nothing-part (nop_heads s (birth_at st.pad k)) i h
    go false = nothing-part (nop_heads s (birth_at st.pad k)) i h
call-told size s k st (Fetch t from told) (Ok answer) new i o step on h = go (is_session t s) refl on
  where
    a : IsAnswering st (Fetch t from told) answer new
    a = step-answers size st (Fetch t from told) answer new step

    here : List ℕ
    here = nop_heads s (birth_at st.pad k)

    as_far : ℕ → ℕ → Bool
    as_far r h = nat_le h r

    go : (b : Bool) → is_session t s ≡ b → ((at : ℕ) → (if b then Some told else None) ≡ Some at → true ≡ true → at ≡ i)
        → IsPart here i (if is_some (if b then Some told else None) then fetched_nops (Ok answer) else [])
    go false same on = nothing-part here i h
    go true same on =
        let pad = a.mid.pad in
        let u = unless-answers (fetch_fault pad t from) (Answers (FetchAnswer (fetch pad t from told)) pad) answer new.pad a.answered in
        let b = answered-birth s t k st a.mid from o a.from a.is_open same u.0 in
        let id = same-session t s same in
        let r = from + length (revs_behind (newest pad) from fetch_size) in
        subst (λ (x : Answer). IsPart here i (fetched_nops (Ok x))) u.1.0
        (subst (λ (c : Birth). IsPart here i (take_while (as_far r) (drop told (nop_heads t c)))) (sym b)
        (subst (λ (v : Session). IsPart here i (take_while (as_far r) (drop told (nop_heads v (birth_at st.pad k))))) (λ j. record { epoch = sym id.0 j; count = sym id.1 j })
        (subst (λ j. IsPart here i (take_while (as_far r) (drop j here))) (sym (on told refl refl)) (some-part here i (prefix_len (as_far r) (drop i here)) h))))
call-told size s k st e (Ok answer) new i o step on h = nothing-part (nop_heads s (birth_at st.pad k)) i h

-- ---- a whole history

pub all-behind : (size : Size) (s : Session) (k : ℕ) (st : MachineState) (calls : List Call) (last : MachineState) (r : ℕ) → IsKeptState st → IsOf s k st.pad st.is_open
    → Runs size st calls last → GoOn s r calls → r ≤ head (birth_at st.pad k) → AreBehind (birth_at last.pad k) r (all_given s calls)
all-behind size s k st [] last r g o run on h =
    nothing-part (birth_at last.pad k).later r (subst (λ (x : MachineState). r ≤ head (birth_at x.pad k)) (sym run) h)
all-behind size s k st (c ∷ cs) last r g o run on h =
    let next = run.0 in
    let kept = step-kept size st c.entry c.reply next g run.1 in
    let later = step-later size st c.entry c.reply next g run.1 in
    let of = step-of size s k st c.entry c.reply next g o run.1 in
    let us = call-behind size s k st c.entry c.reply next r o run.1 on.0 h in
    let here = grown-behind (birth_at st.pad k) (birth_at next.pad k) (later.births k o.there) r (given s c) us in
    let rest = all-behind size s k next cs last (r + length (given s c)) kept of run.2 on.1 here.0 in
    let grown = (runs-later size next cs last kept run.2).births k of.there in
    more-part (birth_at last.pad k).later r (given s c) (all_given s cs) (grown-behind (birth_at next.pad k) (birth_at last.pad k) grown r (given s c) here) rest

pub all-told : (size : Size) (s : Session) (k : ℕ) (st : MachineState) (calls : List Call) (last : MachineState) (i : ℕ) → IsKeptState st → IsOf s k st.pad st.is_open
    → Runs size st calls last → TellOn s i calls → i ≤ length (nop_heads s (birth_at st.pad k)) → IsPart (nop_heads s (birth_at last.pad k)) i (all_told s calls)
all-told size s k st [] last i g o run on h =
    nothing-part (nop_heads s (birth_at last.pad k)) i (subst (λ (x : MachineState). i ≤ length (nop_heads s (birth_at x.pad k))) (sym run) h)
all-told size s k st (c ∷ cs) last i g o run on h =
    let next = run.0 in
    let kept = step-kept size st c.entry c.reply next g run.1 in
    let later = step-later size st c.entry c.reply next g run.1 in
    let of = step-of size s k st c.entry c.reply next g o run.1 in
    let us = call-told size s k st c.entry c.reply next i o run.1 on.0 h in
    let here = grown-nops s (birth_at st.pad k) (birth_at next.pad k) (later.births k o.there) i (told_nops s c) us in
    let rest = all-told size s k next cs last (i + length (told_nops s c)) kept of run.2 on.1 here.0 in
    let grown = (runs-later size next cs last kept run.2).births k of.there in
    more-part (nop_heads s (birth_at last.pad k)) i (told_nops s c) (all_told s cs) (grown-nops s (birth_at next.pad k) (birth_at last.pad k) grown i (told_nops s c) here) rest

runs-split : (size : Size) (st : MachineState) (before after : List Call) (last : MachineState) → Runs size st (before ++ after) last
    → (mid : MachineState) × Runs size st before mid × Runs size mid after last
runs-split size st [] after last run = (st, refl, run)
runs-split size st (c ∷ cs) after last run =
    let m = runs-split size run.0 cs after last run.2 in (m.0, (run.0, run.1, m.1), m.2)

-- ---- who enters

entered-of : (pad : PadState) (author : Text) (read_only : Bool) (b : Bool) → IsOf (next_session pad) (length pad.births) (with_session pad author read_only) b
entered-of pad author read_only b = record {
  past = omega arith;
  there = omega arith;
  seat = λ _ _. (new, ap (numbered (old ++ new ∷ [])) (ap suc (sym (length-map pad.sessions (replaced pad author)))) ∙ numbered-newest old new, λ v. refl);
}
  where
    old : List Seat
    old = map (replaced pad author) pad.sessions

    new : Seat
    new = record { author = author; read_only = read_only; end = None }

-- a session that has entered at a revision of a birth
record HasEntered (s : Session) (k r : ℕ) (new : MachineState) : Type 0 where
  pub of : IsOf s k new.pad new.is_open
  pub within : r ≤ head (birth_at new.pad k)

login-answers : (pad : PadState) (g : Grant) (now : ℕ) (answer : Answer) (new : PadState) → IsAnswered (logs_in pad g now) answer new
    → (LoginAnswer (welcome (opened pad now) g) ≡ answer) × (new ≡ with_session (opened pad now) g.author g.read_only)
login-answers pad g now answer new = go pad.present
  where
    there : Bool → PadState
    there b = if b then pad else create pad now []

    go : (b : Bool) → IsAnswered (if b then Answers (LoginAnswer (welcome (there b) g)) (with_session (there b) g.author g.read_only)
        else Records (create_record pad now []) (LoginAnswer (welcome (there b) g)) (with_session (there b) g.author g.read_only)) answer new
        → (LoginAnswer (welcome (there b) g) ≡ answer) × (new ≡ with_session (there b) g.author g.read_only)
    go true h = h
    go false h = h

same-welcome : (v w : Welcome) → LoginAnswer v ≡ LoginAnswer w → v ≡ w
same-welcome v w e = cc

same-catch_up : (v w : CatchUp) → ResumeAnswer v ≡ ResumeAnswer w → v ≡ w
same-catch_up v w e = cc

login-enters : (size : Size) (st : MachineState) (g : Grant) (now : ℕ) (w : Welcome) (new : MachineState) → IsStep size st (Login g now) (Ok (LoginAnswer w)) new
    → HasEntered w.session w.birth w.rev new × (w.doc ≡ doc_at (birth_at new.pad w.birth) w.rev)
login-enters size st g now w new step =
    let a = step-answers size st (Login g now) (LoginAnswer w) new step in
    let pad = a.mid.pad in
    let there = opened pad now in
    let u = unless-answers (login_fault pad g) (logs_in pad g now) (LoginAnswer w) new.pad a.answered in
    let l = login-answers pad g now (LoginAnswer w) new.pad u.1 in
    subst (λ (v : Welcome). HasEntered v.session v.birth v.rev new × (v.doc ≡ doc_at (birth_at new.pad v.birth) v.rev)) (same-welcome (welcome there g) w l.0)
    (enters there new l.1)
  where
    enters : (there : PadState) (new : MachineState) → new.pad ≡ with_session there g.author g.read_only
        → HasEntered (next_session there) (length there.births) (head (newest there)) new × ((welcome there g).doc ≡ doc_at (birth_at new.pad (length there.births)) (head (newest there)))
    enters there new e = (
      record {
        of = subst (λ p. IsOf (next_session there) (length there.births) p new.is_open) (sym e) (entered-of there g.author g.read_only new.is_open);
        within = subst (λ p. head (newest there) ≤ head (birth_at p (length there.births))) (sym e) (omega arith);
      },
      ap (λ (p : PadState). doc_at (birth_at p (length there.births)) (head (newest there))) (sym e),
    )

resume-enters : (size : Size) (st : MachineState) (g : Grant) (rev : ℕ) (birth : Option ℕ) (author : Option Text) (now : ℕ) (w : CatchUp) (new : MachineState)
    → IsStep size st (Resume g rev birth author now) (Ok (ResumeAnswer w)) new → HasEntered w.session w.birth rev new
resume-enters size st g rev birth author now w new step =
    let a = step-answers size st (Resume g rev birth author now) (ResumeAnswer w) new step in
    let pad = a.mid.pad in
    let u = unless-answers (resume_fault pad g rev birth author) (Answers (ResumeAnswer (catch_up pad)) (with_session pad g.author g.read_only)) (ResumeAnswer w) new.pad a.answered in
    let f = none-of (resume_faults pad g rev birth author) u.0 in
    let h = not-less (head (newest pad)) rev (not-if (nat_lt (head (newest pad)) rev) (BadRev (head (newest pad))) f.1.1.1.1.1.0) in
    subst (λ (v : CatchUp). HasEntered v.session v.birth rev new) (same-catch_up (catch_up pad) w u.1.0) (enters pad new u.1.1 h)
  where
    enters : (pad : PadState) (new : MachineState) → new.pad ≡ with_session pad g.author g.read_only → rev ≤ head (newest pad) → HasEntered (next_session pad) (length pad.births) rev new
    enters pad new e h = record {
      of = subst (λ p. IsOf (next_session pad) (length pad.births) p new.is_open) (sym e) (entered-of pad g.author g.read_only new.is_open);
      within = subst (λ p. rev ≤ head (birth_at p (length pad.births))) (sym e) h;
    }

pub login-behind : (size : Size) (first last : MachineState) (before after : List Call) (g : Grant) (now : ℕ) (w : Welcome) → IsKeptState first
    → Runs size first (before ++ record { entry = Login g now; reply = Ok (LoginAnswer w) } ∷ after) last → GoOn w.session w.rev after
    → AreBehind (birth_at last.pad w.birth) w.rev (all_given w.session after) × (w.doc ≡ doc_at (birth_at last.pad w.birth) w.rev)
login-behind size first last before after g now w kept run on =
    let m = runs-split size first before (record { entry = Login g now; reply = Ok (LoginAnswer w) } ∷ after) last run in
    let k = runs-kept size first before m.0 kept m.1 in
    let next = m.2.0 in
    let new = step-kept size m.0 (Login g now) (Ok (LoginAnswer w)) next k m.2.1 in
    let e = login-enters size m.0 g now w next m.2.1 in
    let of = e.0.of in
    let grown = (runs-later size next after last new m.2.2).births w.birth of.there in (
      all-behind size w.session w.birth next after last w.rev new of m.2.2 on e.0.within,
      e.1 ∙ sym (grown-doc (birth_at next.pad w.birth) (birth_at last.pad w.birth) grown w.rev e.0.within),
    )

pub resume-behind : (size : Size) (first last : MachineState) (before after : List Call) (g : Grant) (rev : ℕ) (birth : Option ℕ) (author : Option Text) (now : ℕ) (w : CatchUp) → IsKeptState first
    → Runs size first (before ++ record { entry = Resume g rev birth author now; reply = Ok (ResumeAnswer w) } ∷ after) last → GoOn w.session rev after
    → AreBehind (birth_at last.pad w.birth) rev (all_given w.session after)
resume-behind size first last before after g rev birth author now w kept run on =
    let m = runs-split size first before (record { entry = Resume g rev birth author now; reply = Ok (ResumeAnswer w) } ∷ after) last run in
    let k = runs-kept size first before m.0 kept m.1 in
    let new = step-kept size m.0 (Resume g rev birth author now) (Ok (ResumeAnswer w)) m.2.0 k m.2.1 in
    let e = resume-enters size m.0 g rev birth author now w m.2.0 m.2.1 in
    all-behind size w.session w.birth m.2.0 after last rev new e.of m.2.2 on e.within

pub login-told : (size : Size) (first last : MachineState) (before after : List Call) (g : Grant) (now : ℕ) (w : Welcome) → IsKeptState first
    → Runs size first (before ++ record { entry = Login g now; reply = Ok (LoginAnswer w) } ∷ after) last → TellOn w.session 0 after
    → AreNops w.session (birth_at last.pad w.birth) (all_told w.session after)
login-told size first last before after g now w kept run on =
    let m = runs-split size first before (record { entry = Login g now; reply = Ok (LoginAnswer w) } ∷ after) last run in
    let k = runs-kept size first before m.0 kept m.1 in
    let new = step-kept size m.0 (Login g now) (Ok (LoginAnswer w)) m.2.0 k m.2.1 in
    let e = login-enters size m.0 g now w m.2.0 m.2.1 in
    all-told size w.session w.birth m.2.0 after last 0 new e.0.of m.2.2 on (omega arith)

pub resume-told : (size : Size) (first last : MachineState) (before after : List Call) (g : Grant) (rev : ℕ) (birth : Option ℕ) (author : Option Text) (now : ℕ) (w : CatchUp) → IsKeptState first
    → Runs size first (before ++ record { entry = Resume g rev birth author now; reply = Ok (ResumeAnswer w) } ∷ after) last → TellOn w.session 0 after
    → AreNops w.session (birth_at last.pad w.birth) (all_told w.session after)
resume-told size first last before after g rev birth author now w kept run on =
    let m = runs-split size first before (record { entry = Resume g rev birth author now; reply = Ok (ResumeAnswer w) } ∷ after) last run in
    let k = runs-kept size first before m.0 kept m.1 in
    let new = step-kept size m.0 (Resume g rev birth author now) (Ok (ResumeAnswer w)) m.2.0 k m.2.1 in
    let e = resume-enters size m.0 g rev birth author now w m.2.0 m.2.1 in
    all-told size w.session w.birth m.2.0 after last 0 new e.of m.2.2 on (omega arith)

-- ---- answers stay within the head

same-fetched : (x y : Fetched) → FetchAnswer x ≡ FetchAnswer y → x ≡ y
same-fetched x y e = cc

same-piece : (x y : Piece) → HistoryAnswer x ≡ HistoryAnswer y → x ≡ y
same-piece x y e = cc

pub fetch-within : (size : Size) (st : MachineState) (t : Session) (from told : ℕ) (x : Fetched) (new : MachineState)
    → IsStep size st (Fetch t from told) (Ok (FetchAnswer x)) new → from + length x.revs ≤ x.head
fetch-within size st t from told x new step =
    let a = step-answers size st (Fetch t from told) (FetchAnswer x) new step in
    let pad = a.mid.pad in
    let u = unless-answers (fetch_fault pad t from) (Answers (FetchAnswer (fetch pad t from told)) pad) (FetchAnswer x) new.pad a.answered in
    let h = not-less (head (newest pad)) from (not-if (nat_lt (head (newest pad)) from) (BadRev (head (newest pad))) (none-of (fetch_faults pad t from) u.0).1.0) in
    subst (λ (y : Fetched). from + length y.revs ≤ y.head) (same-fetched (fetch pad t from told) x u.1.0) (some-part (newest pad).later from fetch_size h).0

pub history-within : (size : Size) (st : MachineState) (t : Session) (start count : ℕ) (x : Piece) (new : MachineState)
    → IsStep size st (ReadHistory t start count) (Ok (HistoryAnswer x)) new → start + length x.revs ≤ x.head
history-within size st t start count x new step =
    let a = step-answers size st (ReadHistory t start count) (HistoryAnswer x) new step in
    let pad = a.mid.pad in
    let u = unless-answers (history_fault pad t start) (Answers (HistoryAnswer (history pad start count)) pad) (HistoryAnswer x) new.pad a.answered in
    let h = not-less (head (newest pad)) start (not-if (nat_lt (head (newest pad)) start) (NoRev (head (newest pad))) (none-of (history_faults pad t start) u.0).1.0) in
    subst (λ (y : Piece). start + length y.revs ≤ y.head) (same-piece (history pad start count) x u.1.0) (some-part (newest pad).later start count h).0

-- of a call in the middle of a history
pub step-within : (size : Size) (first last : MachineState) (before after : List Call) (c : Call) → Runs size first (before ++ c ∷ after) last
    → (st : MachineState) × (new : MachineState) × IsStep size st c.entry c.reply new
step-within size first last before after c run = let m = runs-split size first before (c ∷ after) last run in (m.0, m.2.0, m.2.1)
