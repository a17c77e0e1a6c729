-- What an answer of a machine says of its session: it has a live seat, or it is new; and what the last birth gives it.
use Rattle.std.proofs.Common.{◌≡◌, ℕ, suc, ◌+◌, ◌≤◌, Bool, true, false, not, ◌==◌, if◌then◌else◌, List, [], ◌∷◌, ◌++◌, ◌⊎◌, inl, inr, map, length, take, drop, Option, Some, None, Ok, refl, sym, ap, ◌∙◌, subst, arith}
use Rattle.std.specs.Prelude.{is_some, nat_le, nat_lt}
use Rattle.std.specs.List.{prefix_len}
use Rattle.std.proofs.lemmas.Bool.Decides.{nat_tests}
use Rattle.std.proofs.lemmas.List.{get_or-take, length-map, take_all}
use Rattle.std.proofs.lemmas.List.Folds.{length-prefix_len}
use Rattle.std.proofs.lemmas.List.Sums.{prefix_len_passes}
use Rattle.ep_units.specs.Text.{Text}
use Rattle.ep_units.specs.declared.session.Session.{Session}
use Rattle.ep_units.specs.declared.grant.Grant.{Grant}
use Rattle.ep_history.specs.Lists.{numbered}
use Rattle.ep_history.specs.History.{Birth, head}
use Rattle.ep_history.specs.Pad.{PadState, birth_at, create, is_live, newest, next_session, replaced, seat_of, with_session}
use Rattle.ep_history.specs.Entry.{opened}
use Rattle.ep_history.specs.Refusals.{login_fault, resume_fault, resume_faults}
use Rattle.ep_history.specs.Readings.{CatchUp, Fetched, Piece, Welcome, catch_up, fetch, fetch_fault, fetch_faults, fetch_size, history, history_fault, history_faults, nop_heads, revs_behind, welcome}
use Rattle.ep_history.specs.Records.{create_record}
use Rattle.ep_history.specs.Entries.{Answer, Entry, Outcome, Reply, is_recordable, logs_in, outcome, unless}
use Rattle.ep_history.specs.Entries.Answer.{FetchAnswer, HistoryAnswer, LoginAnswer, ResumeAnswer}
use Rattle.ep_history.specs.Entries.Entry.{Login, Resume, Fetch, ReadHistory}
use Rattle.ep_history.specs.Entries.Outcome.{Refuses, Answers, Records}
use Rattle.ep_history.specs.Machine.{IsClosedStep, IsFoundStep, IsOpenStep, IsStep, IsStepAs, MachineState, Size, journal_fault, keeping, reopening, settled, turn_of}
use Rattle.ep_history.specs.Machine.IsOpenStep.{Does, Lacks, Fails}
use Rattle.ep_history.specs.Machine.IsFoundStep.{Opens, IsFull, FailsOpened}
use Rattle.ep_history.specs.Machine.IsClosedStep.{Finds, LacksOpening, FailsOpening}
use Rattle.ep_history.specs.declared.pad_bad.PadBad.{PadBad}
use Rattle.ep_history.specs.declared.pad_bad.PadBad.TheVariants.{BadRev, NoRev}
use Rattle.ep_history.specs.declared.seat.Seat.{Seat}
use Rattle.ep_history.proofs.Lists.{none_some, some_same}
use Rattle.ep_history.proofs.Refused.{none-of, not-if, not-less}
use Rattle.ep_history.proofs.Births.{numbered-below, numbered-newest}
use Rattle.ep_history.proofs.Steps.{dead-live}
use Rattle.ep_history.proofs.Growing.{IsOf, settled-past}
use Rattle.ep_fetches.specs.Told.{IsCatchUp, IsFetched, IsPiece, IsWelcome}
use Rattle.ep_fetches.proofs.Lists.{next-take}

-- ---- what is answered

-- an outcome answers this, and the pad is this then
abbrev pub IsAnswered : Outcome → Answer → PadState → Type 0
IsAnswered (Refuses bad) answer pad = ⊥
IsAnswered (Answers a next) answer pad = (a ≡ answer) × (pad ≡ next)
IsAnswered (Records r a next) answer pad = (a ≡ answer) × (pad ≡ next)

pub unless-answers : (f : Option PadBad) (o : Outcome) (answer : Answer) (pad : PadState) → IsAnswered (unless f o) answer pad → (f ≡ None) × IsAnswered o answer pad
unless-answers None o answer pad h = (refl, h)
unless-answers (Some bad) o answer pad h = absurd h

turn-answers : (size : Size) (st : MachineState) (can : Bool) (o : Outcome) (answer : Answer) → (turn_of size st can o).reply ≡ Ok answer
    → IsAnswered o answer (turn_of size st can o).state.pad × ((turn_of size st can o).state.is_open ≡ st.is_open)
turn-answers size st can (Refuses bad) answer e = absurd cc
turn-answers size st can (Answers a next) answer e = ((cc, refl), refl)
turn-answers size st false (Records r a next) answer e = absurd cc
turn-answers size st true (Records r a next) answer e = go (journal_fault size st r) e
  where
    go : (f : Option PadBad) → (keeping st f r a next).reply ≡ Ok answer
        → ((a ≡ answer) × ((keeping st f r a next).state.pad ≡ next)) × ((keeping st f r a next).state.is_open ≡ st.is_open)
    go (Some full) e = absurd cc
    go None e = ((cc, refl), refl)

open-answers : (size : Size) (st : MachineState) (e : Entry) (answer : Answer) (reply : Reply) (new : MachineState) → reply ≡ Ok answer → IsOpenStep size st e reply new
    → IsAnswered (outcome st.pad e) answer new.pad
open-answers size st e answer reply new h (Does r t) =
    subst (λ (x : MachineState). IsAnswered (outcome st.pad e) answer x.pad) (sym t.0)
    (turn-answers size st (is_recordable e) (outcome st.pad e) answer (sym r ∙ h)).0
open-answers size st e answer reply new h (Lacks r t) = absurd cc
open-answers size st e answer reply new h (Fails count r adds q f t) = absurd cc

-- this state, or the one that its opening makes of it
abbrev pub IsOpened : MachineState → MachineState → Type 0
IsOpened st mid = (mid ≡ st) ⊎ ((kept : Bool) × (mid ≡ reopening (settled kept st)))

-- an answer is that of an open machine: this one, or as it is opened
pub record IsAnswering (st : MachineState) (e : Entry) (answer : Answer) (new : MachineState) : Type 0 where
  pub mid : MachineState
  pub from : IsOpened st mid
  pub is_open : mid.is_open ≡ true
  pub answered : IsAnswered (outcome mid.pad e) answer new.pad

pub step-answers : (size : Size) (st : MachineState) (e : Entry) (answer : Answer) (new : MachineState) → IsStep size st e (Ok answer) new → IsAnswering st e answer new
step-answers size st e answer new = go st.is_open refl
  where
    found-answers : (kept : Bool) (reply : Reply) → reply ≡ Ok answer → IsFoundStep size (settled kept st) e reply new → IsAnswering st e answer new
    found-answers kept reply h (Opens f step) =
        let mid = reopening (settled kept st) in
        record { mid = mid; from = inr (kept, refl); is_open = refl; answered = open-answers size mid e answer reply new h step }
    found-answers kept reply h (IsFull full f r t) = absurd cc
    found-answers kept reply h (FailsOpened count f r g t) = absurd cc

    closed-answers : (reply : Reply) → reply ≡ Ok answer → IsClosedStep size st e reply new → IsAnswering st e answer new
    closed-answers reply h (Finds kept step) = found-answers kept reply h step
    closed-answers reply h (LacksOpening r t) = absurd cc
    closed-answers reply h (FailsOpening count r f t) = absurd cc

    go : (b : Bool) → st.is_open ≡ b → IsStepAs b size st e (Ok answer) new → IsAnswering st e answer new
    go true b step = record { mid = st; from = inl refl; is_open = b; answered = open-answers size st e answer (Ok answer) new refl step }
    go false b step = closed-answers (Ok answer) refl step

-- ---- a session that is live

-- a session has a live seat of the last birth, and of no other
pub record IsSeated (st : MachineState) (s : Session) : Type 0 where
  pub of : IsOf s (length st.pad.births) st.pad st.is_open
  pub last : (k : ℕ) → IsOf s k st.pad st.is_open → k ≡ length st.pad.births

seat-at : (pad : PadState) (s : Session) (l : Seat) → seat_of pad s ≡ Some l → (s.epoch ≡ pad.epoch) × (numbered pad.sessions s.count ≡ Some l)
seat-at pad s l = go (s.epoch == pad.epoch) refl
  where
    go : (b : Bool) → (s.epoch == pad.epoch) ≡ b → (if b then numbered pad.sessions s.count else None) ≡ Some l → (s.epoch ≡ pad.epoch) × (numbered pad.sessions s.count ≡ Some l)
    go true b e = (grind (arith, nat_tests, b), e)
    go false b e = none_some e

-- a machine that is just opened has no seat, so a session that isn't refused as ended was live before
pub seated : (st mid : MachineState) (s : Session) → IsOpened st mid → mid.is_open ≡ true → (l : Seat) × (seat_of mid.pad s ≡ Some l) × (l.end ≡ None) → (mid ≡ st) × IsSeated st s
seated st mid s from b live = go from
  where
    seat : (s.epoch ≡ mid.pad.epoch) × (numbered mid.pad.sessions s.count ≡ Some live.0)
    seat = seat-at mid.pad s live.0 live.1

    alive : is_live live.0 ≡ true
    alive = ap (λ o. not (is_some o)) live.2

    here : IsSeated mid s
    here = record {
      of = record {
        past = let e = seat.0 in omega (arith, e);
        there = omega arith;
        seat = λ _ _. (live.0, seat.1, λ _. refl);
      };
      last = λ k o.
          let old = o.seat b seat.0 in
          let is : old.0 ≡ live.0 = some_same (sym old.1 ∙ seat.1) in
          old.2 (ap is_live is ∙ alive);
    }

    go : IsOpened st mid → (mid ≡ st) × IsSeated st s
    go (inl e) = (e, subst (λ x. IsSeated x s) e here)
    go (inr (kept, e)) =
        let n : length mid.pad.sessions ≡ 0 = ap (λ (x : MachineState). length x.pad.sessions) e in
        let h = numbered-below mid.pad.sessions s.count live.0 seat.1 in
        absurd (omega (arith, n, h))

same-fetched : (x y : Fetched) → FetchAnswer x ≡ FetchAnswer y → x ≡ y
same-fetched x y e = cc

same-piece : (x y : Piece) → HistoryAnswer x ≡ HistoryAnswer y → x ≡ y
same-piece x y e = cc

-- what the last birth gives who fetches
fetch-of : (pad : PadState) (s : Session) (from told : ℕ) → from ≤ head (newest pad) → IsFetched (newest pad) s from told (fetch pad s from told)
fetch-of pad s from told h = record {
  within = omega arith;
  start = h;
  revs = ap (λ vs. take fetch_size (drop from vs)) (sym (take_all (head b) b.later (omega arith)));
  nops = next-take (nop_heads s b) told (prefix_len far heads);
  far = λ k d l.
      let n = length-prefix_len far heads in
      let m : k ≤ length (take (prefix_len far heads) heads) = omega (arith, l) in
      let i = get_or-take (prefix_len far heads) heads k d (omega (arith, l, n)) in
      let p = prefix_len_passes far heads k d (omega (arith, l, n)) in
      rw i (grind (arith, nat_tests, p));
}
  where
    b : Birth
    b = newest pad

    heads : List ℕ
    heads = drop told (nop_heads s b)

    far : ℕ → Bool
    far h = nat_le h (from + length (revs_behind b from fetch_size))

-- a fetch that is answered is of a live session, and of the last birth
pub fetch-answered : (size : Size) (st : MachineState) (s : Session) (from told : ℕ) (x : Fetched) (new : MachineState) → IsStep size st (Fetch s from told) (Ok (FetchAnswer x)) new
    → IsSeated st s × IsFetched (newest st.pad) s from told x
fetch-answered size st s from told x new step =
    let a = step-answers size st (Fetch s from told) (FetchAnswer x) new step in
    let pad = a.mid.pad in
    let u = unless-answers (fetch_fault pad s from) (Answers (FetchAnswer (fetch pad s from told)) pad) (FetchAnswer x) new.pad a.answered in
    let f = none-of (fetch_faults pad s from) u.0 in
    let h = not-less (head (newest pad)) from (not-if (nat_lt (head (newest pad)) from) (BadRev (head (newest pad))) f.1.0) in
    let t = seated st a.mid s a.from a.is_open (dead-live pad s f.0) in (
      t.1,
      subst (λ (m : MachineState). IsFetched (newest m.pad) s from told x) t.0
          (subst (λ y. IsFetched (newest pad) s from told y) (same-fetched (fetch pad s from told) x u.1.0) (fetch-of pad s from told h)),
    )

piece-of : (pad : PadState) (start count : ℕ) → start ≤ head (newest pad) → IsPiece (newest pad) start count (history pad start count)
piece-of pad start count h = record {
  within = omega arith;
  begins = h;
  doc = refl;
  revs = ap (λ vs. take count (drop start vs)) (sym (take_all (head (newest pad)) (newest pad).later (omega arith)));
}

-- a piece of the history that is answered is so too
pub history-answered : (size : Size) (st : MachineState) (s : Session) (start count : ℕ) (x : Piece) (new : MachineState) → IsStep size st (ReadHistory s start count) (Ok (HistoryAnswer x)) new
    → IsSeated st s × IsPiece (newest st.pad) start count x
history-answered size st s start count x new step =
    let a = step-answers size st (ReadHistory s start count) (HistoryAnswer x) new step in
    let pad = a.mid.pad in
    let u = unless-answers (history_fault pad s start) (Answers (HistoryAnswer (history pad start count)) pad) (HistoryAnswer x) new.pad a.answered in
    let f = none-of (history_faults pad s start) u.0 in
    let h = not-less (head (newest pad)) start (not-if (nat_lt (head (newest pad)) start) (NoRev (head (newest pad))) f.1.0) in
    let t = seated st a.mid s a.from a.is_open (dead-live pad s f.0) in (
      t.1,
      subst (λ (m : MachineState). IsPiece (newest m.pad) start count x) t.0
          (subst (λ y. IsPiece (newest pad) start count y) (same-piece (history pad start count) x u.1.0) (piece-of pad start count h)),
    )

-- ---- who enters

-- a session that has entered a birth was never there before
pub record HasEntered (st : MachineState) (s : Session) (k : ℕ) (new : MachineState) : Type 0 where
  pub of : IsOf s k new.pad new.is_open
  pub fresh : (j : ℕ) → IsOf s j st.pad st.is_open → ⊥

enters-of : (pad : PadState) (author : Text) (read_only : Bool) (b : Bool) → IsOf (next_session pad) (length pad.births) (with_session pad author read_only) b
enters-of pad author read_only b = record {
  past = omega arith;
  there = omega arith;
  seat = λ _ _. (new, ap (numbered (old ++ new ∷ [])) (ap suc (sym (length-map pad.sessions (replaced pad author)))) ∙ numbered-newest old new, λ v. refl);
}
  where
    old : List Seat
    old = map (replaced pad author) pad.sessions

    new : Seat
    new = record { author = author; read_only = read_only; end = None }

-- its number is that of no seat, or its epoch of no session
enters : (st mid new : MachineState) (there : PadState) (author : Text) (read_only : Bool) → IsOpened st mid → mid.is_open ≡ true
    → there.epoch ≡ mid.pad.epoch → there.sessions ≡ mid.pad.sessions → new.pad ≡ with_session there author read_only → HasEntered st (next_session there) (length there.births) new
enters st mid new there author read_only from b same seats e = record {
  of = subst (λ p. IsOf (next_session there) (length there.births) p new.is_open) (sym e) (enters-of there author read_only new.is_open);
  fresh = fresh from;
}
  where
    n : length there.sessions ≡ length mid.pad.sessions
    n = ap (λ (ls : List Seat). length ls) seats

    fresh : IsOpened st mid → (j : ℕ) → IsOf (next_session there) j st.pad st.is_open → ⊥
    fresh (inl m) j o =
        let here : IsOf (next_session there) j mid.pad mid.is_open = subst (λ (x : MachineState). IsOf (next_session there) j x.pad x.is_open) (sym m) o in
        let old = here.seat b same in
        let h = numbered-below mid.pad.sessions (suc (length there.sessions)) old.0 old.1 in
        omega (arith, n, h)
    fresh (inr (kept, m)) j o =
        let epoch : mid.pad.epoch ≡ suc (settled kept st).pad.epoch = ap (λ (x : MachineState). x.pad.epoch) m in
        let past = o.past in
        let later = settled-past kept st in
        omega (arith, same, epoch, past, later)

login-answers : (pad : PadState) (g : Grant) (now : ℕ) (answer : Answer) (new : PadState) → IsAnswered (logs_in pad g now) answer new
    → (LoginAnswer (welcome (opened pad now) g) ≡ answer) × (new ≡ with_session (opened pad now) g.author g.read_only)
login-answers pad g now answer new = go pad.present
  where
    there : Bool → PadState
    there b = if b then pad else create pad now []

    go : (b : Bool) → IsAnswered (if b then Answers (LoginAnswer (welcome (there b) g)) (with_session (there b) g.author g.read_only)
        else Records (create_record pad now []) (LoginAnswer (welcome (there b) g)) (with_session (there b) g.author g.read_only)) answer new
        → (LoginAnswer (welcome (there b) g) ≡ answer) × (new ≡ with_session (there b) g.author g.read_only)
    go true h = h
    go false h = h

opened-same : (pad : PadState) (now : ℕ) → ((opened pad now).epoch ≡ pad.epoch) × ((opened pad now).sessions ≡ pad.sessions)
opened-same pad now = go pad.present
  where
    go : (b : Bool) → ((if b then pad else create pad now []).epoch ≡ pad.epoch) × ((if b then pad else create pad now []).sessions ≡ pad.sessions)
    go true = (refl, refl)
    go false = (refl, refl)

same-welcome : (v w : Welcome) → LoginAnswer v ≡ LoginAnswer w → v ≡ w
same-welcome v w e = cc

same-catch_up : (v w : CatchUp) → ResumeAnswer v ≡ ResumeAnswer w → v ≡ w
same-catch_up v w e = cc

-- what is answered to a login is of the birth that is entered
pub login-answered : (size : Size) (st : MachineState) (g : Grant) (now : ℕ) (w : Welcome) (new : MachineState) → IsStep size st (Login g now) (Ok (LoginAnswer w)) new
    → HasEntered st w.session w.birth new × IsWelcome w.birth (birth_at new.pad w.birth) w
login-answered size st g now w new step =
    let a = step-answers size st (Login g now) (LoginAnswer w) new step in
    let pad = a.mid.pad in
    let there = opened pad now in
    let u = unless-answers (login_fault pad g) (logs_in pad g now) (LoginAnswer w) new.pad a.answered in
    let l = login-answers pad g now (LoginAnswer w) new.pad u.1 in
    let same = opened-same pad now in
    subst (λ (v : Welcome). HasEntered st v.session v.birth new × IsWelcome v.birth (birth_at new.pad v.birth) v) (same-welcome (welcome there g) w l.0) (
      enters st a.mid new there g.author g.read_only a.from a.is_open same.0 same.1 l.1,
      subst (λ p. IsWelcome (length there.births) (birth_at p (length there.births)) (welcome there g)) (sym l.1) (record { birth = refl; within = omega arith; doc = refl }),
    )

-- and so to a resumption
pub resume-answered : (size : Size) (st : MachineState) (g : Grant) (rev : ℕ) (birth : Option ℕ) (author : Option Text) (now : ℕ) (w : CatchUp) (new : MachineState)
    → IsStep size st (Resume g rev birth author now) (Ok (ResumeAnswer w)) new → HasEntered st w.session w.birth new × IsCatchUp w.birth (birth_at new.pad w.birth) rev w
resume-answered size st g rev birth author now w new step =
    let a = step-answers size st (Resume g rev birth author now) (ResumeAnswer w) new step in
    let pad = a.mid.pad in
    let u = unless-answers (resume_fault pad g rev birth author) (Answers (ResumeAnswer (catch_up pad)) (with_session pad g.author g.read_only)) (ResumeAnswer w) new.pad a.answered in
    let f = none-of (resume_faults pad g rev birth author) u.0 in
    let h = not-less (head (newest pad)) rev (not-if (nat_lt (head (newest pad)) rev) (BadRev (head (newest pad))) f.1.1.1.1.1.0) in
    subst (λ (v : CatchUp). HasEntered st v.session v.birth new × IsCatchUp v.birth (birth_at new.pad v.birth) rev v) (same-catch_up (catch_up pad) w u.1.0) (
      enters st a.mid new pad g.author g.read_only a.from a.is_open refl refl u.1.1,
      subst (λ p. IsCatchUp (length pad.births) (birth_at p (length pad.births)) rev (catch_up pad)) (sym u.1.1) (record { birth = refl; within = omega arith; start = h }),
    )
