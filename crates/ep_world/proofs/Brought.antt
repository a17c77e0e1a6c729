-- What taking a message comes to.
use Rattle.std.proofs.Common.{◌≡◌, ℕ, zero, suc, ◌==◌, Bool, true, false, List, [], ◌∷◌, ◌++◌, Option, Some, None, Result, Ok, Err, inl, inr, if◌then◌else◌, refl, sym, ap, ◌∙◌, subst}
use Rattle.std.specs.Prelude.{◌⊎◌, MatchResult, nat_lt, not}
use Rattle.ep_units.specs.declared.session.Session.{Session}
use Rattle.ep_outside.specs.Disk.{Contents}
use Rattle.ep_cs.specs.Change.{Change}
use Rattle.ep_cs.specs.EditFits.{is_edit}
use Rattle.ep_cs.specs.Fitting.{fit_bad}
use Rattle.ep_cs.specs.declared.bad.FitBad.{FitBad}
use Rattle.ep_history.specs.Accept.{at_head, author_fault, committed, fit_fault, first_other, live_fault, refusal, seat_fault, units_after}
use Rattle.ep_history.specs.History.{doc_at, head}
use Rattle.ep_history.specs.Entries.{Answer, Outcome, Reply, outcome, unless}
use Rattle.ep_history.specs.Entries.Answer.{CommitAnswer, Done}
use Rattle.ep_history.specs.Entries.Entry.{Accept, Leave}
use Rattle.ep_history.specs.Entries.Outcome.{Refuses, Answers, Records}
use Rattle.ep_history.specs.Lists.{at, numbered}
use Rattle.ep_history.specs.Pad.{PadState, end_at, end_numbered, first_end, leave, newest, seat_of}
use Rattle.ep_history.specs.Readings.{commit, dead_fault, dead_if, end_of}
use Rattle.ep_history.specs.Records.{accept_record}
use Rattle.ep_history.specs.Refusals.{first_fault, fault_if}
use Rattle.ep_history.specs.declared.pad_bad.PadBad.{PadBad}
use Rattle.ep_history.specs.declared.pad_bad.PadBad.TheVariants as bad
use Rattle.ep_history.specs.declared.record.Record.{Record}
use Rattle.ep_history.specs.declared.seat.Seat.{Seat}
use Rattle.ep_history.specs.declared.seat.Why.{Why}
use Rattle.ep_history.specs.declared.seat.Why.TheVariants.{Left, Reopened}
use Rattle.ep_history.proofs.Lists.{none_some, some_same}
use Rattle.ep_schedule.specs.World.{Message, pad_reason, reason}
use Rattle.ep_schedule.specs.World.Reason.{Refused, Unread}
use Rattle.ep_pad.specs.Held.{Held}
use Rattle.ep_event.specs.declared.shown.Reason.TheVariants as why
use Rattle.ep_world.specs.declared.bad.WorldBad.{WorldBad}
use Rattle.ep_csread.specs.declared.bad.ReadBad.{ReadBad}
use Rattle.ep_step.specs.Telling.{told_by as committed_told}
use Rattle.ep_step.specs.declared.telling.Committed.{Committed as Told}
use Rattle.ep_members.specs.declared.message.Sent.{Sent}
use Rattle.ep_world.specs.Conns.{change_of, sent_of, why_unread}
use Rattle.ep_world.specs.declared.taking.Took.{Took}
use Rattle.ep_world.specs.declared.taking.Took.TheVariants as took
use Rattle.ep_world.specs.Failing.{IsFailure, failed}
use Rattle.ep_world.specs.Journal.{behind, full_by, full_in, is_shut, record_in, unopened}
use Rattle.ep_world.specs.Standing.{IsAnswered, IsAt, answer_of, pad_after}
use Rattle.ep_world.proofs.Shut.{open-full, open-shut, opens-free, shut-seat, shut-shut}
use Rattle.ep_world.specs.Taking.{Brings, IsFull, IsShut, not_made}

-- ---- refusals

-- an outcome that is answered isn't refused
pub unless-answers : (f : Option PadBad) (o : Outcome) (a : Answer) → answer_of (unless f o) ≡ Some a → (f ≡ None) × (unless f o ≡ o)
unless-answers None o a e = (refl, refl)
unless-answers (Some b) o a e = none_some e

-- one that is refused, where nothing else refuses, is refused for its reason
pub unless-refuses : (f : Option PadBad) (r : Record) (a : Answer) (p : PadState) (b : PadBad) → unless f (Records r a p) ≡ Refuses b → f ≡ Some b
unless-refuses None r a p b e = absurd cc
unless-refuses (Some c) r a p b e = cc

pub unless-refuses-answer : (f : Option PadBad) (a : Answer) (p : PadState) (b : PadBad) → unless f (Answers a p) ≡ Refuses b → f ≡ Some b
unless-refuses-answer None a p b e = absurd cc
unless-refuses-answer (Some c) a p b e = cc

pub unless-records : (f : Option PadBad) (o : Outcome) (r : Record) (a : Answer) (p : PadState) → unless f o ≡ Records r a p → f ≡ None
unless-records None o r a p e = refl
unless-records (Some c) o r a p e = absurd cc

-- ---- an edit is never refused for the journal

not-if : (t : Bool) (b : PadBad) (fs : List (Option PadBad)) (n : ℕ) → (b ≡ bad.JournalFull n → ⊥) → (first_fault fs ≡ Some (bad.JournalFull n) → ⊥)
    → first_fault (fault_if t b ∷ fs) ≡ Some (bad.JournalFull n) → ⊥
not-if true b fs n h rest e = h (some_same e)
not-if false b fs n h rest e = rest e

not-author : (o : Option ℕ) (fs : List (Option PadBad)) (n : ℕ) → (first_fault fs ≡ Some (bad.JournalFull n) → ⊥)
    → first_fault (author_fault o ∷ fs) ≡ Some (bad.JournalFull n) → ⊥
not-author None fs n rest e = rest e
not-author (Some i) fs n rest e = absurd cc

not-fit : (o : Option PadBad) (fs : List (Option PadBad)) (n : ℕ) → (o ≡ Some (bad.JournalFull n) → ⊥) → (first_fault fs ≡ Some (bad.JournalFull n) → ⊥)
    → first_fault (o ∷ fs) ≡ Some (bad.JournalFull n) → ⊥
not-fit None fs n h rest e = rest e
not-fit (Some b) fs n h rest e = h e

pub never-full : (pad : PadState) (s : Session) (base : ℕ) (c : Change) (n : ℕ) → refusal pad s base c ≡ Some (bad.JournalFull n) → ⊥
never-full pad s base c n e = seat (seat_of pad s) e
  where
    fits : (o : Option FitBad) → fit_fault o ≡ Some (bad.JournalFull n) → ⊥
    fits None e = cc
    fits (Some why) e = cc

    live : (l : Seat) (o : Option Why) → live_fault pad l o base c ≡ Some (bad.JournalFull n) → ⊥
    live l (Some why) e = cc
    live l None e =
        let b = newest pad in
        not-if l.read_only bad.ReadOnly _ n (λ h. cc)
        (not-if (nat_lt (head b) base) (bad.NoBase (head b)) _ n (λ h. cc)
        (not-author (first_other l.author 0 c.runs) _ n
        (not-fit (fit_fault (fit_bad c (doc_at b base))) _ n (fits (fit_bad c (doc_at b base)))
        (not-if (nat_lt pad.limits.units (units_after pad base c.edit)) (bad.TooLong (units_after pad base c.edit)) [] n (λ h. cc) (λ h. cc))))) e

    seat : (o : Option Seat) → seat_fault pad o base c ≡ Some (bad.JournalFull n) → ⊥
    seat None e = cc
    seat (Some l) e = live l l.end e

-- ---- a message whose change is an edit

pub reason-of : (pad : PadState) (s : Session) (msg : Message) (f : Option PadBad) → is_edit msg.change.edit ≡ true → refusal pad s msg.base msg.change ≡ f
    → reason pad s msg ≡ pad_reason f
reason-of pad s msg f i e =
    ap (λ t. if t then pad_reason (refusal pad s msg.base msg.change) else Some (Unread msg.unread)) i ∙ ap pad_reason e

pub reason-unread : (pad : PadState) (s : Session) (msg : Message) → is_edit msg.change.edit ≡ false → reason pad s msg ≡ Some (Unread msg.unread)
reason-unread pad s msg i = ap (λ t. if t then pad_reason (refusal pad s msg.base msg.change) else Some (Unread msg.unread)) i

-- ---- a session that isn't live is left by nothing

end-at-none : (ls : List Seat) (i : ℕ) → at ls i ≡ None → end_at i ls ≡ ls
end-at-none [] i e = refl
end-at-none (l ∷ ls) zero e = none_some (sym e)
end-at-none (l ∷ ls) (suc i) e = ap (λ x. l ∷ x) (end-at-none ls i e)

end-at-ended : (ls : List Seat) (i : ℕ) (l : Seat) (why : Why) → at ls i ≡ Some l → l.end ≡ Some why → end_at i ls ≡ ls
end-at-ended [] i l why e h = none_some e
end-at-ended (k ∷ ls) zero l why e h =
    let q : k.end ≡ Some why = ap (λ (x : Seat). x.end) (some_same e) ∙ h in
    ap (λ o. record k { end = first_end o Left } ∷ ls) q ∙ ap (λ o. record k { end = o } ∷ ls) (sym q)
end-at-ended (k ∷ ls) (suc i) l why e h = ap (λ x. k ∷ x) (end-at-ended ls i l why e h)

end-numbered : (ls : List Seat) (i : ℕ) (epoch : ℕ) (why : Why) → end_of epoch (numbered ls i) ≡ Some why → end_numbered i ls ≡ ls
end-numbered ls zero epoch why e = refl
end-numbered ls (suc i) epoch why e = go (at ls i) refl e
  where
    go : (o : Option Seat) → at ls i ≡ o → end_of epoch o ≡ Some why → end_at i ls ≡ ls
    go None q h = end-at-none ls i q
    go (Some l) q h = end-at-ended ls i l why q h

dead-why : (o : Option Why) (b : PadBad) → dead_if o ≡ Some b → (why : Why) × (o ≡ Some why)
dead-why None b e = none_some e
dead-why (Some why) b e = (why, refl)

pub dead-left : (pad : PadState) (s : Session) (b : PadBad) → dead_fault pad s ≡ Some b → leave pad s ≡ pad
dead-left pad s b e = go (s.epoch == pad.epoch) refl
  where
    go : (t : Bool) → (s.epoch == pad.epoch) ≡ t → leave pad s ≡ pad
    go false q = ap (λ t. record pad { sessions = if t then end_numbered s.count pad.sessions else pad.sessions }) q
    go true q =
        let o = dead-why (end_of pad.epoch (seat_of pad s)) b e in
        let h = sym (ap (λ t. end_of pad.epoch (if t then numbered pad.sessions s.count else None)) q) ∙ o.1 in
        ap (λ t. record pad { sessions = if t then end_numbered s.count pad.sessions else pad.sessions }) q
        ∙ ap (λ ls. record pad { sessions = ls }) (end-numbered pad.sessions s.count pad.epoch o.0 h)

-- ---- failures

pub failed-fails : (b : PadBad) → IsFailure (failed b)
failed-fails (bad.Store n) = tt
failed-fails b = tt

module _ {D : Type 0} (told_by : D → Option Contents) (failures : D → ℕ) (stops_alone : D → Bool) (alone : Bool) (rs : List Record) where
  -- a session leaves
  pub leaves : (old new : Held D) (pad : PadState) (s : Session) (a : Answer) → IsAnswered told_by failures stops_alone alone rs old pad (Leave s) (Ok a) new
      → IsAt told_by failures stops_alone alone rs new (leave pad s)
  leaves old new pad s a x =
      let u = unless-answers (dead_fault pad s) (Answers Done (leave pad s)) a x.0 in
      subst (λ o. IsAt told_by failures stops_alone alone (behind rs (record_in o)) new (pad_after pad o)) u.1 x.1

  pub leaves-dead : (old new : Held D) (pad : PadState) (s : Session) (why : Why) → IsAnswered told_by failures stops_alone alone rs old pad (Leave s) (Err (bad.Dead why)) new
      → IsAt told_by failures stops_alone alone rs new (leave pad s)
  leaves-dead old new pad s why x =
      let d = unless-refuses-answer (dead_fault pad s) Done (leave pad s) (bad.Dead why) x.0 in
      subst (IsAt told_by failures stops_alone alone rs new) (sym (dead-left pad s (bad.Dead why) d)) x.1

  -- an entry that is answered or refused by the rules finds the pad open
  pub is-free : (old : Held D) (pad : PadState) (o : Option Record) → IsAt told_by failures stops_alone alone rs old pad → full_in rs pad o ≡ None → true ≡ not (is_shut rs pad)
  is-free old pad o a f = sym (ap not (open-shut told_by failures stops_alone alone rs old pad (opens-free told_by failures stops_alone alone rs old pad o a f)))

  -- a leave is refused for the journal only where the pad is shut, and then nobody is there
  pub leaves-shut : (old new : Held D) (pad : PadState) (s : Session) (n : ℕ) → IsAt told_by failures stops_alone alone rs old pad
      → IsAnswered told_by failures stops_alone alone rs old pad (Leave s) (Err (bad.JournalFull n)) new
      → (false ≡ not (is_shut rs pad)) × IsAt told_by failures stops_alone alone rs new (leave pad s)
  leaves-shut old new pad s n (inl a) x = none_some (sym (nothing (dead_fault pad s)) ∙ sym (open-full told_by failures stops_alone alone rs old pad (record_in (outcome pad (Leave s))) a) ∙ x.1)
    where
      nothing : (f : Option PadBad) → full_by rs pad (record_in (unless f (Answers Done (leave pad s)))) ≡ None
      nothing None = refl
      nothing (Some b) = refl
  leaves-shut old new pad s n (inr a) x = (
    sym (ap not (shut-shut told_by failures stops_alone alone rs old pad a)),
    subst (IsAt told_by failures stops_alone alone rs new)
        (sym (dead-left pad s (bad.Dead (Reopened pad.epoch)) (ap (λ o. dead_if (end_of pad.epoch o)) (shut-seat told_by failures stops_alone alone rs old pad s a)))) x.0,
  )

  -- an edit is committed
  pub made : (old new : Held D) (pad : PadState) (s : Session) (msg : Message) (now : ℕ) (a : Answer) → is_edit msg.change.edit ≡ true
      → IsAnswered told_by failures stops_alone alone rs old pad (Accept s msg.base msg.change now) (Ok a) new
      → (reason pad s msg ≡ None) × (a ≡ CommitAnswer (commit pad (at_head pad msg.base msg.change.edit)))
      × IsAt told_by failures stops_alone alone (rs ++ accept_record pad s now msg.base msg.change ∷ []) new (committed pad s now msg.base msg.change)
      × (full_in rs pad (Some (accept_record pad s now msg.base msg.change)) ≡ None)
  made old new pad s msg now a i x =
      let u = unless-answers (refusal pad s msg.base msg.change) _ a x.0 in (
        reason-of pad s msg None i u.0,
        sym (some_same (sym (ap answer_of u.1) ∙ x.0)),
        subst (λ o. IsAt told_by failures stops_alone alone (behind rs (record_in o)) new (pad_after pad o)) u.1 x.1,
        subst (λ o. full_in rs pad (record_in o) ≡ None) u.1 x.2,
      )

  abbrev pub brought : PadState → Session → Message → ℕ → Held D → Result Took WorldBad → Type 0
  brought pad s msg now new r = MatchResult r (Brings told_by failures stops_alone alone rs pad s msg now new) IsFailure

  refused : (old new : Held D) (pad : PadState) (s : Session) (msg : Message) (now : ℕ) (b : PadBad) → is_edit msg.change.edit ≡ true
      → (outcome pad (Accept s msg.base msg.change now) ≡ Refuses b) × IsAt told_by failures stops_alone alone rs new pad × (full_in rs pad None ≡ None)
      → Brings told_by failures stops_alone alone rs pad s msg now new (took.Refused (why.Pad b))
  refused old new pad s msg now b i x = (
    Refused b,
    reason-of pad s msg (Some b) i (unless-refuses (refusal pad s msg.base msg.change) _ _ _ b x.0),
    refl,
    x.1,
    ap (λ t. if t then full_in rs pad None else None) i ∙ x.2,
  )

  no-room : (old new : Held D) (pad : PadState) (s : Session) (msg : Message) (now : ℕ) (n : ℕ) → is_edit msg.change.edit ≡ true
      → IsAnswered told_by failures stops_alone alone rs old pad (Accept s msg.base msg.change now) (Err (bad.JournalFull n)) new
      → IsFull told_by failures stops_alone alone rs pad s msg now new n pad ⊎ IsShut told_by failures stops_alone alone rs pad s msg new n
  no-room old new pad s msg now n i (inl a, x) =
      inl (go (refusal pad s msg.base msg.change) refl (sym (open-full told_by failures stops_alone alone rs new pad (record_in (outcome pad (Accept s msg.base msg.change now))) a) ∙ x))
    where
      o : Outcome
      o = Records (accept_record pad s now msg.base msg.change) (CommitAnswer (commit pad (at_head pad msg.base msg.change.edit))) (committed pad s now msg.base msg.change)

      go : (f : Option PadBad) → refusal pad s msg.base msg.change ≡ f → full_by rs pad (record_in (unless (refusal pad s msg.base msg.change) o)) ≡ Some (bad.JournalFull n)
          → IsFull told_by failures stops_alone alone rs pad s msg now new n pad
      go (Some b) h e = none_some (sym (ap (λ y. full_by rs pad (record_in (unless y o))) h) ∙ e)
      go None h e = (
        reason-of pad s msg None i h,
        inl a,
        open-shut told_by failures stops_alone alone rs new pad a,
        sym (ap (λ y. full_by rs pad (record_in (unless y o))) h) ∙ e,
      )
  no-room old new pad s msg now n i (inr a, x) =
      let shut = shut-shut told_by failures stops_alone alone rs new pad a in
      let o = record_in (outcome pad (Accept s msg.base msg.change now)) in
      inr (
        i,
        shut-seat told_by failures stops_alone alone rs new pad s a,
        inr a,
        shut,
        sym (ap (λ b. if b then unopened rs pad else full_by rs pad o) shut) ∙ x,
      )

  -- where the machine is then
  pub room-at : (pad : PadState) (s : Session) (msg : Message) (now : ℕ) (new : Held D) (k : ℕ) → IsFull told_by failures stops_alone alone rs pad s msg now new k pad ⊎ IsShut told_by failures stops_alone alone rs pad s msg new k
      → IsAt told_by failures stops_alone alone rs new pad
  room-at pad s msg now new k (inl f) = f.1
  room-at pad s msg now new k (inr f) = f.2

  -- its session is left
  pub room-settles : (pad : PadState) (s : Session) (msg : Message) (now : ℕ) (old new : Held D) (k : ℕ) → IsFull told_by failures stops_alone alone rs pad s msg now old k pad ⊎ IsShut told_by failures stops_alone alone rs pad s msg old k
      → true ≡ not (is_shut rs pad) → IsAt told_by failures stops_alone alone rs new (leave pad s) → IsFull told_by failures stops_alone alone rs pad s msg now new k (leave pad s)
  room-settles pad s msg now old new k (inl f) e a = (f.0, a, f.2, f.3)
  room-settles pad s msg now old new k (inr f) e a = absurd (let z : true ≡ false = e ∙ ap not f.3 in cc)

  pub shut-settles : (pad : PadState) (s : Session) (msg : Message) (now : ℕ) (old new : Held D) (k : ℕ) → IsFull told_by failures stops_alone alone rs pad s msg now old k pad ⊎ IsShut told_by failures stops_alone alone rs pad s msg old k
      → false ≡ not (is_shut rs pad) → IsAt told_by failures stops_alone alone rs new (leave pad s) → IsShut told_by failures stops_alone alone rs pad s msg new k
  shut-settles pad s msg now old new k (inl f) e a = absurd (let z : false ≡ true = e ∙ ap not f.2 in cc)
  shut-settles pad s msg now old new k (inr f) e a = (
    f.0,
    f.1,
    subst (IsAt told_by failures stops_alone alone rs new) (dead-left pad s (bad.Dead (Reopened pad.epoch)) (ap (λ o. dead_if (end_of pad.epoch o)) f.1)) a,
    f.3,
    f.4,
  )

  -- or it is refused, or the journal has no room
  pub not-made : (old new : Held D) (pad : PadState) (s : Session) (msg : Message) (now : ℕ) (b : PadBad) → is_edit msg.change.edit ≡ true
      → IsAnswered told_by failures stops_alone alone rs old pad (Accept s msg.base msg.change now) (Err b) new → brought pad s msg now new (not_made b)
  not-made old new pad s msg now (bad.Store n) i x = tt
  not-made old new pad s msg now bad.NoMemory i x = tt
  not-made old new pad s msg now (bad.JournalFull n) i x = no-room old new pad s msg now n i x
  not-made old new pad s msg now (bad.Dead why) i x = refused old new pad s msg now (bad.Dead why) i x
  not-made old new pad s msg now (bad.Denied n) i x = refused old new pad s msg now (bad.Denied n) i x
  not-made old new pad s msg now (bad.Full n) i x = refused old new pad s msg now (bad.Full n) i x
  not-made old new pad s msg now bad.Gone i x = refused old new pad s msg now bad.Gone i x
  not-made old new pad s msg now (bad.BadRev n) i x = refused old new pad s msg now (bad.BadRev n) i x
  not-made old new pad s msg now (bad.NoRev n) i x = refused old new pad s msg now (bad.NoRev n) i x
  not-made old new pad s msg now bad.Exists i x = refused old new pad s msg now bad.Exists i x
  not-made old new pad s msg now bad.ReadOnly i x = refused old new pad s msg now bad.ReadOnly i x
  not-made old new pad s msg now (bad.NoBase n) i x = refused old new pad s msg now (bad.NoBase n) i x
  not-made old new pad s msg now (bad.Author n) i x = refused old new pad s msg now (bad.Author n) i x
  not-made old new pad s msg now (bad.Fit why) i x = refused old new pad s msg now (bad.Fit why) i x
  not-made old new pad s msg now (bad.TooLong n) i x = refused old new pad s msg now (bad.TooLong n) i x
  not-made old new pad s msg now bad.Foreign i x = refused old new pad s msg now bad.Foreign i x
  not-made old new pad s msg now (bad.BadRecord n) i x = refused old new pad s msg now (bad.BadRecord n) i x

  -- ---- the same of a change and a base that are the message's

  same-entry : (old new : Held D) (pad : PadState) (s : Session) (msg : Message) (now base : ℕ) (c : Change) (r : Reply) → msg.base ≡ base → msg.change ≡ c
      → IsAnswered told_by failures stops_alone alone rs old pad (Accept s base c now) r new → IsAnswered told_by failures stops_alone alone rs old pad (Accept s msg.base msg.change now) r new
  same-entry old new pad s msg now base c r b e x =
      subst (λ k. IsAnswered told_by failures stops_alone alone rs old pad (Accept s k msg.change now) r new) (sym b)
      (subst (λ y. IsAnswered told_by failures stops_alone alone rs old pad (Accept s base y now) r new) (sym e) x)

  pub made-of : (old new : Held D) (pad : PadState) (s : Session) (msg : Message) (now base : ℕ) (c : Change) (x : Told) → msg.base ≡ base → msg.change ≡ c → is_edit c.edit ≡ true
      → IsAnswered told_by failures stops_alone alone rs old pad (Accept s base c now) (Ok (CommitAnswer (committed_told x))) new → Brings told_by failures stops_alone alone rs pad s msg now new (took.Made x)
  made-of old new pad s msg now base c x b e i a =
      let m = made old new pad s msg now _ (ap (λ (y : Change). is_edit y.edit) e ∙ i) (same-entry old new pad s msg now base c (Ok (CommitAnswer (committed_told x))) b e a) in
      (m.0, same m.1, m.2, m.3)
    where
      same : CommitAnswer (committed_told x) ≡ CommitAnswer (commit pad (at_head pad msg.base msg.change.edit)) → committed_told x ≡ commit pad (at_head pad msg.base msg.change.edit)
      same h = cc

  pub not-made-of : (old new : Held D) (pad : PadState) (s : Session) (msg : Message) (now base : ℕ) (c : Change) (y : PadBad) → msg.base ≡ base → msg.change ≡ c → is_edit c.edit ≡ true
      → IsAnswered told_by failures stops_alone alone rs old pad (Accept s base c now) (Err y) new → brought pad s msg now new (not_made y)
  not-made-of old new pad s msg now base c y b e i a =
      not-made old new pad s msg now y (ap (λ (z : Change). is_edit z.edit) e ∙ i) (same-entry old new pad s msg now base c (Err y) b e a)

-- ---- what was sent is the message's

pub record IsRead (msg : Message) (k : ℕ) (c : Change) : Type 0 where
  pub base : msg.base ≡ k
  pub change : msg.change ≡ c
  pub edit : is_edit c.edit ≡ true

pub sent-read : (x : Sent) (msg : Message) (c : Change) → x ≡ sent_of msg → x.change ≡ Ok c → IsRead msg x.base c
sent-read x msg c e h = go (is_edit msg.change.edit) refl
  where
    q : change_of msg.unread msg.change ≡ Ok c
    q = sym (ap (λ (y : Sent). y.change) e) ∙ h

    go : (t : Bool) → is_edit msg.change.edit ≡ t → IsRead msg x.base c
    go true i = read (sym (ap (λ t. if t then Ok msg.change else Err (why_unread msg.unread)) i) ∙ q)
      where
        ok : Change → Result Change ReadBad
        ok y = Ok y

        read : ok msg.change ≡ ok c → IsRead msg x.base c
        read u = let same : msg.change ≡ c = cc in
            record { base = sym (ap (λ (y : Sent). y.base) e); change = same; edit = sym (ap (λ (y : Change). is_edit y.edit) same) ∙ i }
    go false i = absurd (other (sym (ap (λ t. if t then Ok msg.change else Err (why_unread msg.unread)) i) ∙ q))
      where
        none : Result Change ReadBad
        none = Err (why_unread msg.unread)

        some : Result Change ReadBad
        some = Ok c

        other : none ≡ some → ⊥
        other u = cc

pub sent-unread : (x : Sent) (msg : Message) (why : ReadBad) → x ≡ sent_of msg → x.change ≡ Err why → (is_edit msg.change.edit ≡ false) × (why ≡ why_unread msg.unread)
sent-unread x msg why e h = go (is_edit msg.change.edit) refl
  where
    q : change_of msg.unread msg.change ≡ Err why
    q = sym (ap (λ (y : Sent). y.change) e) ∙ h

    go : (t : Bool) → is_edit msg.change.edit ≡ t → (is_edit msg.change.edit ≡ false) × (why ≡ why_unread msg.unread)
    go true i = absurd (other (sym (ap (λ t. if t then Ok msg.change else Err (why_unread msg.unread)) i) ∙ q))
      where
        some : Result Change ReadBad
        some = Ok msg.change

        none : Result Change ReadBad
        none = Err why

        other : some ≡ none → ⊥
        other u = cc
    go false i = (i, same (sym (ap (λ t. if t then Ok msg.change else Err (why_unread msg.unread)) i) ∙ q))
      where
        err : ReadBad → Result Change ReadBad
        err y = Err y

        same : err (why_unread msg.unread) ≡ err why → why ≡ why_unread msg.unread
        same u = cc
