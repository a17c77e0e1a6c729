-- What a push comes to.
use Rattle.std.proofs.Common.{◌≡◌, ℕ, zero, suc, ◌+◌, ◌≤◌, ◌==◌, Bool, true, false, not, ◌&&◌, cond, List, [], ◌∷◌, length, take, drop, Option, Some, None, Result, Ok, Err, ◌⊎◌, inl, inr, if◌then◌else◌, refl, sym, ap, ◌∙◌, subst, arith}
use Rattle.std.specs.Prelude.{IfOk, map, nat_le}
use Rattle.std.specs.List.{prefix_len, take_while}
use Rattle.std.proofs.lemmas.Bool.Decides.{nat_tests}
use Rattle.ep_units.specs.declared.session.Session.{Session}
use Rattle.ep_outside.specs.Disk.{Contents}
use Rattle.ep_history.specs.Entries.{outcome}
use Rattle.ep_history.specs.Entries.Answer.{FetchAnswer}
use Rattle.ep_history.specs.Entries.Entry.{Fetch}
use Rattle.ep_history.specs.Entries.Outcome.{Refuses, Answers}
use Rattle.ep_history.specs.History.{head, nops_of}
use Rattle.ep_history.specs.Lists.{at}
use Rattle.ep_history.specs.Pad.{PadState, newest, seat_of}
use Rattle.ep_history.specs.Readings.{Fetched as AFetched, dead_if, end_of, fetch, fetch_fault, fetch_faults, nop_heads}
use Rattle.ep_history.specs.Refusals.{fault_if, first_fault}
use Rattle.ep_history.specs.declared.nop.Nop.{Nop}
use Rattle.ep_history.specs.declared.pad_bad.PadBad.{PadBad}
use Rattle.ep_history.specs.declared.pad_bad.PadBad.TheVariants as bad
use Rattle.ep_history.specs.declared.rev.Rev.{Rev}
use Rattle.ep_history.specs.declared.seat.Seat.{Seat}
use Rattle.ep_history.specs.declared.seat.Why.{Why}
use Rattle.ep_history.specs.declared.seat.Why.TheVariants.{Replaced, Deleted, Reopened, Left}
use Rattle.ep_history.proofs.Lists.{drop-next, none_some, some_same}
use Rattle.ep_history.proofs.Refused.{none-of}
use Rattle.ep_history.proofs.Steps.{dead-live}
use Rattle.ep_world.specs.Kepts.{Kepts}
use Rattle.ep_schedule.specs.World.{Name, Conn, Member as AMember, WorldState, closing, push_as, push_by, push_login, push_next, push_turn, put, sending, spending, with_actor, with_conn}
use Rattle.ep_schedule.specs.World.Actor.{Named}
use Rattle.ep_schedule.specs.World.Word.{UserDup, PadDeleted}
use Rattle.ep_pad.specs.Held.{Held}
use Rattle.ep_history.specs.Machine.{MachineState, IsKeptState}
use Rattle.ep_pad.specs.Crashes.{IsStepOfFirst}
use Rattle.ep_pad.specs.Standing.{Stands}
use Rattle.ep_pad_state.specs.Answering.{first_of}
use Rattle.ep_pad_state.specs.declared.answers.Fetched.{Fetched}
use Rattle.ep_event.specs.declared.event.Event.TheVariants as told
use Rattle.ep_event.specs.declared.shown.Shown.{Shown}
use Rattle.ep_members.specs.declared.actors.Actor.TheVariants as actor
use Rattle.ep_world.specs.declared.bad.WorldBad.{WorldBad}
use Rattle.ep_members.specs.declared.member.Member.{Member}
use Rattle.ep_members.specs.declared.telling.Pushed.{Pushed}
use Rattle.ep_members.specs.declared.telling.Pushed.TheVariants as pushed
use Rattle.ep_world.specs.declared.world.World.{World}
use Rattle.ep_members.specs.Actors.{PutsActor, found}
use Rattle.ep_world.specs.Actors.{actor_of, member_of}
use Rattle.ep_members.specs.Conns.{KeptConn, kept_closing_if, kept_tells, kept_tells_spent}
use Rattle.ep_world.specs.Conns.{conn_of}
use Rattle.ep_world.specs.Events.{is_client, of_client}
use Rattle.ep_world.specs.Pushing.{TellsIf, TellsMember, TellsOf}
use Rattle.ep_world.specs.Pushing.IsTold.{IsFetched, IsDead}
use Rattle.ep_world.specs.Shows.{shows_ended, shows_next, shows_push, shows_seat, shows_turn}
use Rattle.ep_world.specs.Journal.{behind, record_in}
use Rattle.ep_world.specs.Standing.{Comes, IsAnswered, IsAt, IsRun, StandsBut, StandsFor, answer_of, pad_after}
use Rattle.ep_world.specs.Standing.IsPlayed.{IsEvent}
use Rattle.ep_members.specs.Telling.{ended_by, pushed_by, pushed_next, pushed_rev, shows_pushed, told_next, told_rev}
use Rattle.ep_world.proofs.Brought.{unless-answers, unless-refuses-answer}
use Rattle.ep_world.proofs.Conns.{conn-closing, conn-spends, conn-tells}
use Rattle.ep_world.proofs.Calls.{answered-once}
use Rattle.ep_world.proofs.Shut.{at-kept, at-stands, at-state}
use Rattle.ep_world.proofs.Seating.{is-named, lent, put-actors-kept, put-same}
use Rattle.ep_world.proofs.Turns.{IsTurn, keeps}
use Rattle.ep_history.specs.declared.record.Record.{Record}

-- ---- the first of what is fetched

-- one or the other, as the first of these is that number
abbrev pick : {A : Type 0} → ℕ → A → A → List ℕ → A
pick sent a b [] = b
pick sent a b (h ∷ hs) = if h == sent then a else b

pick-taken : {A : Type 0} (sent k : ℕ) → sent ≤ k → (a b : A) (hs : List ℕ) → pick sent a b (take_while (λ h. nat_le h k) hs) ≡ pick sent a b hs
pick-taken sent k le a b [] = refl
pick-taken sent k le a b (h ∷ hs) = go (nat_le h k) refl
  where
    more : ℕ
    more = prefix_len (λ x. nat_le x k) hs

    above : nat_le h k ≡ false → (h == sent) ≡ false
    above e = grind (arith, nat_tests)

    one : 1 + more ≡ suc more
    one = omega arith

    go : (t : Bool) → nat_le h k ≡ t → pick sent a b (take (cond (nat_le h k) (1 + more) 0) (h ∷ hs)) ≡ (if h == sent then a else b)
    go true e = ap (λ t. pick sent a b (take (cond t (1 + more) 0) (h ∷ hs))) e ∙ ap (λ m. pick sent a b (take m (h ∷ hs))) one
    go false e = ap (λ t. pick sent a b (take (cond t (1 + more) 0) (h ∷ hs))) e ∙ sym (ap (λ t. if t then a else b) (above e))

-- the same of a Nop
abbrev turn : {A : Type 0} → ℕ → A → A → Option Nop → A
turn sent a b None = b
turn sent a b (Some x) = if x.rev == sent then a else b

pick-at : {A : Type 0} (sent i : ℕ) (a b : A) (ns : List Nop) → pick sent a b (drop i (map (λ (x : Nop). x.rev) ns)) ≡ turn sent a b (at ns i)
pick-at sent zero a b [] = refl
pick-at sent (suc i) a b [] = refl
pick-at sent zero a b (x ∷ ns) = refl
pick-at sent (suc i) a b (x ∷ ns) = pick-at sent i a b ns

pushed-pick : (sent : ℕ) (vs : List Rev) (hs : List ℕ) → pushed_next sent hs vs ≡ pick sent (pushed.Spent sent) (pushed_rev sent vs) hs
pushed-pick sent vs [] = refl
pushed-pick sent vs (h ∷ hs) = refl

told-pick : (c : KeptConn) (vs : List Rev) (hs : List ℕ) → told_next hs vs c ≡ pick c.sent (kept_tells_spent c) (told_rev vs c) hs
told-pick c vs [] = refl
told-pick c vs (h ∷ hs) = refl

-- of what is fetched the next revision tells as much

rev-first : {A : Type 0} (none : A) (some : Rev → A) (vs : List Rev) (get : List Rev → A) → get [] ≡ none → ((v : Rev) (us : List Rev) → get (v ∷ us) ≡ some v) → get (take 1 vs) ≡ get vs
rev-first none some [] get e h = refl
rev-first none some (v ∷ vs) get e h = h v (take 0 vs) ∙ sym (h v vs)

pub first-pushed : (sent : ℕ) (f : AFetched) → pushed_next sent (first_of 1 sent f).nops (first_of 1 sent f).revs ≡ pushed_next sent f.nops f.revs
first-pushed sent f =
    let vs = take 1 f.revs in
    pushed-pick sent vs (first_of 1 sent f).nops ∙ pick-taken sent (sent + length vs) (omega arith) (pushed.Spent sent) (pushed_rev sent vs) f.nops
    ∙ ap (λ b. pick sent (pushed.Spent sent) b f.nops) (rev-first pushed.Nothing (λ _. pushed.Revision (suc sent)) f.revs (pushed_rev sent) refl (λ v us. refl))
    ∙ sym (pushed-pick sent f.revs f.nops)

pub first-told : (c : KeptConn) (f : AFetched) → told_next (first_of 1 c.sent f).nops (first_of 1 c.sent f).revs c ≡ told_next f.nops f.revs c
first-told c f =
    let vs = take 1 f.revs in
    told-pick c vs (first_of 1 c.sent f).nops ∙ pick-taken c.sent (c.sent + length vs) (omega arith) (kept_tells_spent c) (told_rev vs c) f.nops
    ∙ ap (λ b. pick c.sent (kept_tells_spent c) b f.nops) (rev-first c (λ v. kept_tells v c) f.revs (λ us. told_rev us c) refl (λ v us. refl))
    ∙ sym (told-pick c f.revs f.nops)

drop-none : {A : Type 0} (xs : List A) (i : ℕ) → at xs i ≡ None → drop i xs ≡ []
drop-none [] zero e = refl
drop-none [] (suc i) e = refl
drop-none (x ∷ xs) zero e = none_some (sym e)
drop-none (x ∷ xs) (suc i) e = drop-none xs i e

-- ---- a push of the rules

-- what a push of a client comes to: its connection then, and what is shown
pub record IsPush (w : WorldState) (n : Name) (m : AMember) (s : Shown) (d : KeptConn) : Type 0 where
  pub conn : Conn
  pub is : d ≡ conn_of conn
  pub world : ((push_by w n (Named m) ≡ w) × (conn ≡ m.conn)) ⊎ (push_by w n (Named m) ≡ with_actor w n (Named (with_conn m conn)))
  pub shown : s ≡ shows_push w n m

module _ (w : WorldState) (n : Name) (m : AMember) where
  abbrev may : Bool
  may = m.client.connected && not m.conn.closed

  -- nothing is told
  nothing : (d : KeptConn) → push_by w n (Named m) ≡ w → shows_push w n m ≡ shows_pushed n pushed.Nothing → d ≡ conn_of m.conn → IsPush w n m (shows_pushed n pushed.Nothing) d
  nothing d e s q = record { conn = m.conn; is = q; world = inl (e, refl); shown = sym s }

  -- the next revision is, where there is one
  next : (p : Pushed) (d : KeptConn) (vs : List Rev) → vs ≡ take 64 (drop m.conn.sent (newest w.pad).later)
      → push_by w n (Named m) ≡ push_next w n m (at (newest w.pad).later m.conn.sent) → shows_push w n m ≡ shows_next n m.conn.sent (at (newest w.pad).later m.conn.sent)
      → p ≡ pushed_rev m.conn.sent vs → d ≡ told_rev vs (conn_of m.conn) → IsPush w n m (shows_pushed n p) d
  next p d vs are world shown pq dq = go (at (newest w.pad).later m.conn.sent) refl
    where
      go : (o : Option Rev) → at (newest w.pad).later m.conn.sent ≡ o → IsPush w n m (shows_pushed n p) d
      go None e =
          let none : vs ≡ [] = are ∙ ap (take 64) (drop-none (newest w.pad).later m.conn.sent e) in
          subst (λ x. IsPush w n m (shows_pushed n x) d) (sym (pq ∙ ap (pushed_rev m.conn.sent) none))
          (nothing d (world ∙ ap (push_next w n m) e) (shown ∙ ap (shows_next n m.conn.sent) e) (dq ∙ ap (λ x. told_rev x (conn_of m.conn)) none))
      go (Some v) e =
          let some : vs ≡ v ∷ take 63 (drop (suc m.conn.sent) (newest w.pad).later) = are ∙ ap (take 64) (drop-next (newest w.pad).later m.conn.sent v e) in
          record {
            conn = sending m.conn v;
            is = dq ∙ ap (λ x. told_rev x (conn_of m.conn)) some ∙ sym (conn-tells m.conn v);
            world = inr (world ∙ ap (push_next w n m) e);
            shown = ap (shows_pushed n) (pq ∙ ap (pushed_rev m.conn.sent) some) ∙ sym (shown ∙ ap (shows_next n m.conn.sent) e);
          }

  -- of a live session
  fetched : (p : Pushed) (d : KeptConn) (f : AFetched) → may ≡ true → outcome w.pad (Fetch m.conn.session m.conn.sent m.conn.nops) ≡ Answers (FetchAnswer f) w.pad
      → p ≡ pushed_next m.conn.sent f.nops f.revs → d ≡ told_next f.nops f.revs (conn_of m.conn) → IsPush w n m (shows_pushed n p) d
  fetched p d f t o pq dq = go (at ns m.conn.nops) refl
    where
      ns : List Nop
      ns = nops_of m.conn.session (newest w.pad).nops

      u : (fetch_fault w.pad m.conn.session m.conn.sent ≡ None)
          × (outcome w.pad (Fetch m.conn.session m.conn.sent m.conn.nops) ≡ Answers (FetchAnswer (fetch w.pad m.conn.session m.conn.sent m.conn.nops)) w.pad)
      u = unless-answers (fetch_fault w.pad m.conn.session m.conn.sent) _ (FetchAnswer f) (ap answer_of o)

      same : Answers (FetchAnswer (fetch w.pad m.conn.session m.conn.sent m.conn.nops)) w.pad ≡ Answers (FetchAnswer f) w.pad → f ≡ fetch w.pad m.conn.session m.conn.sent m.conn.nops
      same e = cc

      is : f ≡ fetch w.pad m.conn.session m.conn.sent m.conn.nops
      is = same (sym u.1 ∙ o)

      vs : List Rev
      vs = take 64 (drop m.conn.sent (newest w.pad).later)

      revs : f.revs ≡ vs
      revs = ap (λ (x : AFetched). x.revs) is

      nops : f.nops ≡ take_while (λ h. nat_le h (m.conn.sent + length vs)) (drop m.conn.nops (nop_heads m.conn.session (newest w.pad)))
      nops = ap (λ (x : AFetched). x.nops) is

      -- as the first Nop is at the last revision that was sent, or not
      picked : {A : Type 0} (a b : A) → pick m.conn.sent a b f.nops ≡ turn m.conn.sent a b (at ns m.conn.nops)
      picked a b =
          ap (pick m.conn.sent a b) nops
          ∙ pick-taken m.conn.sent (m.conn.sent + length vs) (omega arith) a b (drop m.conn.nops (nop_heads m.conn.session (newest w.pad)))
          ∙ pick-at m.conn.sent m.conn.nops a b ns

      p-is : p ≡ turn m.conn.sent (pushed.Spent m.conn.sent) (pushed_rev m.conn.sent f.revs) (at ns m.conn.nops)
      p-is = pq ∙ pushed-pick m.conn.sent f.revs f.nops ∙ picked (pushed.Spent m.conn.sent) (pushed_rev m.conn.sent f.revs)

      d-is : d ≡ turn m.conn.sent (kept_tells_spent (conn_of m.conn)) (told_rev f.revs (conn_of m.conn)) (at ns m.conn.nops)
      d-is = dq ∙ told-pick (conn_of m.conn) f.revs f.nops ∙ picked (kept_tells_spent (conn_of m.conn)) (told_rev f.revs (conn_of m.conn))

      live : (l : Seat) × (seat_of w.pad m.conn.session ≡ Some l) × (l.end ≡ None)
      live = dead-live w.pad m.conn.session (none-of (fetch_faults w.pad m.conn.session m.conn.sent) u.0).0

      world : push_by w n (Named m) ≡ push_turn w n m (at ns m.conn.nops)
      world = ap (λ b. if b then push_login w n m (seat_of w.pad m.conn.session) else w) t ∙ ap (push_login w n m) live.1 ∙ ap (push_as w n m) live.2

      shown : shows_push w n m ≡ shows_turn n w.pad m.conn.sent (at ns m.conn.nops)
      shown =
          ap (λ b. if b then shows_seat n w.pad m.conn (seat_of w.pad m.conn.session) else shows_pushed n pushed.Nothing) t
          ∙ ap (shows_seat n w.pad m.conn) live.1 ∙ ap (shows_ended n w.pad m.conn) live.2

      tested : (x : Nop) → at ns m.conn.nops ≡ Some x → (b : Bool) → (x.rev == m.conn.sent) ≡ b → IsPush w n m (shows_pushed n p) d
      tested x e true h = record {
        conn = spending m.conn;
        is = d-is ∙ ap (turn m.conn.sent _ _) e ∙ ap (λ b. if b then kept_tells_spent (conn_of m.conn) else told_rev f.revs (conn_of m.conn)) h ∙ sym (conn-spends m.conn);
        world = inr (world ∙ ap (push_turn w n m) e
            ∙ ap (λ b. if b then with_actor w n (Named (with_conn m (spending m.conn))) else push_next w n m (at (newest w.pad).later m.conn.sent)) h);
        shown =
            ap (shows_pushed n) (p-is ∙ ap (turn m.conn.sent _ _) e ∙ ap (λ b. if b then pushed.Spent m.conn.sent else pushed_rev m.conn.sent f.revs) h)
            ∙ sym (shown ∙ ap (shows_turn n w.pad m.conn.sent) e
            ∙ ap (λ b. if b then shows_pushed n (pushed.Spent m.conn.sent) else shows_next n m.conn.sent (at (newest w.pad).later m.conn.sent)) h);
      }
      tested x e false h =
          next p d f.revs revs
          (world ∙ ap (push_turn w n m) e
          ∙ ap (λ b. if b then with_actor w n (Named (with_conn m (spending m.conn))) else push_next w n m (at (newest w.pad).later m.conn.sent)) h)
          (shown ∙ ap (shows_turn n w.pad m.conn.sent) e
          ∙ ap (λ b. if b then shows_pushed n (pushed.Spent m.conn.sent) else shows_next n m.conn.sent (at (newest w.pad).later m.conn.sent)) h)
          (p-is ∙ ap (turn m.conn.sent _ _) e ∙ ap (λ b. if b then pushed.Spent m.conn.sent else pushed_rev m.conn.sent f.revs) h)
          (d-is ∙ ap (turn m.conn.sent _ _) e ∙ ap (λ b. if b then kept_tells_spent (conn_of m.conn) else told_rev f.revs (conn_of m.conn)) h)

      go : (o : Option Nop) → at ns m.conn.nops ≡ o → IsPush w n m (shows_pushed n p) d
      go None e =
          next p d f.revs revs (world ∙ ap (push_turn w n m) e) (shown ∙ ap (shows_turn n w.pad m.conn.sent) e)
          (p-is ∙ ap (turn m.conn.sent _ _) e) (d-is ∙ ap (turn m.conn.sent _ _) e)
      go (Some x) e = tested x e (x.rev == m.conn.sent) refl

  -- of one that ended
  ended : (p : Pushed) (d : KeptConn) (why : Why) → may ≡ true → outcome w.pad (Fetch m.conn.session m.conn.sent m.conn.nops) ≡ Refuses (bad.Dead why)
      → p ≡ pushed_by (ended_by why) → d ≡ kept_closing_if (ended_by why) (conn_of m.conn) → IsPush w n m (shows_pushed n p) d
  ended p d why t o pq dq = go (seat_of w.pad m.conn.session) refl
    where
      dead : (f : Option PadBad) (b : Bool) → first_fault (f ∷ fault_if b (bad.BadRev (head (newest w.pad))) ∷ []) ≡ Some (bad.Dead why) → f ≡ Some (bad.Dead why)
      dead (Some x) b e = e
      dead None true e = absurd cc
      dead None false e = none_some e

      why-is : (e : Option Why) → dead_if e ≡ Some (bad.Dead why) → e ≡ Some why
      why-is None e = none_some e
      why-is (Some x) e = cc

      end : end_of w.pad.epoch (seat_of w.pad m.conn.session) ≡ Some why
      end = why-is _ (dead _ _ (unless-refuses-answer (fetch_fault w.pad m.conn.session m.conn.sent) _ _ (bad.Dead why) o))

      world : (o : Option Seat) → seat_of w.pad m.conn.session ≡ o → push_by w n (Named m) ≡ push_login w n m o
      world o e = ap (λ b. if b then push_login w n m (seat_of w.pad m.conn.session) else w) t ∙ ap (push_login w n m) e

      shown : (o : Option Seat) → seat_of w.pad m.conn.session ≡ o → shows_push w n m ≡ shows_seat n w.pad m.conn o
      shown o e = ap (λ b. if b then shows_seat n w.pad m.conn (seat_of w.pad m.conn.session) else shows_pushed n pushed.Nothing) t ∙ ap (shows_seat n w.pad m.conn) e

      by-why : (y : Why) → why ≡ y → push_by w n (Named m) ≡ push_as w n m (Some y) → shows_push w n m ≡ shows_ended n w.pad m.conn (Some y) → IsPush w n m (shows_pushed n p) d
      by-why Left e v s =
          subst (λ x. IsPush w n m (shows_pushed n x) d) (sym (pq ∙ ap (λ x. pushed_by (ended_by x)) e))
          (nothing d v s (dq ∙ ap (λ x. kept_closing_if (ended_by x) (conn_of m.conn)) e))
      by-why (Reopened k) e v s =
          subst (λ x. IsPush w n m (shows_pushed n x) d) (sym (pq ∙ ap (λ x. pushed_by (ended_by x)) e))
          (nothing d v s (dq ∙ ap (λ x. kept_closing_if (ended_by x) (conn_of m.conn)) e))
      by-why (Replaced k) e v s = record {
        conn = closing UserDup m.conn;
        is = dq ∙ ap (λ x. kept_closing_if (ended_by x) (conn_of m.conn)) e ∙ sym (conn-closing UserDup m.conn);
        world = inr v;
        shown = ap (shows_pushed n) (pq ∙ ap (λ x. pushed_by (ended_by x)) e) ∙ sym s;
      }
      by-why (Deleted k) e v s = record {
        conn = closing PadDeleted m.conn;
        is = dq ∙ ap (λ x. kept_closing_if (ended_by x) (conn_of m.conn)) e ∙ sym (conn-closing PadDeleted m.conn);
        world = inr v;
        shown = ap (shows_pushed n) (pq ∙ ap (λ x. pushed_by (ended_by x)) e) ∙ sym s;
      }

      go : (o : Option Seat) → seat_of w.pad m.conn.session ≡ o → IsPush w n m (shows_pushed n p) d
      go None e =
          let y : why ≡ Reopened w.pad.epoch = sym (some_same (sym (ap (end_of w.pad.epoch) e) ∙ end)) in
          subst (λ x. IsPush w n m (shows_pushed n x) d) (sym (pq ∙ ap (λ x. pushed_by (ended_by x)) y))
          (nothing d (world None e) (shown None e) (dq ∙ ap (λ x. kept_closing_if (ended_by x) (conn_of m.conn)) y))
      go (Some l) e =
          let y : l.end ≡ Some why = sym (ap (end_of w.pad.epoch) e) ∙ end in
          by-why why refl (world (Some l) e ∙ ap (push_as w n m) y) (shown (Some l) e ∙ ap (shows_ended n w.pad m.conn) y)

  pub pushes : (b : Bool) (p : Pushed) (d : KeptConn) → may ≡ b → TellsIf b w.pad (conn_of m.conn) d p → IsPush w n m (shows_pushed n p) d
  pushes false p d t h =
      subst (λ x. IsPush w n m (shows_pushed n x) d) (sym h.0)
      (nothing d (ap (λ b. if b then push_login w n m (seat_of w.pad m.conn.session) else w) t)
      (ap (λ b. if b then shows_seat n w.pad m.conn (seat_of w.pad m.conn.session) else shows_pushed n pushed.Nothing) t) h.1)
  pushes true p d t (IsFetched f o pq dq) = fetched p d f t o pq dq
  pushes true p d t (IsDead why o pq dq) = ended p d why t o pq dq

-- a connection whose parts are read one by one
pub read-conn : (c : KeptConn) (s : Session) (sent nops : ℕ) → s ≡ c.session → sent ≡ c.sent → nops ≡ c.nops → record c { session = s; sent = sent; nops = nops } ≡ c
read-conn c s sent nops a b d =
    ap (λ x. record c { session = x; sent = sent; nops = nops }) a ∙ ap (λ x. record c { sent = x; nops = nops }) b ∙ ap (λ x. record c { nops = x }) d

module _ {D : Type 0} (told_by : D → Option Contents) (failures : D → ℕ) (stops_alone : D → Bool) (alone : Bool) (rs : List Record) where
  -- what is fetched
  pub fetches : (old new : Held D) (pad : PadState) (s : Session) (from seen : ℕ) (f : AFetched) → IsAnswered told_by failures stops_alone alone rs old pad (Fetch s from seen) (Ok (FetchAnswer f)) new
      → (outcome pad (Fetch s from seen) ≡ Answers (FetchAnswer f) pad) × IsAt told_by failures stops_alone alone rs new pad
  fetches old new pad s from seen f a =
      let u = unless-answers (fetch_fault pad s from) (Answers (FetchAnswer (fetch pad s from seen)) pad) _ a.0 in
      (u.1 ∙ ap (λ y. Answers y pad) (some_same (sym (ap answer_of u.1) ∙ a.0)), subst (λ o. IsAt told_by failures stops_alone alone (behind rs (record_in o)) new (pad_after pad o)) u.1 a.1)

  -- of a connection that the code holds in parts: the next revision alone
  abbrev pub FetchesNext : Held D → KeptConn → Result Fetched PadBad → Held D → Type 0
  FetchesNext old c r new =
      (st : MachineState) → IsKeptState st → Stands told_by failures old st
      → (next : MachineState) × IsStepOfFirst st c.session c.sent c.nops 1 r next × Stands told_by failures new next × (stops_alone new.disk ≡ stops_alone old.disk)

  asked : (old new : Held D) (pad : PadState) (c i : KeptConn) (r q : Result Fetched PadBad) → i ≡ c → r ≡ q → (a : IsAt told_by failures stops_alone alone rs old pad) → FetchesNext old i r new
      → (next : MachineState) × IsStepOfFirst (at-state told_by failures stops_alone alone rs old pad a) c.session c.sent c.nops 1 q next × Stands told_by failures new next × (stops_alone new.disk ≡ stops_alone old.disk)
  asked old new pad c i r q e is a makes = subst (λ (x : KeptConn × Result Fetched PadBad). FetchesNext old x.0 x.1 new) (λ j. (e j, is j)) makes (at-state told_by failures stops_alone alone rs old pad a)
      (at-kept told_by failures stops_alone alone rs old pad a) (at-stands told_by failures stops_alone alone rs old pad a)

  pub tells-fetched : (old new : Held D) (pad : PadState) (c i d : KeptConn) (r : Result Fetched PadBad) (x : Fetched) (p : Pushed) → i ≡ c → IsAt told_by failures stops_alone alone rs old pad → FetchesNext old i r new
      → r ≡ Ok x → p ≡ pushed_next c.sent x.nops.items x.revs.items → d ≡ told_next x.nops.items x.revs.items c → TellsOf told_by failures stops_alone alone rs pad c new d p
  tells-fetched old new pad c i d r x p e a makes is pq dq =
      let n = asked old new pad c i r (Ok x) e is a makes in
      let whole = n.1.0 in
      let reply = Ok (FetchAnswer whole) in
      let h = answered-once told_by failures stops_alone alone rs old new pad (Fetch c.session c.sent c.nops) reply a (n.0, n.1.1, n.2, n.3) in
      let f = fetches old new pad c.session c.sent c.nops whole h in (
        IsFetched whole f.0 (pq ∙ ap (λ (y : AFetched). pushed_next c.sent y.nops y.revs) n.1.2 ∙ first-pushed c.sent whole)
            (dq ∙ ap (λ (y : AFetched). told_next y.nops y.revs c) n.1.2 ∙ first-told c whole),
        f.1,
      )

  pub tells-dead : (old new : Held D) (pad : PadState) (c i d : KeptConn) (r : Result Fetched PadBad) (why : Why) (p : Pushed) → i ≡ c → IsAt told_by failures stops_alone alone rs old pad → FetchesNext old i r new
      → r ≡ Err (bad.Dead why) → p ≡ pushed_by (ended_by why) → d ≡ kept_closing_if (ended_by why) c → TellsOf told_by failures stops_alone alone rs pad c new d p
  tells-dead old new pad c i d r why p e a makes is pq dq =
      let n = asked old new pad c i r (Err (bad.Dead why)) e is a makes in
      let f = answered-once told_by failures stops_alone alone rs old new pad (Fetch c.session c.sent c.nops) (Err (bad.Dead why)) a (n.0, n.1, n.2, n.3) in
      (IsDead why f.0 pq dq, f.1)

  pub tells-member : (machine : Held D) (pad : PadState) (m : Member) (d : KeptConn) (r : Result Pushed WorldBad) → (m.client.client.connected && not m.conn.closed) ≡ true
      → IfOk r (TellsOf told_by failures stops_alone alone rs pad m.conn machine d) → IfOk r (TellsMember told_by failures stops_alone alone rs pad m machine (record m { conn = d }))
  tells-member machine pad m d (Ok p) e h = (subst (λ b. TellsIf b pad m.conn d p) (sym e) h.0, refl, h.1)
  tells-member machine pad m d (Err b) e h = tt

  -- a client is sent the next
  pub push-comes : (mid new : World D) (w : WorldState) (ks : Kepts) (now : ℕ) (n : Name) (m : AMember) (s : Shown) (d : KeptConn) → w.actors n ≡ Named m
      → StandsBut told_by failures stops_alone alone rs mid n w ks → IsAt told_by failures stops_alone alone rs new.machine w.pad → new.id ≡ mid.id
      → PutsActor mid.actors n (actor.Named (record (member_of m (ks n)) { conn = d })) new.actors → IsPush w n m s d
      → Comes told_by failures stops_alone alone rs w ks now (told.Push n) new (Ok s)
  push-comes mid new w ks now n m s d is but at same puts push = (
    ap is_client is,
    refl,
    IsEvent true (push.shown ∙ sym (ap (of_client (shows_pushed n pushed.Nothing) (shows_push w n)) is)) refl (λ _. tt)
        (subst (λ v. StandsFor told_by failures stops_alone alone rs new v ks) (sym (ap (push_by w n) is)) (go push.world)),
  )
    where
      puts-conn : PutsActor mid.actors n (actor.Named (member_of (with_conn m push.conn) (ks n))) new.actors
      puts-conn = subst (λ c. PutsActor mid.actors n (actor.Named (record (member_of m (ks n)) { conn = c })) new.actors) push.is puts

      actors : (q : Name) → found new.actors q ≡ actor_of (put w.actors n (Named (with_conn m push.conn)) q) (ks q)
      actors = put-actors-kept mid.actors new.actors w ks n (Named (with_conn m push.conn)) (actor.Named (member_of (with_conn m push.conn) (ks n))) but.actors puts-conn refl

      go : ((push_by w n (Named m) ≡ w) × (push.conn ≡ m.conn)) ⊎ (push_by w n (Named m) ≡ with_actor w n (Named (with_conn m push.conn)))
          → StandsFor told_by failures stops_alone alone rs new (push_by w n (Named m)) ks
      go (inr e) = subst (λ v. StandsFor told_by failures stops_alone alone rs new v ks) (sym e) (record { machine = at; id = same ∙ but.id; actors = actors })
      go (inl e) = subst (λ v. StandsFor told_by failures stops_alone alone rs new v ks) (sym e.0) (record {
        machine = at;
        id = same ∙ but.id;
        actors = λ q. actors q ∙ ap (λ x. actor_of x (ks q)) (put-same w.actors n (Named (with_conn m push.conn)) (is ∙ ap (λ c. Named (with_conn m c)) (sym e.1)) q);
      })

  -- its turn
  pub push-turn : (old new : World D) (w : WorldState) (ks : Kepts) (n : Name) (now : ℕ) (m m' : Member) (p : Pushed) (s : Shown) → IsRun w ks → StandsFor told_by failures stops_alone alone rs old w ks
      → new.id ≡ old.id → IsTurn old.actors n m m' new.actors → ((pad : PadState) → IsAt told_by failures stops_alone alone rs old.machine pad → TellsMember told_by failures stops_alone alone rs pad m new.machine m' p)
      → s ≡ shows_pushed n p → Comes told_by failures stops_alone alone rs w ks now (told.Push n) new (Ok s)
  push-turn old new w ks n now m m' p s run stands id t tells shown =
      subst (λ x. Comes told_by failures stops_alone alone rs w ks now (told.Push n) new (Ok x)) (sym shown)
      (push-comes mid new w ks now n x (shows_pushed n p) m'.conn z.1 (lent told_by failures stops_alone alone rs old mid n w ks stands stands.machine refl t.without) h.2 id puts
      (pushes w n x (may w n x) p m'.conn refl told-so))
    where
      mid : World D
      mid = record old { actors = t.between }

      z : (x : AMember) × (w.actors n ≡ Named x) × (m ≡ member_of x (ks n))
      z = is-named (w.actors n) (ks n) m (sym (stands.actors n) ∙ t.taken)

      x : AMember
      x = z.0

      h : TellsMember told_by failures stops_alone alone rs w.pad m new.machine m' p
      h = tells w.pad stands.machine

      same : (m.client.client.connected && not m.conn.closed) ≡ may w n x
      same = ap (λ (y : Member). y.client.client.connected && not y.conn.closed) z.2 ∙ ap (λ b. b && not x.conn.closed) (keeps w ks n x run z.1).connected

      told-so : TellsIf (may w n x) w.pad (conn_of x.conn) m'.conn p
      told-so = subst (λ b. TellsIf b w.pad (conn_of x.conn) m'.conn p) same
          (subst (λ c. TellsIf (m.client.client.connected && not m.conn.closed) w.pad c m'.conn p) (ap (λ (y : Member). y.conn) z.2) h.0)

      puts : PutsActor t.between n (actor.Named (record (member_of x (ks n)) { conn = m'.conn })) new.actors
      puts = subst (λ y. PutsActor t.between n (actor.Named y) new.actors) (h.1 ∙ ap (λ (y : Member). record y { conn = m'.conn }) z.2) t.seated
