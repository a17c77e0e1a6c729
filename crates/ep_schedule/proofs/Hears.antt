-- What goes down, what a client hears, losses and late messages.
use Rattle.std.proofs.Common.{◌≡◌, ℕ, zero, suc, ◌<◌, ◌≤◌, Bool, true, false, not, ◌&&◌, ◌==◌, if◌then◌else◌, List, [], ◌∷◌, ◌++◌, ◌⊎◌, inl, inr, length, take, drop, Option, Some, None, refl, sym, ap, ◌∙◌, subst, T, arith, nat_lt}
use Rattle.std.proofs.lemmas.List.{length-take-le, drop-append-le}
use Rattle.ep_history.specs.Accept.{refusal}
use Rattle.ep_history.specs.Client.{ClientState, dropped, hear_other, hear_own, heard, is_elsewhere, is_own, is_spent, lost, sent_now, submission, without_sent}
use Rattle.ep_cs.specs.EditFits.{is_edit}
use Rattle.ep_history.specs.History.{Birth, doc_at, head, is_session, nops_of, rebase}
use Rattle.ep_history.specs.Lists.{Among, at}
use Rattle.ep_history.specs.Pad.{PadState, birth_at, newest, seat_of}
use Rattle.ep_history.specs.declared.pad_bad.PadBad.{PadBad}
use Rattle.ep_schedule.proofs.Marks.{IsIn}
use Rattle.ep_schedule.specs.World.{Actor, Conn, Down, Member, Message, Name, Reason, Taken, Word, WorldState, answered, author_of, closing, hear_by, hear_first, known_after, late_as, late_by, late_first, late_of, lose_by, lost_member, pad_reason, push_as, push_by, push_login, push_next, push_turn, reason, sending, spending, with_actor, with_client, with_conn, with_down, with_earlier, with_up}
use Rattle.ep_schedule.specs.World.Actor.{Guest, Named, Nobody}
use Rattle.ep_schedule.specs.World.Down.{Closing, Revision, Spent}
use Rattle.ep_schedule.specs.World.Reason.{Unread}
use Rattle.ep_schedule.specs.World.Word.{PadDeleted, UserDup}
use Rattle.ep_history.specs.declared.seat.Why.TheVariants.{Deleted, Left, Reopened, Replaced}
use Rattle.ep_history.proofs.Lists.{none_some, some_same, at-below, take-next}
use Rattle.ep_cs.proofs.EditFits.{IsFit}
use Rattle.ep_history.proofs.Client.{sound-other, sound-own}
use Rattle.ep_history.proofs.Births.{decide}
use Rattle.ep_schedule.proofs.Good.{same_session, as_message, IsUntaken, IsPending, IsNop, Turn, own_nops, Ahead, GoesSpent, IsOf, same_session, IsPending, IsNop, Turn, own_nops, Ahead, GoesSpent, IsOf, IsKnown, Mine, Goes, AreClosings, as_taken, IsGood, session_of, IsGoodWorld, IsCarried, same-author, leaves-same, assembled, live-put, client-step, at-name}
use Rattle.ep_history.proofs.Refused.{refusal-live}
use Rattle.ep_schedule.proofs.Clients.{turn-quiet, turn-quiet, both_ways, and_first, and_second, not_true, is_same}
use Rattle.ep_schedule.proofs.Marks.{once-same, among-in}
use Rattle.ep_units.specs.declared.session.Session.{Session}
use Rattle.ep_history.specs.declared.rev.Rev.{Rev}
use Rattle.ep_history.specs.declared.seat.Seat.{Seat}
use Rattle.ep_history.specs.declared.submission.Submission.{Submission}
use Rattle.ep_history.specs.declared.seat.Why.{Why}
use Rattle.ep_history.specs.declared.nop.Nop.{Nop}
use Rattle.ep_cs.specs.Fits.{is_identity}
use Rattle.ep_history.proofs.Client.{sound-without}
use Rattle.std.proofs.lemmas.Bool.Decides.{nat_tests}
use Rattle.ep_history.specs.declared.nop.Nop.{Nop}
use Rattle.ep_cs.specs.Fits.{is_identity}
use Rattle.ep_history.proofs.Client.{sound-without, IsSound}
use Rattle.std.proofs.lemmas.List.{length-drop}
use Rattle.ep_cs.specs.Edit.{identity}
use Rattle.ep_cs.proofs.Identity.{only_identity}
use Rattle.std.proofs.lemmas.Bool.Decides.{nat_tests}

-- ---- the queue down

goes-more : (vs : List Rev) (ds : List Down) (v : Rev) → Goes false vs ds → Goes false (vs ++ v ∷ []) (ds ++ Revision v ∷ [])
goes-more [] [] v g = (refl, tt)
goes-more [] (Closing word ∷ []) v g = absurd (subst T (sym g) tt)
goes-more [] (Closing word ∷ (d ∷ ds)) v g = absurd g
goes-more [] (Revision u ∷ ds) v g = absurd g
goes-more [] (Spent r ∷ ds) v g = absurd g
goes-more (u ∷ vs) (Spent r ∷ ds) v g = absurd g
goes-more (u ∷ vs) [] v g = absurd g
goes-more (u ∷ vs) (Closing word ∷ ds) v g = absurd g
goes-more (u ∷ vs) (Revision x ∷ ds) v g = (g.0, goes-more vs ds v g.1)

goes-closed : (w : Word) (vs : List Rev) (ds : List Down) → Goes false vs ds → Goes true vs (ds ++ Closing w ∷ [])
goes-closed w [] [] g = refl
goes-closed w [] (Closing word ∷ []) g = absurd (subst T (sym g) tt)
goes-closed w [] (Closing word ∷ (d ∷ ds)) g = absurd g
goes-closed w [] (Revision u ∷ ds) g = absurd g
goes-closed w [] (Spent r ∷ ds) g = absurd g
goes-closed w (u ∷ vs) (Spent r ∷ ds) g = absurd g
goes-closed w (u ∷ vs) [] g = absurd g
goes-closed w (u ∷ vs) (Closing word ∷ ds) g = absurd g
goes-closed w (u ∷ vs) (Revision x ∷ ds) g = (g.0, goes-closed w vs ds g.1)

closings-more : (w : Word) (ds : List Down) → AreClosings ds → AreClosings (ds ++ Closing w ∷ [])
closings-more w [] g = tt
closings-more w (Revision v ∷ ds) g = absurd g
closings-more w (Spent r ∷ ds) g = absurd g
closings-more w (Closing word ∷ ds) g = closings-more w ds g

goes-push : (xs : List Rev) (r s : ℕ) (ds : List Down) (v : Rev) → r ≤ s → at xs s ≡ Some v → Goes false (drop r (take s xs)) ds → Goes false (drop r (take (suc s) xs)) (ds ++ Revision v ∷ [])
goes-push xs r s ds v l e g =
    let h = at-below xs s v e in
    let n = length-take-le s xs (omega (arith, h)) in
    subst (λ us. Goes false us (ds ++ Revision v ∷ []))
    (sym (ap (drop r) (take-next xs s v e) ∙ drop-append-le r (take s xs) (v ∷ []) (omega (arith, n, l))))
    (goes-more (drop r (take s xs)) ds v g)

pub goes-closing : (word : Word) (closed : Bool) (vs : List Rev) (ds : List Down) → Goes closed vs (Closing word ∷ ds) → AreClosings ds
goes-closing word closed [] [] g = tt
goes-closing word closed [] (d ∷ ds) g = absurd g
goes-closing word closed (v ∷ vs) ds g = absurd g

first-of : (closed : Bool) (r : ℕ) (ys : List Rev) (v : Rev) (ds : List Down) → Goes closed (drop r ys) (Revision v ∷ ds) → (at ys r ≡ Some v) × Goes closed (drop (suc r) ys) ds
first-of closed zero [] v ds g = absurd g
first-of closed zero (y ∷ ys) v ds g = (ap Some g.0, g.1)
first-of closed (suc r) [] v ds g = absurd g
first-of closed (suc r) (y ∷ ys) v ds g = first-of closed r ys v ds g

spent-more : (h d : ℕ) (vs : List Rev) (ds : List Down) (v : Rev) → GoesSpent false h d vs ds → GoesSpent false h d (vs ++ v ∷ []) (ds ++ Revision v ∷ [])
spent-more h d vs [] v g = absurd g
spent-more h d vs (Closing word ∷ ds) v g = absurd g
spent-more h zero vs (Spent r ∷ ds) v g = (g.0, goes-more vs ds v g.1)
spent-more h (suc d) vs (Spent r ∷ ds) v g = absurd g
spent-more h zero vs (Revision u ∷ ds) v g = absurd g
spent-more h (suc d) [] (Revision u ∷ ds) v g = absurd g
spent-more h (suc d) (w ∷ vs) (Revision u ∷ ds) v g = (g.0, spent-more h d vs ds v g.1)

spent-closed : (w : Word) (h d : ℕ) (vs : List Rev) (ds : List Down) → GoesSpent false h d vs ds → GoesSpent true h d vs (ds ++ Closing w ∷ [])
spent-closed w h d vs [] g = absurd g
spent-closed w h d vs (Closing word ∷ ds) g = absurd g
spent-closed w h zero vs (Spent r ∷ ds) g = (g.0, goes-closed w vs ds g.1)
spent-closed w h (suc d) vs (Spent r ∷ ds) g = absurd g
spent-closed w h zero vs (Revision u ∷ ds) g = absurd g
spent-closed w h (suc d) [] (Revision u ∷ ds) g = absurd g
spent-closed w h (suc d) (v ∷ vs) (Revision u ∷ ds) g = (g.0, spent-closed w h d vs ds g.1)

goes-spent : (h : ℕ) (vs : List Rev) (ds : List Down) → Goes false vs ds → GoesSpent false h (length vs) vs (ds ++ Spent h ∷ [])
goes-spent h [] [] g = (refl, tt)
goes-spent h [] (Closing word ∷ []) g = absurd (subst T (sym g) tt)
goes-spent h [] (Closing word ∷ (d ∷ ds)) g = absurd g
goes-spent h [] (Revision u ∷ ds) g = absurd g
goes-spent h [] (Spent r ∷ ds) g = absurd g
goes-spent h (v ∷ vs) [] g = absurd g
goes-spent h (v ∷ vs) (Closing word ∷ ds) g = absurd g
goes-spent h (v ∷ vs) (Spent r ∷ ds) g = absurd g
goes-spent h (v ∷ vs) (Revision u ∷ ds) g = (g.0, goes-spent h vs ds g.1)

spent-push : (xs : List Rev) (r s h d : ℕ) (ds : List Down) (v : Rev) → r ≤ s → at xs s ≡ Some v → GoesSpent false h d (drop r (take s xs)) ds → GoesSpent false h d (drop r (take (suc s) xs)) (ds ++ Revision v ∷ [])
spent-push xs r s h d ds v l e g =
    let b = at-below xs s v e in
    let n = length-take-le s xs (omega (arith, b)) in
    subst (λ us. GoesSpent false h d us (ds ++ Revision v ∷ []))
    (sym (ap (drop r) (take-next xs s v e) ∙ drop-append-le r (take s xs) (v ∷ []) (omega (arith, n, l))))
    (spent-more h d (drop r (take s xs)) ds v g)

first-spent-of : (closed : Bool) (h d r : ℕ) (ys : List Rev) (v : Rev) (ds : List Down) → GoesSpent closed h d (drop r ys) (Revision v ∷ ds)
    → (e : ℕ) × (d ≡ suc e) × (at ys r ≡ Some v) × GoesSpent closed h e (drop (suc r) ys) ds
first-spent-of closed h zero r ys v ds g = absurd g
first-spent-of closed h (suc d) zero [] v ds g = absurd g
first-spent-of closed h (suc d) zero (y ∷ ys) v ds g = (d, refl, ap Some g.0, g.1)
first-spent-of closed h (suc d) (suc r) [] v ds g = absurd g
first-spent-of closed h (suc d) (suc r) (y ∷ ys) v ds g = first-spent-of closed h (suc d) r ys v ds g

told-spent : (closed : Bool) (h d r : ℕ) (vs : List Rev) (ds : List Down) → GoesSpent closed h d vs (Spent r ∷ ds) → (d ≡ 0) × (r ≡ h) × Goes closed vs ds
told-spent closed h zero r vs ds g = (refl, g.0, g.1)
told-spent closed h (suc d) r vs ds g = absurd g

no-spent : (closed : Bool) (r : ℕ) (vs : List Rev) (ds : List Down) → Goes closed vs (Spent r ∷ ds) → ⊥
no-spent closed r [] ds g = absurd g
no-spent closed r (v ∷ vs) ds g = absurd g

at-take : (xs : List Rev) (s r : ℕ) (v : Rev) → at (take s xs) r ≡ Some v → (at xs r ≡ Some v) × (r < s)
at-take xs zero r v e = none_some e
at-take [] (suc s) r v e = none_some e
at-take (x ∷ xs) (suc s) zero v e = (e, omega arith)
at-take (x ∷ xs) (suc s) (suc r) v e = let h = at-take xs s r v e in let l = h.1 in (h.0, omega (arith, l))

-- ---- what goes down

-- a closing
pub good-closing : (word : Word) (b : Birth) (pad : PadState) (taken : List Taken) (edits : List Name) (n : Name) (m : Member)
    → IsGood b pad taken edits n m → IsGood b pad taken edits n (with_conn m (closing word m.conn))
good-closing word b pad taken edits n m g = go m.conn.closed refl
  where
    go : (t : Bool) → m.conn.closed ≡ t
        → IsGood b pad taken edits n (with_conn m (if t then m.conn else record m.conn { down = m.conn.down ++ Closing word ∷ []; closed = true }))
    go true h = g
    go false h = record {
      birth = g.birth;
      sound = g.sound;
      told = g.told;
      current = g.current;
      known = g.known;
      mine = g.mine;
      writes = g.writes;
      newest = g.newest;
      sent_known = g.sent_known;
      sent_mine = g.sent_mine;
      sent_fits = g.sent_fits;
      number = g.number;
      unheard = g.unheard;
      carried = g.carried;
      taken_unheard = g.taken_unheard;
      dropped = g.dropped;
      up = g.up;
      sent_rev = g.sent_rev;
      down = λ c. turn-closed h (g.down c);
      lost = λ c. closings-more word m.conn.down (g.lost c);
      earlier_known = g.earlier_known;
      earlier_mine = g.earlier_mine;
      earlier_other = g.earlier_other;
    }
      where
        turn-closed : m.conn.closed ≡ false → Turn b taken m → Turn b taken (with_conn m (record m.conn { down = m.conn.down ++ Closing word ∷ []; closed = true }))
        turn-closed h (inl q) = inl (q.0, goes-closed word (Ahead b m) m.conn.down (subst (λ t. Goes t (Ahead b m) m.conn.down) h q.1))
        turn-closed h (inr (inl q)) = inr (inl (q.0, goes-closed word (Ahead b m) m.conn.down (subst (λ t. Goes t (Ahead b m) m.conn.down) h q.1), q.2))
        turn-closed h (inr (inr q)) = inr (inr (q.0, (q.1.0, q.1.1, spent-closed word q.1.0.4.0.head q.1.1 (Ahead b m) m.conn.down (subst (λ t. GoesSpent t q.1.0.4.0.head q.1.1 (Ahead b m) m.conn.down) h q.1.2), q.1.3)))

pub session-closing : (word : Word) (c : Conn) → (closing word c).session ≡ c.session
session-closing word c = go c.closed
  where
    go : (t : Bool) → (if t then c else record c { down = c.down ++ Closing word ∷ []; closed = true }).session ≡ c.session
    go true = refl
    go false = refl

good-sending : (b : Birth) (pad : PadState) (taken : List Taken) (edits : List Name) (n : Name) (m : Member) (v : Rev)
    → m.client.connected ≡ true → m.conn.closed ≡ false → at b.later m.conn.sent ≡ Some v
    → ((x : Nop) → at (own_nops b m) m.conn.nops ≡ Some x → x.rev ≡ m.conn.sent → ⊥)
    → IsGood b pad taken edits n m → IsGood b pad taken edits n (with_conn m (sending m.conn v))
good-sending b pad taken edits n m v conn open_ e later g = record {
  birth = g.birth;
  sound = g.sound;
  told = g.told;
  current = g.current;
  known = g.known;
  mine = g.mine;
  writes = g.writes;
  newest = g.newest;
  sent_known = g.sent_known;
  sent_mine = g.sent_mine;
  sent_fits = g.sent_fits;
  number = g.number;
  unheard = g.unheard;
  carried = g.carried;
  taken_unheard = g.taken_unheard;
  dropped = g.dropped;
  up = g.up;
  sent_rev = λ c. let p = g.sent_rev c in let l = p.0 in (omega (arith, l), at-below b.later m.conn.sent v e);
  down = λ c. sends (g.sent_rev c).0 (g.down c);
  lost = λ c. both_ways m.client.connected conn c;
  earlier_known = g.earlier_known;
  earlier_mine = g.earlier_mine;
  earlier_other = g.earlier_other;
}
  where
    still-open : (vs : List Rev) (ds : List Down) → Goes false vs ds → Goes m.conn.closed vs ds
    still-open vs ds q = subst (λ t. Goes t vs ds) (sym open_) q

    sends : m.client.rev ≤ m.conn.sent → Turn b taken m → Turn b taken (with_conn m (sending m.conn v))
    sends l (inl q) = inl (q.0, still-open _ _ (goes-push b.later m.client.rev m.conn.sent m.conn.down v l e (subst (λ t. Goes t (Ahead b m) m.conn.down) open_ q.1)))
    sends l (inr (inl q)) = inr (inl (
      q.0,
      still-open _ _ (goes-push b.later m.client.rev m.conn.sent m.conn.down v l e (subst (λ t. Goes t (Ahead b m) m.conn.down) open_ q.1)),
      (q.2.0, q.2.1, q.2.2, (let k = q.2.3 in let z = later q.2.1 q.2.2 in omega (arith, k, z)), q.2.4),
    ))
    sends l (inr (inr q)) = inr (inr (
      q.0,
      (
        q.1.0,
        q.1.1,
        subst (λ t. GoesSpent t q.1.0.4.0.head q.1.1 (drop m.client.rev (take (suc m.conn.sent) b.later)) (m.conn.down ++ Revision v ∷ [])) (sym open_)
            (spent-push b.later m.client.rev m.conn.sent q.1.0.4.0.head q.1.1 m.conn.down v l e (subst (λ t. GoesSpent t q.1.0.4.0.head q.1.1 (Ahead b m) m.conn.down) open_ q.1.2)),
        q.1.3,
      ),
    ))

good-spending : (b : Birth) (pad : PadState) (taken : List Taken) (edits : List Name) (n : Name) (m : Member) (x : Nop)
    → m.client.connected ≡ true → m.conn.closed ≡ false → at (own_nops b m) m.conn.nops ≡ Some x → x.rev ≡ m.conn.sent
    → IsGood b pad taken edits n m → IsGood b pad taken edits n (with_conn m (spending m.conn))
good-spending b pad taken edits n m x conn open_ e here g = record {
  birth = g.birth;
  sound = g.sound;
  told = g.told;
  current = g.current;
  known = g.known;
  mine = g.mine;
  writes = g.writes;
  newest = g.newest;
  sent_known = g.sent_known;
  sent_mine = g.sent_mine;
  sent_fits = g.sent_fits;
  number = g.number;
  unheard = g.unheard;
  carried = g.carried;
  taken_unheard = g.taken_unheard;
  dropped = g.dropped;
  up = g.up;
  sent_rev = g.sent_rev;
  down = λ c. spends (g.sent_rev c) (g.down c);
  lost = λ c. both_ways m.client.connected conn c;
  earlier_known = g.earlier_known;
  earlier_mine = g.earlier_mine;
  earlier_other = g.earlier_other;
}
  where
    spends : (m.client.rev ≤ m.conn.sent) × (m.conn.sent ≤ head b) → Turn b taken m → Turn b taken (with_conn m (spending m.conn))
    spends l (inl q) = let h = at-below (own_nops b m) m.conn.nops x e in let z = q.0 in absurd (omega (arith, h, z))
    spends l (inr (inr q)) = let h = at-below (own_nops b m) m.conn.nops x e in let z = q.0 in absurd (omega (arith, h, z))
    spends l (inr (inl q)) = inr (inr (
      q.0,
      (
        q.2.0,
        length (Ahead b m),
        (let y : x.rev ≡ q.2.1.rev = ap (λ (z : Nop). z.rev) (some_same (sym e ∙ q.2.2)) in
            subst (λ h. GoesSpent m.conn.closed h (length (Ahead b m)) (Ahead b m) (m.conn.down ++ Spent m.conn.sent ∷ [])) (sym (q.2.4 ∙ sym y ∙ here))
            (subst (λ t. GoesSpent t m.conn.sent (length (Ahead b m)) (Ahead b m) (m.conn.down ++ Spent m.conn.sent ∷ [])) (sym open_) (goes-spent m.conn.sent (Ahead b m) m.conn.down (subst (λ t. Goes t (Ahead b m) m.conn.down) open_ q.1)))),
        (let k = length-drop m.client.rev (take m.conn.sent b.later) in
            let j = length-take-le m.conn.sent b.later l.1 in
            let p = q.2.4 in
            let y : x.rev ≡ q.2.1.rev = ap (λ (z : Nop). z.rev) (some_same (sym e ∙ q.2.2)) in
            let l0 = l.0 in
            omega (arith, k, j, p, y, here, l0)),
      ),
    ))

pub push-good : (w : WorldState) (n : Name) (a : Actor) → IsGoodWorld w → w.actors n ≡ a → IsGoodWorld (push_by w n a)
push-good w n Nobody g i = g
push-good w n (Guest c) g i = g
push-good w n (Named m) g i = open_ (m.client.connected && not m.conn.closed) refl
  where
    gm : IsGood (birth_at w.pad m.birth) w.pad w.taken w.edits n m
    gm = at-name w n (Named m) g i

    closes : (word : Word) → IsGoodWorld (with_actor w n (Named (with_conn m (closing word m.conn))))
    closes word = client-step w n _ g (good-closing word (birth_at w.pad m.birth) w.pad w.taken w.edits n m gm) (ap Some (session-closing word m.conn) ∙ sym (ap session_of i))

    own : (l : Seat) → seat_of w.pad m.conn.session ≡ Some l → l.end ≡ None → m.birth ≡ length w.pad.births
    own l f live = gm.newest l (ap (seat_of w.pad) gm.current ∙ f) live

    nops_are : (l : Seat) → seat_of w.pad m.conn.session ≡ Some l → l.end ≡ None → own_nops (birth_at w.pad m.birth) m ≡ nops_of m.conn.session (newest w.pad).nops
    nops_are l f live = λ i. nops_of (gm.current i) (birth_at w.pad (own l f live i)).nops

    next : (m.client.connected && not m.conn.closed) ≡ true → (l : Seat) → seat_of w.pad m.conn.session ≡ Some l → l.end ≡ None
        → ((x : Nop) → at (nops_of m.conn.session (newest w.pad).nops) m.conn.nops ≡ Some x → x.rev ≡ m.conn.sent → ⊥)
        → (o : Option Rev) → at (newest w.pad).later m.conn.sent ≡ o → IsGoodWorld (push_next w n m o)
    next h l f live later None e = g
    next h l f live later (Some v) e =
        client-step w n _ g
        (good-sending (birth_at w.pad m.birth) w.pad w.taken w.edits n m v (and_first _ _ h) (not_true _ (and_second m.client.connected _ h))
        (ap (λ k. at (birth_at w.pad k).later m.conn.sent) (own l f live) ∙ e) (λ x a. later x (sym (ap (λ (xs : List Nop). at xs m.conn.nops) (nops_are l f live)) ∙ a)) gm)
        (sym (ap session_of i))

    turn : (m.client.connected && not m.conn.closed) ≡ true → (l : Seat) → seat_of w.pad m.conn.session ≡ Some l → l.end ≡ None
        → (o : Option Nop) → at (nops_of m.conn.session (newest w.pad).nops) m.conn.nops ≡ o → IsGoodWorld (push_turn w n m o)
    turn h l f live None e = next h l f live (λ x a. none_some (sym e ∙ a)) (at (newest w.pad).later m.conn.sent) refl
    turn h l f live (Some x) e = go (decide x.rev m.conn.sent)
      where
        go : (((x.rev == m.conn.sent) ≡ true) × (x.rev ≡ m.conn.sent)) ⊎ (((x.rev == m.conn.sent) ≡ false) × (x.rev ≡ m.conn.sent → ⊥)) → IsGoodWorld (push_turn w n m (Some x))
        go (inl z) = subst (λ t. IsGoodWorld (if t then with_actor w n (Named (with_conn m (spending m.conn))) else push_next w n m (at (newest w.pad).later m.conn.sent))) (sym z.0)
            (client-step w n (Named (with_conn m (spending m.conn))) g
            (good-spending (birth_at w.pad m.birth) w.pad w.taken w.edits n m x (and_first _ _ h) (not_true _ (and_second m.client.connected _ h))
            (ap (λ (xs : List Nop). at xs m.conn.nops) (nops_are l f live) ∙ e) z.1 gm) (sym (ap session_of i)))
        go (inr z) = subst (λ t. IsGoodWorld (if t then with_actor w n (Named (with_conn m (spending m.conn))) else push_next w n m (at (newest w.pad).later m.conn.sent))) (sym z.0)
            (next h l f live (λ y a k. z.1 (ap (λ (x : Nop). x.rev) (some_same (sym e ∙ a)) ∙ k)) (at (newest w.pad).later m.conn.sent) refl)

    ended : (m.client.connected && not m.conn.closed) ≡ true → (l : Seat) → seat_of w.pad m.conn.session ≡ Some l → (o : Option Why) → l.end ≡ o → IsGoodWorld (push_as w n m o)
    ended h l f None e = turn h l f e (at (nops_of m.conn.session (newest w.pad).nops) m.conn.nops) refl
    ended h l f (Some Left) e = g
    ended h l f (Some (Reopened k)) e = g
    ended h l f (Some (Replaced s)) e = closes UserDup
    ended h l f (Some (Deleted k)) e = closes PadDeleted

    seat : (m.client.connected && not m.conn.closed) ≡ true → (o : Option Seat) → seat_of w.pad m.conn.session ≡ o → IsGoodWorld (push_login w n m o)
    seat h None e = g
    seat h (Some l) e = ended h l e l.end refl

    open_ : (t : Bool) → (m.client.connected && not m.conn.closed) ≡ t → IsGoodWorld (if t then push_login w n m (seat_of w.pad m.conn.session) else w)
    open_ true h = seat h (seat_of w.pad m.conn.session) refl
    open_ false h = g

-- ---- hearing

pub own-sent : (s : Session) (o : Option Submission) → is_own s o ≡ true → (t : Submission) × (o ≡ Some t) × (s ≡ t.session)
own-sent s None e = absurd (subst T (sym e) tt)
own-sent s (Some t) e = (t, refl, same_session s t.session e)

pub no-up : (b : Birth) (pad : PadState) (taken : List Taken) (edits : List Name) (n : Name) (m : Member) → IsGood b pad taken edits n m → ((s : Submission) → m.client.sent ≡ Some s → s.session ≡ m.client.session → ⊥) → m.conn.up ≡ []
no-up b pad taken edits n m g h = go g.up
  where
    go : (m.conn.up ≡ []) ⊎ ((s : Submission) × (m.client.sent ≡ Some s) × (s.session ≡ m.client.session) × (m.conn.up ≡ as_message m s ∷ []) × IsUntaken taken m.number) → m.conn.up ≡ []
    go (inl e) = e
    go (inr u) = absurd (h u.0 u.1 u.2)

good-lost : (b : Birth) (pad : PadState) (taken : List Taken) (edits : List Name) (n : Name) (m : Member) (ds : List Down) → AreClosings ds
    → IsGood b pad taken edits n m → IsGood b pad taken edits n (with_client (with_conn m (with_down m.conn ds)) (lost m.client))
good-lost b pad taken edits n m ds closings g = record {
  birth = g.birth;
  sound = let s = g.sound in record { rev = s.rev; ends = s.ends; sent = s.sent; local = s.local; base = s.base };
  told = g.told;
  current = g.current;
  known = g.known;
  mine = g.mine;
  writes = g.writes;
  newest = g.newest;
  sent_known = g.sent_known;
  sent_mine = g.sent_mine;
  sent_fits = g.sent_fits;
  number = g.number;
  unheard = g.unheard;
  carried = g.carried;
  taken_unheard = g.taken_unheard;
  dropped = λ c. absurd (subst T (sym c) tt);
  up = g.up;
  sent_rev = λ c. absurd (subst T (sym c) tt);
  down = λ c. absurd (subst T (sym c) tt);
  lost = λ c. closings;
  earlier_known = g.earlier_known;
  earlier_mine = g.earlier_mine;
  earlier_other = g.earlier_other;
}

spent-false : (c l e i : Bool) → (c && (not l && (e && i))) ≡ false → c ≡ true → l ≡ false → e ≡ true → i ≡ false
spent-false false l e i h p q r = absurd (subst T (sym p) tt)
spent-false true true e i h p q r = absurd (subst T q tt)
spent-false true false false i h p q r = absurd (subst T (sym r) tt)
spent-false true false true i h p q r = h

pub less-false : (a b : ℕ) → b ≤ a → nat_lt a b ≡ false
less-false a b h = go (nat_lt a b) refl
  where
    go : (t : Bool) → nat_lt a b ≡ t → nat_lt a b ≡ false
    go true e = absurd (grind (arith, nat_tests))
    go false e = e

elsewhere : (s : Session) (o : Option Submission) (t : Submission) → o ≡ Some t → (t.session ≡ s → ⊥) → is_elsewhere s o ≡ true
elsewhere s o t e h = ap (is_elsewhere s) e ∙ go (is_session t.session s) refl
  where
    go : (b : Bool) → is_session t.session s ≡ b → not b ≡ true
    go true k = absurd (h (same_session t.session s k))
    go false k = refl

-- a client that did not drop its submission has one that alters something
pub not-spent : (b : Birth) (c : ClientState) → is_spent b c ≡ false → c.connected ≡ true → c.told ≤ c.rev → (s : Submission) → c.sent ≡ Some s → (s.session ≡ c.session → ⊥) → is_identity (submission b c) ≡ false
not-spent b c h conn told s e o = spent-false c.connected (nat_lt c.rev c.told) (is_elsewhere c.session c.sent) (is_identity (submission b c)) h conn (less-false c.rev c.told told) (elsewhere c.session c.sent s e o)

-- one that did has one that was sent elsewhere, and is the identity
pub was-spent : (b : Birth) (c : ClientState) → IsSound b c → is_spent b c ≡ true → ((s : Submission) → c.sent ≡ Some s → s.session ≡ c.session → ⊥) × (submission b c ≡ identity (length (doc_at b c.rev)))
was-spent b c g h =
    let h2 = and_second (not (nat_lt c.rev c.told)) _ (and_second c.connected _ h) in
    let e = and_first (is_elsewhere c.session c.sent) _ h2 in
    let i = only_identity (submission b c) (and_second (is_elsewhere c.session c.sent) _ h2) in (
      λ s k o. both_ways (is_session s.session c.session) (is_same s.session c.session o) (not_true _ (sym (ap (is_elsewhere c.session) k) ∙ e)),
      i ∙ ap identity (sym g.sent.long),
    )

spent_is : (t u : Taken) → IsNop t → u.nop ≡ None → t ≡ u → ⊥
spent_is t u p q e = none_some (sym q ∙ ap (λ (x : Taken). x.nop) (sym e) ∙ p.1)

module _ (w : WorldState) (n : Name) (m : Member) (v : Rev) (ds : List Down) (g : IsGoodWorld w) (gm : IsGood (birth_at w.pad m.birth) w.pad w.taken w.edits n m)
    (conn : m.client.connected ≡ true) (q : m.conn.down ≡ Revision v ∷ ds) where
  turn-heard : Turn (birth_at w.pad m.birth) w.taken m → ((at (birth_at w.pad m.birth).later m.client.rev ≡ Some v) × (m.client.rev < m.conn.sent))
      × Turn (birth_at w.pad m.birth) w.taken (with_client (with_conn m (with_down m.conn ds)) (hear_other (birth_at w.pad m.birth) v.change.edit m.client))
  turn-heard (inl t) =
      let f = first-of m.conn.closed m.client.rev (take m.conn.sent (birth_at w.pad m.birth).later) v ds (subst (λ d. Goes m.conn.closed (Ahead (birth_at w.pad m.birth) m) d) q t.1) in
      (at-take (birth_at w.pad m.birth).later m.conn.sent m.client.rev v f.0, inl (t.0, f.1))
  turn-heard (inr (inl t)) =
      let f = first-of m.conn.closed m.client.rev (take m.conn.sent (birth_at w.pad m.birth).later) v ds (subst (λ d. Goes m.conn.closed (Ahead (birth_at w.pad m.birth) m) d) q t.1) in
      (at-take (birth_at w.pad m.birth).later m.conn.sent m.client.rev v f.0, inr (inl (t.0, f.1, t.2)))
  turn-heard (inr (inr t)) =
      let f = first-spent-of m.conn.closed t.1.0.4.0.head t.1.1 m.client.rev (take m.conn.sent (birth_at w.pad m.birth).later) v ds (subst (λ d. GoesSpent m.conn.closed t.1.0.4.0.head t.1.1 (Ahead (birth_at w.pad m.birth) m) d) q t.1.2) in
      (at-take (birth_at w.pad m.birth).later m.conn.sent m.client.rev v f.2, inr (inr (t.0, (t.1.0, f.0, f.3, (let k = t.1.3 in let z = f.1 in omega (arith, k, z))))))

  pub is_next : (at (birth_at w.pad m.birth).later m.client.rev ≡ Some v) × (m.client.rev < m.conn.sent)
  is_next = (turn-heard (gm.down conn)).0

  pub is_fit : IsFit v.change.edit (doc_at (birth_at w.pad m.birth) m.client.rev)
  is_fit = ((g.pad.births m.birth).later m.client.rev v is_next.0).fit

  other-taken : is_own v.session m.client.sent ≡ false → (s : Submission) → m.client.sent ≡ Some s → (t : Taken) → Among t w.taken → IsOf m s t → t.nop ≡ None → suc m.client.rev ≤ t.head
  other-taken not_own s f t among u o = go (decide t.head m.client.rev)
    where
      go : (((t.head == m.client.rev) ≡ true) × (t.head ≡ m.client.rev)) ⊎ (((t.head == m.client.rev) ≡ false) × (t.head ≡ m.client.rev → ⊥)) → suc m.client.rev ≤ t.head
      go (inl z) =
          let r = ap (λ k. at (birth_at w.pad m.birth).later k) (sym z.1) ∙ ap (λ k. at (birth_at w.pad k).later t.head) (sym u.0) ∙ (g.rebased t among).edit o in
          let same : v.session ≡ s.session = ap (λ (x : Rev). x.session) (some_same (sym is_next.0 ∙ r)) ∙ u.1 in
          both_ways (is_own v.session m.client.sent) (ap (is_own v.session) f ∙ is_same v.session s.session same) not_own
      go (inr z) = let h = u.4 o in let k = z.1 in omega (arith, h, k)

  good-other : is_own v.session m.client.sent ≡ false → (t : Bool) → is_spent (birth_at w.pad m.birth) (hear_other (birth_at w.pad m.birth) v.change.edit m.client) ≡ t
      → IsGood (birth_at w.pad m.birth) w.pad w.taken w.edits n (with_client (with_conn m (with_down m.conn ds))
      (if t then without_sent (hear_other (birth_at w.pad m.birth) v.change.edit m.client) else hear_other (birth_at w.pad m.birth) v.change.edit m.client))
  good-other not_own false sp = let g = gm in record {
    birth = g.birth;
    sound = sound-other (birth_at w.pad m.birth) m.client v g.sound is_next.0 is_fit;
    told = g.told;
    current = g.current;
    known = g.known;
    mine = g.mine;
    writes = g.writes;
    newest = g.newest;
    sent_known = g.sent_known;
    sent_mine = g.sent_mine;
    sent_fits = g.sent_fits;
    number = g.number;
    unheard = λ i u l e h. g.unheard i u (omega (arith, l)) e h;
    carried = λ s f i u l e h. g.carried s f i u (omega (arith, l)) e h;
    taken_unheard = λ s f t among e. let u = g.taken_unheard s f t among e in (u.0, u.1, u.2, u.3, (λ o. other-taken not_own s f t among u o), u.5);
    dropped = not-spent (birth_at w.pad m.birth) (hear_other (birth_at w.pad m.birth) v.change.edit m.client) sp;
    up = g.up;
    sent_rev = λ c. (is_next.1, (g.sent_rev c).1);
    down = λ c. (turn-heard (g.down c)).1;
    lost = λ c. both_ways m.client.connected conn c;
    earlier_known = g.earlier_known;
    earlier_mine = g.earlier_mine;
    earlier_other = g.earlier_other;
  }
  good-other not_own true sp =
      let g = gm in
      let so = sound-other (birth_at w.pad m.birth) m.client v gm.sound is_next.0 is_fit in
      let ws = was-spent (birth_at w.pad m.birth) (hear_other (birth_at w.pad m.birth) v.change.edit m.client) so sp in
      record {
        birth = g.birth;
        sound = sound-without (birth_at w.pad m.birth) (hear_other (birth_at w.pad m.birth) v.change.edit m.client) so ws.1;
        told = g.told;
        current = g.current;
        known = g.known;
        mine = g.mine;
        writes = g.writes;
        newest = g.newest;
        sent_known = λ s e. none_some e;
        sent_mine = λ s e. none_some e;
        sent_fits = λ s e. none_some e;
        number = λ s e. none_some e;
        unheard = λ i u l e h. let k = g.unheard i u (omega (arith, l)) e h in absurd (ws.0 k.0 k.1 k.2);
        carried = λ s e. none_some e;
        taken_unheard = λ s e. none_some e;
        dropped = λ c t s e. none_some e;
        up = inl (no-up (birth_at w.pad m.birth) w.pad w.taken w.edits n m g ws.0);
        sent_rev = λ c. (is_next.1, (g.sent_rev c).1);
        down = λ c. inl (turn-quiet (birth_at w.pad m.birth) w.taken (with_client (with_conn m (with_down m.conn ds)) (hear_other (birth_at w.pad m.birth) v.change.edit m.client)) (turn-heard (g.down c)).1 (λ p. ws.0 p.0 p.1 p.2));
        lost = λ c. both_ways m.client.connected conn c;
        earlier_known = g.earlier_known;
        earlier_mine = g.earlier_mine;
        earlier_other = g.earlier_other;
      }

  module _ (s : Submission) (is : m.client.sent ≡ Some s) (own : v.session ≡ s.session) where
    pub carried_here : (m.conn.up ≡ []) × IsCarried w.taken n m m.client.rev s × ((s.session ≡ m.client.session → ⊥) → m.client.rev < m.client.told)
    carried_here = gm.carried s is m.client.rev v (omega arith) is_next.0 own

    pub same_edit : v.change.edit ≡ submission (birth_at w.pad m.birth) m.client
    same_edit =
        ap (λ (x : Rev). x.change.edit) (some_same (sym is_next.0 ∙ (g.rebased (as_taken n m m.client.rev s carried_here.1.0) carried_here.1.1).edit refl))
        ∙ ap (sent_now (birth_at w.pad m.birth) m.client.rev) (sym is)

    never-pending : IsPending w.taken m → ⊥
    never-pending p = spent_is p.4.0 (as_taken n m m.client.rev s carried_here.1.0) p.4.3 refl (once-same w.taken g.once p.4.0 (as_taken n m m.client.rev s carried_here.1.0) p.4.1 carried_here.1.1 p.4.2)

    good-own : IsGood (birth_at w.pad m.birth) w.pad w.taken w.edits n (with_client (with_conn m (with_down m.conn ds)) (hear_own m.client))
    good-own = let g = gm in record {
      birth = g.birth;
      sound = sound-own (birth_at w.pad m.birth) m.client v g.sound is_next.0 is_fit same_edit;
      told = g.told;
      current = g.current;
      known = g.known;
      mine = g.mine;
      writes = g.writes;
      newest = g.newest;
      sent_known = λ s e. none_some e;
      sent_mine = λ s e. none_some e;
      sent_fits = λ s e. none_some e;
      number = λ s e. none_some e;
      unheard = λ i u l e h. absurd (no_more i u l e h);
      carried = λ s e. none_some e;
      taken_unheard = λ s e. none_some e;
      dropped = λ c t s e. none_some e;
      up = inl carried_here.0;
      sent_rev = λ c. (is_next.1, (g.sent_rev c).1);
      down = λ c. inl (turn-quiet (birth_at w.pad m.birth) w.taken (with_client (with_conn m (with_down m.conn ds)) (hear_other (birth_at w.pad m.birth) v.change.edit m.client)) (turn-heard (g.down c)).1 never-pending);
      lost = λ c. both_ways m.client.connected conn c;
      earlier_known = g.earlier_known;
      earlier_mine = g.earlier_mine;
      earlier_other = g.earlier_other;
    }
      where
        no_more : (i : ℕ) (u : Rev) → suc m.client.rev ≤ i → at (birth_at w.pad m.birth).later i ≡ Some u → u.session ≡ m.client.session → ⊥
        no_more i u l e h =
            let k = gm.unheard i u (omega (arith, l)) e h in
            let st : k.0 ≡ s = some_same (sym k.1 ∙ is) in
            let hs : u.session ≡ s.session = h ∙ sym k.2 ∙ ap (λ (x : Submission). x.session) st in
            let c = gm.carried s is i u (omega (arith, l)) e hs in
            let z = ap (λ (t : Taken). t.head) (once-same w.taken g.once (as_taken n m i s c.1.0) (as_taken n m m.client.rev s carried_here.1.0) c.1.1 carried_here.1.1 refl) in
            omega (arith, z, l)

-- it is told that its submission became nothing
module _ (w : WorldState) (n : Name) (m : Member) (r : ℕ) (ds : List Down) (g : IsGoodWorld w) (gm : IsGood (birth_at w.pad m.birth) w.pad w.taken w.edits n m)
    (conn : m.client.connected ≡ true) (q : m.conn.down ≡ Spent r ∷ ds) where
  abbrev pub Told : Type 0
  Told = (p : IsPending w.taken m) × (p.4.0.head ≡ m.client.rev) × (m.conn.nops ≡ length (own_nops (birth_at w.pad m.birth) m)) × Goes m.conn.closed (Ahead (birth_at w.pad m.birth) m) ds × (r ≡ m.client.rev)

  told : Turn (birth_at w.pad m.birth) w.taken m → Told
  told (inl t) = absurd (no-spent m.conn.closed r (Ahead (birth_at w.pad m.birth) m) ds (subst (λ d. Goes m.conn.closed (Ahead (birth_at w.pad m.birth) m) d) q t.1))
  told (inr (inl t)) = absurd (no-spent m.conn.closed r (Ahead (birth_at w.pad m.birth) m) ds (subst (λ d. Goes m.conn.closed (Ahead (birth_at w.pad m.birth) m) d) q t.1))
  told (inr (inr t)) =
      let f = told-spent m.conn.closed t.1.0.4.0.head t.1.1 r (Ahead (birth_at w.pad m.birth) m) ds (subst (λ d. GoesSpent m.conn.closed t.1.0.4.0.head t.1.1 (Ahead (birth_at w.pad m.birth) m) d) q t.1.2) in
      (t.1.0, (let k = t.1.3 in let z = f.0 in omega (arith, k, z)), t.0, f.2, f.1 ∙ (let k = t.1.3 in let z = f.0 in omega (arith, k, z)))

  pub here : Told
  here = told (gm.down conn)

  pub is-nothing : submission (birth_at w.pad m.birth) m.client ≡ identity (length (doc_at (birth_at w.pad m.birth) m.client.rev))
  is-nothing =
      let p = here.0 in
      let t = p.4.0 in
      let u = gm.taken_unheard p.0 p.1 t p.4.1 p.4.2 in
      let r = (g.rebased t p.4.1).nothing p.4.3.0 p.4.3.1 in
      ap (sent_now (birth_at w.pad m.birth) m.client.rev) p.1
      ∙ (λ i. rebase (birth_at w.pad (sym u.0 i)) (sym u.2 i).edit (sym u.3 i) (sym here.1 i)) ∙ r ∙ (λ i. identity (length (doc_at (birth_at w.pad (u.0 i)) (here.1 i))))

  good-told : IsGood (birth_at w.pad m.birth) w.pad w.taken w.edits n (with_client (with_conn m (with_down m.conn ds)) (without_sent m.client))
  good-told = let g = gm in record {
    birth = g.birth;
    sound = sound-without (birth_at w.pad m.birth) m.client g.sound is-nothing;
    told = g.told;
    current = g.current;
    known = g.known;
    mine = g.mine;
    writes = g.writes;
    newest = g.newest;
    sent_known = λ s e. none_some e;
    sent_mine = λ s e. none_some e;
    sent_fits = λ s e. none_some e;
    number = λ s e. none_some e;
    unheard = λ i u l e h. absurd (no_rev i u l e h);
    carried = λ s e. none_some e;
    taken_unheard = λ s e. none_some e;
    dropped = λ c t s e. none_some e;
    up = inl here.0.3;
    sent_rev = g.sent_rev;
    down = λ c. inl (here.2, here.3);
    lost = λ c. both_ways m.client.connected conn c;
    earlier_known = g.earlier_known;
    earlier_mine = g.earlier_mine;
    earlier_other = g.earlier_other;
  }
    where
      no_rev : (i : ℕ) (u : Rev) → m.client.rev ≤ i → at (birth_at w.pad m.birth).later i ≡ Some u → u.session ≡ m.client.session → ⊥
      no_rev i u l e h =
          let p = here.0 in
          let k = gm.unheard i u l e h in
          let hs : u.session ≡ p.0.session = h ∙ sym p.2 in
          let c = gm.carried p.0 p.1 i u l e hs in
          spent_is p.4.0 (as_taken n m i p.0 c.1.0) p.4.3 refl (once-same w.taken g.once p.4.0 (as_taken n m i p.0 c.1.0) p.4.1 c.1.1 p.4.2)

pub hear-good : (w : WorldState) (n : Name) (a : Actor) → IsGoodWorld w → w.actors n ≡ a → IsGoodWorld (hear_by w n a)
hear-good w n Nobody g i = g
hear-good w n (Guest c) g i = g
hear-good w n (Named m) g i = from m.conn.down refl
  where
    gm : IsGood (birth_at w.pad m.birth) w.pad w.taken w.edits n m
    gm = at-name w n (Named m) g i

    turn-closes : (word : Word) (ds : List Down) → Turn (birth_at w.pad m.birth) w.taken m → m.conn.down ≡ Closing word ∷ ds → AreClosings ds
    turn-closes word ds (inl t) q = goes-closing word m.conn.closed (Ahead (birth_at w.pad m.birth) m) ds (subst (λ d. Goes m.conn.closed (Ahead (birth_at w.pad m.birth) m) d) q t.1)
    turn-closes word ds (inr (inl t)) q = goes-closing word m.conn.closed (Ahead (birth_at w.pad m.birth) m) ds (subst (λ d. Goes m.conn.closed (Ahead (birth_at w.pad m.birth) m) d) q t.1)
    turn-closes word ds (inr (inr t)) q = absurd (subst (λ d. GoesSpent m.conn.closed t.1.0.4.0.head t.1.1 (Ahead (birth_at w.pad m.birth) m) d) q t.1.2)

    closes : (word : Word) (ds : List Down) → m.conn.down ≡ Closing word ∷ ds → (t : Bool) → m.client.connected ≡ t → AreClosings ds
    closes word ds q true c = turn-closes word ds (gm.down c) q
    closes word ds q false c = subst AreClosings q (gm.lost c)

    knows : IsIn m.number w.taken → (number : ℕ) → (number ≡ m.number) ⊎ Among number w.known → IsIn number w.taken
    knows isin number (inl e) = subst (λ k. IsIn k w.taken) (sym e) isin
    knows isin number (inr k) = g.known number k

    other : (v : Rev) (ds : List Down) → m.conn.down ≡ Revision v ∷ ds → m.client.connected ≡ true → is_own v.session m.client.sent ≡ false
        → (t : Bool) → is_spent (birth_at w.pad m.birth) (hear_other (birth_at w.pad m.birth) v.change.edit m.client) ≡ t
        → IsGoodWorld (with_actor w n (Named (with_client (with_conn m (with_down m.conn ds))
        (if t then without_sent (hear_other (birth_at w.pad m.birth) v.change.edit m.client) else hear_other (birth_at w.pad m.birth) v.change.edit m.client))))
    other v ds q c h t sp = client-step w n _ g (good-other w n m v ds g gm c q h t sp) (sym (ap session_of i))

    revision : (v : Rev) (ds : List Down) → m.conn.down ≡ Revision v ∷ ds → m.client.connected ≡ true → (t : Bool) → is_own v.session m.client.sent ≡ t
        → IsGoodWorld (with_actor (if t then answered w m.number else w) n (Named (with_client (with_conn m (with_down m.conn ds)) (if t then hear_own m.client else dropped (birth_at w.pad m.birth) (hear_other (birth_at w.pad m.birth) v.change.edit m.client)))))
    revision v ds q c false h = other v ds q c h (is_spent (birth_at w.pad m.birth) (hear_other (birth_at w.pad m.birth) v.change.edit m.client)) refl
    revision v ds q c true h =
        let o = own-sent v.session m.client.sent h in
        assembled w n _ w.pad w.taken w.edits (m.number ∷ w.known) g (record {
          leaves = leaves-same w.pad w.taken w.edits n;
          good_pad = g.pad;
          actor = good-own w n m v ds g gm c q o.0 o.1 o.2;
          live = live-put w n _ g (sym (ap session_of i));
          once = g.once;
          apart = g.apart;
          marked = g.marked;
          new_rebased = λ t h. inl h;
          all_known = let h = (carried_here w n m v ds g gm c q o.0 o.1 o.2).1 in knows (among-in w.taken (as_taken n m m.client.rev o.0 h.0) h.1);
        })

    connected : (v : Rev) (ds : List Down) → m.conn.down ≡ Revision v ∷ ds → (t : Bool) → m.client.connected ≡ t
        → IsGoodWorld (with_actor (known_after w m v) n (Named (with_client (with_conn m (with_down m.conn ds)) (heard (birth_at w.pad m.birth) v m.client))))
    connected v ds q true c = revision v ds q c (is_own v.session m.client.sent) refl
    connected v ds q false c = absurd (subst AreClosings q (gm.lost c))

    spent : (r : ℕ) (ds : List Down) → m.conn.down ≡ Spent r ∷ ds → (t : Bool) → m.client.connected ≡ t
        → IsGoodWorld (with_actor (answered w m.number) n (Named (with_client (with_conn m (with_down m.conn ds)) (without_sent m.client))))
    spent r ds q false c = absurd (subst AreClosings q (gm.lost c))
    spent r ds q true c =
        let p = (here w n m r ds g gm c q).0 in
        assembled w n _ w.pad w.taken w.edits (m.number ∷ w.known) g (record {
          leaves = leaves-same w.pad w.taken w.edits n;
          good_pad = g.pad;
          actor = good-told w n m r ds g gm c q;
          live = live-put w n _ g (sym (ap session_of i));
          once = g.once;
          apart = g.apart;
          marked = g.marked;
          new_rebased = λ t h. inl h;
          all_known = knows (subst (λ k. IsIn k w.taken) p.4.2 (among-in w.taken p.4.0 p.4.1));
        })

    from : (d : List Down) → m.conn.down ≡ d → IsGoodWorld (hear_first w n m d)
    from [] q = g
    from (Closing word ∷ ds) q = client-step w n _ g (good-lost (birth_at w.pad m.birth) w.pad w.taken w.edits n m ds (closes word ds q m.client.connected refl) gm) (sym (ap session_of i))
    from (Spent r ∷ ds) q = spent r ds q m.client.connected refl
    from (Revision v ∷ ds) q = connected v ds q m.client.connected refl

-- ---- losses

pub good-lost-member : (b : Birth) (pad : PadState) (taken : List Taken) (edits : List Name) (n : Name) (m : Member)
    → IsGood b pad taken edits n m → IsGood b pad taken edits n (lost_member m)
good-lost-member b pad taken edits n m g = go m.client.connected
  where
    go : (t : Bool) → IsGood b pad taken edits n (if t then with_client (with_conn m (with_down m.conn [])) (lost m.client) else m)
    go true = good-lost b pad taken edits n m [] tt g
    go false = g

pub lost-same : (m : Member) → ((lost_member m).conn.session ≡ m.conn.session) × ((lost_member m).birth ≡ m.birth)
lost-same m = go m.client.connected
  where
    go : (t : Bool) → ((if t then with_client (with_conn m (with_down m.conn [])) (lost m.client) else m).conn.session ≡ m.conn.session) × ((if t then with_client (with_conn m (with_down m.conn [])) (lost m.client) else m).birth ≡ m.birth)
    go true = (refl, refl)
    go false = (refl, refl)

pub lose-good : (w : WorldState) (n : Name) (a : Actor) → IsGoodWorld w → w.actors n ≡ a → IsGoodWorld (lose_by w n a)
lose-good w n Nobody g i = g
lose-good w n (Guest c) g i = g
lose-good w n (Named m) g i =
    client-step w n (Named (lost_member m)) g
    (subst (λ k. IsGood (birth_at w.pad k) w.pad w.taken w.edits n (lost_member m)) (sym (lost-same m).1) (good-lost-member (birth_at w.pad m.birth) w.pad w.taken w.edits n m (at-name w n (Named m) g i)))
    (ap Some (lost-same m).0 ∙ sym (ap session_of i))

-- ---- late messages

-- what is taken is an edit that is not refused
pub reason-none : (pad : PadState) (s : Session) (msg : Message) → reason pad s msg ≡ None → (is_edit msg.change.edit ≡ true) × (refusal pad s msg.base msg.change ≡ None)
reason-none pad s msg e = go (is_edit msg.change.edit) (refusal pad s msg.base msg.change) e
  where
    go : (t : Bool) (o : Option PadBad) → (if t then pad_reason o else Some (Unread msg.unread)) ≡ None → (t ≡ true) × (o ≡ None)
    go true None e = (refl, refl)
    go true (Some bad) e = none_some (sym e)
    go false o e = none_some (sym e)

-- a late message is always refused
pub late-refused : (w : WorldState) (n : Name) (m : Member) (e : Conn) (msg : Message) → IsGoodWorld w → w.actors n ≡ Named m → m.earlier ≡ Some e → reason w.pad e.session msg ≡ None → ⊥
late-refused w n m e msg g i h r =
    let gm = at-name w n (Named m) g i in
    let l = refusal-live w.pad e.session msg.base msg.change (reason-none w.pad e.session msg r).1 in
    let author : l.0.author ≡ author_of n = gm.earlier_mine e h l.0 l.1 in
    let live = g.live e.session l.0 l.1 l.2 in
    let name : live.0 ≡ n = same-author (sym live.1 ∙ author) in
    let same : Some m.conn.session ≡ Some e.session = sym (ap session_of i) ∙ ap (λ k. session_of (w.actors k)) (sym name) ∙ live.2 in
    gm.earlier_other e h (sym (some_same same) ∙ sym gm.current)

good-late : (b : Birth) (pad : PadState) (taken : List Taken) (edits : List Name) (n : Name) (m : Member) (e : Conn) (up : List Message) → m.earlier ≡ Some e
    → IsGood b pad taken edits n m → IsGood b pad taken edits n (with_earlier m (with_up e up))
good-late b pad taken edits n m e up is g = record {
  birth = g.birth;
  sound = g.sound;
  told = g.told;
  current = g.current;
  known = g.known;
  mine = g.mine;
  writes = g.writes;
  newest = g.newest;
  sent_known = g.sent_known;
  sent_mine = g.sent_mine;
  sent_fits = g.sent_fits;
  number = g.number;
  unheard = g.unheard;
  carried = g.carried;
  taken_unheard = g.taken_unheard;
  dropped = g.dropped;
  up = g.up;
  sent_rev = g.sent_rev;
  down = g.down;
  lost = g.lost;
  earlier_known = λ c h. subst (λ (x : Conn). IsKnown pad x.session) (some_same h) (g.earlier_known e is);
  earlier_mine = λ c h. subst (λ (x : Conn). Mine pad n x.session) (some_same h) (g.earlier_mine e is);
  earlier_other = λ c h k. g.earlier_other e is (ap (λ (x : Conn). x.session) (some_same h) ∙ k);
}

pub late-good : (w : WorldState) (now : ℕ) (n : Name) (a : Actor) → IsGoodWorld w → w.actors n ≡ a → IsGoodWorld (late_by w now n a)
late-good w now n Nobody g i = g
late-good w now n (Guest c) g i = g
late-good w now n (Named m) g i = of m.earlier refl
  where
    as_ : (e : Conn) → m.earlier ≡ Some e → (msg : Message) (up : List Message) → (o : Option Reason) → reason w.pad e.session msg ≡ o
        → IsGoodWorld (late_as w now n (with_earlier m (with_up e up)) e.session msg o)
    as_ e h msg up None r = absurd (late-refused w n m e msg g i h r)
    as_ e h msg up (Some bad) r =
        client-step w n _ g (good-late (birth_at w.pad m.birth) w.pad w.taken w.edits n m e up h (at-name w n (Named m) g i)) (sym (ap session_of i))

    first : (e : Conn) → m.earlier ≡ Some e → (up : List Message) → IsGoodWorld (late_first w now n m e up)
    first e h [] = g
    first e h (msg ∷ up) = as_ e h msg up (reason w.pad e.session msg) refl

    of : (o : Option Conn) → m.earlier ≡ o → IsGoodWorld (late_of w now n m o)
    of None h = g
    of (Some e) h = first e h e.up
