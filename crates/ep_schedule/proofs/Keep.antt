-- Kept clients stand for the world's, whatever happens.
use Rattle.std.proofs.Common.{◌≡◌, ℕ, suc, ◌≤◌, Bool, true, false, not, ◌&&◌, ◌||◌, nat_lt, if◌then◌else◌, List, [], ◌∷◌, ◌++◌, ◌⊎◌, inl, inr, length, Option, Some, None, Result, refl, sym, ap, ◌∙◌, subst, T, ◌==◌}
use Rattle.ep_cs.specs.Edit.{Edit, apply, identity}
use Rattle.ep_csread.specs.declared.bad.ReadBad.{ReadBad}
use Rattle.ep_history.specs.Accept.{committed}
use Rattle.ep_history.specs.Client.{ClientState, dropped, edited, hear_other, hear_own, heard, is_own, lost, resumed, resumes, sends, started, submission, submitted, submitted_from, view, without_sent}
use Rattle.ep_history.specs.Entry.{opened}
use Rattle.ep_cs.specs.EditFits.{fits}
use Rattle.ep_history.specs.History.{Birth, doc_at, head, head_doc, is_session, nops_of}
use Rattle.ep_history.specs.Kept.{Keeps, KeptClient, is_kept_own, kept_dropped, kept_edited, kept_heard, kept_lost, kept_nop, kept_other, kept_own, kept_resumed, kept_resumes, kept_started, kept_submission, kept_submitted, kept_submitted_from, sent_session}
use Rattle.ep_history.specs.Lists.{at}
use Rattle.ep_history.specs.Pad.{PadState, birth_at, create, delete, leave, newest, next_session, reopened, seat_of, with_session}
use Rattle.ep_history.specs.declared.pad_bad.PadBad.{PadBad}
use Rattle.ep_history.specs.Refusals.{login_fault, resume_fault}
use Rattle.ep_history.specs.Server.{create_fault, gone_fault, set_fault, set_text}
use Rattle.ep_schedule.specs.Headline.{Extends, after}
use Rattle.ep_schedule.specs.Kepts.{AreKept, AreSubmittedAlike, IsSameSubmission, KeepsActor, Kepts, kept_after_submit, kept_edit, kept_happens, kept_hear, kept_hear_first, kept_login, kept_login_if, kept_lose, kept_put, kept_resume, kept_resume_if, kept_submit, nobodies, run_kept}
use Rattle.ep_schedule.specs.World.{Actor, Conn, Down, Event, Member, Message, Name, Reason, Word, WorldState, answered, author_of, closing, refusal_word, crashed, cut_off, edit_by, grant_of, happens, hear_by, hear_first, if_text, inject_by, injected, known_after, late_as, late_by, late_first, late_of, login_as, login_if, lose_by, lost_member, new_conn, new_member, overfull_by, overfull_first_guest, overfull_first_named, overfull_guest, overfull_named, pad_if, push_as, push_by, push_login, push_next, push_turn, put, reason, refused_guest, refused_named, resume_as, resume_by, resume_if, resume_member, run, sending, sent_up, spending, start, stop_as, stop_by, stop_conn, stopped, submit_as, submit_by, submit_if, take_by, take_first_guest, take_first_named, take_guest, take_named, visit, visit_as, visit_if, with_actor, with_client, with_conn, with_down, with_earlier, with_up}
use Rattle.ep_schedule.specs.World.Actor.{Guest, Named, Nobody}
use Rattle.ep_schedule.specs.World.Down.{Closing, Revision, Spent}
use Rattle.ep_schedule.specs.World.Event.{Create, Delete, Edits, Hear, Inject, Late, Login, Lose, Overfull, Push, Resume, SetText, Stop, Submit, Take, Visit}
use Rattle.ep_schedule.specs.World.Word.{JournalFull, PadDeleted, UserDup}
use Rattle.ep_history.specs.declared.seat.Why.TheVariants.{Deleted, Left, Reopened, Replaced}
use Rattle.ep_history.proofs.Lists.{none_some, some_same}
use Rattle.ep_cs.proofs.Identity.{apply-identity}
use Rattle.ep_history.proofs.Client.{sound-other, keeps-dropped, keeps-without, IsSound, keeps-edited, keeps-other, keeps-own, keeps-first, keeps-again}
use Rattle.ep_units.specs.Text.{Text, text_eq, is_well_formed}
use Rattle.ep_history.proofs.Births.{noting, decide-name, longer, longer-doc}
use Rattle.ep_schedule.proofs.Good.{AreClosings, IsGood, IsGoodActor, IsGoodWorld, at-name}
use Rattle.ep_history.proofs.Births.{longer-submission, longer-view}
use Rattle.ep_schedule.proofs.Hears.{is-nothing, good-lost-member, is_next, is_fit, same_edit, own-sent}
use Rattle.ep_schedule.proofs.Runs.{resumable, happens-good, run-good, start-good}
use Rattle.ep_schedule.proofs.Grow.{commit-extends, same-births, then-extends, revs-extend, create-extends, stop-grows, opened-extends}
use Rattle.ep_schedule.proofs.Hears.{lost-same}
use Rattle.ep_units.specs.declared.session.Session.{Session}
use Rattle.ep_cs.specs.Fits.{is_identity}
use Rattle.ep_cs.specs.Change.{Change}
use Rattle.ep_cs.specs.Change.{stamped}
use Rattle.ep_outside.specs.declared.limits.Limits.{Limits}
use Rattle.ep_cs.specs.Doc.{text_of}
use Rattle.ep_history.specs.declared.rev.Rev.{Rev}
use Rattle.ep_history.specs.declared.nop.Nop.{Nop}
use Rattle.ep_history.specs.declared.seat.Seat.{Seat}
use Rattle.ep_history.specs.declared.submission.Submission.{Submission}
use Rattle.ep_history.specs.declared.seat.Why.{Why}

-- ---- a birth that grew

longer-is : (pad pad' : PadState) (k : ℕ) → Extends pad pad' → k ≤ length pad.births → (vs : List Rev) × (xs : List Nop) × (birth_at pad' k ≡ noting (longer (birth_at pad k) vs) xs)
longer-is pad pad' k f h = let p = f.births k h in (p.0, p.3.0, λ i. record { first = p.2 i; later = p.1 i; nops = p.3.1 i })

noting-keeps : (b : Birth) (xs : List Nop) (c : ClientState) (k : KeptClient) → Keeps b c k → Keeps (noting b xs) c k
noting-keeps b xs c k h = record { rev = h.rev; doc = h.doc; sent = h.sent; local = h.local; view = h.view; sent_in = h.sent_in; session = h.session; connected = h.connected; told = h.told }

longer-keeps : (b : Birth) (vs : List Rev) (c : ClientState) (k : KeptClient) → c.rev ≤ head b → Keeps b c k → Keeps (longer b vs) c k
longer-keeps b vs c k l h = record {
  rev = h.rev;
  doc = h.doc ∙ sym (longer-doc b vs c.rev l);
  sent = h.sent ∙ sym (longer-submission b vs c l);
  local = h.local;
  view = h.view ∙ sym (longer-view b vs c l);
  sent_in = h.sent_in;
  session = h.session;
  connected = h.connected;
  told = h.told;
}

grown-keeps : (w : WorldState) (pad' : PadState) (n : Name) (a : Actor) (k : KeptClient) → Extends w.pad pad' → IsGoodActor w.pad w.taken w.edits n a → KeepsActor w.pad a k → KeepsActor pad' a k
grown-keeps w pad' n Nobody k f g h = tt
grown-keeps w pad' n (Guest c) k f g h = tt
grown-keeps w pad' n (Named m) k f g h =
    let p = longer-is w.pad pad' m.birth f g.birth in
    subst (λ b. Keeps b m.client k) (sym p.2) (noting-keeps (longer (birth_at w.pad m.birth) p.0) p.1 m.client k (longer-keeps (birth_at w.pad m.birth) p.0 m.client k g.sound.rev h))

abbrev pub IsSame : Actor → Actor → Type 0
IsSame a Nobody = Unit {0}
IsSame a (Guest c) = Unit {0}
IsSame Nobody (Named m') = ⊥
IsSame (Guest c) (Named m') = ⊥
IsSame (Named m) (Named m') = (m.client ≡ m'.client) × (m.birth ≡ m'.birth)

itself : (a : Actor) → IsSame a a
itself Nobody = tt
itself (Guest c) = tt
itself (Named m) = (refl, refl)

same-keeps : (pad : PadState) (a a' : Actor) (k : KeptClient) → IsSame a a' → KeepsActor pad a k → KeepsActor pad a' k
same-keeps pad a Nobody k s h = tt
same-keeps pad a (Guest c) k s h = tt
same-keeps pad Nobody (Named m') k s h = absurd s
same-keeps pad (Guest c) (Named m') k s h = absurd s
same-keeps pad (Named m) (Named m') k s h = subst (λ j. Keeps (birth_at pad j) m'.client k) s.1 (subst (λ c. Keeps (birth_at pad m.birth) c k) s.0 h)

-- a step that leaves each client as it is
same-step : (w : WorldState) (pad' : PadState) (actors' : Name → Actor) (ks : Kepts) → IsGoodWorld w → Extends w.pad pad' → ((j : Name) → IsSame (w.actors j) (actors' j)) → AreKept w ks → (j : Name) → KeepsActor pad' (actors' j) (ks j)
same-step w pad' actors' ks g f s h j = same-keeps pad' (w.actors j) (actors' j) (ks j) (s j) (grown-keeps w pad' j (w.actors j) (ks j) f (g.actors j) (h j))

put-same-client : (w : WorldState) (n : Name) (a : Actor) → IsSame (w.actors n) a → (j : Name) → IsSame (w.actors j) (put w.actors n a j)
put-same-client w n a s j = go (decide-name j n)
  where
    go : ((text_eq j n ≡ true) × (j ≡ n)) ⊎ ((text_eq j n ≡ false) × (j ≡ n → ⊥)) → IsSame (w.actors j) (put w.actors n a j)
    go (inl z) = subst (λ t. IsSame (w.actors j) (if t then a else w.actors j)) (sym z.0) (subst (λ i. IsSame (w.actors i) a) (sym z.1) s)
    go (inr z) = subst (λ t. IsSame (w.actors j) (if t then a else w.actors j)) (sym z.0) (itself (w.actors j))

-- a step of one name that leaves its client as it is
same-put : (w : WorldState) (pad' : PadState) (ks : Kepts) (n : Name) (a : Actor) → IsGoodWorld w → Extends w.pad pad' → IsSame (w.actors n) a → AreKept w ks → (j : Name) → KeepsActor pad' (put w.actors n a j) (ks j)
same-put w pad' ks n a g f s h = same-step w pad' (put w.actors n a) ks g f (put-same-client w n a s) h

leave-extends : (pad : PadState) (s : Session) → Extends pad (leave pad s)
leave-extends pad s = same-births pad (leave pad s) refl

seat-extends : (pad : PadState) (now : ℕ) (author : Text) (read_only : Bool) → Extends pad (with_session (opened pad now) author read_only)
seat-extends pad now author read_only = then-extends pad (opened pad now) (with_session (opened pad now) author read_only) (opened-extends pad now) (same-births (opened pad now) (with_session (opened pad now) author read_only) refl)

is-same : (w : WorldState) (n : Name) (a a' : Actor) → w.actors n ≡ a → IsSame a a' → IsSame (w.actors n) a'
is-same w n a a' e s = subst (λ x. IsSame x a') (sym e) s

-- a step of one client
put-step : (w : WorldState) (ks : Kepts) (pad' : PadState) (n : Name) (a : Actor) (k : KeptClient) → IsGoodWorld w → Extends w.pad pad' → KeepsActor pad' a k → AreKept w ks → (j : Name) → KeepsActor pad' (put w.actors n a j) (kept_put ks n k j)
put-step w ks pad' n a k g f s h j = go (decide-name j n)
  where
    go : ((text_eq j n ≡ true) × (j ≡ n)) ⊎ ((text_eq j n ≡ false) × (j ≡ n → ⊥)) → KeepsActor pad' (put w.actors n a j) (kept_put ks n k j)
    go (inl z) = subst (λ t. KeepsActor pad' (if t then a else w.actors j) (if t then k else ks j)) (sym z.0) s
    go (inr z) = subst (λ t. KeepsActor pad' (if t then a else w.actors j) (if t then k else ks j)) (sym z.0) (grown-keeps w pad' j (w.actors j) (ks j) f (g.actors j) (h j))

same : (w : WorldState) → Extends w.pad w.pad
same w = same-births w.pad w.pad refl

kept-at : (w : WorldState) (ks : Kepts) (n : Name) (a : Actor) → AreKept w ks → w.actors n ≡ a → KeepsActor w.pad a (ks n)
kept-at w ks n a h i = subst (λ x. KeepsActor w.pad x (ks n)) i (h n)

-- ---- logins

starts : (b : Birth) (r : ℕ) (s : Session) → Keeps b (started b r s) (kept_started (doc_at b r) r s)
starts b r s = record {
  rev = refl;
  doc = refl;
  sent = refl;
  local = refl;
  view = sym (ap (apply (identity (length (doc_at b r)))) (apply-identity (doc_at b r)) ∙ apply-identity (doc_at b r));
  sent_in = refl;
  session = refl;
  connected = refl;
  told = refl;
}

login-kept : (w : WorldState) (now : ℕ) (ks : Kepts) (n : Name) (a : Actor) → IsGoodWorld w → AreKept w ks → AreKept (login_as w now n a) (kept_login w now ks n a)
login-kept w now ks n (Guest c) g h = h
login-kept w now ks n Nobody g h = go (login_fault w.pad (grant_of w n false))
  where
    go : (f : Option PadBad) → AreKept (login_if w now n f) (kept_login_if (opened w.pad now) ks n f)
    go (Some bad) = h
    go None = put-step w ks (with_session (opened w.pad now) (author_of n) false) n (Named (new_member (opened w.pad now) (next_session (opened w.pad now)))) (kept_started (head_doc (newest (opened w.pad now))) (head (newest (opened w.pad now))) (next_session (opened w.pad now))) g (seat-extends w.pad now (author_of n) false) (starts (newest (opened w.pad now)) (head (newest (opened w.pad now))) (next_session (opened w.pad now))) h
login-kept w now ks n (Named m) g h = go (login_fault w.pad (grant_of w n false))
  where
    go : (f : Option PadBad) → AreKept (login_if w now n f) (kept_login_if (opened w.pad now) ks n f)
    go (Some bad) = h
    go None = put-step w ks (with_session (opened w.pad now) (author_of n) false) n (Named (new_member (opened w.pad now) (next_session (opened w.pad now)))) (kept_started (head_doc (newest (opened w.pad now))) (head (newest (opened w.pad now))) (next_session (opened w.pad now))) g (seat-extends w.pad now (author_of n) false) (starts (newest (opened w.pad now)) (head (newest (opened w.pad now))) (next_session (opened w.pad now))) h

-- ---- edits

edit-kept : (w : WorldState) (ks : Kepts) (n : Name) (e : Edit) (a : Actor) → IsGoodWorld w → AreKept w ks → w.actors n ≡ a → AreKept (edit_by w n e a) (kept_edit ks n e a)
edit-kept w ks n e Nobody g h i = h
edit-kept w ks n e (Guest c) g h i = h
edit-kept w ks n e (Named m) g h i = go (fits e (view b m.client)) (fits e (ks n).view) (ap (fits e) hk.view) refl
  where
    b : Birth
    b = birth_at w.pad m.birth

    hk : Keeps b m.client (ks n)
    hk = kept-at w ks n (Named m) h i

    go : (t u : Bool) → u ≡ t → fits e (view b m.client) ≡ t → AreKept (if t then with_actor w n (Named (with_client m (edited e m.client))) else w) (if u then kept_put ks n (kept_edited e (ks n)) else ks)
    go true true p q = put-step w ks w.pad n (Named (with_client m (edited e m.client))) (kept_edited e (ks n)) g (same w)
        (let gm : IsGood b w.pad w.taken w.edits n m = at-name w n (Named m) g i in keeps-edited b m.client (ks n) e gm.sound hk) h
    go true false p q = absurd (subst T (sym p) tt)
    go false true p q = absurd (subst T p tt)
    go false false p q = h

-- ---- submissions

abbrev pub IsBoth : Birth → Option ClientState → Option KeptClient → Type 0
IsBoth b None None = Unit {0}
IsBoth b None (Some k) = ⊥
IsBoth b (Some c) None = ⊥
IsBoth b (Some c) (Some k) = Keeps b c k × (c.sent ≡ Some (kept_submission k))

both-submit : (b : Birth) (c : ClientState) (k : KeptClient) → IsSound b c → Keeps b c k → IsBoth b (submitted b c) (kept_submitted k)
both-submit b c k g h = connected c.connected k.connected h.connected
  where
    first : c.sent ≡ None → (t u : Bool) → u ≡ t → IsBoth b (if t then None else Some (sends b c c.local (identity (length (view b c)))))
        (if u then None else Some (record k { sent = k.local; sent_in = Some k.session; local = identity (length k.view) }))
    first n true true p = tt
    first n true false p = absurd (subst T (sym p) tt)
    first n false true p = absurd (subst T p tt)
    first n false false p = (keeps-first b c k g h n, ap Some (λ i. record { change = stamped (sym h.local i) (text_of (sym h.doc i)); base = sym h.rev i; session = sym h.session i }))

    again : (t u : Bool) → u ≡ t → IsBoth b (if t then None else Some (sends b c (submission b c) c.local)) (if u then None else Some (record k { sent_in = Some k.session }))
    again true true p = tt
    again true false p = absurd (subst T (sym p) tt)
    again false true p = absurd (subst T p tt)
    again false false p = (keeps-again b c k h, ap Some (λ i. record { change = stamped (sym h.sent i) (text_of (sym h.doc i)); base = sym h.rev i; session = sym h.session i }))

    from : (o : Option Submission) → c.sent ≡ o → (x : Option Session) → x ≡ sent_session o → IsBoth b (submitted_from b c o) (kept_submitted_from k x)
    from None e None p = first e (is_identity c.local) (is_identity k.local) (ap is_identity h.local)
    from None e (Some x) p = none_some (sym p)
    from (Some s) e None p = none_some p
    from (Some s) e (Some x) p =
        again (is_session s.session c.session || nat_lt c.rev c.told) (is_session x k.session || nat_lt k.rev k.told)
        (let q = some_same p in λ i. is_session (q i) (h.session i) || nat_lt (h.rev i) (h.told i))

    connected : (t u : Bool) → u ≡ t → IsBoth b (if t then submitted_from b c c.sent else None) (if u then kept_submitted_from k k.sent_in else None)
    connected true true p = from c.sent refl k.sent_in h.sent_in
    connected true false p = absurd (subst T (sym p) tt)
    connected false true p = absurd (subst T p tt)
    connected false false p = tt

sent-up-keeps : (pad : PadState) (m : Member) (number : ℕ) (c : ClientState) (o : Option Submission) (k : KeptClient) → Keeps (birth_at pad m.birth) c k → KeepsActor pad (Named (sent_up m number c o)) k
sent-up-keeps pad m number c None k h = h
sent-up-keeps pad m number c (Some s) k h = h

submit-kept : (w : WorldState) (ks : Kepts) (n : Name) (a : Actor) → IsGoodWorld w → AreKept w ks → w.actors n ≡ a → AreKept (submit_by w n a) (kept_submit ks n a)
submit-kept w ks n Nobody g h i = h
submit-kept w ks n (Guest c) g h i = h
submit-kept w ks n (Named m) g h i = go (submitted b m.client) (kept_submitted (ks n)) (both-submit b m.client (ks n) gm.sound (kept-at w ks n (Named m) h i))
  where
    b : Birth
    b = birth_at w.pad m.birth

    gm : IsGood b w.pad w.taken w.edits n m
    gm = at-name w n (Named m) g i

    as_ : (o : Option Submission) (c : ClientState) (k : KeptClient) → Keeps b c k → AreKept (submit_as w n m o c) (kept_put ks n k)
    as_ None c k e = put-step w ks w.pad n _ k g (same w) (sent-up-keeps w.pad m (suc (length w.edits)) c c.sent k e) h
    as_ (Some s) c k e = put-step w ks w.pad n _ k g (same w) (sent-up-keeps w.pad m m.number c c.sent k e) h

    go : (o : Option ClientState) (x : Option KeptClient) → IsBoth b o x → AreKept (submit_if w n m o) (kept_after_submit ks n x)
    go None None e = h
    go None (Some k) e = absurd e
    go (Some c) None e = absurd e
    go (Some c) (Some k) e = as_ m.client.sent c k e.0

-- ---- hearing

own-alike : (s : Session) (o : Option Submission) → is_kept_own s (sent_session o) ≡ is_own s o
own-alike s None = refl
own-alike s (Some t) = refl

closes : (pad : PadState) (m : Member) (conn : Conn) (k : KeptClient) → Keeps (birth_at pad m.birth) m.client k → Keeps (birth_at pad m.birth) (lost m.client) (kept_lost k)
closes pad m conn k h = record { rev = h.rev; doc = h.doc; sent = h.sent; local = h.local; view = h.view; sent_in = h.sent_in; session = h.session; connected = refl; told = h.told }

hear-kept : (w : WorldState) (ks : Kepts) (n : Name) (a : Actor) → IsGoodWorld w → AreKept w ks → w.actors n ≡ a → AreKept (hear_by w n a) (kept_hear ks n a)
hear-kept w ks n Nobody g h i = h
hear-kept w ks n (Guest c) g h i = h
hear-kept w ks n (Named m) g h i = from m.conn.down refl
  where
    b : Birth
    b = birth_at w.pad m.birth

    gm : IsGood b w.pad w.taken w.edits n m
    gm = at-name w n (Named m) g i

    hk : Keeps b m.client (ks n)
    hk = kept-at w ks n (Named m) h i

    decided : (v : Rev) (ds : List Down) → m.conn.down ≡ Revision v ∷ ds → m.client.connected ≡ true → (t u : Bool) → u ≡ t → is_own v.session m.client.sent ≡ t
        → AreKept (with_actor (if t then answered w m.number else w) n (Named (with_client (with_conn m (with_down m.conn ds)) (if t then hear_own m.client else dropped b (hear_other b v.change.edit m.client)))))
        (kept_put ks n (if u then kept_own (ks n) else kept_dropped (kept_other v.change.edit (ks n))))
    decided v ds q c true true p e =
        let o = own-sent v.session m.client.sent e in
        put-step w ks w.pad n (Named (with_client (with_conn m (with_down m.conn ds)) (hear_own m.client))) (kept_own (ks n)) g (same w)
        (keeps-own b m.client v gm.sound (is_next w n m v ds g gm c q).0 (is_fit w n m v ds g gm c q) (same_edit w n m v ds g gm c q o.0 o.1 o.2) (ks n) hk) h
    decided v ds q c true false p e = absurd (subst T (sym p) tt)
    decided v ds q c false true p e = absurd (subst T p tt)
    decided v ds q c false false p e =
        put-step w ks w.pad n (Named (with_client (with_conn m (with_down m.conn ds)) (dropped b (hear_other b v.change.edit m.client)))) (kept_dropped (kept_other v.change.edit (ks n))) g (same w)
        (keeps-dropped b (hear_other b v.change.edit m.client) (kept_other v.change.edit (ks n))
        (sound-other b m.client v gm.sound (is_next w n m v ds g gm c q).0 (is_fit w n m v ds g gm c q))
        (keeps-other b m.client v gm.sound (is_next w n m v ds g gm c q).0 (is_fit w n m v ds g gm c q) (ks n) hk)) h

    connected : (v : Rev) (ds : List Down) → m.conn.down ≡ Revision v ∷ ds → (t : Bool) → m.client.connected ≡ t
        → AreKept (with_actor (known_after w m v) n (Named (with_client (with_conn m (with_down m.conn ds)) (heard b v m.client)))) (kept_put ks n (kept_heard v (ks n)))
    connected v ds q true c = decided v ds q c (is_own v.session m.client.sent) (is_kept_own v.session (ks n).sent_in) (ap (is_kept_own v.session) hk.sent_in ∙ own-alike v.session m.client.sent) refl
    connected v ds q false c = absurd (subst AreClosings q (gm.lost c))

    spent : (r : ℕ) (ds : List Down) → m.conn.down ≡ Spent r ∷ ds → (t : Bool) → m.client.connected ≡ t
        → AreKept (with_actor (answered w m.number) n (Named (with_client (with_conn m (with_down m.conn ds)) (without_sent m.client)))) (kept_put ks n (kept_nop (ks n)))
    spent r ds q true c =
        put-step w ks w.pad n (Named (with_client (with_conn m (with_down m.conn ds)) (without_sent m.client))) (kept_nop (ks n)) g (same w)
        (keeps-without b m.client (ks n) (is-nothing w n m r ds g gm c q) hk) h
    spent r ds q false c = absurd (subst AreClosings q (gm.lost c))

    from : (d : List Down) → m.conn.down ≡ d → AreKept (hear_first w n m d) (kept_hear_first ks n d)
    from [] q = h
    from (Closing word ∷ ds) q = put-step w ks w.pad n (Named (with_client (with_conn m (with_down m.conn ds)) (lost m.client))) (kept_lost (ks n)) g (same w) (closes w.pad m m.conn (ks n) hk) h
    from (Spent r ∷ ds) q = spent r ds q m.client.connected refl
    from (Revision v ∷ ds) q = connected v ds q m.client.connected refl

-- ---- losses and resumptions

lost-keeps : (b : Birth) (m : Member) (k : KeptClient) → Keeps b m.client k → Keeps b (lost_member m).client (kept_lost k)
lost-keeps b m k h = go m.client.connected refl
  where
    go : (t : Bool) → m.client.connected ≡ t → Keeps b (if t then with_client (with_conn m (with_down m.conn [])) (lost m.client) else m).client (kept_lost k)
    go true e = record { rev = h.rev; doc = h.doc; sent = h.sent; local = h.local; view = h.view; sent_in = h.sent_in; session = h.session; connected = refl; told = h.told }
    go false e = record { rev = h.rev; doc = h.doc; sent = h.sent; local = h.local; view = h.view; sent_in = h.sent_in; session = h.session; connected = sym e; told = h.told }

lost-actor : (w : WorldState) (ks : Kepts) (n : Name) (m : Member) → Keeps (birth_at w.pad m.birth) m.client (ks n) → KeepsActor w.pad (Named (lost_member m)) (kept_lost (ks n))
lost-actor w ks n m h = subst (λ j. Keeps (birth_at w.pad j) (lost_member m).client (kept_lost (ks n))) (sym (lost-same m).1) (lost-keeps (birth_at w.pad m.birth) m (ks n) h)

lose-kept : (w : WorldState) (ks : Kepts) (n : Name) (a : Actor) → IsGoodWorld w → AreKept w ks → w.actors n ≡ a → AreKept (lose_by w n a) (kept_lose ks n a)
lose-kept w ks n Nobody g h i = h
lose-kept w ks n (Guest c) g h i = h
lose-kept w ks n (Named m) g h i = put-step w ks w.pad n (Named (lost_member m)) (kept_lost (ks n)) g (same w) (lost-actor w ks n m (kept-at w ks n (Named m) h i)) h

resume-kept : (w : WorldState) (ks : Kepts) (n : Name) (a : Actor) → IsGoodWorld w → AreKept w ks → w.actors n ≡ a → AreKept (resume_by w n a) (kept_resume w ks n a)
resume-kept w ks n Nobody g h i = h
resume-kept w ks n (Guest c) g h i = h
resume-kept w ks n (Named m) g h i =
    subst (λ f. AreKept (resume_as w n (lost_member m)) (kept_resume_if w.pad ks n f))
    (λ j. resume_fault w.pad (grant_of w n false) (sym lk.rev j) (Some ((lost-same m).1 j)) None)
    (go (resume_fault w.pad (grant_of w n false) (lost_member m).client.rev (Some (lost_member m).birth) None) refl)
  where
    lk : Keeps (birth_at w.pad (lost_member m).birth) (lost_member m).client (kept_lost (ks n))
    lk = lost-actor w ks n m (kept-at w ks n (Named m) h i)

    lg : IsGood (birth_at w.pad (lost_member m).birth) w.pad w.taken w.edits n (lost_member m)
    lg = subst (λ k. IsGood (birth_at w.pad k) w.pad w.taken w.edits n (lost_member m)) (sym (lost-same m).1) (good-lost-member (birth_at w.pad m.birth) w.pad w.taken w.edits n m (at-name w n (Named m) g i))

    sound : (j : ℕ) → (lost_member m).birth ≡ j → IsSound (birth_at w.pad j) (resumed (next_session w.pad) (head (newest w.pad)) (lost_member m).client)
    sound j e = let s = subst (λ j. IsSound (birth_at w.pad j) (lost_member m).client) e lg.sound in record { rev = s.rev; ends = s.ends; sent = s.sent; local = s.local; base = s.base }

    keeps : (j : ℕ) → (lost_member m).birth ≡ j → Keeps (birth_at w.pad j) (resumed (next_session w.pad) (head (newest w.pad)) (lost_member m).client) (kept_resumed (next_session w.pad) (head (newest w.pad)) (ks n))
    keeps j e = let k = subst (λ j. Keeps (birth_at w.pad j) (lost_member m).client (kept_lost (ks n))) e lk in
        record { rev = k.rev; doc = k.doc; sent = k.sent; local = k.local; view = k.view; sent_in = k.sent_in; session = refl; connected = refl; told = refl }

    go : (f : Option PadBad) → resume_fault w.pad (grant_of w n false) (lost_member m).client.rev (Some (lost_member m).birth) None ≡ f → AreKept (resume_if w n (lost_member m) f) (kept_resume_if w.pad ks n f)
    go None e =
        let r = resumable w.pad (grant_of w n false) (lost_member m).client.rev (lost_member m).birth None e refl in
        put-step w ks (with_session w.pad (author_of n) false) n (Named (resume_member w.pad (lost_member m))) (kept_resumes (next_session w.pad) (head (newest w.pad)) (ks n)) g (same-births w.pad (with_session w.pad (author_of n) false) refl)
        (subst (λ j. Keeps (birth_at w.pad j) (resumes (newest w.pad) (next_session w.pad) (head (newest w.pad)) (lost_member m).client) (kept_resumes (next_session w.pad) (head (newest w.pad)) (ks n))) (sym r.1)
        (keeps-dropped (newest w.pad) (resumed (next_session w.pad) (head (newest w.pad)) (lost_member m).client) (kept_resumed (next_session w.pad) (head (newest w.pad)) (ks n)) (sound (length w.pad.births) r.1) (keeps (length w.pad.births) r.1))) h
    go (Some bad) e = put-step w ks w.pad n (Named (lost_member m)) (kept_lost (ks n)) g (same w) lk h

-- ---- the other events

visit-kept : (w : WorldState) (now : ℕ) (ks : Kepts) (n : Name) (read_only : Bool) (a : Actor) → IsGoodWorld w → AreKept w ks → AreKept (visit_as w now n read_only a) ks
visit-kept w now ks n read_only a g h = by a
  where
    guest : AreKept (visit w now n read_only) ks
    guest = go (login_fault w.pad (grant_of w n read_only))
      where
        go : (f : Option PadBad) → AreKept (visit_if w now n read_only f) ks
        go (Some bad) = h
        go None = same-put w (with_session (opened w.pad now) (author_of n) read_only) ks n (Guest (new_conn (next_session (opened w.pad now)) (head (newest (opened w.pad now))))) g (seat-extends w.pad now (author_of n) read_only) tt h

    by : (a : Actor) → AreKept (visit_as w now n read_only a) ks
    by (Named m) = h
    by Nobody = guest
    by (Guest c) = guest

inject-kept : (w : WorldState) (ks : Kepts) (n : Name) (base : ℕ) (read : Result Change ReadBad) (a : Actor) → IsGoodWorld w → AreKept w ks → AreKept (inject_by w n base read a) ks
inject-kept w ks n base read Nobody g h = h
inject-kept w ks n base read (Named m) g h = h
inject-kept w ks n base read (Guest c) g h = same-put w w.pad ks n (Guest (with_up c (c.up ++ injected (suc (length w.edits)) base read ∷ []))) g (same w) tt h

refused-kept : (word : Word) (w : WorldState) (ks : Kepts) (n : Name) (m : Member) (conn : Conn) → IsGoodWorld w → AreKept w ks → w.actors n ≡ Named m → AreKept (refused_named word w n (with_conn m conn)) ks
refused-kept word w ks n m conn g h i =
    same-put w (leave w.pad conn.session) ks n (Named (with_conn m (closing word conn))) g (leave-extends w.pad conn.session) (is-same w n (Named m) (Named (with_conn m (closing word conn))) i (refl, refl)) h

refused-guest-kept : (w : WorldState) (ks : Kepts) (n : Name) (c : Conn) → IsGoodWorld w → AreKept w ks → AreKept (refused_guest w n c) ks
refused-guest-kept w ks n c g h = same-put w (leave w.pad c.session) ks n (Guest c) g (leave-extends w.pad c.session) tt h

take-kept : (w : WorldState) (now : ℕ) (ks : Kepts) (n : Name) (a : Actor) → IsGoodWorld w → AreKept w ks → w.actors n ≡ a → AreKept (take_by w now n a) ks
take-kept w now ks n Nobody g h i = h
take-kept w now ks n (Guest c) g h i = first c.up
  where
    decided : (c' : Conn) (msg : Message) (o : Option Reason) → AreKept (take_guest w now n c' msg o) ks
    decided c' msg None = same-put w (committed w.pad c'.session now msg.base msg.change) ks n (Guest c') g (commit-extends w.pad c'.session now msg.base msg.change) tt h
    decided c' msg (Some bad) = refused-guest-kept w ks n c' g h

    first : (us : List Message) → AreKept (take_first_guest w now n c us) ks
    first [] = h
    first (msg ∷ up) = decided (with_up c up) msg (reason w.pad c.session msg)
take-kept w now ks n (Named m) g h i = first m.conn.up
  where
    decided : (conn : Conn) (msg : Message) (o : Option Reason) → AreKept (take_named w now n (with_conn m conn) msg o) ks
    decided conn msg None = same-put w (committed w.pad conn.session now msg.base msg.change) ks n (Named (with_conn m conn)) g (commit-extends w.pad conn.session now msg.base msg.change) (is-same w n (Named m) (Named (with_conn m conn)) i (refl, refl)) h
    decided conn msg (Some bad) = refused-kept (refusal_word bad) w ks n m conn g h i

    first : (us : List Message) → AreKept (take_first_named w now n m us) ks
    first [] = h
    first (msg ∷ up) = decided (with_up m.conn up) msg (reason w.pad m.conn.session msg)

overfull-kept : (w : WorldState) (ks : Kepts) (n : Name) (a : Actor) → IsGoodWorld w → AreKept w ks → w.actors n ≡ a → AreKept (overfull_by w n a) ks
overfull-kept w ks n Nobody g h i = h
overfull-kept w ks n (Guest c) g h i = first c.up
  where
    decided : (c' : Conn) (o : Option Reason) → AreKept (overfull_guest w n c' o) ks
    decided c' None = refused-guest-kept w ks n c' g h
    decided c' (Some why) = h

    first : (us : List Message) → AreKept (overfull_first_guest w n c us) ks
    first [] = h
    first (msg ∷ up) = decided (with_up c up) (reason w.pad c.session msg)
overfull-kept w ks n (Named m) g h i = first m.conn.up
  where
    decided : (conn : Conn) (o : Option Reason) → AreKept (overfull_named w n (with_conn m conn) o) ks
    decided conn None = refused-kept JournalFull w ks n m conn g h i
    decided conn (Some why) = h

    first : (us : List Message) → AreKept (overfull_first_named w n m us) ks
    first [] = h
    first (msg ∷ up) = decided (with_up m.conn up) (reason w.pad m.conn.session msg)

late-kept : (w : WorldState) (now : ℕ) (ks : Kepts) (n : Name) (a : Actor) → IsGoodWorld w → AreKept w ks → w.actors n ≡ a → AreKept (late_by w now n a) ks
late-kept w now ks n Nobody g h i = h
late-kept w now ks n (Guest c) g h i = h
late-kept w now ks n (Named m) g h i = of m.earlier
  where
    decided : (e' : Conn) (s : Session) (msg : Message) (o : Option Reason) → AreKept (late_as w now n (with_earlier m e') s msg o) ks
    decided e' s msg None = same-put w (committed w.pad s now msg.base msg.change) ks n (Named (with_earlier m e')) g (commit-extends w.pad s now msg.base msg.change) (is-same w n (Named m) (Named (with_earlier m e')) i (refl, refl)) h
    decided e' s msg (Some bad) = same-put w w.pad ks n (Named (with_earlier m e')) g (same w) (is-same w n (Named m) (Named (with_earlier m e')) i (refl, refl)) h

    first : (e : Conn) (us : List Message) → AreKept (late_first w now n m e us) ks
    first e [] = h
    first e (msg ∷ up) = decided (with_up e up) e.session msg (reason w.pad e.session msg)

    of : (o : Option Conn) → AreKept (late_of w now n m o) ks
    of None = h
    of (Some e) = first e e.up

push-kept : (w : WorldState) (ks : Kepts) (n : Name) (a : Actor) → IsGoodWorld w → AreKept w ks → w.actors n ≡ a → AreKept (push_by w n a) ks
push-kept w ks n Nobody g h i = h
push-kept w ks n (Guest c) g h i = h
push-kept w ks n (Named m) g h i = open_ (m.client.connected && not m.conn.closed)
  where
    moved : (conn : Conn) → AreKept (with_actor w n (Named (with_conn m conn))) ks
    moved conn = same-put w w.pad ks n (Named (with_conn m conn)) g (same w) (is-same w n (Named m) (Named (with_conn m conn)) i (refl, refl)) h

    next : (o : Option Rev) → AreKept (push_next w n m o) ks
    next None = h
    next (Some v) = moved (sending m.conn v)

    turn : (o : Option Nop) → AreKept (push_turn w n m o) ks
    turn None = next (at (newest w.pad).later m.conn.sent)
    turn (Some x) = go (x.rev == m.conn.sent)
      where
        go : (t : Bool) → AreKept (if t then with_actor w n (Named (with_conn m (spending m.conn))) else push_next w n m (at (newest w.pad).later m.conn.sent)) ks
        go true = moved (spending m.conn)
        go false = next (at (newest w.pad).later m.conn.sent)

    ended : (o : Option Why) → AreKept (push_as w n m o) ks
    ended None = turn (at (nops_of m.conn.session (newest w.pad).nops) m.conn.nops)
    ended (Some Left) = h
    ended (Some (Reopened k)) = h
    ended (Some (Replaced s)) = moved (closing UserDup m.conn)
    ended (Some (Deleted k)) = moved (closing PadDeleted m.conn)

    seat : (o : Option Seat) → AreKept (push_login w n m o) ks
    seat None = h
    seat (Some l) = ended l.end

    open_ : (t : Bool) → AreKept (if t then push_login w n m (seat_of w.pad m.conn.session) else w) ks
    open_ true = seat (seat_of w.pad m.conn.session)
    open_ false = h

stopped-actors : (w : WorldState) (now : ℕ) (who : Option Name) (kept : Bool) → (stopped w now who kept).actors ≡ w.actors
stopped-actors w now None kept = refl
stopped-actors w now (Some n) false = refl
stopped-actors w now (Some n) true = by (w.actors n)
  where
    decided : (s : Session) (msg : Message) (o : Option Reason) → (stop_as w now s msg o).actors ≡ w.actors
    decided s msg None = refl
    decided s msg (Some bad) = refl

    first : (s : Session) (us : List Message) → (stop_conn w now s us).actors ≡ w.actors
    first s [] = refl
    first s (msg ∷ up) = decided s msg (reason w.pad s msg)

    by : (a : Actor) → (stop_by w now a).actors ≡ w.actors
    by Nobody = refl
    by (Guest c) = first c.session c.up
    by (Named m) = first m.conn.session m.conn.up

cut-keeps : (pad : PadState) (a : Actor) (k : KeptClient) → KeepsActor pad a k → KeepsActor (reopened pad) (cut_off a) (kept_lost k)
cut-keeps pad Nobody k h = tt
cut-keeps pad (Guest c) k h = tt
cut-keeps pad (Named m) k h = record { rev = h.rev; doc = h.doc; sent = h.sent; local = h.local; view = h.view; sent_in = h.sent_in; session = h.session; connected = refl; told = h.told }

stop-kept : (w : WorldState) (now : ℕ) (ks : Kepts) (who : Option Name) (kept : Bool) → IsGoodWorld w → AreKept w ks → AreKept (crashed (stopped w now who kept)) (λ n. kept_lost (ks n))
stop-kept w now ks who kept g h j =
    let f = (stop-grows w now who kept).records in
    cut-keeps (stopped w now who kept).pad ((stopped w now who kept).actors j) (ks j)
    (subst (λ (actors : Name → Actor). KeepsActor (stopped w now who kept).pad (actors j) (ks j)) (sym (stopped-actors w now who kept))
    (grown-keeps w (stopped w now who kept).pad j (w.actors j) (ks j) f (g.actors j) (h j)))

pad-kept : (w : WorldState) (ks : Kepts) (pad : PadState) (o : Option PadBad) → IsGoodWorld w → AreKept w ks → Extends w.pad pad → AreKept (pad_if w pad o) ks
pad-kept w ks pad (Some bad) g h f = h
pad-kept w ks pad None g h f = same-step w pad w.actors ks g f (λ j. itself (w.actors j)) h

text-kept : (w v : WorldState) (text : Text) (ks : Kepts) → AreKept w ks → AreKept v ks → AreKept (if_text w text v) ks
text-kept w v text ks h f = go (is_well_formed text)
  where
    go : (t : Bool) → AreKept (if t then v else w) ks
    go true = f
    go false = h

pub happens-kept : (w : WorldState) (ks : Kepts) (e : Event) → IsGoodWorld w → AreKept w ks → AreKept (happens w e) (kept_happens w ks e)
happens-kept w ks (Create now text) g h = text-kept w _ text ks h (pad-kept w ks (create w.pad now text) (create_fault w.pad text) g h (create-extends w.pad now text))
happens-kept w ks (SetText now text) g h = text-kept w _ text ks h (pad-kept w ks (set_text w.pad now text) (set_fault w.pad text) g h (revs-extend w.pad _))
happens-kept w ks Delete g h = pad-kept w ks (delete w.pad) (gone_fault w.pad) g h (same-births w.pad (delete w.pad) refl)
happens-kept w ks (Login now n) g h = login-kept w now ks n (w.actors n) g h
happens-kept w ks (Visit now n read_only) g h = visit-kept w now ks n read_only (w.actors n) g h
happens-kept w ks (Edits n e) g h = edit-kept w ks n e (w.actors n) g h refl
happens-kept w ks (Submit n) g h = submit-kept w ks n (w.actors n) g h refl
happens-kept w ks (Inject n base read) g h = inject-kept w ks n base read (w.actors n) g h
happens-kept w ks (Take now n) g h = take-kept w now ks n (w.actors n) g h refl
happens-kept w ks (Overfull n) g h = overfull-kept w ks n (w.actors n) g h refl
happens-kept w ks (Late now n) g h = late-kept w now ks n (w.actors n) g h refl
happens-kept w ks (Push n) g h = push-kept w ks n (w.actors n) g h refl
happens-kept w ks (Hear n) g h = hear-kept w ks n (w.actors n) g h refl
happens-kept w ks (Lose n) g h = lose-kept w ks n (w.actors n) g h refl
happens-kept w ks (Resume n) g h = resume-kept w ks n (w.actors n) g h refl
happens-kept w ks (Stop now who kept) g h = stop-kept w now ks who kept g h

pub run-kept : (events : List Event) (w : WorldState) (ks : Kepts) → IsGoodWorld w → AreKept w ks → AreKept (run events w) (run_kept events w ks)
run-kept [] w ks g h = h
run-kept (e ∷ es) w ks g h = run-kept es (happens w e) (kept_happens w ks e) (happens-good w e g) (happens-kept w ks e g h)

alike : (b : Birth) (o : Option ClientState) (x : Option KeptClient) → IsBoth b o x → IsSameSubmission o x
alike b None None e = tt
alike b None (Some k) e = absurd e
alike b (Some c) None e = absurd e
alike b (Some c) (Some k) e = e.1

pub kept-law : (limits : Limits) (id : Text) (events : List Event) → AreKept (after limits id events) (run_kept events (start limits id) nobodies) × AreSubmittedAlike (after limits id events) (run_kept events (start limits id) nobodies)
kept-law limits id events =
    let g = run-good events (start limits id) (start-good limits id) in
    let h = run-kept events (start limits id) nobodies (start-good limits id) (λ n. tt) in
    (h, λ n m i. alike (birth_at (after limits id events).pad m.birth) (submitted (birth_at (after limits id events).pad m.birth) m.client) (kept_submitted (run_kept events (start limits id) nobodies n)) (both-submit (birth_at (after limits id events).pad m.birth) m.client (run_kept events (start limits id) nobodies n) (at-name (after limits id events) n (Named m) g i).sound (kept-at (after limits id events) (run_kept events (start limits id) nobodies) n (Named m) h i)))
