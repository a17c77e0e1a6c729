-- Records only grow, and kept clients stand for the world's.
use Rattle.std.proofs.Common.{◌≡◌, ℕ, ◌≤◌, Bool, true, false, not, ◌&&◌, if◌then◌else◌, List, [], ◌∷◌, ◌++◌, ◌⊎◌, inl, inr, length, Option, Some, None, Result, refl, sym, ap, ◌∙◌, subst, arith, ◌==◌}
use Rattle.std.proofs.lemmas.List.{append_assoc, append-nil}
use Rattle.ep_cs.specs.Edit.{Edit}
use Rattle.ep_csread.specs.declared.bad.ReadBad.{ReadBad}
use Rattle.ep_history.specs.Accept.{at_head, by_session, committed}
use Rattle.ep_history.specs.Client.{ClientState, edited, is_own, submitted, view}
use Rattle.ep_history.specs.Entry.{opened}
use Rattle.ep_cs.specs.EditFits.{fits}
use Rattle.ep_history.specs.History.{Birth, By, first_rev, head, head_doc, nop_by, nops_of, step_revs}
use Rattle.ep_history.specs.Lists.{at, numbered, or_else}
use Rattle.ep_history.specs.Pad.{PadState, birth_at, create, delete, newest, no_birth, seat_of, with_nops, with_revs, with_session}
use Rattle.ep_history.specs.declared.pad_bad.PadBad.{PadBad}
use Rattle.ep_history.specs.Refusals.{login_fault, resume_fault}
use Rattle.ep_history.specs.Server.{create_fault, gone_fault, set_fault, set_text}
use Rattle.ep_schedule.specs.Headline.{Extends, Grows}
use Rattle.ep_schedule.specs.World.{Actor, Conn, Down, Event, Member, Message, Name, Reason, Taken, Word, WorldState, answered, author_of, refusal_word, crashed, edit_by, entered, grant_of, happens, hear_by, hear_first, if_text, inject_by, late_as, late_by, late_first, late_of, login_as, login_if, lose_by, lost_member, overfull_by, overfull_first_guest, overfull_first_named, overfull_guest, overfull_named, pad_if, push_as, push_by, push_login, push_next, push_turn, reason, refused_guest, refused_named, resume_by, resume_if, run, spending, stop_as, stop_by, stop_conn, stopped, submit_as, submit_by, submit_if, take_by, take_first_guest, take_first_named, take_guest, take_named, visit, visit_as, visit_if, with_actor, with_client, with_conn, with_earlier, with_up}
use Rattle.ep_schedule.specs.World.Actor.{Guest, Named, Nobody}
use Rattle.ep_schedule.specs.World.Down.{Closing, Revision, Spent}
use Rattle.ep_schedule.specs.World.Word.{JournalFull}
use Rattle.ep_schedule.specs.World.Event.{Create, Delete, Edits, Hear, Inject, Late, Login, Lose, Overfull, Push, Resume, SetText, Stop, Submit, Take, Visit}
use Rattle.ep_history.specs.declared.seat.Why.TheVariants.{Deleted, Left, Reopened, Replaced}
use Rattle.ep_units.specs.Text.{Text, is_well_formed}
use Rattle.ep_schedule.proofs.Runs.{created-old}
use Rattle.ep_history.proofs.Births.{length-more, longer}
use Rattle.ep_history.proofs.Births.{revs-count, revs-at}
use Rattle.ep_units.specs.declared.session.Session.{Session}
use Rattle.ep_cs.specs.Change.{Change}
use Rattle.ep_history.specs.declared.rev.Rev.{Rev}
use Rattle.ep_history.specs.declared.seat.Seat.{Seat}
use Rattle.ep_history.specs.declared.submission.Submission.{Submission}
use Rattle.ep_history.specs.declared.seat.Why.{Why}
use Rattle.ep_history.specs.declared.nop.Nop.{Nop}
use Rattle.ep_cs.specs.Fits.{is_identity}
use Rattle.ep_cs.specs.Change.{Change}
use Rattle.ep_history.proofs.Births.{noting, nops-at, nops-count}

-- ---- records only grow

pub same-births : (pad pad' : PadState) → pad.births ≡ pad'.births → Extends pad pad'
same-births pad pad' e = record {
  births = λ k h. ([], ap (λ bs. (or_else (numbered bs k) no_birth).later) (sym e) ∙ sym (append-nil (birth_at pad k).later), ap (λ bs. (or_else (numbered bs k) no_birth).first) (sym e), ([], ap (λ bs. (or_else (numbered bs k) no_birth).nops) (sym e) ∙ sym (append-nil (birth_at pad k).nops)));
  count = let n : length pad.births ≡ length pad'.births = ap (λ (bs : List Birth). length bs) e in omega (arith, n);
}

pub then-extends : (a b c : PadState) → Extends a b → Extends b c → Extends a c
then-extends a b c f g = record {
  births = λ k h.
      let p = f.births k h in
      let n = f.count in
      let q = g.births k (omega (arith, h, n)) in
      (p.0 ++ q.0, q.1 ∙ ap (λ vs. vs ++ q.0) p.1 ∙ append_assoc (birth_at a k).later p.0 q.0, q.2 ∙ p.2, (p.3.0 ++ q.3.0, q.3.1 ∙ ap (λ xs. xs ++ q.3.0) p.3.1 ∙ append_assoc (birth_at a k).nops p.3.0 q.3.0));
  count = let n = f.count in let m = g.count in omega (arith, n, m);
}

pub revs-extend : (pad : PadState) (vs : List Rev) → Extends pad (with_revs pad vs)
revs-extend pad vs = record {
  births = λ k h. go k (revs-at pad vs k);
  count = let n = revs-count pad vs in omega (arith, n);
}
  where
    go : (k : ℕ) → ((1 ≤ length pad.births) × (k ≡ length pad.births) × (birth_at (with_revs pad vs) k ≡ longer (birth_at pad k) vs)) ⊎ (birth_at (with_revs pad vs) k ≡ birth_at pad k)
        → (ws : List Rev) × ((birth_at (with_revs pad vs) k).later ≡ (birth_at pad k).later ++ ws) × ((birth_at (with_revs pad vs) k).first ≡ (birth_at pad k).first) × ((xs : List Nop) × ((birth_at (with_revs pad vs) k).nops ≡ (birth_at pad k).nops ++ xs))
    go k (inl z) = (vs, ap (λ (b : Birth). b.later) z.2, ap (λ (b : Birth). b.first) z.2, ([], ap (λ (b : Birth). b.nops) z.2 ∙ sym (append-nil (birth_at pad k).nops)))
    go k (inr z) = ([], ap (λ (b : Birth). b.later) z ∙ sym (append-nil (birth_at pad k).later), ap (λ (b : Birth). b.first) z, ([], ap (λ (b : Birth). b.nops) z ∙ sym (append-nil (birth_at pad k).nops)))

pub nops-extend : (pad : PadState) (vs : List Nop) → Extends pad (with_nops pad vs)
nops-extend pad vs = record {
  births = λ k h. go k (nops-at pad vs k);
  count = let n = nops-count pad vs in omega (arith, n);
}
  where
    go : (k : ℕ) → ((1 ≤ length pad.births) × (k ≡ length pad.births) × (birth_at (with_nops pad vs) k ≡ noting (birth_at pad k) vs)) ⊎ (birth_at (with_nops pad vs) k ≡ birth_at pad k)
        → (ws : List Rev) × ((birth_at (with_nops pad vs) k).later ≡ (birth_at pad k).later ++ ws) × ((birth_at (with_nops pad vs) k).first ≡ (birth_at pad k).first) × ((xs : List Nop) × ((birth_at (with_nops pad vs) k).nops ≡ (birth_at pad k).nops ++ xs))
    go k (inl z) = ([], ap (λ (b : Birth). b.later) z.2 ∙ sym (append-nil (birth_at pad k).later), ap (λ (b : Birth). b.first) z.2, (vs, ap (λ (b : Birth). b.nops) z.2))
    go k (inr z) = ([], ap (λ (b : Birth). b.later) z ∙ sym (append-nil (birth_at pad k).later), ap (λ (b : Birth). b.first) z, ([], ap (λ (b : Birth). b.nops) z ∙ sym (append-nil (birth_at pad k).nops)))

pub commit-extends : (pad : PadState) (s : Session) (now base : ℕ) (c : Change) → Extends pad (committed pad s now base c)
commit-extends pad s now base c = go (is_identity (at_head pad base c.edit))
  where
    by : By
    by = by_session pad s now

    go : (t : Bool) → Extends pad (if t then with_nops pad (nop_by by (head (newest pad)) ∷ []) else with_revs pad (step_revs by (at_head pad base c.edit) (head_doc (newest pad))))
    go true = nops-extend pad (nop_by by (head (newest pad)) ∷ [])
    go false = revs-extend pad (step_revs by (at_head pad base c.edit) (head_doc (newest pad)))

pub create-extends : (pad : PadState) (now : ℕ) (text : Text) → Extends pad (create pad now text)
create-extends pad now text = record {
  births = λ k h.
      let e = created-old pad now text k h in
      ([], ap (λ (b : Birth). b.later) e ∙ sym (append-nil (birth_at pad k).later), ap (λ (b : Birth). b.first) e, ([], ap (λ (b : Birth). b.nops) e ∙ sym (append-nil (birth_at pad k).nops)));
  count = let n = length-more pad.births (record { first = first_rev now text; later = []; nops = [] }) in omega (arith, n);
}

-- nothing is lost
still : (w w' : WorldState) → Extends w.pad w'.pad → w'.taken ≡ w.taken → Grows w w'
still w w' f e = record { records = f; taken = ([], e) }

pub stays : (w : WorldState) → Grows w w
stays w = still w w (same-births w.pad w.pad refl) refl

takes : (w : WorldState) (s : Session) (now : ℕ) (msg : Message) (w' : WorldState) → w'.pad ≡ committed w.pad s now msg.base msg.change → (t : Taken) → w'.taken ≡ t ∷ w.taken → Grows w w'
takes w s now msg w' e t h = record { records = subst (λ p. Extends w.pad p) (sym e) (commit-extends w.pad s now msg.base msg.change); taken = (t ∷ [], h) }

pub opened-extends : (pad : PadState) (now : ℕ) → Extends pad (opened pad now)
opened-extends pad now = go pad.present
  where
    go : (t : Bool) → Extends pad (if t then pad else create pad now [])
    go true = same-births pad pad refl
    go false = create-extends pad now []

enters : (w : WorldState) (now : ℕ) (n : Name) (read_only : Bool) (a : Actor) → Grows w (entered w (opened w.pad now) n read_only a)
enters w now n read_only a = still w _ (then-extends w.pad (opened w.pad now) (with_session (opened w.pad now) (author_of n) read_only) (opened-extends w.pad now) (same-births (opened w.pad now) _ refl)) refl

login-grows : (w : WorldState) (now : ℕ) (n : Name) (a : Actor) → Grows w (login_as w now n a)
login-grows w now n (Guest c) = stays w
login-grows w now n Nobody = go (login_fault w.pad (grant_of w n false))
  where
    go : (f : Option PadBad) → Grows w (login_if w now n f)
    go (Some bad) = stays w
    go None = enters w now n false _
login-grows w now n (Named m) = go (login_fault w.pad (grant_of w n false))
  where
    go : (f : Option PadBad) → Grows w (login_if w now n f)
    go (Some bad) = stays w
    go None = enters w now n false _

visit-grows : (w : WorldState) (now : ℕ) (n : Name) (read_only : Bool) → Grows w (visit w now n read_only)
visit-grows w now n read_only = go (login_fault w.pad (grant_of w n read_only))
  where
    go : (f : Option PadBad) → Grows w (visit_if w now n read_only f)
    go (Some bad) = stays w
    go None = enters w now n read_only _

visit-as-grows : (w : WorldState) (now : ℕ) (n : Name) (read_only : Bool) (a : Actor) → Grows w (visit_as w now n read_only a)
visit-as-grows w now n read_only (Named m) = stays w
visit-as-grows w now n read_only Nobody = visit-grows w now n read_only
visit-as-grows w now n read_only (Guest c) = visit-grows w now n read_only

-- a step of one client alone
moves : (w : WorldState) (n : Name) (a : Actor) → Grows w (with_actor w n a)
moves w n a = still w _ (same-births w.pad w.pad refl) refl

edit-grows : (w : WorldState) (n : Name) (e : Edit) (a : Actor) → Grows w (edit_by w n e a)
edit-grows w n e Nobody = stays w
edit-grows w n e (Guest c) = stays w
edit-grows w n e (Named m) = go (fits e (view (birth_at w.pad m.birth) m.client))
  where
    go : (t : Bool) → Grows w (if t then with_actor w n (Named (with_client m (edited e m.client))) else w)
    go true = moves w n _
    go false = stays w

submit-grows : (w : WorldState) (n : Name) (a : Actor) → Grows w (submit_by w n a)
submit-grows w n Nobody = stays w
submit-grows w n (Guest c) = stays w
submit-grows w n (Named m) = go (submitted (birth_at w.pad m.birth) m.client)
  where
    as_ : (o : Option Submission) (c : ClientState) → Grows w (submit_as w n m o c)
    as_ None c = still w _ (same-births w.pad w.pad refl) refl
    as_ (Some s) c = moves w n _

    go : (o : Option ClientState) → Grows w (submit_if w n m o)
    go None = stays w
    go (Some c) = as_ m.client.sent c

inject-grows : (w : WorldState) (n : Name) (base : ℕ) (read : Result Change ReadBad) (a : Actor) → Grows w (inject_by w n base read a)
inject-grows w n base read Nobody = stays w
inject-grows w n base read (Named m) = stays w
inject-grows w n base read (Guest c) = still w _ (same-births w.pad w.pad refl) refl

refused-grows : (word : Word) (w : WorldState) (n : Name) (m : Member) → Grows w (refused_named word w n m)
refused-grows word w n m = still w _ (same-births w.pad _ refl) refl

refused-guest-grows : (w : WorldState) (n : Name) (c : Conn) → Grows w (refused_guest w n c)
refused-guest-grows w n c = still w _ (same-births w.pad _ refl) refl

take-grows : (w : WorldState) (now : ℕ) (n : Name) (a : Actor) → Grows w (take_by w now n a)
take-grows w now n Nobody = stays w
take-grows w now n (Guest c) = first c.up
  where
    decided : (c' : Conn) (msg : Message) (o : Option Reason) → Grows w (take_guest w now n c' msg o)
    decided c' msg None = takes w c'.session now msg _ refl _ refl
    decided c' msg (Some bad) = refused-guest-grows w n c'

    first : (us : List Message) → Grows w (take_first_guest w now n c us)
    first [] = stays w
    first (msg ∷ up) = decided (with_up c up) msg (reason w.pad c.session msg)
take-grows w now n (Named m) = first m.conn.up
  where
    decided : (m' : Member) (msg : Message) (o : Option Reason) → Grows w (take_named w now n m' msg o)
    decided m' msg None = takes w m'.conn.session now msg _ refl _ refl
    decided m' msg (Some bad) = refused-grows (refusal_word bad) w n m'

    first : (us : List Message) → Grows w (take_first_named w now n m us)
    first [] = stays w
    first (msg ∷ up) = decided (with_conn m (with_up m.conn up)) msg (reason w.pad m.conn.session msg)

overfull-grows : (w : WorldState) (n : Name) (a : Actor) → Grows w (overfull_by w n a)
overfull-grows w n Nobody = stays w
overfull-grows w n (Guest c) = first c.up
  where
    decided : (c' : Conn) (o : Option Reason) → Grows w (overfull_guest w n c' o)
    decided c' None = refused-guest-grows w n c'
    decided c' (Some why) = stays w

    first : (us : List Message) → Grows w (overfull_first_guest w n c us)
    first [] = stays w
    first (msg ∷ up) = decided (with_up c up) (reason w.pad c.session msg)
overfull-grows w n (Named m) = first m.conn.up
  where
    decided : (m' : Member) (o : Option Reason) → Grows w (overfull_named w n m' o)
    decided m' None = refused-grows JournalFull w n m'
    decided m' (Some why) = stays w

    first : (us : List Message) → Grows w (overfull_first_named w n m us)
    first [] = stays w
    first (msg ∷ up) = decided (with_conn m (with_up m.conn up)) (reason w.pad m.conn.session msg)

late-grows : (w : WorldState) (now : ℕ) (n : Name) (a : Actor) → Grows w (late_by w now n a)
late-grows w now n Nobody = stays w
late-grows w now n (Guest c) = stays w
late-grows w now n (Named m) = of m.earlier
  where
    decided : (m' : Member) (s : Session) (msg : Message) (o : Option Reason) → Grows w (late_as w now n m' s msg o)
    decided m' s msg None = takes w s now msg _ refl _ refl
    decided m' s msg (Some bad) = moves w n _

    first : (e : Conn) (us : List Message) → Grows w (late_first w now n m e us)
    first e [] = stays w
    first e (msg ∷ up) = decided (with_earlier m (with_up e up)) e.session msg (reason w.pad e.session msg)

    of : (o : Option Conn) → Grows w (late_of w now n m o)
    of None = stays w
    of (Some e) = first e e.up

push-grows : (w : WorldState) (n : Name) (a : Actor) → Grows w (push_by w n a)
push-grows w n Nobody = stays w
push-grows w n (Guest c) = stays w
push-grows w n (Named m) = open_ (m.client.connected && not m.conn.closed)
  where
    next : (o : Option Rev) → Grows w (push_next w n m o)
    next None = stays w
    next (Some v) = moves w n _

    turn : (o : Option Nop) → Grows w (push_turn w n m o)
    turn None = next (at (newest w.pad).later m.conn.sent)
    turn (Some x) = go (x.rev == m.conn.sent)
      where
        go : (t : Bool) → Grows w (if t then with_actor w n (Named (with_conn m (spending m.conn))) else push_next w n m (at (newest w.pad).later m.conn.sent))
        go true = moves w n _
        go false = next (at (newest w.pad).later m.conn.sent)

    ended : (o : Option Why) → Grows w (push_as w n m o)
    ended None = turn (at (nops_of m.conn.session (newest w.pad).nops) m.conn.nops)
    ended (Some Left) = stays w
    ended (Some (Reopened k)) = stays w
    ended (Some (Replaced s)) = moves w n _
    ended (Some (Deleted k)) = moves w n _

    seat : (o : Option Seat) → Grows w (push_login w n m o)
    seat None = stays w
    seat (Some l) = ended l.end

    open_ : (t : Bool) → Grows w (if t then push_login w n m (seat_of w.pad m.conn.session) else w)
    open_ true = seat (seat_of w.pad m.conn.session)
    open_ false = stays w

hear-grows : (w : WorldState) (n : Name) (a : Actor) → Grows w (hear_by w n a)
hear-grows w n Nobody = stays w
hear-grows w n (Guest c) = stays w
hear-grows w n (Named m) = from m.conn.down
  where
    revision : (t : Bool) (a : Actor) → Grows w (with_actor (if t then answered w m.number else w) n a)
    revision true a = still w _ (same-births w.pad w.pad refl) refl
    revision false a = moves w n a

    from : (d : List Down) → Grows w (hear_first w n m d)
    from [] = stays w
    from (Closing word ∷ ds) = moves w n _
    from (Spent r ∷ ds) = still w _ (same-births w.pad w.pad refl) refl
    from (Revision v ∷ ds) = revision (is_own v.session m.client.sent) _

lose-grows : (w : WorldState) (n : Name) (a : Actor) → Grows w (lose_by w n a)
lose-grows w n Nobody = stays w
lose-grows w n (Guest c) = stays w
lose-grows w n (Named m) = moves w n _

resume-grows : (w : WorldState) (n : Name) (a : Actor) → Grows w (resume_by w n a)
resume-grows w n Nobody = stays w
resume-grows w n (Guest c) = stays w
resume-grows w n (Named m) = go (resume_fault w.pad (grant_of w n false) (lost_member m).client.rev (Some (lost_member m).birth) None)
  where
    go : (f : Option PadBad) → Grows w (resume_if w n (lost_member m) f)
    go None = still w _ (same-births w.pad _ refl) refl
    go (Some bad) = moves w n _

pad-grows : (w : WorldState) (pad : PadState) (o : Option PadBad) → Extends w.pad pad → Grows w (pad_if w pad o)
pad-grows w pad None f = still w _ f refl
pad-grows w pad (Some bad) f = stays w

text-grows : (w v : WorldState) (text : Text) → Grows w v → Grows w (if_text w text v)
text-grows w v text f = go (is_well_formed text)
  where
    go : (t : Bool) → Grows w (if t then v else w)
    go true = f
    go false = stays w

crash-grows : (w : WorldState) → Grows w (crashed w)
crash-grows w = still w _ (same-births w.pad _ refl) refl

grow-on : (w v u : WorldState) → Grows w v → Grows v u → Grows w u
grow-on w v u f g = record {
  records = then-extends w.pad v.pad u.pad f.records g.records;
  taken = (g.taken.0 ++ f.taken.0, g.taken.1 ∙ ap (λ ts. g.taken.0 ++ ts) f.taken.1 ∙ sym (append_assoc g.taken.0 f.taken.0 w.taken));
}

pub stop-grows : (w : WorldState) (now : ℕ) (who : Option Name) (kept : Bool) → Grows w (stopped w now who kept)
stop-grows w now None kept = stays w
stop-grows w now (Some n) false = stays w
stop-grows w now (Some n) true = by (w.actors n)
  where
    decided : (s : Session) (msg : Message) (o : Option Reason) → Grows w (stop_as w now s msg o)
    decided s msg None = takes w s now msg _ refl _ refl
    decided s msg (Some why) = stays w

    first : (s : Session) (us : List Message) → Grows w (stop_conn w now s us)
    first s [] = stays w
    first s (msg ∷ up) = decided s msg (reason w.pad s msg)

    by : (a : Actor) → Grows w (stop_by w now a)
    by Nobody = stays w
    by (Guest c) = first c.session c.up
    by (Named m) = first m.conn.session m.conn.up

pub happens-grows : (w : WorldState) (e : Event) → Grows w (happens w e)
happens-grows w (Create now text) = text-grows w _ text (pad-grows w (create w.pad now text) (create_fault w.pad text) (create-extends w.pad now text))
happens-grows w (SetText now text) = text-grows w _ text (pad-grows w (set_text w.pad now text) (set_fault w.pad text) (revs-extend w.pad _))
happens-grows w Delete = pad-grows w (delete w.pad) (gone_fault w.pad) (same-births w.pad (delete w.pad) refl)
happens-grows w (Login now n) = login-grows w now n (w.actors n)
happens-grows w (Visit now n read_only) = visit-as-grows w now n read_only (w.actors n)
happens-grows w (Edits n e) = edit-grows w n e (w.actors n)
happens-grows w (Submit n) = submit-grows w n (w.actors n)
happens-grows w (Inject n base read) = inject-grows w n base read (w.actors n)
happens-grows w (Take now n) = take-grows w now n (w.actors n)
happens-grows w (Overfull n) = overfull-grows w n (w.actors n)
happens-grows w (Late now n) = late-grows w now n (w.actors n)
happens-grows w (Push n) = push-grows w n (w.actors n)
happens-grows w (Hear n) = hear-grows w n (w.actors n)
happens-grows w (Lose n) = lose-grows w n (w.actors n)
happens-grows w (Resume n) = resume-grows w n (w.actors n)
happens-grows w (Stop now who kept) = grow-on w (stopped w now who kept) (crashed (stopped w now who kept)) (stop-grows w now who kept) (crash-grows (stopped w now who kept))

pub run-grows : (w : WorldState) (events : List Event) → Grows w (run events w)
run-grows w [] = stays w
run-grows w (e ∷ es) = grow-on w (happens w e) (run es (happens w e)) (happens-grows w e) (run-grows (happens w e) es)
