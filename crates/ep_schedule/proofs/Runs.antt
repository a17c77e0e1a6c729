-- Logins, resumptions, the server's own steps, a crash, and whole schedules.
use Rattle.std.proofs.Common.{◌≡◌, ℕ, zero, suc, ◌≤◌, Bool, true, false, not, ◌&&◌, ◌==◌, if◌then◌else◌, List, [], ◌∷◌, ◌⊎◌, inl, inr, length, take, drop, Option, Some, None, refl, sym, ap, ◌∙◌, subst, T, arith}
use Rattle.std.proofs.lemmas.Bool.Decides.{nat_tests}
use Rattle.ep_cs.specs.Doc.{Doc}
use Rattle.ep_cs.specs.Edit.{apply, Edit}
use Rattle.ep_history.specs.Client.{is_spent, lost, resumed, without_sent}
use Rattle.ep_history.specs.Entry.{opened}
use Rattle.ep_history.specs.History.{Birth, by_nobody, doc_at, first_rev, head, head_doc, is_session, lacks_newline, newline_edit, nobody, nops_of, newline_rev, step_revs}
use Rattle.ep_history.specs.Lists.{Among, at, numbered, or_else}
use Rattle.ep_history.specs.Pad.{PadState, birth_at, create, delete, newest, next_session, no_birth, reopened, seat_of, with_session, with_revs}
use Rattle.ep_history.specs.declared.pad_bad.PadBad.{PadBad}
use Rattle.ep_history.specs.Refusals.{fault_if, login_fault, resume_fault, resume_faults}
use Rattle.ep_history.specs.declared.pad_bad.PadBad.TheVariants.{Exists, Gone}
use Rattle.ep_history.specs.Server.{create_fault, create_faults, gone_fault, set_fault, set_faults, set_head, set_text}
use Rattle.ep_schedule.specs.Headline.{IsMarkedRev}
use Rattle.ep_schedule.proofs.Marks.{AreKnown}
use Rattle.ep_schedule.specs.World.{Actor, Conn, Event, Member, Message, Name, Reason, Taken, WorldState, author_of, crashed, cut_conn, cut_off, grant_of, happens, if_text, login, login_as, login_if, lost_member, mark, new_conn, new_member, pad_if, put, reason, resume_as, resume_by, resume_if, resume_member, run, start, stop_as, stop_by, stop_conn, stopped, taking, visit, visit_as, visit_if, with_actor, with_conn, with_pad, with_up}
use Rattle.ep_schedule.specs.World.Actor.{Guest, Named, Nobody}
use Rattle.ep_schedule.specs.World.Event.{Create, Delete, Edits, Hear, Inject, Late, Login, Lose, Overfull, Push, Resume, SetText, Stop, Submit, Take, Visit}
use Rattle.ep_history.proofs.Lists.{none_some, some_same, at-below, at-grown}
use Rattle.ep_cs.proofs.EditFits.{fits_true}
use Rattle.ep_history.proofs.Client.{sound-without, IsSound, IsSound}
use Rattle.ep_history.proofs.Births.{decide-name, IsGoodBirth, length-more, numbered-older, created-at, good-first, line-first, text-doc}
use Rattle.ep_schedule.proofs.Good.{same_session, IsKnown, Mine, Goes, IsGood, IsGoodActor, session_of, IsGoodPad, IsGoodWorld, IsHeld, Leaves, leaves-same, assembled, client-step, at-name}
use Rattle.ep_units.specs.Text.{Text, text_eq, is_well_formed}
use Rattle.ep_units.specs.Clean.{clean}
use Rattle.ep_units.specs.declared.grant.Grant.{Grant}
use Rattle.ep_units.proofs.Cleaning.{is_well_formed-clean}
use Rattle.ep_history.proofs.Refused.{none-of, not-if}
use Rattle.ep_history.proofs.Texts.{text-fits, some-units, set-no-newline}
use Rattle.ep_history.proofs.Births.{ends-doc, revs-at, longer}
use Rattle.ep_history.proofs.Client.{sound-started}
use Rattle.ep_schedule.proofs.Good.{keep-actor, longer-nil}
use Rattle.ep_schedule.proofs.Clients.{both_ways, and_first, and_second, edit-good, submit-good}
use Rattle.ep_schedule.proofs.Hears.{not-spent, was-spent, push-good, hear-good, lose-good, late-good, good-lost-member, lost-same}
use Rattle.ep_schedule.proofs.Seats.{revs-nops, was-seated, known-seated, new-known, new-seat, new-or-old, new-unknown, was-deleted, known-deleted, none-reopened, known-reopened, grown-pad, leaves-revs}
use Rattle.ep_schedule.proofs.Takes.{overfull-good, take-good, take-named-good, take-guest-good, inject-good}
use Rattle.ep_units.specs.declared.session.Session.{Session}
use Rattle.ep_outside.specs.declared.limits.Limits.{Limits}
use Rattle.ep_history.specs.declared.rev.Rev.{Rev}
use Rattle.ep_history.specs.declared.seat.Seat.{Seat}
use Rattle.ep_history.specs.declared.nop.Nop.{Nop}

-- ---- a step of the server alone

nil-other : {Z : Type 0} → ◌≡◌ {A = Name} [] (0 ∷ []) → Z
nil-other e = absurd (cc e)

server-step : (w : WorldState) (pad : PadState) → IsGoodWorld w → ((n : Name) → Leaves w.pad w.taken w.edits pad w.taken w.edits n) → IsGoodPad pad
    → ((s : Session) (l : Seat) → seat_of pad s ≡ Some l → l.end ≡ None → IsHeld w.actors s l)
    → ((k i : ℕ) (x : Nop) → at (birth_at pad k).nops i ≡ Some x → at (birth_at w.pad k).nops i ≡ Some x)
    → ((k i : ℕ) (v : Rev) → at (birth_at pad k).later i ≡ Some v → (v.session ≡ nobody) ⊎ (at (birth_at w.pad k).later i ≡ Some v))
    → IsGoodWorld (with_pad w pad)
server-step w pad g f gp live nops revs =
    subst (λ actors. IsGoodWorld (record { id = w.id; pad = pad; actors = actors; edits = w.edits; taken = w.taken; known = w.known })) same
    (assembled w [] (w.actors []) pad w.taken w.edits w.known g (record {
      leaves = f [];
      good_pad = gp;
      actor = actor;
      live = λ s l e h. let o = live s l e h in (o.0, o.1, ap (λ (a : Name → Actor). session_of (a o.0)) same ∙ o.2);
      once = g.once;
      apart = g.apart;
      marked = (λ k i x h. g.marked.0 k i x (nops k i x h), λ k i v h. old k i v (revs k i v h));
      new_rebased = λ t h. inl h;
      all_known = g.known;
    }))
  where
    old : (k i : ℕ) (v : Rev) → (v.session ≡ nobody) ⊎ (at (birth_at w.pad k).later i ≡ Some v) → (v.session ≡ nobody) ⊎ IsMarkedRev w.taken k i
    old k i v (inl z) = inl z
    old k i v (inr h) = g.marked.1 k i v h

    same : put w.actors [] (w.actors []) ≡ w.actors
    same = λ i k. pointwise k i
      where
        pointwise : (k : Name) → put w.actors [] (w.actors []) k ≡ w.actors k
        pointwise k = go (decide-name k [])
          where
            go : ((text_eq k [] ≡ true) × (k ≡ [])) ⊎ ((text_eq k [] ≡ false) × (k ≡ [] → ⊥)) → put w.actors [] (w.actors []) k ≡ w.actors k
            go (inl z) = ap (λ t. if t then w.actors [] else w.actors k) z.0 ∙ ap w.actors (sym z.1)
            go (inr z) = ap (λ t. if t then w.actors [] else w.actors k) z.0

    actor : IsGoodActor pad w.taken w.edits [] (w.actors [])
    actor = keep-actor w.pad w.taken w.edits pad w.taken w.edits (0 ∷ []) [] (f (0 ∷ [])) nil-other (w.actors []) (g.actors [])

-- ---- a new birth

created-pad : (pad : PadState) (now : ℕ) (text : Text) → is_well_formed text ≡ true → IsGoodPad pad → IsGoodPad (create pad now text)
created-pad pad now text w g = record {
  epoch = g.epoch;
  births = λ k. births k (created-at pad now text k);
  present = λ h. let n = length-more pad.births (record { first = first_rev now text; later = []; nops = [] }) in omega (arith, n);
  live = λ s l e h. refl;
  noted = λ k x h. noted k x h (created-at pad now text k);
  made = λ k i v h. made k i v h (created-at pad now text k);
  line = λ k. line k (created-at pad now text k);
  newlines = λ k i v h. newlines k i v h (created-at pad now text k);
}
  where
    b : Birth
    b = record { first = first_rev now text; later = []; nops = [] }

    births : (k : ℕ) → ((k ≡ suc (length pad.births)) × (birth_at (create pad now text) k ≡ b)) ⊎ (birth_at (create pad now text) k ≡ birth_at pad k) → IsGoodBirth (birth_at (create pad now text) k)
    births k (inl z) = subst IsGoodBirth (sym z.1) (good-first now text w)
    births k (inr z) = subst IsGoodBirth (sym z) (g.births k)

    line : (k : ℕ) → ((k ≡ suc (length pad.births)) × (birth_at (create pad now text) k ≡ b)) ⊎ (birth_at (create pad now text) k ≡ birth_at pad k) → lacks_newline (head_doc (birth_at (create pad now text) k)) ≡ false
    line k (inl z) = ap (λ b. lacks_newline (head_doc b)) z.1 ∙ line-first now text
    line k (inr z) = ap (λ b. lacks_newline (head_doc b)) z ∙ g.line k

    noted : (k : ℕ) (x : Nop) → Among x (birth_at (create pad now text) k).nops → ((k ≡ suc (length pad.births)) × (birth_at (create pad now text) k ≡ b)) ⊎ (birth_at (create pad now text) k ≡ birth_at pad k) → IsKnown (create pad now text) x.session
    noted k x h (inl z) = absurd (subst (λ (b : Birth). Among x b.nops) z.1 h)
    noted k x h (inr z) = let o = g.noted k x (subst (λ (b : Birth). Among x b.nops) z h) in record { made = o.made; past = o.past; count = o.count }

    still : (v : Rev) → (v.session ≡ nobody) ⊎ IsKnown pad v.session → (v.session ≡ nobody) ⊎ IsKnown (create pad now text) v.session
    still v (inl h) = inl h
    still v (inr h) = inr (record { made = h.made; past = h.past; count = h.count })

    made : (k i : ℕ) (v : Rev) → at (birth_at (create pad now text) k).later i ≡ Some v
        → ((k ≡ suc (length pad.births)) × (birth_at (create pad now text) k ≡ b)) ⊎ (birth_at (create pad now text) k ≡ birth_at pad k) → (v.session ≡ nobody) ⊎ IsKnown (create pad now text) v.session
    made k i v h (inl z) = none_some (sym (ap (λ (x : Birth). at x.later i) z.1) ∙ h)
    made k i v h (inr z) = still v (g.made k i v (sym (ap (λ (x : Birth). at x.later i) z) ∙ h))

    newlines : (k i : ℕ) (v : Rev) → at (birth_at (create pad now text) k).later i ≡ Some v
        → ((k ≡ suc (length pad.births)) × (birth_at (create pad now text) k ≡ b)) ⊎ (birth_at (create pad now text) k ≡ birth_at pad k)
        → v.session ≡ nobody → v.change.edit ≡ newline_edit (length (doc_at (birth_at (create pad now text) k) i)) → lacks_newline (doc_at (birth_at (create pad now text) k) i) ≡ true
    newlines k i v h (inl z) n q = none_some (sym (ap (λ (x : Birth). at x.later i) z.1) ∙ h)
    newlines k i v h (inr z) n q =
        ap (λ b. lacks_newline (doc_at b i)) z ∙ g.newlines k i v (ap (λ (b : Birth). at b.later i) (sym z) ∙ h) n (q ∙ ap (λ b. newline_edit (length (doc_at b i))) z)

pub created-old : (pad : PadState) (now : ℕ) (text : Text) (k : ℕ) → k ≤ length pad.births → birth_at (create pad now text) k ≡ birth_at pad k
created-old pad now text k h = ap (λ o. or_else o no_birth) (numbered-older pad.births (record { first = first_rev now text; later = []; nops = [] }) k h)

create-good : (w : WorldState) (now : ℕ) (text : Text) → is_well_formed text ≡ true → w.pad.present ≡ false → IsGoodWorld w → IsGoodWorld (with_pad w (create w.pad now text))
create-good w now text wf absent g = server-step w (create w.pad now text) g leaves (created-pad w.pad now text wf g.pad) g.live (λ k i x h. old k i x h (created-at w.pad now text k)) (λ k i v h. inr (older k i v h (created-at w.pad now text k)))
  where
    older : (k i : ℕ) (v : Rev) → at (birth_at (create w.pad now text) k).later i ≡ Some v
        → ((k ≡ suc (length w.pad.births)) × (birth_at (create w.pad now text) k ≡ record { first = first_rev now text; later = []; nops = [] })) ⊎ (birth_at (create w.pad now text) k ≡ birth_at w.pad k) → at (birth_at w.pad k).later i ≡ Some v
    older k i v h (inl z) = none_some (sym (ap (λ (b : Birth). at b.later i) z.1) ∙ h)
    older k i v h (inr z) = sym (ap (λ (b : Birth). at b.later i) z) ∙ h

    old : (k i : ℕ) (x : Nop) → at (birth_at (create w.pad now text) k).nops i ≡ Some x
        → ((k ≡ suc (length w.pad.births)) × (birth_at (create w.pad now text) k ≡ record { first = first_rev now text; later = []; nops = [] })) ⊎ (birth_at (create w.pad now text) k ≡ birth_at w.pad k) → at (birth_at w.pad k).nops i ≡ Some x
    old k i x h (inl z) = none_some (sym (ap (λ (b : Birth). at b.nops i) z.1) ∙ h)
    old k i x h (inr z) = sym (ap (λ (b : Birth). at b.nops i) z) ∙ h

    leaves : (n : Name) → Leaves w.pad w.taken w.edits (create w.pad now text) w.taken w.edits n
    leaves n = record {
      grew = λ k h. record { more = []; notes = []; is = created-old w.pad now text k h ∙ longer-nil (birth_at w.pad k); by = λ v h. absurd h; noted_by = λ x h. absurd h };
      count = let n = length-more w.pad.births (record { first = first_rev now text; later = []; nops = [] }) in omega (arith, n);
      newest = λ s l f h k. both_ways w.pad.present (g.pad.live s l f h) absent;
      seats = λ s l k f. record { old = l; found = f; author = refl; read_only = refl; end = λ h. h };
      known = λ s k. record { made = k.made; past = k.past; count = k.count };
      owned = λ i k h. h;
      new_taken = λ t h. inl h;
      old_taken = λ t h. h;
    }

opened-good : (w : WorldState) (now : ℕ) → IsGoodWorld w → IsGoodWorld (with_pad w (opened w.pad now)) × ((opened w.pad now).present ≡ true)
opened-good w now g = go w.pad.present refl
  where
    go : (t : Bool) → w.pad.present ≡ t → IsGoodWorld (with_pad w (if t then w.pad else create w.pad now [])) × ((if t then w.pad else create w.pad now []).present ≡ true)
    go true h = (g, h)
    go false h = (create-good w now [] refl h g, refl)

-- ---- a new session

seated-pad : (pad : PadState) (author : Text) (read_only : Bool) → pad.present ≡ true → IsGoodPad pad → IsGoodPad (with_session pad author read_only)
seated-pad pad author read_only p g = record {
  epoch = g.epoch;
  births = g.births;
  present = g.present;
  live = λ s l e h. p;
  made = λ k i v h. still v (g.made k i v h);
  noted = λ k x h. known-seated pad author read_only x.session (g.noted k x h);
  line = g.line;
  newlines = g.newlines;
}
  where
    still : (v : Rev) → (v.session ≡ nobody) ⊎ IsKnown pad v.session → (v.session ≡ nobody) ⊎ IsKnown (with_session pad author read_only) v.session
    still v (inl h) = inl h
    still v (inr h) = inr (known-seated pad author read_only v.session h)

leaves-seated : (w : WorldState) (n : Name) (read_only : Bool) → Leaves w.pad w.taken w.edits (with_session w.pad (author_of n) read_only) w.taken w.edits n
leaves-seated w n read_only = let f = leaves-same w.pad w.taken w.edits n in record {
  grew = λ k h. let r = f.grew k h in record { more = r.more; notes = r.notes; is = r.is; by = r.by; noted_by = r.noted_by };
  count = omega arith;
  newest = λ s l e h k. refl;
  seats = λ s l k e. (was-seated w.pad (author_of n) read_only s l k e).0;
  known = λ s k. known-seated w.pad (author_of n) read_only s k;
  owned = f.owned;
  new_taken = f.new_taken;
  old_taken = f.old_taken;
}

session-step : (w : WorldState) (n : Name) (read_only : Bool) (a : Actor) → IsGoodWorld w → w.pad.present ≡ true
    → IsGoodActor (with_session w.pad (author_of n) read_only) w.taken w.edits n a → session_of a ≡ Some (next_session w.pad)
    → IsGoodWorld (with_actor (with_pad w (with_session w.pad (author_of n) read_only)) n a)
session-step w n read_only a g p ga is = assembled w n a (with_session w.pad (author_of n) read_only) w.taken w.edits w.known g (record {
  leaves = leaves-seated w n read_only;
  good_pad = seated-pad w.pad (author_of n) read_only p g.pad;
  actor = ga;
  live = λ s l e h. live s l e h (new-or-old w.pad (author_of n) read_only s l g.pad.epoch e);
  once = g.once;
  apart = g.apart;
  marked = g.marked;
  new_rebased = λ t h. inl h;
  all_known = g.known;
})
  where
    mine : put w.actors n a n ≡ a
    mine = go (decide-name n n)
      where
        go : ((text_eq n n ≡ true) × (n ≡ n)) ⊎ ((text_eq n n ≡ false) × (n ≡ n → ⊥)) → put w.actors n a n ≡ a
        go (inl z) = ap (λ t. if t then a else w.actors n) z.0
        go (inr z) = absurd (z.1 refl)

    others : (k : Name) → ((text_eq k n ≡ true) × (k ≡ n)) ⊎ ((text_eq k n ≡ false) × (k ≡ n → ⊥)) → (k ≡ n → ⊥) → put w.actors n a k ≡ w.actors k
    others k (inl z) e = absurd (e z.1)
    others k (inr z) e = ap (λ t. if t then a else w.actors k) z.0

    live : (s : Session) (l : Seat) → seat_of (with_session w.pad (author_of n) read_only) s ≡ Some l → l.end ≡ None → (s ≡ next_session w.pad) ⊎ IsKnown w.pad s → IsHeld (put w.actors n a) s l
    live s l e h (inl z) =
        let q = some_same (sym e ∙ ap (seat_of (with_session w.pad (author_of n) read_only)) z ∙ new-seat w.pad (author_of n) read_only) in
        (n, ap (λ (x : Seat). x.author) q, ap session_of mine ∙ is ∙ ap Some (sym z))
    live s l e h (inr k) =
        let r = was-seated w.pad (author_of n) read_only s l k e in
        let o = g.live s r.0.old r.0.found (r.0.end h) in
        (o.0, sym r.0.author ∙ o.1, ap session_of (others o.0 (decide-name o.0 n) (λ z. r.1 (sym r.0.author ∙ o.1 ∙ ap author_of z) h)) ∙ o.2)

no-nops : (pad : PadState) (xs : List Nop) → ((x : Nop) → Among x xs → IsKnown pad x.session) → nops_of (next_session pad) xs ≡ []
no-nops pad [] k = refl
no-nops pad (x ∷ xs) k = ap (λ t. if t then x ∷ nops_of (next_session pad) xs else nops_of (next_session pad) xs) (other (is_session x.session (next_session pad)) refl) ∙ no-nops pad xs (λ y h. k y (inr h))
  where
    other : (t : Bool) → is_session x.session (next_session pad) ≡ t → is_session x.session (next_session pad) ≡ false
    other true e = absurd (new-unknown pad (subst (λ s. IsKnown pad s) (same_session x.session (next_session pad) e) (k x (inl refl))))
    other false e = e

good-new : (pad : PadState) (taken : List Taken) (edits : List Name) (n : Name) → IsGoodPad pad
    → IsGood (newest pad) (with_session pad (author_of n) false) taken edits n (new_member pad (next_session pad))
good-new pad taken edits n g = record {
  birth = omega arith;
  sound = sound-started (newest pad) (head (newest pad)) (next_session pad) (omega arith) (ends-doc (newest pad) (g.births (length pad.births)) (head (newest pad)) (omega arith));
  told = omega arith;
  current = refl;
  known = new-known pad (author_of n) false g.epoch;
  mine = λ l e. ap (λ (x : Seat). x.author) (some_same (sym e ∙ new-seat pad (author_of n) false));
  writes = λ l e. ap (λ (x : Seat). x.read_only) (some_same (sym e ∙ new-seat pad (author_of n) false));
  newest = λ l e h. refl;
  sent_known = λ s e. none_some e;
  sent_mine = λ s e. none_some e;
  sent_fits = λ s e. none_some e;
  number = λ s e. none_some e;
  unheard = λ i v l e h. let k = at-below (newest pad).later i v e in absurd (omega (arith, k, l));
  carried = λ s e. none_some e;
  taken_unheard = λ s e. none_some e;
  dropped = λ c t s e. none_some e;
  up = inl refl;
  sent_rev = λ c. (omega arith, omega arith);
  down = λ c. inl (ap (λ (xs : List Nop). length xs) (sym (no-nops pad (newest pad).nops (g.noted (length pad.births)))), subst (λ vs. Goes false vs []) (sym (drop-taken (head (newest pad)) (newest pad).later)) tt);
  lost = λ c. tt;
  earlier_known = λ e h. none_some h;
  earlier_mine = λ e h. none_some h;
  earlier_other = λ e h. none_some h;
}
  where
    drop-taken : (r : ℕ) (vs : List Rev) → drop r (take r vs) ≡ []
    drop-taken zero vs = refl
    drop-taken (suc r) [] = refl
    drop-taken (suc r) (v ∷ vs) = drop-taken r vs

login-good : (w : WorldState) (now : ℕ) (n : Name) → IsGoodWorld w → IsGoodWorld (login w now n)
login-good w now n g = go (login_fault w.pad (grant_of w n false))
  where
    o : IsGoodWorld (with_pad w (opened w.pad now)) × ((opened w.pad now).present ≡ true)
    o = opened-good w now g

    go : (f : Option PadBad) → IsGoodWorld (login_if w now n f)
    go (Some bad) = g
    go None =
        session-step (with_pad w (opened w.pad now)) n false (Named (new_member (opened w.pad now) (next_session (opened w.pad now)))) o.0 o.1
        (good-new (opened w.pad now) w.taken w.edits n o.0.pad) refl

login-as-good : (w : WorldState) (now : ℕ) (n : Name) (a : Actor) → IsGoodWorld w → IsGoodWorld (login_as w now n a)
login-as-good w now n (Guest c) g = g
login-as-good w now n Nobody g = login-good w now n g
login-as-good w now n (Named m) g = login-good w now n g

visit-good : (w : WorldState) (now : ℕ) (n : Name) (read_only : Bool) → IsGoodWorld w → IsGoodWorld (visit w now n read_only)
visit-good w now n read_only g = go (login_fault w.pad (grant_of w n read_only))
  where
    o : IsGoodWorld (with_pad w (opened w.pad now)) × ((opened w.pad now).present ≡ true)
    o = opened-good w now g

    go : (f : Option PadBad) → IsGoodWorld (visit_if w now n read_only f)
    go (Some bad) = g
    go None = session-step (with_pad w (opened w.pad now)) n read_only (Guest (new_conn (next_session (opened w.pad now)) (head (newest (opened w.pad now))))) o.0 o.1
        (record { known = new-known (opened w.pad now) (author_of n) read_only o.0.pad.epoch; mine = λ l e. ap (λ (x : Seat). x.author) (some_same (sym e ∙ new-seat (opened w.pad now) (author_of n) read_only)); up = tt }) refl

visit-as-good : (w : WorldState) (now : ℕ) (n : Name) (read_only : Bool) (a : Actor) → IsGoodWorld w → IsGoodWorld (visit_as w now n read_only a)
visit-as-good w now n read_only (Named m) g = g
visit-as-good w now n read_only Nobody g = visit-good w now n read_only g
visit-as-good w now n read_only (Guest c) g = visit-good w now n read_only g

-- ---- a resumption

good-resumed : (pad : PadState) (taken : List Taken) (edits : List Name) (n : Name) (m : Member) → IsGoodPad pad → m.birth ≡ length pad.births
    → ((t : Taken) → Among t taken → t.birth ≡ length pad.births → t.head ≤ head (newest pad))
    → IsGood (newest pad) pad taken edits n m → IsGood (newest pad) (with_session pad (author_of n) false) taken edits n (resume_member pad m)
good-resumed pad taken edits n m gp hb heads g = go (is_spent (newest pad) (resumed (next_session pad) (head (newest pad)) m.client)) refl
  where
    unmade : (v : Rev) → v.session ≡ next_session pad → (v.session ≡ nobody) ⊎ IsKnown pad v.session → ⊥
    unmade v h (inl z) =
        let e : pad.epoch ≡ 0 = ap (λ (s : Session). s.epoch) (sym h ∙ z) in
        let p = gp.epoch in
        omega (arith, e, p)
    unmade v h (inr k) = new-unknown pad (subst (λ s. IsKnown pad s) h k)

    drop-taken : (r : ℕ) (vs : List Rev) → drop r (take r vs) ≡ []
    drop-taken zero vs = refl
    drop-taken (suc r) [] = refl
    drop-taken (suc r) (v ∷ vs) = drop-taken r vs

    so : IsSound (newest pad) (resumed (next_session pad) (head (newest pad)) m.client)
    so = let s = g.sound in record { rev = s.rev; ends = s.ends; sent = s.sent; local = s.local; base = s.base }

    go : (t : Bool) → is_spent (newest pad) (resumed (next_session pad) (head (newest pad)) m.client) ≡ t
        → IsGood (newest pad) (with_session pad (author_of n) false) taken edits n (record m {
          client = if t then without_sent (resumed (next_session pad) (head (newest pad)) m.client) else resumed (next_session pad) (head (newest pad)) m.client;
          conn = new_conn (next_session pad) m.client.rev;
          earlier = Some m.conn;
        })
    go false sp = record {
      birth = g.birth;
      sound = so;
      told = omega arith;
      current = refl;
      known = new-known pad (author_of n) false gp.epoch;
      mine = λ l e. ap (λ (x : Seat). x.author) (some_same (sym e ∙ new-seat pad (author_of n) false));
      writes = λ l e. ap (λ (x : Seat). x.read_only) (some_same (sym e ∙ new-seat pad (author_of n) false));
      newest = λ l e h. hb;
      sent_known = λ s e. known-seated pad (author_of n) false s.session (g.sent_known s e);
      sent_mine = λ s e l h. let o = (was-seated pad (author_of n) false s.session l (g.sent_known s e) h).0 in sym o.author ∙ g.sent_mine s e o.old o.found;
      sent_fits = g.sent_fits;
      number = g.number;
      unheard = λ i v l e h. absurd (unmade v h (gp.made (length pad.births) i v e));
      carried = λ s f i v l e h. let c = g.carried s f i v l e h in (refl, c.1, λ x. at-below (newest pad).later i v e);
      taken_unheard = λ s f t among e. let u = g.taken_unheard s f t among e in (u.0, u.1, u.2, u.3, u.4, (λ o. heads t among (u.0 ∙ hb)));
      dropped = not-spent (newest pad) (resumed (next_session pad) (head (newest pad)) m.client) sp;
      up = inl refl;
      sent_rev = λ c. (omega arith, g.sound.rev);
      down = λ c. inl (ap (λ (xs : List Nop). length xs) (sym (no-nops pad (newest pad).nops (gp.noted (length pad.births)))), subst (λ vs. Goes false vs []) (sym (drop-taken m.client.rev (newest pad).later)) tt);
      lost = λ c. tt;
      earlier_known = λ e h. subst (λ (x : Conn). IsKnown (with_session pad (author_of n) false) x.session) (some_same h) (subst (λ s. IsKnown (with_session pad (author_of n) false) s) g.current (known-seated pad (author_of n) false m.client.session g.known));
      earlier_mine = λ e h. subst (λ (x : Conn). Mine (with_session pad (author_of n) false) n x.session) (some_same h) (subst (λ s. Mine (with_session pad (author_of n) false) n s) g.current (λ l k. let o = (was-seated pad (author_of n) false m.client.session l g.known k).0 in sym o.author ∙ g.mine o.old o.found));
      earlier_other = λ e h k. new-unknown pad (subst (λ s. IsKnown pad s) (g.current ∙ ap (λ (x : Conn). x.session) (some_same h) ∙ k) g.known);
    }
    go true sp =
        let ws = was-spent (newest pad) (resumed (next_session pad) (head (newest pad)) m.client) so sp in
        record {
          birth = g.birth;
          sound = sound-without (newest pad) (resumed (next_session pad) (head (newest pad)) m.client) so ws.1;
          told = omega arith;
          current = refl;
          known = new-known pad (author_of n) false gp.epoch;
          mine = λ l e. ap (λ (x : Seat). x.author) (some_same (sym e ∙ new-seat pad (author_of n) false));
          writes = λ l e. ap (λ (x : Seat). x.read_only) (some_same (sym e ∙ new-seat pad (author_of n) false));
          newest = λ l e h. hb;
          sent_known = λ s e. none_some e;
          sent_mine = λ s e. none_some e;
          sent_fits = λ s e. none_some e;
          number = λ s e. none_some e;
          unheard = λ i v l e h. absurd (unmade v h (gp.made (length pad.births) i v e));
          carried = λ s e. none_some e;
          taken_unheard = λ s e. none_some e;
          dropped = λ c t s e. none_some e;
          up = inl refl;
          sent_rev = λ c. (omega arith, g.sound.rev);
          down = λ c. inl (ap (λ (xs : List Nop). length xs) (sym (no-nops pad (newest pad).nops (gp.noted (length pad.births)))), subst (λ vs. Goes false vs []) (sym (drop-taken m.client.rev (newest pad).later)) tt);
          lost = λ c. tt;
          earlier_known = λ e h. subst (λ (x : Conn). IsKnown (with_session pad (author_of n) false) x.session) (some_same h) (subst (λ s. IsKnown (with_session pad (author_of n) false) s) g.current (known-seated pad (author_of n) false m.client.session g.known));
          earlier_mine = λ e h. subst (λ (x : Conn). Mine (with_session pad (author_of n) false) n x.session) (some_same h) (subst (λ s. Mine (with_session pad (author_of n) false) n s) g.current (λ l k. let o = (was-seated pad (author_of n) false m.client.session l g.known k).0 in sym o.author ∙ g.mine o.old o.found));
          earlier_other = λ e h k. new-unknown pad (subst (λ s. IsKnown pad s) (g.current ∙ ap (λ (x : Conn). x.session) (some_same h) ∙ k) g.known);
        }

pub equal_number : (a b : ℕ) → (a == b) ≡ true → a ≡ b
equal_number a b e = grind (arith, nat_tests)

-- what is not refused is at the last birth, which is there
pub resumable : (pad : PadState) (g : Grant) (rev birth : ℕ) (o : Option PadBad) → resume_fault pad g rev (Some birth) None ≡ o → o ≡ None → (pad.present ≡ true) × (birth ≡ length pad.births)
resumable pad g rev birth o e n =
    let f = none-of (resume_faults pad g rev (Some birth) None) (e ∙ n) in
    let h = not-false (pad.present && (birth == length pad.births)) (not-if (not (pad.present && (birth == length pad.births))) Gone f.1.1.1.1.0) in
    (and_first pad.present _ h, equal_number birth (length pad.births) (and_second pad.present _ h))
  where
    not-false : (b : Bool) → not b ≡ false → b ≡ true
    not-false true e = refl
    not-false false e = absurd (subst T e tt)

resume-as-good : (w : WorldState) (n : Name) (m : Member) → IsGoodWorld w → IsGood (birth_at w.pad m.birth) w.pad w.taken w.edits n m → session_of (w.actors n) ≡ Some m.conn.session → IsGoodWorld (resume_as w n m)
resume-as-good w n m g gm i = go (resume_fault w.pad (grant_of w n false) m.client.rev (Some m.birth) None) refl
  where
    go : (o : Option PadBad) → resume_fault w.pad (grant_of w n false) m.client.rev (Some m.birth) None ≡ o → IsGoodWorld (resume_if w n m o)
    go None h =
        let r = resumable w.pad (grant_of w n false) m.client.rev m.birth None h refl in
        session-step w n false (Named (resume_member w.pad m)) g r.0
        (subst (λ k. IsGood (birth_at w.pad k) (with_session w.pad (author_of n) false) w.taken w.edits n (resume_member w.pad m)) (sym r.1)
        (good-resumed w.pad w.taken w.edits n m g.pad r.1 (λ t among e. subst (λ k. t.head ≤ head (birth_at w.pad k)) e (g.rebased t among).there) (subst (λ k. IsGood (birth_at w.pad k) w.pad w.taken w.edits n m) r.1 gm)))
        refl
    go (Some bad) h = client-step w n (Named m) g gm (sym i)

resume-good : (w : WorldState) (n : Name) (a : Actor) → IsGoodWorld w → w.actors n ≡ a → IsGoodWorld (resume_by w n a)
resume-good w n Nobody g i = g
resume-good w n (Guest c) g i = g
resume-good w n (Named m) g i =
    resume-as-good w n (lost_member m) g
    (subst (λ k. IsGood (birth_at w.pad k) w.pad w.taken w.edits n (lost_member m)) (sym (lost-same m).1) (good-lost-member (birth_at w.pad m.birth) w.pad w.taken w.edits n m (at-name w n (Named m) g i)))
    (ap session_of i ∙ ap Some (sym (lost-same m).0))

-- ---- the server's own steps

-- what the server makes by itself is nobody's
nobodys-revs : (pad : PadState) (now : ℕ) (e : Edit) (doc : Doc) (k i : ℕ) (v : Rev) → at (birth_at (with_revs pad (step_revs (by_nobody now) e doc)) k).later i ≡ Some v
    → (v.session ≡ nobody) ⊎ (at (birth_at pad k).later i ≡ Some v)
nobodys-revs pad now e doc k i v h = go (revs-at pad vs k)
  where
    vs : List Rev
    vs = step_revs (by_nobody now) e doc

    newlines : (t : Bool) → Among v (if t then newline_rev now (apply e doc) ∷ [] else []) → v.session ≡ nobody
    newlines true (inl z) = ap (λ (v : Rev). v.session) z
    newlines true (inr z) = absurd z
    newlines false z = absurd z

    nobodys : Among v vs → v.session ≡ nobody
    nobodys (inl z) = ap (λ (v : Rev). v.session) z
    nobodys (inr z) = newlines (lacks_newline (apply e doc)) z

    grown : (at (birth_at pad k).later i ≡ Some v) ⊎ ((length (birth_at pad k).later ≤ i) × Among v vs) → (v.session ≡ nobody) ⊎ (at (birth_at pad k).later i ≡ Some v)
    grown (inl o) = inr o
    grown (inr o) = inl (nobodys o.1)

    go : ((1 ≤ length pad.births) × (k ≡ length pad.births) × (birth_at (with_revs pad vs) k ≡ longer (birth_at pad k) vs)) ⊎ (birth_at (with_revs pad vs) k ≡ birth_at pad k)
        → (v.session ≡ nobody) ⊎ (at (birth_at pad k).later i ≡ Some v)
    go (inl z) = grown (at-grown (birth_at pad k).later vs i v (sym (ap (λ (b : Birth). at b.later i) z.2) ∙ h))
    go (inr z) = inr (sym (ap (λ (b : Birth). at b.later i) z) ∙ h)

set-good : (w : WorldState) (now : ℕ) (text : Text) → is_well_formed text ≡ true → w.pad.present ≡ true → IsGoodWorld w → IsGoodWorld (with_pad w (set_text w.pad now text))
set-good w now text wf there g = server-step w _ g
    (λ n. leaves-revs w.pad w.taken w.edits w.taken n (by_nobody now) _ _ (inl refl) (λ t h. inl h) (λ t h. h))
    (grown-pad w.pad (by_nobody now) (set_head w.pad text) g.pad (g.pad.present there)
    (fits_true (set_head w.pad text) (head_doc (newest w.pad)) (text-fits (clean text) (head_doc (newest w.pad)) (is_well_formed-clean text wf)
    (text-doc (newest w.pad) (g.pad.births (length w.pad.births)) (head (newest w.pad)) (omega arith)) (g.pad.line (length w.pad.births))))
    (inl refl)
    (λ n e. set-no-newline (clean text) (head_doc (newest w.pad)) (some-units (head_doc (newest w.pad)) (g.pad.line (length w.pad.births))) e))
    g.live (revs-nops w.pad _) (nobodys-revs w.pad now (set_head w.pad text) (head_doc (newest w.pad)))

delete-good : (w : WorldState) → IsGoodWorld w → IsGoodWorld (with_pad w (delete w.pad))
delete-good w g = server-step w (delete w.pad) g leaves (record {
  epoch = g.pad.epoch;
  births = g.pad.births;
  present = λ h. absurd (subst T (sym h) tt);
  live = λ s l e h. absurd ((was-deleted w.pad s l e).1 h);
  made = λ k i v h. still v (g.pad.made k i v h);
  noted = λ k x h. known-deleted w.pad x.session (g.pad.noted k x h);
  line = g.pad.line;
  newlines = g.pad.newlines;
}) (λ s l e h. absurd ((was-deleted w.pad s l e).1 h)) (λ k i x h. h) (λ k i v h. inr h)
  where
    still : (v : Rev) → (v.session ≡ nobody) ⊎ IsKnown w.pad v.session → (v.session ≡ nobody) ⊎ IsKnown (delete w.pad) v.session
    still v (inl h) = inl h
    still v (inr h) = inr (known-deleted w.pad v.session h)

    leaves : (n : Name) → Leaves w.pad w.taken w.edits (delete w.pad) w.taken w.edits n
    leaves n = let f = leaves-same w.pad w.taken w.edits n in record {
      grew = λ k h. let r = f.grew k h in record { more = r.more; notes = r.notes; is = r.is; by = r.by; noted_by = r.noted_by };
      count = omega arith;
      newest = λ s l e h k. refl;
      seats = λ s l k e. (was-deleted w.pad s l e).0;
      known = λ s k. known-deleted w.pad s k;
      owned = f.owned;
      new_taken = f.new_taken;
      old_taken = f.old_taken;
    }

-- ---- a crash

good-cut : (b : Birth) (pad : PadState) (taken : List Taken) (edits : List Name) (n : Name) (m : Member) → IsGood b pad taken edits n m
    → IsGood b (reopened pad) taken edits n (record m { client = lost m.client; conn = cut_conn m.conn; earlier = None })
good-cut b pad taken edits n m g = record {
  birth = g.birth;
  sound = let s = g.sound in record { rev = s.rev; ends = s.ends; sent = s.sent; local = s.local; base = s.base };
  told = g.told;
  current = g.current;
  known = known-reopened pad m.client.session g.known;
  mine = λ l e. absurd (none-reopened pad m.client.session l e);
  writes = λ l e. absurd (none-reopened pad m.client.session l e);
  newest = λ l e. absurd (none-reopened pad m.client.session l e);
  sent_known = λ s e. known-reopened pad s.session (g.sent_known s e);
  sent_mine = λ s e l h. absurd (none-reopened pad s.session l h);
  sent_fits = g.sent_fits;
  number = g.number;
  unheard = g.unheard;
  carried = λ s f i v l e h. let c = g.carried s f i v l e h in (refl, c.1, c.2);
  taken_unheard = g.taken_unheard;
  dropped = λ c. absurd (subst T (sym c) tt);
  up = inl refl;
  sent_rev = λ c. absurd (subst T (sym c) tt);
  down = λ c. absurd (subst T (sym c) tt);
  lost = λ c. tt;
  earlier_known = λ e h. none_some h;
  earlier_mine = λ e h. none_some h;
  earlier_other = λ e h. none_some h;
}

crash-good : (w : WorldState) → IsGoodWorld w → IsGoodWorld (crashed w)
crash-good w g = record {
  pad = record {
    epoch = omega arith;
    births = g.pad.births;
    present = g.pad.present;
    live = λ s l e h. absurd (none-reopened w.pad s l e);
    made = λ k i v h. still v (g.pad.made k i v h);
    noted = λ k x h. known-reopened w.pad x.session (g.pad.noted k x h);
    line = g.pad.line;
    newlines = g.pad.newlines;
  };
  actors = λ k. cut k (w.actors k) (g.actors k);
  live = λ s l e h. absurd (none-reopened w.pad s l e);
  once = g.once;
  apart = g.apart;
  marked = g.marked;
  rebased = λ t h. let r = g.rebased t h in record { there = r.there; nopped = r.nopped; nothing = r.nothing; noted = r.noted; edit = r.edit; base = r.base; newline = r.newline };
  births = g.births;
  numbers = g.numbers;
  known = g.known;
}
  where
    still : (v : Rev) → (v.session ≡ nobody) ⊎ IsKnown w.pad v.session → (v.session ≡ nobody) ⊎ IsKnown (reopened w.pad) v.session
    still v (inl h) = inl h
    still v (inr h) = inr (known-reopened w.pad v.session h)

    cut : (k : Name) (a : Actor) → IsGoodActor w.pad w.taken w.edits k a → IsGoodActor (reopened w.pad) w.taken w.edits k (cut_off a)
    cut k Nobody ga = tt
    cut k (Guest c) ga = record { known = known-reopened w.pad c.session ga.known; mine = λ l e. absurd (none-reopened w.pad c.session l e); up = tt }
    cut k (Named m) ga = good-cut (birth_at w.pad m.birth) w.pad w.taken w.edits k m ga

-- an actor whose queue up is shorter is cut off to the same
cut-same : (w w' : WorldState) (n : Name) (a : Actor) → cut_off a ≡ cut_off (w.actors n)
    → IsGoodWorld (record { id = w'.id; pad = w'.pad; actors = put w.actors n a; edits = w'.edits; taken = w'.taken; known = w'.known })
    → IsGoodWorld (crashed (record { id = w'.id; pad = w'.pad; actors = w.actors; edits = w'.edits; taken = w'.taken; known = w'.known }))
cut-same w w' n a e g =
    subst (λ actors. IsGoodWorld (record { id = w'.id; pad = reopened w'.pad; actors = actors; edits = w'.edits; taken = w'.taken; known = w'.known })) same
    (crash-good (record { id = w'.id; pad = w'.pad; actors = put w.actors n a; edits = w'.edits; taken = w'.taken; known = w'.known }) g)
  where
    pointwise : (k : Name) → ((text_eq k n ≡ true) × (k ≡ n)) ⊎ ((text_eq k n ≡ false) × (k ≡ n → ⊥)) → cut_off (put w.actors n a k) ≡ cut_off (w.actors k)
    pointwise k (inl z) = ap (λ t. cut_off (if t then a else w.actors k)) z.0 ∙ e ∙ ap (λ j. cut_off (w.actors j)) (sym z.1)
    pointwise k (inr z) = ap (λ t. cut_off (if t then a else w.actors k)) z.0

    same : ◌≡◌ {A = Name → Actor} (λ k. cut_off (put w.actors n a k)) (λ k. cut_off (w.actors k))
    same = λ i k. pointwise k (decide-name k n) i

knows-more : (w : WorldState) (t : Taken) → IsGoodWorld w → AreKnown w.known (t ∷ w.taken)
knows-more w t g number h = inr (g.known number h)

stop-by-good : (w : WorldState) (now : ℕ) (n : Name) (a : Actor) → IsGoodWorld w → w.actors n ≡ a → IsGoodWorld (crashed (stop_by w now a))
stop-by-good w now n Nobody g i = crash-good w g
stop-by-good w now n (Guest c) g i = first c.up refl
  where
    decided : (msg : Message) (up : List Message) → c.up ≡ msg ∷ up → (o : Option Reason) → reason w.pad c.session msg ≡ o → IsGoodWorld (crashed (stop_as w now c.session msg o))
    decided msg up q None r = cut-same w (taking w c.session now msg) n (Guest (with_up c up)) (ap cut_off (sym i)) (take-guest-good w now n c w.known msg up g i q r (knows-more w (mark w.pad c.session now msg) g))
    decided msg up q (Some bad) r = crash-good w g

    first : (us : List Message) → c.up ≡ us → IsGoodWorld (crashed (stop_conn w now c.session us))
    first [] q = crash-good w g
    first (msg ∷ up) q = decided msg up q (reason w.pad c.session msg) refl
stop-by-good w now n (Named m) g i = first m.conn.up refl
  where
    decided : (msg : Message) (up : List Message) → m.conn.up ≡ msg ∷ up → (o : Option Reason) → reason w.pad m.conn.session msg ≡ o → IsGoodWorld (crashed (stop_as w now m.conn.session msg o))
    decided msg up q None r = cut-same w (taking w m.conn.session now msg) n (Named (with_conn m (with_up m.conn up))) (ap cut_off (sym i)) (take-named-good w now n m w.known msg up g i q r (knows-more w (mark w.pad m.conn.session now msg) g))
    decided msg up q (Some bad) r = crash-good w g

    first : (us : List Message) → m.conn.up ≡ us → IsGoodWorld (crashed (stop_conn w now m.conn.session us))
    first [] q = crash-good w g
    first (msg ∷ up) q = decided msg up q (reason w.pad m.conn.session msg) refl

stop-good : (w : WorldState) (now : ℕ) (who : Option Name) (kept : Bool) → IsGoodWorld w → IsGoodWorld (crashed (stopped w now who kept))
stop-good w now None kept g = crash-good w g
stop-good w now (Some n) false g = crash-good w g
stop-good w now (Some n) true g = stop-by-good w now n (w.actors n) g refl

-- ---- whatever happens

when-text : (w v : WorldState) (text : Text) → IsGoodWorld w → (is_well_formed text ≡ true → IsGoodWorld v) → IsGoodWorld (if_text w text v)
when-text w v text g f = go (is_well_formed text) refl
  where
    go : (t : Bool) → is_well_formed text ≡ t → IsGoodWorld (if t then v else w)
    go true h = f h
    go false h = g

when-none : (w : WorldState) (pad : PadState) (o : Option PadBad) → IsGoodWorld w → (o ≡ None → IsGoodWorld (with_pad w pad)) → IsGoodWorld (pad_if w pad o)
when-none w pad None g f = f refl
when-none w pad (Some bad) g f = g

creatable : (pad : PadState) (text : Text) → create_fault pad text ≡ None → pad.present ≡ false
creatable pad text e =
    let f = none-of (create_faults pad text) e in
    not-if pad.present Exists f.0

there-is : (t : Bool) → fault_if (not t) Gone ≡ None → t ≡ true
there-is true e = refl
there-is false e = none_some (sym e)

settable : (pad : PadState) (text : Text) → set_fault pad text ≡ None → pad.present ≡ true
settable pad text e =
    let f = none-of (set_faults pad text) e in
    there-is pad.present f.0

pub happens-good : (w : WorldState) (e : Event) → IsGoodWorld w → IsGoodWorld (happens w e)
happens-good w (Create now text) g = when-text w _ text g (λ wf. when-none w (create w.pad now text) (create_fault w.pad text) g (λ n. create-good w now text wf (creatable w.pad text n) g))
happens-good w (SetText now text) g = when-text w _ text g (λ wf. when-none w (set_text w.pad now text) (set_fault w.pad text) g (λ n. set-good w now text wf (settable w.pad text n) g))
happens-good w Delete g = when-none w (delete w.pad) (gone_fault w.pad) g (λ n. delete-good w g)
happens-good w (Login now n) g = login-as-good w now n (w.actors n) g
happens-good w (Visit now n read_only) g = visit-as-good w now n read_only (w.actors n) g
happens-good w (Edits n e) g = edit-good w n e (w.actors n) g refl
happens-good w (Submit n) g = submit-good w n (w.actors n) g refl
happens-good w (Inject n base read) g = inject-good w n base read (w.actors n) g refl
happens-good w (Take now n) g = take-good w now n (w.actors n) g refl
happens-good w (Overfull n) g = overfull-good w n (w.actors n) g refl
happens-good w (Late now n) g = late-good w now n (w.actors n) g refl
happens-good w (Push n) g = push-good w n (w.actors n) g refl
happens-good w (Hear n) g = hear-good w n (w.actors n) g refl
happens-good w (Lose n) g = lose-good w n (w.actors n) g refl
happens-good w (Resume n) g = resume-good w n (w.actors n) g refl
happens-good w (Stop now who kept) g = stop-good w now who kept g

pub run-good : (events : List Event) (w : WorldState) → IsGoodWorld w → IsGoodWorld (run events w)
run-good [] w g = g
run-good (e ∷ es) w g = run-good es (happens w e) (happens-good w e g)

at-none : {A : Type 0} {x : A} {Z : Type 0} (k : ℕ) → numbered {A = A} [] k ≡ Some x → Z
at-none zero e = none_some e
at-none (suc k) e = none_some e

none-at-start : (s : Session) (l : Seat) → (if s.epoch == 1 then numbered {A = Seat} [] s.count else None) ≡ Some l → ⊥
none-at-start s l e = go (s.epoch == 1) e
  where
    go : (t : Bool) → (if t then numbered {A = Seat} [] s.count else None) ≡ Some l → ⊥
    go true e = at-none s.count e
    go false e = none_some e

no-birth-at : (k : ℕ) → or_else (numbered {A = Birth} [] k) no_birth ≡ no_birth
no-birth-at zero = refl
no-birth-at (suc k) = refl

pub start-good : (limits : Limits) (id : Text) → IsGoodWorld (start limits id)
start-good limits id = record {
  pad = record {
    epoch = omega arith;
    births = λ k. subst IsGoodBirth (sym (no-birth-at k)) (good-first 0 [] refl);
    present = λ h. absurd (subst T (sym h) tt);
    live = λ s l e h. absurd (none-at-start s l e);
    made = λ k i v h. none_some (sym (ap (λ (b : Birth). at b.later i) (no-birth-at k)) ∙ h);
    line = λ k. ap (λ b. lacks_newline (head_doc b)) (no-birth-at k) ∙ line-first 0 [];
    newlines = λ k i v h. none_some (sym (ap (λ (b : Birth). at b.later i) (no-birth-at k)) ∙ h);
    noted = λ k x h. absurd (subst (λ (b : Birth). Among x b.nops) (no-birth-at k) h);
  };
  actors = λ k. tt;
  live = λ s l e h. absurd (none-at-start s l e);
  once = tt;
  apart = λ t u h. absurd h;
  marked = (
    λ k i x h. none_some (sym (ap (λ (b : Birth). at b.nops i) (no-birth-at k)) ∙ h),
    λ k i v h. none_some (sym (ap (λ (b : Birth). at b.later i) (no-birth-at k)) ∙ h),
  );
  rebased = λ t h. absurd h;
  births = λ t h. absurd h;
  numbers = λ t h. absurd h;
  known = λ number h. absurd h;
}
