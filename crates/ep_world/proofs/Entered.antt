-- Clients and guests come.
use Rattle.std.proofs.Common.{◌≡◌, ℕ, Bool, List, true, false, not, [], Option, Some, None, Ok, Err, if◌then◌else◌, refl, sym, ap, ◌∙◌, subst}
use Rattle.ep_units.specs.declared.grant.Grant.{Grant}
use Rattle.ep_outside.specs.Disk.{Contents}
use Rattle.ep_history.specs.Entries.{Answer, Outcome, outcome, unless, logs_in}
use Rattle.ep_history.specs.Entries.Answer.{LoginAnswer}
use Rattle.ep_history.specs.Entries.Entry.{Login}
use Rattle.ep_history.specs.Entries.Outcome.{Refuses, Answers, Records}
use Rattle.ep_history.specs.Entry.{opened}
use Rattle.ep_history.specs.History.{head, head_doc}
use Rattle.ep_history.specs.Kept.{kept_started}
use Rattle.ep_history.specs.Pad.{PadState, newest, next_session, with_session}
use Rattle.ep_history.specs.Readings.{Welcome as AWelcome, welcome}
use Rattle.ep_history.specs.Records.{create_record}
use Rattle.ep_history.specs.Refusals.{login_fault}
use Rattle.ep_history.specs.declared.pad_bad.PadBad.{PadBad}
use Rattle.ep_history.proofs.Lists.{some_same}
use Rattle.ep_schedule.specs.World.{Name, Actor as AnActor, WorldState, grant_of, login_as, login_if, new_conn, new_member, visit_as, visit_if}
use Rattle.ep_schedule.specs.World.Actor.{Nobody, Guest, Named}
use Rattle.ep_schedule.specs.World.Event.{Login as AskedLogin}
use Rattle.ep_undo.specs.Undo.{UndoState, undo_started}
use Rattle.ep_world.specs.Kepts.{Kepts, kept_happens, kept_login, kept_login_if}
use Rattle.ep_pad_state.specs.Answering.{welcome_of}
use Rattle.ep_pad_state.specs.declared.answers.Welcome.{Welcome}
use Rattle.ep_event.specs.declared.event.Event.TheVariants as told
use Rattle.ep_event.specs.declared.shown.Shown.TheVariants as shown
use Rattle.ep_event.specs.declared.shown.Verb.TheVariants as verb
use Rattle.ep_members.specs.declared.actors.Actor.TheVariants as actor
use Rattle.ep_world.specs.declared.world.World.{World}
use Rattle.ep_members.specs.Actors.{PutsActor, is_a_client, is_a_guest}
use Rattle.ep_world.specs.Actors.{actor_of, member_of}
use Rattle.ep_members.specs.Conns.{kept_new}
use Rattle.ep_world.specs.Entering.{started_member}
use Rattle.ep_world.specs.Events.{is_client, is_guest}
use Rattle.ep_world.specs.Failing.{shown_or_failed}
use Rattle.ep_world.specs.Shows.{shows_entered, visit_verb}
use Rattle.ep_world.specs.Journal.{journal_after, shows_full}
use Rattle.ep_world.specs.Standing.{Comes, IsAnswered, IsAt, StandsFor, answer_of, pad_after}
use Rattle.ep_world.specs.Standing.IsPlayed.{IsEvent}
use Rattle.ep_world.proofs.Seating.{put-actors, put-actors-kept}
use Rattle.ep_world.proofs.ByServer.{Refusing, pad-refuses, with-pad}
use Rattle.ep_world.proofs.Brought.{unless-answers}
use Rattle.ep_history.specs.declared.record.Record.{Record}

-- ---- what a login comes to

-- who isn't refused is welcomed, and the pad has a session more
pub record Welcomes (p : PadState) (g : Grant) (now : ℕ) (a : Answer) (o : Outcome) : Type 0 where
  pub free : login_fault p g ≡ None
  pub answer : a ≡ LoginAnswer (welcome (opened p now) g)
  pub pad : pad_after p o ≡ with_session (opened p now) g.author g.read_only

pub welcomes : (pad : PadState) (g : Grant) (now : ℕ) (a : Answer) → answer_of (outcome pad (Login g now)) ≡ Some a → Welcomes pad g now a (outcome pad (Login g now))
welcomes pad g now a e =
    let u = unless-answers (login_fault pad g) (logs_in pad g now) a e in
    let q = logged pad.present in
    record { free = u.0; answer = some_same (sym e ∙ ap answer_of u.1 ∙ q.0); pad = ap (pad_after pad) u.1 ∙ q.1 }
  where
    there : PadState
    there = opened pad now

    in_as : Bool → Outcome
    in_as b = if b then Answers (LoginAnswer (welcome there g)) (with_session there g.author g.read_only)
        else Records (create_record pad now []) (LoginAnswer (welcome there g)) (with_session there g.author g.read_only)

    logged : (b : Bool) → (answer_of (in_as b) ≡ Some (LoginAnswer (welcome there g))) × (pad_after pad (in_as b) ≡ with_session there g.author g.read_only)
    logged true = (refl, refl)
    logged false = (refl, refl)

login-refused-fault : (pad : PadState) (g : Grant) (now : ℕ) (b : PadBad) → outcome pad (Login g now) ≡ Refuses b → login_fault pad g ≡ Some b
login-refused-fault pad g now b h = go (login_fault pad g) refl
  where
    in-is : (t : Bool) (x y : Outcome) → (if t then x else y) ≡ Refuses b → (x ≡ Refuses b → ⊥) → (y ≡ Refuses b → ⊥) → ⊥
    in-is true x y e f g = f e
    in-is false x y e f g = g e

    go : (f : Option PadBad) → login_fault pad g ≡ f → login_fault pad g ≡ Some b
    go (Some c) q = q ∙ same (sym (ap (λ f. unless f (logs_in pad g now)) q) ∙ h)
      where
        same : Refuses c ≡ Refuses b → Some c ≡ Some b
        same e = cc
    go None q = absurd (in-is pad.present _ _ (sym (ap (λ f. unless f (logs_in pad g now)) q) ∙ h) (λ e. cc) (λ e. cc))

-- ---- names

not-guest : (a : AnActor) → is_guest a ≡ false → (w : WorldState) (now : ℕ) (n : Name) (f : Option PadBad) → login_fault w.pad (grant_of w n false) ≡ f
    → login_as w now n a ≡ login_if w now n f
not-guest Nobody e w now n f h = ap (login_if w now n) h
not-guest (Guest c) e w now n f h = absurd cc
not-guest (Named m) e w now n f h = ap (login_if w now n) h

not-guest-kept : (a : AnActor) → is_guest a ≡ false → (w : WorldState) (now : ℕ) (ks : Kepts) (n : Name) (f : Option PadBad) → login_fault w.pad (grant_of w n false) ≡ f
    → kept_login w now ks n a ≡ kept_login_if (opened w.pad now) ks n f
not-guest-kept Nobody e w now ks n f h = ap (kept_login_if (opened w.pad now) ks n) h
not-guest-kept (Guest c) e w now ks n f h = absurd cc
not-guest-kept (Named m) e w now ks n f h = ap (kept_login_if (opened w.pad now) ks n) h

not-client : (a : AnActor) → is_client a ≡ false → (w : WorldState) (now : ℕ) (n : Name) (r : Bool) (f : Option PadBad) → login_fault w.pad (grant_of w n r) ≡ f
    → visit_as w now n r a ≡ visit_if w now n r f
not-client Nobody e w now n r f h = ap (visit_if w now n r) h
not-client (Guest c) e w now n r f h = ap (visit_if w now n r) h
not-client (Named m) e w now n r f h = absurd cc

not-test : (b : Bool) → b ≡ false → not b ≡ true
not-test b e = ap not e

pub guest-known : (a : AnActor) (k : UndoState) → is_a_guest (actor_of a k) ≡ is_guest a
guest-known Nobody k = refl
guest-known (Guest c) k = refl
guest-known (Named m) k = refl

pub client-known : (a : AnActor) (k : UndoState) → is_a_client (actor_of a k) ≡ is_client a
client-known Nobody k = refl
client-known (Guest c) k = refl
client-known (Named m) k = refl

module _ {D : Type 0} (told_by : D → Option Contents) (failures : D → ℕ) (stops_alone : D → Bool) (alone : Bool) (rs : List Record) where
  -- ---- clients

  login-refusing : (w : WorldState) (ks : Kepts) (now : ℕ) (n : Name) → is_guest (w.actors n) ≡ false
      → Refusing w w ks ks w.pad now (told.Login n) (Login (grant_of w n false) now) verb.Login (Some n)
  login-refusing w ks now n i = record {
    known = not-test (is_guest (w.actors n)) i;
    text = refl;
    shown = λ b h. ap (shows_entered verb.Login n (opened w.pad now)) (fault b h);
    leaves = λ b h. (not-guest (w.actors n) i w now n (Some b) (fault b h), not-guest-kept (w.actors n) i w now ks n (Some b) (fault b h));
    room = λ k. refl;
    adds = refl;
    after = λ rs. refl;
    decides = λ rs. tt;
    same = refl;
    fulls = λ rs. refl;
    left = λ rs. refl;
    full = λ rs. (refl, refl);
  }
    where
      fault : (b : PadBad) → outcome w.pad (Login (grant_of w n false) now) ≡ Refuses b → login_fault w.pad (grant_of w n false) ≡ Some b
      fault b h = login-refused-fault w.pad (grant_of w n false) now b h

  pub login-refused : (old new : World D) (w : WorldState) (ks : Kepts) (now : ℕ) (n : Name) (b : PadBad) → is_guest (w.actors n) ≡ false → StandsFor told_by failures stops_alone alone rs old w ks
      → IsAnswered told_by failures stops_alone alone rs old.machine w.pad (Login (grant_of w n false) now) (Err b) new.machine → new.id ≡ old.id → new.actors ≡ old.actors
      → Comes told_by failures stops_alone alone rs w ks now (told.Login n) new (shown_or_failed verb.Login (Some n) b)
  login-refused old new w ks now n b i s a j e =
      pad-refuses told_by failures stops_alone alone rs old new w w ks ks w.pad now (told.Login n) (Login (grant_of w n false) now) verb.Login (Some n) b (login-refusing w ks now n i) a
      (λ m. with-pad told_by failures stops_alone alone rs rs old new w ks w.pad s m j e)

  pub logged-in : (old new : World D) (w : WorldState) (ks : Kepts) (now : ℕ) (n : Name) (x : Welcome) → is_guest (w.actors n) ≡ false → StandsFor told_by failures stops_alone alone rs old w ks
      → IsAnswered told_by failures stops_alone alone rs old.machine w.pad (Login (grant_of w n false) now) (Ok (LoginAnswer (welcome_of x))) new.machine → new.id ≡ old.id
      → PutsActor old.actors n (actor.Named (started_member x)) new.actors
      → Comes told_by failures stops_alone alone rs w ks now (told.Login n) new (Ok (shown.Entered verb.Login n x.session x.rev))
  logged-in old new w ks now n x i s a j p =
      let g = grant_of w n false in
      let there = opened w.pad now in
      let u = welcomes w.pad g now (LoginAnswer (welcome_of x)) a.0 in
      let q : welcome_of x ≡ welcome there g = same u.answer in
      let session = ap (λ (y : AWelcome). y.session) q in
      let rev = ap (λ (y : AWelcome). y.rev) q in
      let m = subst (IsAt told_by failures stops_alone alone (journal_after rs w now true (told.Login n)) new.machine) u.pad a.1 in
      let k = undo_started (kept_started (head_doc (newest there)) (head (newest there)) (next_session there)) in
      let is : Some (actor.Named (member_of (new_member there (next_session there)) k)) ≡ Some (actor.Named (started_member x)) =
      ap (λ (y : AWelcome). Some (actor.Named (record { client = undo_started (kept_started y.doc y.rev y.session); birth = y.birth; conn = kept_new y.session y.rev; earlier = None }))) (sym q) in (
        not-test (is_guest (w.actors n)) i,
        refl,
        IsEvent true
            (ap (λ y. shown.Entered verb.Login n y x.rev) session ∙ ap (shown.Entered verb.Login n (next_session there)) rev ∙ ap (shows_entered verb.Login n there) (sym u.free)) (ap (shows_full (told.Login n)) a.2) (λ _. tt)
            (subst (λ y. StandsFor told_by failures stops_alone alone (journal_after rs w now true (told.Login n)) new y (kept_happens w ks (AskedLogin now n))) (sym (not-guest (w.actors n) i w now n None u.free))
            (subst (StandsFor told_by failures stops_alone alone (journal_after rs w now true (told.Login n)) new (login_if w now n None)) (sym (not-guest-kept (w.actors n) i w now ks n None u.free))
            (record {
              machine = m;
              id = j ∙ s.id;
              actors = put-actors old.actors new.actors w ks n (Named (new_member there (next_session there))) k (actor.Named (started_member x)) (λ r e. s.actors r) p is;
            }))),
      )
    where
      same : LoginAnswer (welcome_of x) ≡ LoginAnswer (welcome (opened w.pad now) (grant_of w n false)) → welcome_of x ≡ welcome (opened w.pad now) (grant_of w n false)
      same e = cc

  -- ---- guests

  visit-refusing : (w : WorldState) (ks : Kepts) (now : ℕ) (n : Name) (r : Bool) → is_client (w.actors n) ≡ false
      → Refusing w w ks ks w.pad now (told.Guest n r) (Login (grant_of w n r) now) (visit_verb r) (Some n)
  visit-refusing w ks now n r i = record {
    known = not-test (is_client (w.actors n)) i;
    text = refl;
    shown = λ b h. ap (shows_entered (visit_verb r) n (opened w.pad now)) (fault b h);
    leaves = λ b h. (not-client (w.actors n) i w now n r (Some b) (fault b h), refl);
    room = λ k. refl;
    adds = refl;
    after = λ rs. refl;
    decides = λ rs. tt;
    same = refl;
    fulls = λ rs. refl;
    left = λ rs. refl;
    full = λ rs. (refl, refl);
  }
    where
      fault : (b : PadBad) → outcome w.pad (Login (grant_of w n r) now) ≡ Refuses b → login_fault w.pad (grant_of w n r) ≡ Some b
      fault b h = login-refused-fault w.pad (grant_of w n r) now b h

  pub visit-refused : (old new : World D) (w : WorldState) (ks : Kepts) (now : ℕ) (n : Name) (r : Bool) (b : PadBad) → is_client (w.actors n) ≡ false → StandsFor told_by failures stops_alone alone rs old w ks
      → IsAnswered told_by failures stops_alone alone rs old.machine w.pad (Login (grant_of w n r) now) (Err b) new.machine → new.id ≡ old.id → new.actors ≡ old.actors
      → Comes told_by failures stops_alone alone rs w ks now (told.Guest n r) new (shown_or_failed (visit_verb r) (Some n) b)
  visit-refused old new w ks now n r b i s a j e =
      pad-refuses told_by failures stops_alone alone rs old new w w ks ks w.pad now (told.Guest n r) (Login (grant_of w n r) now) (visit_verb r) (Some n) b (visit-refusing w ks now n r i) a
      (λ m. with-pad told_by failures stops_alone alone rs rs old new w ks w.pad s m j e)

  pub visited : (old new : World D) (w : WorldState) (ks : Kepts) (now : ℕ) (n : Name) (r : Bool) (x : Welcome) → is_client (w.actors n) ≡ false → StandsFor told_by failures stops_alone alone rs old w ks
      → IsAnswered told_by failures stops_alone alone rs old.machine w.pad (Login (grant_of w n r) now) (Ok (LoginAnswer (welcome_of x))) new.machine → new.id ≡ old.id
      → PutsActor old.actors n (actor.Guest (kept_new x.session x.rev)) new.actors
      → Comes told_by failures stops_alone alone rs w ks now (told.Guest n r) new (Ok (shown.Entered (visit_verb r) n x.session x.rev))
  visited old new w ks now n r x i s a j p =
      let g = grant_of w n r in
      let there = opened w.pad now in
      let u = welcomes w.pad g now (LoginAnswer (welcome_of x)) a.0 in
      let q : welcome_of x ≡ welcome there g = same u.answer in
      let session = ap (λ (y : AWelcome). y.session) q in
      let rev = ap (λ (y : AWelcome). y.rev) q in
      let m = subst (IsAt told_by failures stops_alone alone (journal_after rs w now true (told.Guest n r)) new.machine) u.pad a.1 in
      let is : Some (actor.Guest (kept_new (next_session there) (head (newest there)))) ≡ Some (actor.Guest (kept_new x.session x.rev)) =
      ap (λ (y : AWelcome). Some (actor.Guest (kept_new y.session y.rev))) (sym q) in (
        not-test (is_client (w.actors n)) i,
        refl,
        IsEvent true
            (ap (λ y. shown.Entered (visit_verb r) n y x.rev) session ∙ ap (shown.Entered (visit_verb r) n (next_session there)) rev ∙ ap (shows_entered (visit_verb r) n there) (sym u.free)) (ap (shows_full (told.Guest n r)) a.2) (λ _. tt)
            (subst (λ y. StandsFor told_by failures stops_alone alone (journal_after rs w now true (told.Guest n r)) new y ks) (sym (not-client (w.actors n) i w now n r None u.free))
            (record {
              machine = m;
              id = j ∙ s.id;
              actors = put-actors-kept old.actors new.actors w ks n (Guest (new_conn (next_session there) (head (newest there)))) (actor.Guest (kept_new x.session x.rev)) (λ t e. s.actors t) p is;
            })),
      )
    where
      same : LoginAnswer (welcome_of x) ≡ LoginAnswer (welcome (opened w.pad now) (grant_of w n r)) → welcome_of x ≡ welcome (opened w.pad now) (grant_of w n r)
      same e = cc
