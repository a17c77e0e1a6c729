-- Clients come back.
use Rattle.std.proofs.Common.{◌≡◌, ℕ, Bool, List, true, false, [], Option, Some, None, Ok, Err, if◌then◌else◌, refl, sym, ap, ◌∙◌, subst}
use Rattle.ep_units.specs.declared.grant.Grant.{Grant}
use Rattle.ep_outside.specs.Disk.{Contents}
use Rattle.ep_history.specs.Client.{lost}
use Rattle.ep_history.specs.Entries.{Entry, outcome, unless}
use Rattle.ep_history.specs.Entries.Answer.{ResumeAnswer}
use Rattle.ep_history.specs.Entries.Entry.{Resume}
use Rattle.ep_history.specs.Entries.Outcome.{Refuses, Answers}
use Rattle.ep_history.specs.History.{head}
use Rattle.ep_history.specs.Kept.{Keeps}
use Rattle.ep_history.specs.Pad.{birth_at, newest, next_session, with_session}
use Rattle.ep_history.specs.Readings.{CatchUp as ACatchUp, catch_up}
use Rattle.ep_history.specs.Refusals.{resume_fault}
use Rattle.ep_history.specs.declared.pad_bad.PadBad.{PadBad}
use Rattle.ep_undo.specs.Undo.{UndoState, undo_lost, undo_resumes}
use Rattle.ep_world.specs.Kepts.{Kepts, kept_happens, kept_lose, kept_put, kept_resume, kept_resume_if}
use Rattle.ep_schedule.specs.World.{Name, Member as AMember, WorldState, author_of, grant_of, lose_by, lost_member, resume_by, resume_if, resume_member, with_actor, with_client, with_conn, with_down}
use Rattle.ep_schedule.specs.World.Actor.{Named}
use Rattle.ep_schedule.specs.World.Event.{Resume as AskedResume}
use Rattle.ep_pad_state.specs.Answering.{catch_up_of}
use Rattle.ep_pad_state.specs.declared.answers.CatchUp.{CatchUp}
use Rattle.ep_event.specs.declared.event.Event.TheVariants as told
use Rattle.ep_event.specs.declared.shown.Shown.TheVariants as shown
use Rattle.ep_event.specs.declared.shown.Verb.TheVariants as verb
use Rattle.ep_members.specs.declared.actors.Actor.TheVariants as actor
use Rattle.ep_members.specs.declared.member.Member.{Member}
use Rattle.ep_world.specs.declared.world.World.{World}
use Rattle.ep_members.specs.Actors.{PutsActor}
use Rattle.ep_world.specs.Actors.{member_of}
use Rattle.ep_world.specs.Conns.{conn_of}
use Rattle.ep_members.specs.Conns.{kept_down, kept_new}
use Rattle.ep_world.specs.Events.{is_client, of_client}
use Rattle.ep_world.specs.Failing.{shown_or_failed}
use Rattle.ep_members.specs.Members.{kept_member_lost, kept_member_resumed}
use Rattle.ep_world.specs.Shows.{shows_resume, shows_resumed}
use Rattle.ep_world.specs.Journal.{behind, full_in, record_in, shows_full}
use Rattle.ep_world.specs.Standing.{Comes, IsAnswered, IsAt, IsRun, StandsBut, StandsFor, answer_of, pad_after}
use Rattle.ep_world.specs.Standing.IsPlayed.{IsEvent}
use Rattle.ep_world.proofs.Brought.{unless-answers, unless-refuses-answer}
use Rattle.ep_world.proofs.ByServer.{Refusing, pad-refuses}
use Rattle.ep_world.proofs.Calls.{MakesMarked, answered}
use Rattle.ep_world.proofs.Seating.{is-named, lent, put-actors}
use Rattle.ep_world.proofs.Turns.{IsTurn, keeps}
use Rattle.ep_history.specs.declared.record.Record.{Record}

-- ---- a client that is lost

lost-kept : (k : UndoState) → k.client.connected ≡ false → undo_lost k ≡ k
lost-kept k e = ap (λ b. record k { client = record k.client { connected = b } }) (sym e)

pub member-lost : (m : AMember) (k : UndoState) → k.client.connected ≡ m.client.connected → kept_member_lost (member_of m k) ≡ member_of (lost_member m) (undo_lost k)
member-lost m k e = go m.client.connected refl
  where
    gone : AMember
    gone = with_client (with_conn m (with_down m.conn [])) (lost m.client)

    old : Bool → Member
    old b = if b then record (member_of m k) { client = undo_lost k; conn = kept_down (conn_of m.conn) [] } else member_of m k

    new : Bool → Member
    new b = member_of (if b then gone else m) (undo_lost k)

    go : (b : Bool) → m.client.connected ≡ b → old k.client.connected ≡ new m.client.connected
    go true h = ap old (e ∙ h) ∙ sym (ap new h)
    go false h = ap old (e ∙ h) ∙ ap (member_of m) (sym (lost-kept k (e ∙ h))) ∙ sym (ap new h)

lost-same : (m : AMember) → ((lost_member m).client.rev ≡ m.client.rev) × ((lost_member m).birth ≡ m.birth)
lost-same m = go m.client.connected
  where
    gone : AMember
    gone = with_client (with_conn m (with_down m.conn [])) (lost m.client)

    go : (b : Bool) → ((if b then gone else m).client.rev ≡ m.client.rev) × ((if b then gone else m).birth ≡ m.birth)
    go true = (refl, refl)
    go false = (refl, refl)

-- what is asked of the pad
abbrev pub asks : WorldState → Kepts → ℕ → Name → AMember → Entry
asks w ks now n m = Resume (grant_of w n false) (ks n).client.rev (Some m.birth) None now

pub asked : (w : WorldState) (ks : Kepts) (now : ℕ) (n : Name) (m : AMember) (old new : Member) (g : Grant) (r : ℕ) → (ks n).client.connected ≡ m.client.connected → old ≡ member_of m (ks n)
    → new ≡ kept_member_lost old → g ≡ grant_of w n false → r ≡ new.client.client.rev → Resume g r (Some new.birth) None now ≡ asks w ks now n m
asked w ks now n m old new g r e o l p q =
    let is : new ≡ member_of (lost_member m) (undo_lost (ks n)) = l ∙ ap kept_member_lost o ∙ member-lost m (ks n) e in
    ap (λ x. Resume x r (Some new.birth) None now) p
    ∙ ap (λ x. Resume (grant_of w n false) x (Some new.birth) None now) (q ∙ ap (λ (x : Member). x.client.client.rev) is)
    ∙ ap (λ x. Resume (grant_of w n false) (ks n).client.rev (Some x) None now) (ap (λ (x : Member). x.birth) is ∙ (lost-same m).1)

module _ (w : WorldState) (ks : Kepts) (now : ℕ) (n : Name) (m : AMember) where
  -- why it is refused
  abbrev fault : Option PadBad
  fault = resume_fault w.pad (grant_of w n false) (ks n).client.rev (Some m.birth) None

  resumes-as : w.actors n ≡ Named m → (ks n).client.rev ≡ m.client.rev → (f : Option PadBad) → fault ≡ f → resume_by w n (w.actors n) ≡ resume_if w n (lost_member m) f
  resumes-as is rev f e =
      let same = lost-same m in
      ap (resume_by w n) is
      ∙ ap (λ r. resume_if w n (lost_member m) (resume_fault w.pad (grant_of w n false) r (Some (lost_member m).birth) None)) (same.0 ∙ sym rev)
      ∙ ap (λ b. resume_if w n (lost_member m) (resume_fault w.pad (grant_of w n false) (ks n).client.rev (Some b) None)) same.1
      ∙ ap (resume_if w n (lost_member m)) e

  kept-as : w.actors n ≡ Named m → (f : Option PadBad) → fault ≡ f → kept_resume w ks n (w.actors n) ≡ kept_resume_if w.pad ks n f
  kept-as is f e = ap (kept_resume w ks n) is ∙ ap (kept_resume_if w.pad ks n) e

  shows-as : w.actors n ≡ Named m → (ks n).client.rev ≡ m.client.rev → (f : Option PadBad) → fault ≡ f
      → of_client (shown.Nothing verb.Resume n) (shows_resume w n) (w.actors n) ≡ shows_resumed n w.pad f
  shows-as is rev f e =
      ap (of_client (shown.Nothing verb.Resume n) (shows_resume w n)) is
      ∙ ap (λ r. shows_resumed n w.pad (resume_fault w.pad (grant_of w n false) r (Some m.birth) None)) (sym rev)
      ∙ ap (shows_resumed n w.pad) e

module _ {D : Type 0} (told_by : D → Option Contents) (failures : D → ℕ) (stops_alone : D → Bool) (alone : Bool) (rs : List Record) where
  resume-refusing : (w : WorldState) (ks : Kepts) (now : ℕ) (n : Name) (m : AMember) → w.actors n ≡ Named m → (ks n).client.rev ≡ m.client.rev
      → Refusing w (with_actor w n (Named (lost_member m))) ks (kept_put ks n (undo_lost (ks n))) w.pad now (told.Resume n) (asks w ks now n m) verb.Resume (Some n)
  resume-refusing w ks now n m is rev = record {
    known = ap is_client is;
    text = refl;
    shown = λ b h. shows-as w ks now n m is rev (Some b) (faulty b h);
    leaves = λ b h. (resumes-as w ks now n m is rev (Some b) (faulty b h), kept-as w ks now n m is (Some b) (faulty b h));
    room = λ k. refl;
    adds = unrecorded (fault w ks now n m);
    after = λ rs. refl;
    decides = λ rs. tt;
    same = refl;
    fulls = λ rs. refl;
    left = λ rs. refl;
    full = λ rs. (ap (lose_by w n) is, ap (kept_lose ks n) is);
  }
    where
      faulty : (b : PadBad) → outcome w.pad (asks w ks now n m) ≡ Refuses b → fault w ks now n m ≡ Some b
      faulty b h = unless-refuses-answer (fault w ks now n m) _ _ b h

      -- a resumption is never recorded
      unrecorded : (f : Option PadBad) → None ≡ record_in (unless f (Answers (ResumeAnswer (catch_up w.pad)) (with_session w.pad (author_of n) false)))
      unrecorded None = refl
      unrecorded (Some b) = refl

  pub resume-refused : (mid new : World D) (w : WorldState) (ks : Kepts) (now : ℕ) (n : Name) (m : AMember) (b : PadBad) → w.actors n ≡ Named m → (ks n).client.rev ≡ m.client.rev
      → (ks n).client.connected ≡ m.client.connected → StandsBut told_by failures stops_alone alone rs mid n w ks → IsAnswered told_by failures stops_alone alone rs mid.machine w.pad (asks w ks now n m) (Err b) new.machine
      → new.id ≡ mid.id → PutsActor mid.actors n (actor.Named (kept_member_lost (member_of m (ks n)))) new.actors
      → Comes told_by failures stops_alone alone rs w ks now (told.Resume n) new (shown_or_failed verb.Resume (Some n) b)
  resume-refused mid new w ks now n m b is rev on but a i puts =
      pad-refuses told_by failures stops_alone alone rs mid new w (with_actor w n (Named (lost_member m))) ks (kept_put ks n (undo_lost (ks n))) w.pad now (told.Resume n) (asks w ks now n m) verb.Resume (Some n) b
      (resume-refusing w ks now n m is rev) a
      (λ at. record {
        machine = at;
        id = i ∙ but.id;
        actors = put-actors mid.actors new.actors w ks n (Named (lost_member m)) (undo_lost (ks n)) (actor.Named (kept_member_lost (member_of m (ks n)))) but.actors puts
            (ap (λ x. Some (actor.Named x)) (sym (member-lost m (ks n) on)));
      })

  pub resumed : (mid new : World D) (w : WorldState) (ks : Kepts) (now : ℕ) (n : Name) (m : AMember) (x : CatchUp) → w.actors n ≡ Named m → (ks n).client.rev ≡ m.client.rev
      → (ks n).client.connected ≡ m.client.connected → StandsBut told_by failures stops_alone alone rs mid n w ks
      → IsAnswered told_by failures stops_alone alone rs mid.machine w.pad (asks w ks now n m) (Ok (ResumeAnswer (catch_up_of x))) new.machine
      → new.id ≡ mid.id → PutsActor mid.actors n (actor.Named (kept_member_resumed x.session x.head (kept_member_lost (member_of m (ks n))))) new.actors
      → Comes told_by failures stops_alone alone rs w ks now (told.Resume n) new (Ok (shown.Resumed n x.session x.head))
  resumed mid new w ks now n m x is rev on but a i puts = (
    ap is_client is,
    refl,
    IsEvent true
        (ap (λ y. shown.Resumed n y x.head) session ∙ ap (shown.Resumed n (next_session w.pad)) heads ∙ sym (shows-as w ks now n m is rev None u.0))
        (ap (shows_full (told.Resume n)) (subst (λ o. full_in rs w.pad (record_in o) ≡ None) u.1 a.2)) (λ _. tt)
        (subst (λ y. StandsFor told_by failures stops_alone alone rs new y (kept_happens w ks (AskedResume n))) (sym (resumes-as w ks now n m is rev None u.0))
        (subst (StandsFor told_by failures stops_alone alone rs new (resume_if w n (lost_member m) None)) (sym (kept-as w ks now n m is None u.0))
        (record {
          machine = subst (λ o. IsAt told_by failures stops_alone alone (behind rs (record_in o)) new.machine (pad_after w.pad o)) u.1 a.1;
          id = i ∙ but.id;
          actors = put-actors mid.actors new.actors w ks n (Named (resume_member w.pad (lost_member m))) comes
              (actor.Named (kept_member_resumed x.session x.head (kept_member_lost (member_of m (ks n))))) but.actors puts put-is;
        }))),
  )
    where
      u : (fault w ks now n m ≡ None) × (outcome w.pad (asks w ks now n m) ≡ Answers (ResumeAnswer (catch_up w.pad)) (with_session w.pad (author_of n) false))
      u = unless-answers (fault w ks now n m) (Answers (ResumeAnswer (catch_up w.pad)) (with_session w.pad (author_of n) false)) (ResumeAnswer (catch_up_of x)) a.0

      same : Some (ResumeAnswer (catch_up w.pad)) ≡ Some (ResumeAnswer (catch_up_of x)) → catch_up_of x ≡ catch_up w.pad
      same e = cc

      q : catch_up_of x ≡ catch_up w.pad
      q = same (sym (ap answer_of u.1) ∙ a.0)

      session : x.session ≡ next_session w.pad
      session = ap (λ (y : ACatchUp). y.session) q

      heads : x.head ≡ head (newest w.pad)
      heads = ap (λ (y : ACatchUp). y.head) q

      comes : UndoState
      comes = undo_resumes (next_session w.pad) (head (newest w.pad)) (ks n)

      was : Member
      was = member_of (lost_member m) (undo_lost (ks n))

      put-is : Some (actor.Named (member_of (resume_member w.pad (lost_member m)) comes)) ≡ Some (actor.Named (kept_member_resumed x.session x.head (kept_member_lost (member_of m (ks n)))))
      put-is =
          ap (λ r. Some (actor.Named (record was { client = comes; conn = kept_new (next_session w.pad) r; earlier = Some (conn_of (lost_member m).conn) }))) ((lost-same m).0 ∙ sym rev)
          ∙ ap (λ s. Some (actor.Named (kept_member_resumed s (head (newest w.pad)) was))) (sym session)
          ∙ ap (λ h. Some (actor.Named (kept_member_resumed x.session h was))) (sym heads)
          ∙ ap (λ y. Some (actor.Named (kept_member_resumed x.session x.head y))) (sym (member-lost m (ks n) on))

  -- its turn
  pub refused-turn : (old new : World D) (w : WorldState) (ks : Kepts) (n : Name) (now : ℕ) (m l : Member) (g : Grant) (r : ℕ) (b : PadBad) → IsRun w ks → StandsFor told_by failures stops_alone alone rs old w ks
      → new.id ≡ old.id → IsTurn old.actors n m l new.actors → l ≡ kept_member_lost m → g ≡ grant_of w n false → r ≡ l.client.client.rev
      → MakesMarked told_by failures stops_alone alone old.machine (Resume g r (Some l.birth) None now) (Err b) new.machine
      → Comes told_by failures stops_alone alone rs w ks now (told.Resume n) new (shown_or_failed verb.Resume (Some n) b)
  refused-turn old new w ks n now m l g r b run stands id t is p q makes =
      resume-refused (record old { actors = t.between }) new w ks now n z.0 b z.1 k.rev k.connected
      (lent told_by failures stops_alone alone rs old (record old { actors = t.between }) n w ks stands stands.machine refl t.without)
      (subst (λ e. IsAnswered told_by failures stops_alone alone rs old.machine w.pad e (Err b) new.machine) (asked w ks now n z.0 m l g r k.connected z.2 is p q)
      (answered told_by failures stops_alone alone rs old.machine new.machine w.pad (Resume g r (Some l.birth) None now) (Err b) stands.machine makes))
      id (subst (λ y. PutsActor t.between n (actor.Named y) new.actors) (is ∙ ap kept_member_lost z.2) t.seated)
    where
      z : (x : AMember) × (w.actors n ≡ Named x) × (m ≡ member_of x (ks n))
      z = is-named (w.actors n) (ks n) m (sym (stands.actors n) ∙ t.taken)

      k : Keeps (birth_at w.pad z.0.birth) z.0.client (ks n).client
      k = keeps w ks n z.0 run z.1

  pub resumed-turn : (old new : World D) (w : WorldState) (ks : Kepts) (n : Name) (now : ℕ) (m l m' : Member) (g : Grant) (r : ℕ) (x : CatchUp) → IsRun w ks → StandsFor told_by failures stops_alone alone rs old w ks
      → new.id ≡ old.id → IsTurn old.actors n m m' new.actors → l ≡ kept_member_lost m → m' ≡ kept_member_resumed x.session x.head l → g ≡ grant_of w n false → r ≡ l.client.client.rev
      → MakesMarked told_by failures stops_alone alone old.machine (Resume g r (Some l.birth) None now) (Ok (ResumeAnswer (catch_up_of x))) new.machine
      → Comes told_by failures stops_alone alone rs w ks now (told.Resume n) new (Ok (shown.Resumed n x.session x.head))
  resumed-turn old new w ks n now m l m' g r x run stands id t is now-is p q makes =
      resumed (record old { actors = t.between }) new w ks now n z.0 x z.1 k.rev k.connected
      (lent told_by failures stops_alone alone rs old (record old { actors = t.between }) n w ks stands stands.machine refl t.without)
      (subst (λ e. IsAnswered told_by failures stops_alone alone rs old.machine w.pad e (Ok (ResumeAnswer (catch_up_of x))) new.machine) (asked w ks now n z.0 m l g r k.connected z.2 is p q)
      (answered told_by failures stops_alone alone rs old.machine new.machine w.pad (Resume g r (Some l.birth) None now) (Ok (ResumeAnswer (catch_up_of x))) stands.machine makes))
      id (subst (λ y. PutsActor t.between n (actor.Named y) new.actors) (now-is ∙ ap (kept_member_resumed x.session x.head) (is ∙ ap kept_member_lost z.2)) t.seated)
    where
      z : (x : AMember) × (w.actors n ≡ Named x) × (m ≡ member_of x (ks n))
      z = is-named (w.actors n) (ks n) m (sym (stands.actors n) ∙ t.taken)

      k : Keeps (birth_at w.pad z.0.birth) z.0.client (ks n).client
      k = keeps w ks n z.0 run z.1
