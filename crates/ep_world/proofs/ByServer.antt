-- Events that the pad alone answers.
use Rattle.std.proofs.Common.{◌≡◌, ℕ, Bool, List, true, Option, Some, None, Result, Ok, Err, if◌then◌else◌, refl, sym, ap, ◌∙◌, subst}
use Rattle.ep_units.specs.Text.{Text, is_well_formed}
use Rattle.ep_cs.specs.Change.{Change}
use Rattle.ep_outside.specs.Disk.{Contents}
use Rattle.ep_history.specs.Entries.{Entry, Answer, outcome}
use Rattle.ep_history.specs.Entries.Answer.{CommitAnswer}
use Rattle.ep_history.specs.Entries.Entry.{Create, SetText, Delete}
use Rattle.ep_history.specs.Entries.Outcome.{Refuses}
use Rattle.ep_history.specs.History.{first_rev}
use Rattle.ep_history.specs.Pad.{PadState, create, delete}
use Rattle.ep_history.specs.Readings.{Committed, revised}
use Rattle.ep_history.specs.Server.{create_fault, gone_fault, set_fault, set_head, set_text}
use Rattle.ep_history.specs.declared.pad_bad.PadBad.{PadBad}
use Rattle.ep_history.specs.declared.pad_bad.PadBad.TheVariants as bad
use Rattle.ep_schedule.specs.World.{Name, WorldState, pad_if, with_pad}
use Rattle.ep_world.specs.Kepts.{Kepts}
use Rattle.ep_event.specs.declared.event.Event.{Event as Told}
use Rattle.ep_event.specs.declared.event.Event.TheVariants as told
use Rattle.ep_event.specs.declared.shown.Shown.{Shown}
use Rattle.ep_event.specs.declared.shown.Shown.TheVariants as shown
use Rattle.ep_event.specs.declared.shown.Verb.{Verb}
use Rattle.ep_event.specs.declared.shown.Verb.TheVariants as verb
use Rattle.ep_world.specs.declared.bad.WorldBad.{WorldBad}
use Rattle.ep_world.specs.declared.world.World.{World}
use Rattle.ep_members.specs.Actors.{found}
use Rattle.ep_world.specs.Events.{event_at, happened, has_text, is_known, kept_happened}
use Rattle.ep_world.specs.Failing.{shown_or_failed}
use Rattle.ep_world.specs.Shows.{pad_refuses, shows, shows_created, shows_deleted, shows_set}
use Rattle.ep_world.specs.Journal.{Decides, behind, full_for, full_in, journal_after, journal_full, no_room, record_at, record_in, shows_full}
use Rattle.ep_world.specs.Standing.{Comes, IsAnswered, IsAt, StandsFor, answer_of, overfull_at, pad_after}
use Rattle.ep_world.specs.Standing.IsPlayed.{IsEvent, HasNoRoom}
use Rattle.ep_world.proofs.Brought.{unless-answers, unless-refuses}
use Rattle.ep_history.specs.declared.record.Record.{Record}

-- what a refusal by the pad shows, and that it leaves the world, which then stands like this
pub record Refusing (w x : WorldState) (ks js : Kepts) (pad : PadState) (now : ℕ) (e : Told) (entry : Entry) (v : Verb) (n : Option Name) : Type 0 where
  pub known : is_known w e ≡ true
  pub text : has_text e ≡ true
  pub shown : (b : PadBad) → outcome pad entry ≡ Refuses b → shows w ks now true e ≡ pad_refuses v n b
  pub leaves : (b : PadBad) → outcome pad entry ≡ Refuses b → (happened w (event_at w ks now true e) ≡ x) × (kept_happened w ks e (event_at w ks now true e) ≡ js)
  pub room : (k : ℕ) → no_room e (bad.JournalFull k) ≡ Some (pad_refuses v n (bad.JournalFull k))
  pub adds : record_at w now e ≡ record_in (outcome pad entry)
  pub after : (rs : List Record) → journal_after rs w now true e ≡ behind rs (record_at w now e)
  pub decides : (rs : List Record) → Decides rs w now e true
  pub same : w.pad ≡ pad
  pub fulls : (rs : List Record) → full_for rs w now true e ≡ full_in rs w.pad (record_at w now e)
  pub left : (rs : List Record) → journal_full rs w now true e ≡ rs
  pub full : (rs : List Record) → (happened w (overfull_at rs w now true e) ≡ x) × (kept_happened w ks e (overfull_at rs w now true e) ≡ js)

module _ {D : Type 0} (told_by : D → Option Contents) (failures : D → ℕ) (stops_alone : D → Bool) (alone : Bool) (rs : List Record) where
  -- an event is refused by the pad
  pub pad-refuses : (old new : World D) (w x : WorldState) (ks js : Kepts) (pad : PadState) (now : ℕ) (e : Told) (entry : Entry) (v : Verb) (n : Option Name) (b : PadBad)
      → Refusing w x ks js pad now e entry v n → IsAnswered told_by failures stops_alone alone rs old.machine pad entry (Err b) new.machine
      → (IsAt told_by failures stops_alone alone rs new.machine pad → StandsFor told_by failures stops_alone alone rs new x js) → Comes told_by failures stops_alone alone rs w ks now e new (shown_or_failed v n b)
  pad-refuses old new w x ks js pad now e entry v n b f a stands = go b a
    where
      come : Result Shown WorldBad → Type 0
      come r = Comes told_by failures stops_alone alone rs w ks now e new r

      -- nothing is recorded where it is refused
      unrecorded : (b : PadBad) → outcome pad entry ≡ Refuses b → record_at w now e ≡ None
      unrecorded b h = f.adds ∙ ap record_in h

      plain : (b : PadBad) → (outcome pad entry ≡ Refuses b) × IsAt told_by failures stops_alone alone rs new.machine pad × (full_in rs pad None ≡ None) → come (Ok (pad_refuses v n b))
      plain b h =
          let l = f.leaves b h.0 in
          let u = unrecorded b h.0 in (
            f.known,
            f.text,
            IsEvent true (sym (f.shown b h.0)) (ap (shows_full e) (f.fulls rs ∙ ap (full_in rs w.pad) u ∙ ap (λ p. full_in rs p None) f.same ∙ h.2)) (λ _. f.decides rs)
                (subst (λ q. StandsFor told_by failures stops_alone alone q new (happened w (event_at w ks now true e)) (kept_happened w ks e (event_at w ks now true e)))
                (sym (f.after rs ∙ ap (behind rs) u))
                (subst (λ y. StandsFor told_by failures stops_alone alone rs new y (kept_happened w ks e (event_at w ks now true e))) (sym l.0)
                (subst (StandsFor told_by failures stops_alone alone rs new x) (sym l.1) (stands h.1)))),
          )

      go : (b : PadBad) → IsAnswered told_by failures stops_alone alone rs old.machine pad entry (Err b) new.machine → come (shown_or_failed v n b)
      go (bad.Store k) a = tt
      go bad.NoMemory a = tt
      go (bad.JournalFull k) (m, h) = (
        f.known,
        f.text,
        HasNoRoom true
            (ap (shows_full e) (f.fulls rs ∙ ap (full_in rs w.pad) f.adds ∙ ap (λ p. full_in rs p (record_in (outcome pad entry))) f.same ∙ h) ∙ f.room k) (λ _. f.decides rs)
            (subst (λ q. StandsFor told_by failures stops_alone alone q new (happened w (overfull_at rs w now true e)) (kept_happened w ks e (overfull_at rs w now true e))) (sym (f.left rs))
            (subst (λ y. StandsFor told_by failures stops_alone alone rs new y (kept_happened w ks e (overfull_at rs w now true e))) (sym (f.full rs).0)
            (subst (StandsFor told_by failures stops_alone alone rs new x) (sym (f.full rs).1) (stands m)))),
      )
      go (bad.Dead why) a = plain (bad.Dead why) a
      go (bad.Denied k) a = plain (bad.Denied k) a
      go (bad.Full k) a = plain (bad.Full k) a
      go bad.Gone a = plain bad.Gone a
      go (bad.BadRev k) a = plain (bad.BadRev k) a
      go (bad.NoRev k) a = plain (bad.NoRev k) a
      go bad.Exists a = plain bad.Exists a
      go bad.ReadOnly a = plain bad.ReadOnly a
      go (bad.NoBase k) a = plain (bad.NoBase k) a
      go (bad.Author k) a = plain (bad.Author k) a
      go (bad.Fit why) a = plain (bad.Fit why) a
      go (bad.TooLong k) a = plain (bad.TooLong k) a
      go bad.Foreign a = plain bad.Foreign a
      go (bad.BadRecord k) a = plain (bad.BadRecord k) a

  -- the same actors over another pad
  pub with-pad : (qs : List Record) (old new : World D) (w : WorldState) (ks : Kepts) (pad : PadState) → StandsFor told_by failures stops_alone alone rs old w ks
      → IsAt told_by failures stops_alone alone qs new.machine pad → new.id ≡ old.id → new.actors ≡ old.actors → StandsFor told_by failures stops_alone alone qs new (with_pad w pad) ks
  with-pad qs old new w ks pad s m i a = record { machine = m; id = i ∙ s.id; actors = λ q. ap (λ x. found x q) a ∙ s.actors q }

  -- ---- a birth

  create-refusing : (w : WorldState) (ks : Kepts) (now : ℕ) (text : Text) → is_well_formed text ≡ true
      → Refusing w w ks ks w.pad now (told.Create text) (Create text now) verb.Create None
  create-refusing w ks now text t = record {
    known = refl;
    text = t;
    shown = λ b h. ap (shows_created (first_rev now text)) (fault b h);
    leaves = λ b h. (ap (λ u. if u then pad_if w (create w.pad now text) (create_fault w.pad text) else w) t ∙ ap (pad_if w (create w.pad now text)) (fault b h), refl);
    room = λ k. refl;
    adds = refl;
    after = λ rs. refl;
    decides = λ rs. tt;
    same = refl;
    fulls = λ rs. refl;
    left = λ rs. refl;
    full = λ rs. (refl, refl);
  }
    where
      fault : (b : PadBad) → outcome w.pad (Create text now) ≡ Refuses b → create_fault w.pad text ≡ Some b
      fault b h = unless-refuses (create_fault w.pad text) _ _ _ b h

  pub create-refused : (old new : World D) (w : WorldState) (ks : Kepts) (now : ℕ) (text : Text) (b : PadBad) → is_well_formed text ≡ true → StandsFor told_by failures stops_alone alone rs old w ks
      → IsAnswered told_by failures stops_alone alone rs old.machine w.pad (Create text now) (Err b) new.machine → new.id ≡ old.id → new.actors ≡ old.actors
      → Comes told_by failures stops_alone alone rs w ks now (told.Create text) new (shown_or_failed verb.Create None b)
  create-refused old new w ks now text b t s a i e =
      pad-refuses old new w w ks ks w.pad now (told.Create text) (Create text now) verb.Create None b (create-refusing w ks now text t) a
      (λ m. with-pad rs old new w ks w.pad s m i e)

  pub created : (old new : World D) (w : WorldState) (ks : Kepts) (now : ℕ) (text : Text) (a : Answer) (c : Change) → c ≡ (first_rev now text).change → is_well_formed text ≡ true → StandsFor told_by failures stops_alone alone rs old w ks
      → IsAnswered told_by failures stops_alone alone rs old.machine w.pad (Create text now) (Ok a) new.machine → new.id ≡ old.id → new.actors ≡ old.actors
      → Comes told_by failures stops_alone alone rs w ks now (told.Create text) new (Ok (shown.Created c))
  created old new w ks now text a c q t s x i e =
      let u = unless-answers (create_fault w.pad text) _ a x.0 in
      let m = subst (λ o. IsAt told_by failures stops_alone alone (behind rs (record_in (outcome w.pad (Create text now)))) new.machine (pad_after w.pad o)) u.1 x.1 in (
        refl,
        t,
        IsEvent true (ap (λ y. shown.Created y) q ∙ ap (shows_created (first_rev now text)) (sym u.0)) (ap (shows_full (told.Create text)) x.2) (λ _. tt)
            (subst (λ y. StandsFor told_by failures stops_alone alone (journal_after rs w now true (told.Create text)) new y ks)
            (sym (ap (λ v. if v then pad_if w (create w.pad now text) (create_fault w.pad text) else w) t ∙ ap (pad_if w (create w.pad now text)) u.0))
            (with-pad _ old new w ks (create w.pad now text) s m i e)),
      )

  -- ---- a text that is set

  set-refusing : (w : WorldState) (ks : Kepts) (now : ℕ) (text : Text) → is_well_formed text ≡ true
      → Refusing w w ks ks w.pad now (told.SetText text) (SetText text now) verb.Set None
  set-refusing w ks now text t = record {
    known = refl;
    text = t;
    shown = λ b h. ap (shows_set (revised w.pad (set_head w.pad text))) (fault b h);
    leaves = λ b h. (ap (λ u. if u then pad_if w (set_text w.pad now text) (set_fault w.pad text) else w) t ∙ ap (pad_if w (set_text w.pad now text)) (fault b h), refl);
    room = λ k. refl;
    adds = refl;
    after = λ rs. refl;
    decides = λ rs. tt;
    same = refl;
    fulls = λ rs. refl;
    left = λ rs. refl;
    full = λ rs. (refl, refl);
  }
    where
      fault : (b : PadBad) → outcome w.pad (SetText text now) ≡ Refuses b → set_fault w.pad text ≡ Some b
      fault b h = unless-refuses (set_fault w.pad text) _ _ _ b h

  pub set-refused : (old new : World D) (w : WorldState) (ks : Kepts) (now : ℕ) (text : Text) (b : PadBad) → is_well_formed text ≡ true → StandsFor told_by failures stops_alone alone rs old w ks
      → IsAnswered told_by failures stops_alone alone rs old.machine w.pad (SetText text now) (Err b) new.machine → new.id ≡ old.id → new.actors ≡ old.actors
      → Comes told_by failures stops_alone alone rs w ks now (told.SetText text) new (shown_or_failed verb.Set None b)
  set-refused old new w ks now text b t s a i e =
      pad-refuses old new w w ks ks w.pad now (told.SetText text) (SetText text now) verb.Set None b (set-refusing w ks now text t) a
      (λ m. with-pad rs old new w ks w.pad s m i e)

  pub text-set : (old new : World D) (w : WorldState) (ks : Kepts) (now : ℕ) (text : Text) (c : Committed) → is_well_formed text ≡ true → StandsFor told_by failures stops_alone alone rs old w ks
      → IsAnswered told_by failures stops_alone alone rs old.machine w.pad (SetText text now) (Ok (CommitAnswer c)) new.machine → new.id ≡ old.id → new.actors ≡ old.actors
      → Comes told_by failures stops_alone alone rs w ks now (told.SetText text) new (Ok (shows_set c None))
  text-set old new w ks now text c t s x i e =
      let u = unless-answers (set_fault w.pad text) _ (CommitAnswer c) x.0 in
      let m = subst (λ o. IsAt told_by failures stops_alone alone (behind rs (record_in (outcome w.pad (SetText text now)))) new.machine (pad_after w.pad o)) u.1 x.1 in
      let q : revised w.pad (set_head w.pad text) ≡ c = same (sym (ap answer_of u.1) ∙ x.0) in (
        refl,
        t,
        IsEvent true (ap (λ d. shows_set d None) (sym q) ∙ ap (shows_set (revised w.pad (set_head w.pad text))) (sym u.0)) (ap (shows_full (told.SetText text)) x.2) (λ _. tt)
            (subst (λ y. StandsFor told_by failures stops_alone alone (journal_after rs w now true (told.SetText text)) new y ks)
            (sym (ap (λ v. if v then pad_if w (set_text w.pad now text) (set_fault w.pad text) else w) t ∙ ap (pad_if w (set_text w.pad now text)) u.0))
            (with-pad _ old new w ks (set_text w.pad now text) s m i e)),
      )
    where
      same : Some (CommitAnswer (revised w.pad (set_head w.pad text))) ≡ Some (CommitAnswer c) → revised w.pad (set_head w.pad text) ≡ c
      same h = cc

  -- ---- a deletion

  delete-refusing : (w : WorldState) (ks : Kepts) (now : ℕ) → Refusing w w ks ks w.pad now told.Delete (Delete now) verb.Drop None
  delete-refusing w ks now = record {
    known = refl;
    text = refl;
    shown = λ b h. ap shows_deleted (fault b h);
    leaves = λ b h. (ap (pad_if w (delete w.pad)) (fault b h), refl);
    room = λ k. refl;
    adds = refl;
    after = λ rs. refl;
    decides = λ rs. tt;
    same = refl;
    fulls = λ rs. refl;
    left = λ rs. refl;
    full = λ rs. (refl, refl);
  }
    where
      fault : (b : PadBad) → outcome w.pad (Delete now) ≡ Refuses b → gone_fault w.pad ≡ Some b
      fault b h = unless-refuses (gone_fault w.pad) _ _ _ b h

  pub delete-refused : (old new : World D) (w : WorldState) (ks : Kepts) (now : ℕ) (b : PadBad) → StandsFor told_by failures stops_alone alone rs old w ks
      → IsAnswered told_by failures stops_alone alone rs old.machine w.pad (Delete now) (Err b) new.machine → new.id ≡ old.id → new.actors ≡ old.actors
      → Comes told_by failures stops_alone alone rs w ks now told.Delete new (shown_or_failed verb.Drop None b)
  delete-refused old new w ks now b s a i e =
      pad-refuses old new w w ks ks w.pad now told.Delete (Delete now) verb.Drop None b (delete-refusing w ks now) a
      (λ m. with-pad rs old new w ks w.pad s m i e)

  pub deleted : (old new : World D) (w : WorldState) (ks : Kepts) (now : ℕ) (a : Answer) → StandsFor told_by failures stops_alone alone rs old w ks
      → IsAnswered told_by failures stops_alone alone rs old.machine w.pad (Delete now) (Ok a) new.machine → new.id ≡ old.id → new.actors ≡ old.actors
      → Comes told_by failures stops_alone alone rs w ks now told.Delete new (Ok (shows_deleted None))
  deleted old new w ks now a s x i e =
      let u = unless-answers (gone_fault w.pad) _ a x.0 in
      let m = subst (λ o. IsAt told_by failures stops_alone alone (behind rs (record_in (outcome w.pad (Delete now)))) new.machine (pad_after w.pad o)) u.1 x.1 in (
        refl,
        refl,
        IsEvent true (ap shows_deleted (sym u.0)) (ap (shows_full told.Delete) x.2) (λ _. tt)
            (subst (λ y. StandsFor told_by failures stops_alone alone (journal_after rs w now true told.Delete) new y ks) (sym (ap (pad_if w (delete w.pad)) u.0))
            (with-pad _ old new w ks (delete w.pad) s m i e)),
      )
