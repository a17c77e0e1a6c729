-- The server takes the first message of a name.
use Rattle.std.proofs.Common.{◌≡◌, ℕ, Bool, true, false, if◌then◌else◌, not, List, [], ◌∷◌, ◌++◌, Option, Some, None, Ok, Err, refl, sym, ap, ◌∙◌, subst}
use Rattle.ep_outside.specs.Disk.{Contents}
use Rattle.ep_cs.specs.EditFits.{is_edit}
use Rattle.ep_units.specs.declared.session.Session.{Session}
use Rattle.ep_history.specs.Accept.{at_head, seat_fault}
use Rattle.ep_history.specs.Pad.{PadState, leave, seat_of}
use Rattle.ep_history.specs.Readings.{commit, dead_if, end_of}
use Rattle.ep_history.specs.Records.{accept_record}
use Rattle.ep_history.specs.declared.pad_bad.PadBad.{PadBad}
use Rattle.ep_history.proofs.Lists.{none_some}
use Rattle.ep_pad.specs.Held.{Held}
use Rattle.ep_schedule.specs.World.{Name, Actor as AnActor, Conn, Member as AMember, Message, Reason as AReason, WorldState, closing, refusal_word, happens, late_as, late_by, late_first, late_of, overfull_by, overfull_first_guest, overfull_first_named, overfull_guest, overfull_named, put, reason, take_by, take_first_guest, take_first_named, take_guest, take_named, with_conn, with_earlier, with_up}
use Rattle.ep_schedule.specs.World.Actor.{Guest, Named}
use Rattle.ep_schedule.specs.World.Event.{Take as AskedTake, Late as AskedLate, Overfull as AskedFull}
use Rattle.ep_schedule.specs.World.Word.{BadChangeset, JournalFull}
use Rattle.ep_schedule.specs.World.Reason.{Unread, Refused}
use Rattle.ep_history.specs.declared.pad_bad.PadBad.TheVariants as bad
use Rattle.ep_history.specs.declared.seat.Why.TheVariants as end
use Rattle.ep_schedule.specs.Headline.{first_sent, next_up}
use Rattle.ep_world.specs.Kepts.{Kepts, kept_happens}
use Rattle.ep_event.specs.declared.event.Event.{Event as Told}
use Rattle.ep_event.specs.declared.event.Event.TheVariants as told
use Rattle.ep_event.specs.declared.shown.Ended.TheVariants as ended
use Rattle.ep_event.specs.declared.shown.Shown.TheVariants as shown
use Rattle.ep_event.specs.declared.shown.Verb.TheVariants as verb
use Rattle.ep_members.specs.declared.actors.Actor.{Actor}
use Rattle.ep_members.specs.declared.actors.Actor.TheVariants as actor
use Rattle.ep_world.specs.declared.bad.WorldBad.{WorldBad}
use Rattle.ep_world.specs.declared.bad.WorldBad.TheVariants as world_bad
use Rattle.ep_world.specs.Failing.{IsFailure}
use Rattle.ep_world.specs.declared.taking.Took.{Took}
use Rattle.ep_world.specs.declared.taking.Took.TheVariants as took
use Rattle.ep_world.specs.declared.world.World.{World}
use Rattle.ep_members.specs.Actors.{PutsActor}
use Rattle.ep_world.specs.Actors.{actor_of, member_of}
use Rattle.ep_world.specs.Conns.{conn_of, word_of}
use Rattle.ep_members.specs.Conns.{kept_closing, kept_closing_if}
use Rattle.ep_world.specs.Events.{is_client, is_nobody, of_client}
use Rattle.ep_world.specs.Journal.{full_by, full_for, full_in, full_take, is_shut, record_at, record_if, record_taken, shows_full, unopened}
use Rattle.ep_world.specs.Shows.{late_up, reason_of, shows_first, shows_made, shows_taken}
use Rattle.ep_world.specs.Standing.{Comes, IsAt, StandsBut, StandsFor}
use Rattle.ep_world.specs.Standing.IsPlayed.{HasNoRoom}
use Rattle.ep_world.specs.Taking.{Brings, Settles, closing_of, closing_word, shows_late, shows_took}
use Rattle.ep_world.proofs.Brought.{dead-left, reason-of, reason-unread}
use Rattle.ep_world.proofs.Conns.{conn-closing}
use Rattle.ep_world.proofs.Journal.{recorded}
use Rattle.ep_world.proofs.Seating.{put-actors-kept, put-same}
use Rattle.ep_history.specs.declared.record.Record.{Record}

-- who is somebody has a name that may be taken from
somebody : (a : AnActor) (c : Conn) → a ≡ Guest c → not (is_nobody a) ≡ true
somebody a c e = ap (λ x. not (is_nobody x)) e

somebody-named : (a : AnActor) (m : AMember) → a ≡ Named m → not (is_nobody a) ≡ true
somebody-named a m e = ap (λ x. not (is_nobody x)) e

-- a refusal closes with the word of the rules
pub closing-word : (r : AReason) → word_of (refusal_word r) ≡ closing_word (reason_of r)
closing-word (Unread None) = refl
closing-word (Unread (Some w)) = refl
closing-word (Refused (bad.Store n)) = refl
closing-word (Refused bad.NoMemory) = refl
closing-word (Refused (bad.JournalFull n)) = refl
closing-word (Refused (bad.Dead (end.Deleted n))) = refl
closing-word (Refused (bad.Dead (end.Replaced n))) = refl
closing-word (Refused (bad.Dead (end.Reopened n))) = refl
closing-word (Refused (bad.Dead end.Left)) = refl
closing-word (Refused (bad.Denied n)) = refl
closing-word (Refused (bad.Full n)) = refl
closing-word (Refused bad.Gone) = refl
closing-word (Refused (bad.BadRev n)) = refl
closing-word (Refused (bad.NoRev n)) = refl
closing-word (Refused bad.Exists) = refl
closing-word (Refused bad.ReadOnly) = refl
closing-word (Refused (bad.NoBase n)) = refl
closing-word (Refused (bad.Author n)) = refl
closing-word (Refused (bad.Fit w)) = refl
closing-word (Refused (bad.TooLong n)) = refl
closing-word (Refused bad.Foreign) = refl
closing-word (Refused (bad.BadRecord n)) = refl

-- ---- whether there is room for a message

if-none : (b : Bool) (f : Option PadBad) → f ≡ None → (if b then f else None) ≡ None
if-none true f e = e
if-none false f e = refl

-- a message that nothing refuses has a text that spells a change
read-edit : (pad : PadState) (s : Session) (msg : Message) → reason pad s msg ≡ None → is_edit msg.change.edit ≡ true
read-edit pad s msg e = go (is_edit msg.change.edit) refl
  where
    go : (b : Bool) → is_edit msg.change.edit ≡ b → is_edit msg.change.edit ≡ true
    go true h = h
    go false h = none_some (sym e ∙ reason-unread pad s msg h)

-- one of a session of an older opening is refused for that
old-reason : (pad : PadState) (s : Session) (msg : Message) → is_edit msg.change.edit ≡ true → seat_of pad s ≡ None → reason pad s msg ≡ Some (Refused (bad.Dead (end.Reopened pad.epoch)))
old-reason pad s msg i h = reason-of pad s msg (Some (bad.Dead (end.Reopened pad.epoch))) i (ap (λ o. seat_fault pad o msg.base msg.change) h)

module _ (rs : List Record) (pad : PadState) (s : Session) (now : ℕ) (msg : Message) where
  -- what is recorded of it
  abbrev by : Option AReason → Option PadBad
  by r = if is_edit msg.change.edit then full_in rs pad (record_if pad s now msg r) else None

  full-made : reason pad s msg ≡ None → full_in rs pad (Some (accept_record pad s now msg.base msg.change)) ≡ None → full_take rs pad now (Some (s, msg)) ≡ None
  full-made e f = ap by e ∙ if-none (is_edit msg.change.edit) (full_in rs pad (Some (accept_record pad s now msg.base msg.change))) f

  full-refused : (r : AReason) → reason pad s msg ≡ Some r → (if is_edit msg.change.edit then full_in rs pad None else None) ≡ None → full_take rs pad now (Some (s, msg)) ≡ None
  full-refused r e f = ap by e ∙ f

  full-room : (b : PadBad) → reason pad s msg ≡ None → is_shut rs pad ≡ false → full_by rs pad (Some (accept_record pad s now msg.base msg.change)) ≡ Some b → full_take rs pad now (Some (s, msg)) ≡ Some b
  full-room b e h f =
      ap by e ∙ ap (λ t. if t then full_in rs pad (Some (accept_record pad s now msg.base msg.change)) else None) (read-edit pad s msg e)
      ∙ ap (λ t. if t then unopened rs pad else full_by rs pad (Some (accept_record pad s now msg.base msg.change))) h ∙ f

  full-shut : (b : PadBad) → is_edit msg.change.edit ≡ true → {r : AReason} → reason pad s msg ≡ Some r → is_shut rs pad ≡ true → unopened rs pad ≡ Some b → full_take rs pad now (Some (s, msg)) ≡ Some b
  full-shut b i e h f =
      ap by e ∙ ap (λ t. if t then full_in rs pad None else None) i ∙ ap (λ t. if t then unopened rs pad else full_by rs pad None) h ∙ f

module _ {D : Type 0} (told_by : D → Option Contents) (failures : D → ℕ) (stops_alone : D → Bool) (alone : Bool) (rs : List Record) where
  -- the name stands for somebody else now, whose client is kept as before
  seated : (qs : List Record) (mid new : World D) (n : Name) (w v : WorldState) (ks : Kepts) (x : AnActor) → StandsBut told_by failures stops_alone alone rs mid n w ks → IsAt told_by failures stops_alone alone qs new.machine v.pad
      → new.id ≡ mid.id → v.id ≡ w.id → v.actors ≡ put w.actors n x → (a : Actor) → actor_of x (ks n) ≡ Some a → PutsActor mid.actors n a new.actors
      → StandsFor told_by failures stops_alone alone qs new v ks
  seated qs mid new n w v ks x s m i j e a is p = record {
    machine = m;
    id = i ∙ s.id ∙ sym j;
    actors = λ q. put-actors-kept mid.actors new.actors w ks n x a s.actors p is q ∙ sym (ap (λ f. actor_of (f q) (ks q)) e);
  }

  -- what stands where there is no room, by whether the pad is shut
  abbrev AtFull : WorldState → Kepts → ℕ → Name → World D → Bool → Type 0
  AtFull w ks now n new t =
      StandsFor told_by failures stops_alone alone rs new (happens w (if t then AskedTake now n else AskedFull n)) (kept_happens w ks (if t then AskedTake now n else AskedFull n))

  -- a session of an older opening is left by nothing
  left-there : (qs : List Record) (new : Held D) (pad : PadState) (t : Session) → seat_of pad t ≡ None → IsAt told_by failures stops_alone alone qs new pad
      → IsAt told_by failures stops_alone alone qs new (leave pad t)
  left-there qs new pad t h a =
      subst (IsAt told_by failures stops_alone alone qs new) (sym (dead-left pad t (bad.Dead (end.Reopened pad.epoch)) (ap (λ o. dead_if (end_of pad.epoch o)) h))) a

  -- a failure below is one of the world
  pub fails : (new : World D) (w : WorldState) (ks : Kepts) (now : ℕ) (e : Told) (b : WorldBad) → IsFailure b → Comes told_by failures stops_alone alone rs w ks now e new (Err b)
  fails new w ks now e world_bad.Unknown f = absurd f
  fails new w ks now e world_bad.NoText f = absurd f
  fails new w ks now e (world_bad.Full n) f = tt
  fails new w ks now e (world_bad.Store n) f = tt
  fails new w ks now e world_bad.NoMemory f = tt

  -- somebody is put back as he was
  pub back : (mid new : World D) (w : WorldState) (ks : Kepts) (n : Name) (x : AnActor) → w.actors n ≡ x → StandsBut told_by failures stops_alone alone rs mid n w ks
      → new.machine ≡ mid.machine → new.id ≡ mid.id → (a : Actor) → actor_of x (ks n) ≡ Some a → PutsActor mid.actors n a new.actors → StandsFor told_by failures stops_alone alone rs new w ks
  back mid new w ks n x is s m i a e p = record {
    machine = subst (λ y. IsAt told_by failures stops_alone alone rs y w.pad) (sym m) s.machine;
    id = i ∙ s.id;
    actors = λ q. put-actors-kept mid.actors new.actors w ks n x a s.actors p e q ∙ ap (λ y. actor_of y (ks q)) (put-same w.actors n x is q);
  }

  -- ---- of a guest

  pub guest-nothing : (mid new : World D) (w : WorldState) (ks : Kepts) (now : ℕ) (n : Name) (c : Conn) → w.actors n ≡ Guest c → c.up ≡ [] → StandsBut told_by failures stops_alone alone rs mid n w ks
      → new.machine ≡ mid.machine → new.id ≡ mid.id → PutsActor mid.actors n (actor.Guest (conn_of c)) new.actors
      → Comes told_by failures stops_alone alone rs w ks now (told.Take n) new (Ok (shown.Nothing verb.Take n))
  guest-nothing mid new w ks now n c is none s m i p = (
    somebody (w.actors n) c is,
    refl,
    recorded told_by failures stops_alone alone rs w ks now (told.Take n) new _ None
        (sym (ap (λ x. shows_first verb.Take n w.pad (next_up x)) is ∙ ap (λ us. shows_first verb.Take n w.pad (first_sent c.session us)) none))
        (ap (λ x. record_taken w.pad now (next_up x)) is ∙ ap (λ us. record_taken w.pad now (first_sent c.session us)) none)
        (ap (λ x. full_take rs w.pad now (next_up x)) is ∙ ap (λ us. full_take rs w.pad now (first_sent c.session us)) none) (λ qs. refl) tt
        (subst (λ y. StandsFor told_by failures stops_alone alone rs new y ks) (sym (ap (take_by w now n) is ∙ ap (take_first_guest w now n c) none))
        (back mid new w ks n (Guest c) is s m i (actor.Guest (conn_of c)) refl p)),
  )

  pub guest-took : (mid new : World D) (w : WorldState) (ks : Kepts) (now : ℕ) (n : Name) (c : Conn) (msg : Message) (rest : List Message) (t : Took) → w.actors n ≡ Guest c → c.up ≡ msg ∷ rest
      → StandsBut told_by failures stops_alone alone rs mid n w ks → Settles told_by failures stops_alone alone rs w.pad c.session msg now new.machine t
      → new.id ≡ mid.id → PutsActor mid.actors n (actor.Guest (conn_of (with_up c rest))) new.actors
      → Comes told_by failures stops_alone alone rs w ks now (told.Take n) new (Ok (shows_took verb.Take n t))
  guest-took mid new w ks now n c msg rest t is up s settles i p = go t settles
    where
      d : Conn
      d = with_up c rest

      shows-of : shows_first verb.Take n w.pad (next_up (w.actors n)) ≡ shows_taken verb.Take n (commit w.pad (at_head w.pad msg.base msg.change.edit)) (reason w.pad c.session msg)
      shows-of = ap (λ x. shows_first verb.Take n w.pad (next_up x)) is ∙ ap (λ us. shows_first verb.Take n w.pad (first_sent c.session us)) up

      records : (r : Option AReason) → reason w.pad c.session msg ≡ r → record_at w now (told.Take n) ≡ record_if w.pad c.session now msg r
      records r e =
          ap (λ x. record_taken w.pad now (next_up x)) is ∙ ap (λ us. record_taken w.pad now (first_sent c.session us)) up
          ∙ ap (record_if w.pad c.session now msg) e

      fulls : (f : Option PadBad) → full_take rs w.pad now (Some (c.session, msg)) ≡ f → full_for rs w now true (told.Take n) ≡ f
      fulls f e = ap (λ x. full_take rs w.pad now (next_up x)) is ∙ ap (λ us. full_take rs w.pad now (first_sent c.session us)) up ∙ e

      takes : (r : Option AReason) → reason w.pad c.session msg ≡ r → happens w (AskedTake now n) ≡ take_guest w now n d msg r
      takes r e = ap (take_by w now n) is ∙ ap (take_first_guest w now n c) up ∙ ap (take_guest w now n d msg) e

      stands : (qs : List Record) (v : WorldState) → IsAt told_by failures stops_alone alone qs new.machine v.pad → v.id ≡ w.id → v.actors ≡ put w.actors n (Guest d) → StandsFor told_by failures stops_alone alone qs new v ks
      stands qs v m j e = seated qs mid new n w v ks (Guest d) s m i j e (actor.Guest (conn_of d)) refl p

      go : (t : Took) → Settles told_by failures stops_alone alone rs w.pad c.session msg now new.machine t → Comes told_by failures stops_alone alone rs w ks now (told.Take n) new (Ok (shows_took verb.Take n t))
      go (took.Made x) h = (
        somebody (w.actors n) c is,
        refl,
        recorded told_by failures stops_alone alone rs w ks now (told.Take n) new _ _
            (sym (shows-of ∙ ap (shows_taken verb.Take n (commit w.pad (at_head w.pad msg.base msg.change.edit))) h.0 ∙ ap (shows_made verb.Take n) (sym h.1)))
            (records None h.0) (fulls None (full-made rs w.pad c.session now msg h.0 h.3)) (λ qs. refl) tt
            (subst (λ y. StandsFor told_by failures stops_alone alone (rs ++ accept_record w.pad c.session now msg.base msg.change ∷ []) new y ks) (sym (takes None h.0)) (stands (rs ++ accept_record w.pad c.session now msg.base msg.change ∷ []) (take_guest w now n d msg None) h.2 refl refl)),
      )
      go (took.Refused x) h = (
        somebody (w.actors n) c is,
        refl,
        recorded told_by failures stops_alone alone rs w ks now (told.Take n) new _ _
            (sym (shows-of ∙ ap (shows_taken verb.Take n (commit w.pad (at_head w.pad msg.base msg.change.edit))) h.1 ∙ ap (λ y. shown.Refused verb.Take (Some n) y) (sym h.2)))
            (records (Some h.0) h.1) (fulls None (full-refused rs w.pad c.session now msg h.0 h.1 h.4)) (λ qs. refl) tt
            (subst (λ y. StandsFor told_by failures stops_alone alone rs new y ks) (sym (takes (Some h.0) h.1)) (stands rs (take_guest w now n d msg (Some h.0)) h.3 refl refl)),
      )
      go (took.NoRoom b) h = (
        somebody (w.actors n) c is,
        refl,
        HasNoRoom true (ap (shows_full (told.Take n)) (fulls (Some (bad.JournalFull b)) (full-room rs w.pad c.session now msg (bad.JournalFull b) h.0 h.2 h.3))) (λ _. tt)
            (subst (AtFull w ks now n new) (sym h.2) (subst (λ y. StandsFor told_by failures stops_alone alone rs new y ks) (sym (ap (overfull_by w n) is ∙ ap (overfull_first_guest w n c) up ∙ ap (overfull_guest w n d) h.0))
            (stands rs (overfull_guest w n d None) h.1 refl refl))),
      )
      go (took.Shut b) h = (
        somebody (w.actors n) c is,
        refl,
        HasNoRoom true (ap (shows_full (told.Take n)) (fulls (Some (bad.JournalFull b)) (full-shut rs w.pad c.session now msg (bad.JournalFull b) h.0 (old-reason w.pad c.session msg h.0 h.1) h.3 h.4))) (λ _. tt)
            (subst (AtFull w ks now n new) (sym h.3) (subst (λ y. StandsFor told_by failures stops_alone alone rs new y ks) (sym (takes (Some (Refused (bad.Dead (end.Reopened w.pad.epoch)))) (old-reason w.pad c.session msg h.0 h.1)))
            (stands rs (take_guest w now n d msg (Some (Refused (bad.Dead (end.Reopened w.pad.epoch))))) (left-there rs new.machine w.pad c.session h.1 h.2) refl refl))),
      )

  -- ---- of a client

  pub named-nothing : (mid new : World D) (w : WorldState) (ks : Kepts) (now : ℕ) (n : Name) (m : AMember) → w.actors n ≡ Named m → m.conn.up ≡ [] → StandsBut told_by failures stops_alone alone rs mid n w ks
      → new.machine ≡ mid.machine → new.id ≡ mid.id → PutsActor mid.actors n (actor.Named (member_of m (ks n))) new.actors
      → Comes told_by failures stops_alone alone rs w ks now (told.Take n) new (Ok (shown.Nothing verb.Take n))
  named-nothing mid new w ks now n m is none s k i p = (
    somebody-named (w.actors n) m is,
    refl,
    recorded told_by failures stops_alone alone rs w ks now (told.Take n) new _ None
        (sym (ap (λ x. shows_first verb.Take n w.pad (next_up x)) is ∙ ap (λ us. shows_first verb.Take n w.pad (first_sent m.conn.session us)) none))
        (ap (λ x. record_taken w.pad now (next_up x)) is ∙ ap (λ us. record_taken w.pad now (first_sent m.conn.session us)) none)
        (ap (λ x. full_take rs w.pad now (next_up x)) is ∙ ap (λ us. full_take rs w.pad now (first_sent m.conn.session us)) none) (λ qs. refl) tt
        (subst (λ y. StandsFor told_by failures stops_alone alone rs new y ks) (sym (ap (take_by w now n) is ∙ ap (take_first_named w now n m) none))
        (back mid new w ks n (Named m) is s k i (actor.Named (member_of m (ks n))) refl p)),
  )

  pub named-took : (mid new : World D) (w : WorldState) (ks : Kepts) (now : ℕ) (n : Name) (m : AMember) (msg : Message) (rest : List Message) (t : Took) → w.actors n ≡ Named m → m.conn.up ≡ msg ∷ rest
      → StandsBut told_by failures stops_alone alone rs mid n w ks → Settles told_by failures stops_alone alone rs w.pad m.conn.session msg now new.machine t
      → new.id ≡ mid.id → PutsActor mid.actors n (actor.Named (record (member_of m (ks n)) { conn = kept_closing_if (closing_of t) (conn_of (with_up m.conn rest)) })) new.actors
      → Comes told_by failures stops_alone alone rs w ks now (told.Take n) new (Ok (shows_took verb.Take n t))
  named-took mid new w ks now n m msg rest t is up s settles i p = go t settles p
    where
      d : AMember
      d = with_conn m (with_up m.conn rest)

      shows-of : shows_first verb.Take n w.pad (next_up (w.actors n)) ≡ shows_taken verb.Take n (commit w.pad (at_head w.pad msg.base msg.change.edit)) (reason w.pad m.conn.session msg)
      shows-of = ap (λ x. shows_first verb.Take n w.pad (next_up x)) is ∙ ap (λ us. shows_first verb.Take n w.pad (first_sent m.conn.session us)) up

      records : (r : Option AReason) → reason w.pad m.conn.session msg ≡ r → record_at w now (told.Take n) ≡ record_if w.pad m.conn.session now msg r
      records r e =
          ap (λ x. record_taken w.pad now (next_up x)) is ∙ ap (λ us. record_taken w.pad now (first_sent m.conn.session us)) up
          ∙ ap (record_if w.pad m.conn.session now msg) e

      fulls : (f : Option PadBad) → full_take rs w.pad now (Some (m.conn.session, msg)) ≡ f → full_for rs w now true (told.Take n) ≡ f
      fulls f e = ap (λ x. full_take rs w.pad now (next_up x)) is ∙ ap (λ us. full_take rs w.pad now (first_sent m.conn.session us)) up ∙ e

      takes : (r : Option AReason) → reason w.pad m.conn.session msg ≡ r → happens w (AskedTake now n) ≡ take_named w now n d msg r
      takes r e = ap (take_by w now n) is ∙ ap (take_first_named w now n m) up ∙ ap (take_named w now n d msg) e

      puts : Took → Type 0
      puts t = PutsActor mid.actors n (actor.Named (record (member_of m (ks n)) { conn = kept_closing_if (closing_of t) (conn_of (with_up m.conn rest)) })) new.actors

      go : (t : Took) → Settles told_by failures stops_alone alone rs w.pad m.conn.session msg now new.machine t → puts t → Comes told_by failures stops_alone alone rs w ks now (told.Take n) new (Ok (shows_took verb.Take n t))
      go (took.Made x) h p = (
        somebody-named (w.actors n) m is,
        refl,
        recorded told_by failures stops_alone alone rs w ks now (told.Take n) new _ _
            (sym (shows-of ∙ ap (shows_taken verb.Take n (commit w.pad (at_head w.pad msg.base msg.change.edit))) h.0 ∙ ap (shows_made verb.Take n) (sym h.1)))
            (records None h.0) (fulls None (full-made rs w.pad m.conn.session now msg h.0 h.3)) (λ qs. refl) tt
            (subst (λ y. StandsFor told_by failures stops_alone alone (rs ++ accept_record w.pad m.conn.session now msg.base msg.change ∷ []) new y ks) (sym (takes None h.0))
            (seated (rs ++ accept_record w.pad m.conn.session now msg.base msg.change ∷ []) mid new n w (take_named w now n d msg None) ks (Named d) s h.2 i refl refl (actor.Named (member_of d (ks n))) refl p)),
      )
      go (took.Refused x) h p = (
        somebody-named (w.actors n) m is,
        refl,
        recorded told_by failures stops_alone alone rs w ks now (told.Take n) new _ _
            (sym (shows-of ∙ ap (shows_taken verb.Take n (commit w.pad (at_head w.pad msg.base msg.change.edit))) h.1 ∙ ap (λ y. shown.Refused verb.Take (Some n) y) (sym h.2)))
            (records (Some h.0) h.1) (fulls None (full-refused rs w.pad m.conn.session now msg h.0 h.1 h.4)) (λ qs. refl) tt
            (subst (λ y. StandsFor told_by failures stops_alone alone rs new y ks) (sym (takes (Some h.0) h.1))
            (seated rs mid new n w (take_named w now n d msg (Some h.0)) ks (Named (with_conn d (closing (refusal_word h.0) d.conn))) s h.3 i refl refl
            (actor.Named (record (member_of m (ks n)) { conn = kept_closing (closing_word x) (conn_of d.conn) }))
            (ap (λ y. Some (actor.Named (record (member_of m (ks n)) { conn = y }))) (conn-closing (refusal_word h.0) d.conn ∙ ap (λ e. kept_closing e (conn_of d.conn)) (closing-word h.0 ∙ ap closing_word (sym h.2)))) p)),
      )
      go (took.NoRoom b) h p = (
        somebody-named (w.actors n) m is,
        refl,
        HasNoRoom true (ap (shows_full (told.Take n)) (fulls (Some (bad.JournalFull b)) (full-room rs w.pad m.conn.session now msg (bad.JournalFull b) h.0 h.2 h.3))) (λ _. tt)
            (subst (AtFull w ks now n new) (sym h.2) (subst (λ y. StandsFor told_by failures stops_alone alone rs new y ks) (sym (ap (overfull_by w n) is ∙ ap (overfull_first_named w n m) up ∙ ap (overfull_named w n d) h.0))
            (seated rs mid new n w (overfull_named w n d None) ks (Named (with_conn d (closing JournalFull d.conn))) s h.1 i refl refl
            (actor.Named (record (member_of m (ks n)) { conn = kept_closing ended.Full (conn_of d.conn) }))
            (ap (λ y. Some (actor.Named (record (member_of m (ks n)) { conn = y }))) (conn-closing JournalFull d.conn)) p))),
      )
      go (took.Shut b) h p = (
        somebody-named (w.actors n) m is,
        refl,
        HasNoRoom true (ap (shows_full (told.Take n)) (fulls (Some (bad.JournalFull b)) (full-shut rs w.pad m.conn.session now msg (bad.JournalFull b) h.0 (old-reason w.pad m.conn.session msg h.0 h.1) h.3 h.4))) (λ _. tt)
            (subst (AtFull w ks now n new) (sym h.3) (subst (λ y. StandsFor told_by failures stops_alone alone rs new y ks) (sym (takes (Some (Refused (bad.Dead (end.Reopened w.pad.epoch)))) (old-reason w.pad m.conn.session msg h.0 h.1)))
            (seated rs mid new n w (take_named w now n d msg (Some (Refused (bad.Dead (end.Reopened w.pad.epoch))))) ks (Named (with_conn d (closing BadChangeset d.conn))) s
            (left-there rs new.machine w.pad m.conn.session h.1 h.2) i refl refl
            (actor.Named (record (member_of m (ks n)) { conn = kept_closing ended.BadChangeset (conn_of d.conn) }))
            (ap (λ y. Some (actor.Named (record (member_of m (ks n)) { conn = y }))) (conn-closing BadChangeset d.conn)) p))),
      )

  -- ---- of the connection before the last resumption

  known : (a : AnActor) (m : AMember) → a ≡ Named m → is_client a ≡ true
  known a m e = ap is_client e

  late-shown : (w : WorldState) (n : Name) (m : AMember) → w.actors n ≡ Named m
      → of_client (shown.Nothing verb.Late n) (λ x. shows_first verb.Late n w.pad (late_up x.earlier)) (w.actors n) ≡ shows_first verb.Late n w.pad (late_up m.earlier)
  late-shown w n m is = ap (of_client (shown.Nothing verb.Late n) (λ x. shows_first verb.Late n w.pad (late_up x.earlier))) is

  late-record : (w : WorldState) (now : ℕ) (n : Name) (m : AMember) → w.actors n ≡ Named m → record_at w now (told.Late n) ≡ record_taken w.pad now (late_up m.earlier)
  late-record w now n m is = ap (λ a. record_taken w.pad now (of_client None (λ x. late_up x.earlier) a)) is

  pub late-nothing : (mid new : World D) (w : WorldState) (ks : Kepts) (now : ℕ) (n : Name) (m : AMember) → w.actors n ≡ Named m → late_up m.earlier ≡ None → StandsBut told_by failures stops_alone alone rs mid n w ks
      → new.machine ≡ mid.machine → new.id ≡ mid.id → PutsActor mid.actors n (actor.Named (member_of m (ks n))) new.actors
      → Comes told_by failures stops_alone alone rs w ks now (told.Late n) new (Ok (shown.Nothing verb.Late n))
  late-nothing mid new w ks now n m is none s k i p = (
    known (w.actors n) m is,
    refl,
    recorded told_by failures stops_alone alone rs w ks now (told.Late n) new _ None (sym (late-shown w n m is ∙ ap (shows_first verb.Late n w.pad) none))
        (late-record w now n m is ∙ ap (record_taken w.pad now) none) refl (λ qs. refl) tt
        (subst (λ y. StandsFor told_by failures stops_alone alone rs new y ks) (sym (ap (late_by w now n) is ∙ nothing m.earlier none))
        (back mid new w ks n (Named m) is s k i (actor.Named (member_of m (ks n))) refl p)),
  )
    where
      queue : (c : Conn) (us : List Message) → first_sent c.session us ≡ None → late_first w now n m c us ≡ w
      queue c [] h = refl
      queue c (msg ∷ us) h = none_some (sym h)

      nothing : (o : Option Conn) → late_up o ≡ None → late_of w now n m o ≡ w
      nothing None h = refl
      nothing (Some c) h = queue c c.up h

  pub late-took : (mid new : World D) (w : WorldState) (ks : Kepts) (now : ℕ) (n : Name) (m : AMember) (c : Conn) (msg : Message) (rest : List Message) (t : Took) → w.actors n ≡ Named m
      → m.earlier ≡ Some c → c.up ≡ msg ∷ rest → StandsBut told_by failures stops_alone alone rs mid n w ks → Brings told_by failures stops_alone alone rs w.pad c.session msg now new.machine t
      → new.id ≡ mid.id → PutsActor mid.actors n (actor.Named (record (member_of m (ks n)) { earlier = Some (conn_of (with_up c rest)) })) new.actors
      → Comes told_by failures stops_alone alone rs w ks now (told.Late n) new (shows_late n t)
  late-took mid new w ks now n m c msg rest t is before up s brings i p = go t brings
    where
      d : AMember
      d = with_earlier m (with_up c rest)

      shows-of : of_client (shown.Nothing verb.Late n) (λ x. shows_first verb.Late n w.pad (late_up x.earlier)) (w.actors n)
          ≡ shows_taken verb.Late n (commit w.pad (at_head w.pad msg.base msg.change.edit)) (reason w.pad c.session msg)
      shows-of = late-shown w n m is ∙ ap (λ o. shows_first verb.Late n w.pad (late_up o)) before ∙ ap (λ us. shows_first verb.Late n w.pad (first_sent c.session us)) up

      records : (r : Option AReason) → reason w.pad c.session msg ≡ r → record_at w now (told.Late n) ≡ record_if w.pad c.session now msg r
      records r e =
          late-record w now n m is ∙ ap (λ o. record_taken w.pad now (late_up o)) before ∙ ap (λ us. record_taken w.pad now (first_sent c.session us)) up
          ∙ ap (record_if w.pad c.session now msg) e

      takes : (r : Option AReason) → reason w.pad c.session msg ≡ r → happens w (AskedLate now n) ≡ late_as w now n d c.session msg r
      takes r e = ap (late_by w now n) is ∙ ap (late_of w now n m) before ∙ ap (late_first w now n m c) up ∙ ap (late_as w now n d c.session msg) e

      stands : (qs : List Record) (v : WorldState) → IsAt told_by failures stops_alone alone qs new.machine v.pad → v.id ≡ w.id → v.actors ≡ put w.actors n (Named d) → StandsFor told_by failures stops_alone alone qs new v ks
      stands qs v h j e = seated qs mid new n w v ks (Named d) s h i j e (actor.Named (member_of d (ks n))) refl p

      go : (t : Took) → Brings told_by failures stops_alone alone rs w.pad c.session msg now new.machine t → Comes told_by failures stops_alone alone rs w ks now (told.Late n) new (shows_late n t)
      go (took.Made x) h = (
        known (w.actors n) m is,
        refl,
        recorded told_by failures stops_alone alone rs w ks now (told.Late n) new _ _
            (sym (shows-of ∙ ap (shows_taken verb.Late n (commit w.pad (at_head w.pad msg.base msg.change.edit))) h.0 ∙ ap (shows_made verb.Late n) (sym h.1)))
            (records None h.0) refl (λ qs. refl) tt
            (subst (λ y. StandsFor told_by failures stops_alone alone (rs ++ accept_record w.pad c.session now msg.base msg.change ∷ []) new y ks) (sym (takes None h.0)) (stands (rs ++ accept_record w.pad c.session now msg.base msg.change ∷ []) (late_as w now n d c.session msg None) h.2 refl refl)),
      )
      go (took.Refused x) h = (
        known (w.actors n) m is,
        refl,
        recorded told_by failures stops_alone alone rs w ks now (told.Late n) new _ _
            (sym (shows-of ∙ ap (shows_taken verb.Late n (commit w.pad (at_head w.pad msg.base msg.change.edit))) h.1 ∙ ap (λ y. shown.Refused verb.Late (Some n) y) (sym h.2)))
            (records (Some h.0) h.1) refl (λ qs. refl) tt
            (subst (λ y. StandsFor told_by failures stops_alone alone rs new y ks) (sym (takes (Some h.0) h.1)) (stands rs (late_as w now n d c.session msg (Some h.0)) h.3 refl refl)),
      )
      go (took.NoRoom b) h = tt
      go (took.Shut b) h = tt
