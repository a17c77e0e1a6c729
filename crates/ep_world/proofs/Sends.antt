-- Clients edit and send, and guests send.
use Rattle.std.proofs.Common.{◌≡◌, ℕ, suc, Bool, true, false, ◌||◌, List, [], ◌∷◌, ◌++◌, length, Option, Some, None, Result, Ok, Err, if◌then◌else◌, refl, sym, ap, ap₂, ◌∙◌, subst}
use Rattle.std.specs.Prelude.{IfOk, nat_lt}
use Rattle.ep_units.specs.Text.{text_eq}
use Rattle.ep_units.specs.declared.session.Session.{Session}
use Rattle.ep_cs.specs.Edit.{Edit, identity}
use Rattle.ep_cs.specs.EditFits.{is_edit}
use Rattle.ep_cs.specs.Fits.{is_identity}
use Rattle.ep_history.specs.Client.{submission, submitted_doc}
use Rattle.ep_history.specs.History.{Birth, doc_at, is_session}
use Rattle.ep_history.specs.Kept.{kept_submitted_from}
use Rattle.ep_history.proofs.Client.{IsSound}
use Rattle.ep_history.proofs.Lists.{none_some, some_same}
use Rattle.ep_history.proofs.Sound.{edit-of}
use Rattle.ep_members.specs.declared.message.Sent.{Sent}
use Rattle.ep_world.specs.Conns.{why_unread}
use Rattle.ep_outside.specs.Disk.{Contents}
use Rattle.ep_cs.specs.Change.{Change}
use Rattle.ep_cs.specs.EditFits.{fits}
use Rattle.ep_csread.specs.declared.bad.ReadBad.{ReadBad}
use Rattle.ep_invert.specs.declared.bad.SpliceBad.{SpliceBad}
use Rattle.ep_history.specs.Client.{ClientState, edited, submitted}
use Rattle.ep_history.specs.Kept.{KeptClient, Keeps, kept_submission, kept_submitted}
use Rattle.ep_history.specs.Pad.{birth_at}
use Rattle.ep_history.specs.declared.submission.Submission.{Submission}
use Rattle.ep_schedule.specs.World.{Name, Member as AMember, Message, WorldState, edit_by, inject_by, injected, sent_up, submit_as, submit_by, submit_if, with_actor, with_client, with_up}
use Rattle.ep_schedule.specs.World.Actor.{Guest, Named}
use Rattle.ep_schedule.specs.World.Event.{Edits}
use Rattle.ep_schedule.specs.Kepts.{IsSameSubmission}
use Rattle.ep_undo.specs.Undo.{UndoState, redone_by, top, undo_edited, undone_by, with_client as with_kept}
use Rattle.ep_world.specs.Kepts.{Kepts, kept_after_submit, kept_edit, kept_put, kept_remake, kept_submit}
use Rattle.ep_event.specs.declared.event.Event.TheVariants as told
use Rattle.ep_event.specs.declared.event.Local.{Local}
use Rattle.ep_event.specs.declared.shown.Shown.{Shown}
use Rattle.ep_event.specs.declared.shown.Shown.TheVariants as shown
use Rattle.ep_event.specs.declared.shown.Verb.TheVariants as verb
use Rattle.ep_members.specs.declared.actors.Actor.TheVariants as actor
use Rattle.ep_members.specs.declared.actors.Slot.{Slot}
use Rattle.ep_world.specs.declared.bad.WorldBad.TheVariants as world_bad
use Rattle.ep_members.specs.declared.member.Member.{Member}
use Rattle.ep_world.specs.declared.world.World.{World}
use Rattle.ep_world.specs.Actors.{IsSame, actor_of, member_of}
use Rattle.ep_members.specs.Actors.{IsWithout, PutsActor, found}
use Rattle.ep_members.specs.Conns.{KeptConn, kept_sends}
use Rattle.ep_world.specs.Conns.{conn_of, sent_of}
use Rattle.ep_local.specs.Local.{is_local_text, local_bad, local_edit}
use Rattle.ep_members.specs.declared.undoing.Remake.{Remake}
use Rattle.ep_members.specs.declared.undoing.Remake.TheVariants as remake
use Rattle.ep_members.specs.Undoing.{EditsView, FitsIf, Remakes, remade, remade_verb, to_make}
use Rattle.ep_world.specs.Events.{remake_event}
use Rattle.ep_world.specs.Events.{edit_at, edit_if, event_at, happened, has_text, is_client, is_guest, is_known, kept_happened, made_top, of_client, view_of}
use Rattle.ep_members.specs.Members.{SubmitsOf, SubmitsUp}
use Rattle.ep_world.specs.Shows.{shows, shows_edit, shows_edited, shows_sent, shows_submit, shows_submitted, verb_of}
use Rattle.ep_members.specs.Undoing.{shows_remade}
use Rattle.ep_world.specs.Standing.{Comes, IsAt, IsPlayed, IsRun, StandsFor}
use Rattle.ep_world.specs.Standing.IsPlayed.{IsEvent}
use Rattle.ep_world.proofs.Leading.{sent}
use Rattle.ep_world.proofs.Conns.{conn-sends}
use Rattle.ep_world.proofs.Seating.{is-guest, is-named, is-nobody, put-actors-kept, put-back, same-stands, without-nobody, without-others}
use Rattle.ep_world.proofs.Turns.{IsTurn, Turns, keeps, sound, turns}
use Rattle.ep_history.specs.declared.record.Record.{Record}

-- a message whose change is an edit has that
sent-edit : (msg : Message) → is_edit msg.change.edit ≡ true → sent_of msg ≡ record { base = msg.base; change = Ok msg.change }
sent-edit msg i = ap of i
  where
    of : Bool → Sent
    of b = record { base = msg.base; change = if b then Ok msg.change else Err (why_unread msg.unread) }

-- one of what a text was read as is that
sent-read : (number base : ℕ) (read : Result Change ReadBad) → IfOk read (λ c. is_edit c.edit ≡ true) → sent_of (injected number base read) ≡ record { base = base; change = read }
sent-read number base (Ok c) i = sent-edit (injected number base (Ok c)) i
sent-read number base (Err why) i = refl

-- what a client submits is an edit
submitted-edit : (b : Birth) (c : ClientState) (k j : KeptClient) → IsSound b c → Keeps b c k → kept_submitted k ≡ Some j → is_edit j.sent ≡ true
submitted-edit b c k j g h e = connected k.connected e
  where
    one : (i : KeptClient) (t : Bool) → is_edit i.sent ≡ true → (if t then None else Some i) ≡ Some j → is_edit j.sent ≡ true
    one i true f e = none_some e
    one i false f e = ap (λ (x : KeptClient). is_edit x.sent) (sym (some_same e)) ∙ f

    from : (o : Option Session) → kept_submitted_from k o ≡ Some j → is_edit j.sent ≡ true
    from None e =
        one (record k { sent = k.local; sent_in = Some k.session; local = identity (length k.view) }) (is_identity k.local)
        (subst (λ x. is_edit x ≡ true) (sym h.local) (edit-of c.local (submitted_doc b c) g.local)) e
    from (Some s) e =
        one (record k { sent_in = Some k.session }) (is_session s k.session || nat_lt k.rev k.told)
        (subst (λ x. is_edit x ≡ true) (sym h.sent) (edit-of (submission b c) (doc_at b c.rev) g.sent)) e

    connected : (t : Bool) → (if t then kept_submitted_from k k.sent_in else None) ≡ Some j → is_edit j.sent ≡ true
    connected true e = from k.sent_in e
    connected false e = none_some e

pub known-remake : (w : WorldState) (rm : Remake) (n : Name) → is_known w (remake_event rm n) ≡ is_client (w.actors n)
known-remake w remake.Undo n = refl
known-remake w remake.Redo n = refl

module _ {D : Type 0} (told_by : D → Option Contents) (failures : D → ℕ) (stops_alone : D → Bool) (alone : Bool) (rs : List Record) where
  -- what a world and its clients are equal to
  pub stands-as : (new : World D) (v w : WorldState) (js ks : Kepts) → v ≡ w → js ≡ ks → StandsFor told_by failures stops_alone alone rs new w ks → StandsFor told_by failures stops_alone alone rs new v js
  stands-as new v w js ks e h s = subst (λ x. StandsFor told_by failures stops_alone alone rs new x js) (sym e) (subst (StandsFor told_by failures stops_alone alone rs new w) (sym h) s)

  -- ---- edits

  pub edits-view : (old new : World D) (w : WorldState) (ks : Kepts) (n : Name) (now : ℕ) (e : Local) (m : Member) (k : UndoState) (bad : Option SpliceBad) (s : Shown) → IsRun w ks
      → StandsFor told_by failures stops_alone alone rs old w ks → new.machine ≡ old.machine → new.id ≡ old.id → IsTurn old.actors n m (record m { client = k }) new.actors → is_local_text e ≡ true
      → EditsView e m.client k bad → s ≡ shows_edited (verb_of e) n bad → Comes told_by failures stops_alone alone rs w ks now (told.Edit n e) new (Ok s)
  edits-view old new w ks n now e m k bad s r st machine id turn text z shows-it =
      (ap is_client t.named, text, subst (IsPlayed told_by failures stops_alone alone rs w ks now (told.Edit n e) new) (sym shows-it) (go bad z))
    where
      t : Turns told_by failures stops_alone alone rs new w ks n m (record m { client = k })
      t = turns told_by failures stops_alone alone rs old new w ks n m (record m { client = k }) st machine id turn

      x : AMember
      x = t.member

      q : Keeps (birth_at w.pad x.birth) x.client (ks n).client
      q = keeps w ks n x r t.named

      client : m.client ≡ ks n
      client = ap (λ (y : Member). y.client) t.is

      v : m.client.client.view ≡ view_of w.pad x
      v = ap (λ (y : UndoState). y.client.view) client ∙ q.view

      is : Option SpliceBad → Type 0
      is b = IsPlayed told_by failures stops_alone alone rs w ks now (told.Edit n e) new (shows_edited (verb_of e) n b)

      showing : (b : Option SpliceBad) → local_bad e (view_of w.pad x) ≡ b → shows_edited (verb_of e) n b ≡ shows w ks now true (told.Edit n e)
      showing b h = sym (ap (of_client (shown.Nothing (verb_of e) n) (shows_edit w n e)) t.named ∙ ap (shows_edited (verb_of e) n) h)

      at : (b : Option SpliceBad) → local_bad e (view_of w.pad x) ≡ b → event_at w ks now true (told.Edit n e) ≡ edit_if n e (view_of w.pad x) b
      at b h = ap (of_client None (edit_at w n e)) t.named ∙ ap (edit_if n e (view_of w.pad x)) h

      go : (b : Option SpliceBad) → EditsView e m.client k b → is b
      go (Some why) (h, same) =
          let l = subst (λ d. local_bad e d ≡ Some why) v h in
          IsEvent true (showing (Some why) l) refl (λ _. tt)
          (subst (λ o. StandsFor told_by failures stops_alone alone rs new (happened w o) (kept_happened w ks (told.Edit n e) o)) (sym (at (Some why) l))
          (t.stays (ap (λ (y : UndoState). record m { client = y }) same)))
      go None (h, fit, made) =
          let l = subst (λ d. local_bad e d ≡ None) v h in
          let le = local_edit e (view_of w.pad x) in
          let f : fits le (view_of w.pad x) ≡ true = subst (λ d. fits (local_edit e d) d ≡ true) v fit in
          let y = with_client x (edited le x.client) in
          let j = undo_edited le (ks n) in
          let is-world : edit_by w n le (w.actors n) ≡ with_actor w n (Named y) =
          ap (edit_by w n le) t.named ∙ ap (λ b. if b then with_actor w n (Named y) else w) f in
          let is-kept : kept_edit ks n le (w.actors n) ≡ kept_put ks n j =
          ap (kept_edit ks n le) t.named ∙ ap (λ b. if b then kept_put ks n j else ks) (subst (λ d. fits le d ≡ true) (sym q.view) f) in
          let is-member : record m { client = k } ≡ member_of y j =
          ap (λ (i : UndoState). record m { client = i }) (made ∙ ap₂ undo_edited (ap (local_edit e) v) client)
          ∙ ap (λ (i : Member). record i { client = j }) t.is in
          IsEvent true (showing None l) refl (λ _. tt)
          (subst (λ o. StandsFor told_by failures stops_alone alone rs new (happened w o) (kept_happened w ks (told.Edit n e) o)) (sym (at None l))
          (stands-as new _ _ _ _ is-world is-kept (t.steps (with_actor w n (Named y)) y j refl refl refl is-member)))

  -- ---- undo and redo

  pub remakes : (old new : World D) (w : WorldState) (ks : Kepts) (n : Name) (now : ℕ) (rm : Remake) (m m' : Member) (s : Shown) → IsRun w ks
      → StandsFor told_by failures stops_alone alone rs old w ks → new.machine ≡ old.machine → new.id ≡ old.id → IsTurn old.actors n m m' new.actors
      → Remakes rm n m m' s → Comes told_by failures stops_alone alone rs w ks now (remake_event rm n) new (Ok s)
  remakes old new w ks n now rm m m' s r st machine id turn z =
      (known-remake w rm n ∙ ap is_client t.named, textful rm, go (to_make rm (ks n)) refl (subst (λ (k : UndoState). FitsIf (to_make rm k) k.client.view) client z.2.1))
    where
      t : Turns told_by failures stops_alone alone rs new w ks n m m'
      t = turns told_by failures stops_alone alone rs old new w ks n m m' st machine id turn

      x : AMember
      x = t.member

      q : Keeps (birth_at w.pad x.birth) x.client (ks n).client
      q = keeps w ks n x r t.named

      client : m.client ≡ ks n
      client = ap (λ (y : Member). y.client) t.is

      textful : (rm : Remake) → has_text (remake_event rm n) ≡ true
      textful remake.Undo = refl
      textful remake.Redo = refl

      -- what the client is behind it, and what is shown
      behind-it : m' ≡ record m { client = remade rm (ks n) }
      behind-it = z.1 ∙ ap (λ (k : UndoState). record m { client = k }) (z.2.0 ∙ ap (remade rm) client)

      is-shown : s ≡ shows_remade (remade_verb rm) n (view_of w.pad x) (to_make rm (ks n))
      is-shown =
          z.2.2 ∙ ap (λ (k : UndoState). shows_remade (remade_verb rm) n k.client.view (to_make rm k)) client
          ∙ ap (λ d. shows_remade (remade_verb rm) n d (to_make rm (ks n))) q.view

      showing : (rm : Remake) → shows_remade (remade_verb rm) n (view_of w.pad x) (to_make rm (ks n)) ≡ shows w ks now true (remake_event rm n)
      showing remake.Undo = sym (ap (of_client (shown.Nothing verb.Undo n) (λ m. shows_remade verb.Undo n (view_of w.pad m) (top (ks n).undos))) t.named)
      showing remake.Redo = sym (ap (of_client (shown.Nothing verb.Redo n) (λ m. shows_remade verb.Redo n (view_of w.pad m) (top (ks n).redos))) t.named)

      at : (rm : Remake) → event_at w ks now true (remake_event rm n) ≡ made_top n (to_make rm (ks n))
      at remake.Undo = ap (of_client None (λ m. made_top n (top (ks n).undos))) t.named
      at remake.Redo = ap (of_client None (λ m. made_top n (top (ks n).redos))) t.named

      -- it is recorded nowhere, and needs no room
      event : (rm : Remake) → s ≡ shows w ks now true (remake_event rm n)
          → StandsFor told_by failures stops_alone alone rs new (happened w (event_at w ks now true (remake_event rm n))) (kept_happened w ks (remake_event rm n) (event_at w ks now true (remake_event rm n)))
          → IsPlayed told_by failures stops_alone alone rs w ks now (remake_event rm n) new s
      event remake.Undo is stands = IsEvent true is refl (λ _. tt) stands
      event remake.Redo is stands = IsEvent true is refl (λ _. tt) stands

      -- where there is nothing to make the client is as before
      nothing : (rm : Remake) (k : UndoState) → to_make rm k ≡ None → remade rm k ≡ k
      nothing remake.Undo k e = go k.undos e
        where
          go : (us : List Edit) → top us ≡ None → undone_by k us ≡ k
          go [] e = refl
          go (u ∷ us) e = none_some (sym e)
      nothing remake.Redo k e = go k.redos e
        where
          go : (us : List Edit) → top us ≡ None → redone_by k us ≡ k
          go [] e = refl
          go (u ∷ us) e = none_some (sym e)

      -- to the rules it is an edit
      stepped : (rm : Remake) (u : Edit) → kept_happened w ks (remake_event rm n) (Some (Edits n u)) ≡ kept_remake (remade rm) ks n u (w.actors n)
      stepped remake.Undo u = refl
      stepped remake.Redo u = refl

      stands : (o : Option Edit) → to_make rm (ks n) ≡ o → FitsIf o (ks n).client.view
          → StandsFor told_by failures stops_alone alone rs new (happened w (made_top n o)) (kept_happened w ks (remake_event rm n) (made_top n o))
      stands None e f =
          t.stays (behind-it ∙ ap (λ (k : UndoState). record m { client = k }) (nothing rm (ks n) e ∙ sym client))
      stands (Some u) e f =
          let y = with_client x (edited u x.client) in
          let j = remade rm (ks n) in
          let is-world : edit_by w n u (w.actors n) ≡ with_actor w n (Named y) =
          ap (edit_by w n u) t.named ∙ ap (λ b. if b then with_actor w n (Named y) else w) (subst (λ d. fits u d ≡ true) q.view f) in
          let is-kept : kept_happened w ks (remake_event rm n) (Some (Edits n u)) ≡ kept_put ks n j =
          stepped rm u ∙ ap (kept_remake (remade rm) ks n u) t.named ∙ ap (λ b. if b then kept_put ks n j else ks) f in
          let is-member : m' ≡ member_of y j = behind-it ∙ ap (λ (i : Member). record i { client = j }) t.is in
          stands-as new _ _ _ _ is-world is-kept (t.steps (with_actor w n (Named y)) y j refl refl refl is-member)

      go : (o : Option Edit) → to_make rm (ks n) ≡ o → FitsIf o (ks n).client.view → IsPlayed told_by failures stops_alone alone rs w ks now (remake_event rm n) new s
      go o e f =
          event rm (is-shown ∙ showing rm)
          (subst (λ o. StandsFor told_by failures stops_alone alone rs new (happened w o) (kept_happened w ks (remake_event rm n) o)) (sym (at rm ∙ ap (made_top n) e)) (stands o e f))

  -- ---- submissions

  pub submits-up : (old new : World D) (w : WorldState) (ks : Kepts) (n : Name) (now : ℕ) (m m' : Member) (s : Shown) → IsRun w ks
      → StandsFor told_by failures stops_alone alone rs old w ks → new.machine ≡ old.machine → new.id ≡ old.id → IsTurn old.actors n m m' new.actors
      → SubmitsUp n m m' s → Comes told_by failures stops_alone alone rs w ks now (told.Submit n) new (Ok s)
  submits-up old new w ks n now m m' s r st machine id turn z = (
    ap is_client t.named,
    refl,
    go (submitted (birth_at w.pad x.birth) x.client) (kept_submitted (ks n).client) refl refl (sent w ks r n x t.named)
        (subst (λ (k : UndoState). SubmitsOf n (kept_submitted k.client) m m' s) client z),
  )
    where
      t : Turns told_by failures stops_alone alone rs new w ks n m m'
      t = turns told_by failures stops_alone alone rs old new w ks n m m' st machine id turn

      x : AMember
      x = t.member

      client : m.client ≡ ks n
      client = ap (λ (y : Member). y.client) t.is

      showing : (o : Option ClientState) → submitted (birth_at w.pad x.birth) x.client ≡ o → shows w ks now true (told.Submit n) ≡ shows_submitted n o
      showing o h = ap (of_client (shown.Nothing verb.Submit n) (shows_submit w n)) t.named ∙ ap (shows_submitted n) h

      world : (o : Option ClientState) → submitted (birth_at w.pad x.birth) x.client ≡ o → submit_by w n (w.actors n) ≡ submit_if w n x o
      world o h = ap (submit_by w n) t.named ∙ ap (submit_if w n x) h

      kepts : (p : Option KeptClient) → kept_submitted (ks n).client ≡ p → kept_submit ks n (w.actors n) ≡ kept_after_submit ks n p
      kepts p h = ap (kept_submit ks n) t.named ∙ ap (kept_after_submit ks n) h

      go : (o : Option ClientState) (p : Option KeptClient) → submitted (birth_at w.pad x.birth) x.client ≡ o → kept_submitted (ks n).client ≡ p → IsSameSubmission o p
          → SubmitsOf n p m m' s → IsPlayed told_by failures stops_alone alone rs w ks now (told.Submit n) new s
      go None None a b al (same, is) = IsEvent true (is ∙ sym (showing None a)) refl (λ _. tt) (stands-as new _ _ _ _ (world None a) (kepts None b) (t.stays same))
      go None (Some k) a b al h = absurd al
      go (Some c) None a b al h = absurd al
      go (Some c) (Some k) a b al (made, is) =
          IsEvent true (is ∙ sym (showing (Some c) a ∙ ap (shows_sent n) al)) refl (λ _. tt) (stands-as new _ _ _ _ (world (Some c) a) (kepts (Some k) b) (first x.client.sent))
        where
          edit : is_edit k.sent ≡ true
          edit = submitted-edit (birth_at w.pad x.birth) x.client (ks n).client k (sound w ks n x r t.named) (keeps w ks n x r t.named) b

          msg : ℕ → Message
          msg number = record { number = number; base = (kept_submission k).base; change = (kept_submission k).change; unread = None }

          is-member : (number : ℕ) → m' ≡ member_of (sent_up x number c c.sent) (with_kept (ks n) k)
          is-member number =
              made
              ∙ ap (λ (y : Member). record y { client = with_kept y.client k; conn = kept_sends (record { base = (kept_submission k).base; change = Ok (kept_submission k).change }) y.conn }) t.is
              ∙ ap (λ (i : Sent). record (member_of x (with_kept (ks n) k)) { conn = kept_sends i (conn_of x.conn) }) (sym (sent-edit (msg number) edit))
              ∙ ap (λ (i : KeptConn). record (member_of x (with_kept (ks n) k)) { conn = i }) (sym (conn-sends x.conn (msg number)))
              ∙ sym (ap (λ (f : Option Submission). member_of (sent_up x number c f) (with_kept (ks n) k)) al)

          first : (f : Option Submission) → StandsFor told_by failures stops_alone alone rs new (submit_as w n x f c) (kept_put ks n (with_kept (ks n) k))
          first None = t.steps (submit_as w n x None c) (sent_up x (suc (length w.edits)) c c.sent) (with_kept (ks n) k) refl refl refl (is-member (suc (length w.edits)))
          first (Some f) = t.steps (submit_as w n x (Some f) c) (sent_up x x.number c c.sent) (with_kept (ks n) k) refl refl refl (is-member x.number)

  -- ---- guests

  pub injects : (old new : World D) (between : List Slot) (w : WorldState) (ks : Kepts) (n : Name) (now base : ℕ) (read : Result Change ReadBad) (c c' : KeptConn)
      → StandsFor told_by failures stops_alone alone rs old w ks → new.machine ≡ old.machine → new.id ≡ old.id → found old.actors n ≡ Some (actor.Guest c) → IsWithout old.actors n between
      → IfOk read (λ d. is_edit d.edit ≡ true) → c' ≡ kept_sends (record { base = base; change = read }) c → PutsActor between n (actor.Guest c') new.actors
      → Comes told_by failures stops_alone alone rs w ks now (told.Inject n base read) new (Ok (shown.Done verb.Inject (Some n)))
  injects old new between w ks n now base read c c' s machine id f without normal sends p =
      let y = is-guest (w.actors n) (ks n) c (sym (s.actors n) ∙ f) in
      let msg = injected (suc (length w.edits)) base read in
      let others : (q : Name) → text_eq q n ≡ false → found between q ≡ actor_of (w.actors q) (ks q) =
      λ q e. without-others old.actors between n without q e ∙ s.actors q in
      let is-conn : conn_of (with_up y.0 (y.0.up ++ msg ∷ [])) ≡ c' =
      conn-sends y.0 msg ∙ ap₂ kept_sends (sent-read (suc (length w.edits)) base read normal) (sym y.2) ∙ sym sends in (
        ap is_guest y.1,
        refl,
        IsEvent true refl refl (λ _. tt)
            (subst (λ v. StandsFor told_by failures stops_alone alone rs new v ks) (sym (ap (inject_by w n base read) y.1))
            (record {
              machine = subst (λ h. IsAt told_by failures stops_alone alone rs h w.pad) (sym machine) s.machine;
              id = id ∙ s.id;
              actors = put-actors-kept between new.actors w ks n (Guest (with_up y.0 (y.0.up ++ msg ∷ []))) (actor.Guest c') others p
                  (ap (λ (i : KeptConn). Some (actor.Guest i)) is-conn);
            })),
      )

  same-unknown : (old new : World D) (w : WorldState) (ks : Kepts) (n : Name) (now base : ℕ) (read : Result Change ReadBad) → StandsFor told_by failures stops_alone alone rs old w ks
      → new.machine ≡ old.machine → new.id ≡ old.id → is_guest (w.actors n) ≡ false → IsSame old.actors new.actors
      → Comes told_by failures stops_alone alone rs w ks now (told.Inject n base read) new (Err world_bad.Unknown)
  same-unknown old new w ks n now base read s machine id k a =
      (k, same-stands told_by failures stops_alone alone rs old new w ks s (subst (λ h. IsAt told_by failures stops_alone alone rs h w.pad) (sym machine) s.machine) id a)

  -- a client doesn't inject
  pub client-injects : (old new : World D) (between : List Slot) (w : WorldState) (ks : Kepts) (n : Name) (now base : ℕ) (read : Result Change ReadBad) (m : Member)
      → StandsFor told_by failures stops_alone alone rs old w ks → new.machine ≡ old.machine → new.id ≡ old.id → found old.actors n ≡ Some (actor.Named m) → IsWithout old.actors n between
      → PutsActor between n (actor.Named m) new.actors → Comes told_by failures stops_alone alone rs w ks now (told.Inject n base read) new (Err world_bad.Unknown)
  client-injects old new between w ks n now base read m s machine id f without p =
      let x = is-named (w.actors n) (ks n) m (sym (s.actors n) ∙ f) in
      same-unknown old new w ks n now base read s machine id (ap is_guest x.1) (put-back old.actors between new.actors n (actor.Named m) without f p)

  -- nor does nobody
  pub nobody-injects : (old new : World D) (w : WorldState) (ks : Kepts) (n : Name) (now base : ℕ) (read : Result Change ReadBad)
      → StandsFor told_by failures stops_alone alone rs old w ks → new.machine ≡ old.machine → new.id ≡ old.id → found old.actors n ≡ None → IsWithout old.actors n new.actors
      → Comes told_by failures stops_alone alone rs w ks now (told.Inject n base read) new (Err world_bad.Unknown)
  nobody-injects old new w ks n now base read s machine id f without =
      same-unknown old new w ks n now base read s machine id (ap is_guest (is-nobody (w.actors n) (ks n) (sym (s.actors n) ∙ f))) (without-nobody old.actors new.actors n without f)
