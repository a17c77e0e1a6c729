-- Clients hear, and are lost.
use Rattle.std.proofs.Common.{◌≡◌, ℕ, suc, Bool, true, false, List, [], ◌∷◌, Option, Some, None, Ok, if◌then◌else◌, refl, sym, ap, ap₂, ◌∙◌, subst}
use Rattle.ep_units.specs.declared.session.Session.{Session}
use Rattle.ep_outside.specs.Disk.{Contents}
use Rattle.ep_history.specs.Client.{heard, is_own, lost, without_sent}
use Rattle.ep_history.specs.Kept.{Keeps, is_kept_own, kept_nop, sent_session}
use Rattle.ep_history.specs.Pad.{birth_at}
use Rattle.ep_history.specs.declared.rev.Rev.{Rev}
use Rattle.ep_history.specs.declared.submission.Submission.{Submission}
use Rattle.ep_schedule.specs.World.{Name, Down as ADown, Member as AMember, Actor as AnActor, WorldState, answered, hear_by, hear_first, known_after, lose_by, lost_member, put, with_actor, with_client, with_conn, with_down}
use Rattle.ep_schedule.specs.World.Down.{Revision, Spent, Closing}
use Rattle.ep_schedule.specs.World.Actor.{Named}
use Rattle.ep_undo.specs.Undo.{UndoState, undo_hears_rev, undo_lost, with_client as with_kept}
use Rattle.ep_world.specs.Kepts.{Kepts, kept_hear, kept_hear_first, kept_lose}
use Rattle.ep_event.specs.declared.event.Event.TheVariants as told
use Rattle.ep_event.specs.declared.shown.Shown.{Shown}
use Rattle.ep_event.specs.declared.shown.Shown.TheVariants as shown
use Rattle.ep_event.specs.declared.shown.Verb.TheVariants as verb
use Rattle.ep_members.specs.declared.member.Member.{Member}
use Rattle.ep_members.specs.declared.message.Down.{Down}
use Rattle.ep_world.specs.declared.world.World.{World}
use Rattle.ep_world.specs.Actors.{member_of}
use Rattle.ep_members.specs.Conns.{KeptConn, TakesDown, kept_down}
use Rattle.ep_world.specs.Conns.{conn_of, down_of}
use Rattle.ep_world.specs.Events.{is_client, of_client}
use Rattle.ep_members.specs.Members.{HearsDown, kept_hears_down, kept_member_lost, shows_hears}
use Rattle.ep_world.specs.Shows.{shows, shows_hear, shows_heard, shows_lose}
use Rattle.ep_world.specs.Standing.{Comes, IsPlayed, IsRun, StandsFor}
use Rattle.ep_world.specs.Standing.IsPlayed.{IsEvent}
use Rattle.ep_world.proofs.Conns.{hears-none, takes-telling}
use Rattle.ep_world.proofs.Sends.{stands-as}
use Rattle.ep_world.proofs.Turns.{IsTurn, Turns, keeps, turns}
use Rattle.ep_history.specs.declared.record.Record.{Record}

-- the same revisions are its own
own-alike : (s : Session) (f : Option Submission) → is_kept_own s (sent_session f) ≡ is_own s f
own-alike s None = refl
own-alike s (Some x) = refl

-- a revision that is known changes neither the pad nor who there is
known-pad : (w : WorldState) (x : AMember) (v : Rev) → ((known_after w x v).pad ≡ w.pad) × ((known_after w x v).id ≡ w.id) × ((known_after w x v).actors ≡ w.actors)
known-pad w x v = go (is_own v.session x.client.sent)
  where
    go : (b : Bool) → ((if b then answered w x.number else w).pad ≡ w.pad) × ((if b then answered w x.number else w).id ≡ w.id) × ((if b then answered w x.number else w).actors ≡ w.actors)
    go true = (refl, refl, refl)
    go false = (refl, refl, refl)

module _ {D : Type 0} (told_by : D → Option Contents) (failures : D → ℕ) (stops_alone : D → Bool) (alone : Bool) (rs : List Record) where
  -- ---- a client hears

  pub hears-down : (old new : World D) (w : WorldState) (ks : Kepts) (n : Name) (now : ℕ) (m m' : Member) (s : Shown) → IsRun w ks
      → StandsFor told_by failures stops_alone alone rs old w ks → new.machine ≡ old.machine → new.id ≡ old.id → IsTurn old.actors n m m' new.actors
      → HearsDown n m m' s → Comes told_by failures stops_alone alone rs w ks now (told.Hear n) new (Ok s)
  hears-down old new w ks n now m m' s r st machine id turn z = (
    ap is_client t.named,
    refl,
    go z.0 (subst (λ (i : KeptConn). TakesDown i z.0 z.1) (ap (λ (y : Member). y.conn) t.is) z.2)
        (z.3 ∙ ap (λ (y : Member). record y { client = kept_hears_down z.0 y.client; conn = z.1 }) t.is)
        (z.4 ∙ ap (λ (i : UndoState). shows_hears n i.client z.0) client),
  )
    where
      t : Turns told_by failures stops_alone alone rs new w ks n m m'
      t = turns told_by failures stops_alone alone rs old new w ks n m m' st machine id turn

      x : AMember
      x = t.member

      q : Keeps (birth_at w.pad x.birth) x.client (ks n).client
      q = keeps w ks n x r t.named

      client : m.client ≡ ks n
      client = ap (λ (y : Member). y.client) t.is

      showing : (ds : List ADown) → x.conn.down ≡ ds → shows w ks now true (told.Hear n) ≡ shows_heard n x.client ds
      showing ds h = ap (of_client (shown.Nothing verb.Hear n) (shows_hear n)) t.named ∙ ap (shows_heard n x.client) h

      world : (ds : List ADown) → x.conn.down ≡ ds → hear_by w n (w.actors n) ≡ hear_first w n x ds
      world ds h = ap (hear_by w n) t.named ∙ ap (hear_first w n x) h

      kepts : (ds : List ADown) → x.conn.down ≡ ds → kept_hear ks n (w.actors n) ≡ kept_hear_first ks n ds
      kepts ds h = ap (kept_hear ks n) t.named ∙ ap (kept_hear_first ks n) h

      -- one that is heard, and what it makes of the client
      one : (first : ADown) (rest : List ADown) → x.conn.down ≡ first ∷ rest
          → m' ≡ record (member_of x (ks n)) { client = kept_hears_down (Some (down_of first)) (ks n); conn = conn_of (with_down x.conn rest) }
          → s ≡ shows_hears n (ks n).client (Some (down_of first)) → IsPlayed told_by failures stops_alone alone rs w ks now (told.Hear n) new s
      one (Closing word) rest e made is =
          let y = with_client (with_conn x (with_down x.conn rest)) (lost x.client) in
          IsEvent true (is ∙ sym (showing (Closing word ∷ rest) e)) refl (λ _. tt)
          (stands-as told_by failures stops_alone alone rs new _ _ _ _ (world (Closing word ∷ rest) e) (kepts (Closing word ∷ rest) e)
          (t.steps (with_actor w n (Named y)) y (undo_lost (ks n)) refl refl refl made))
      one (Spent rev) rest e made is =
          let y = with_client (with_conn x (with_down x.conn rest)) (without_sent x.client) in
          IsEvent true (is ∙ sym (showing (Spent rev ∷ rest) e)) refl (λ _. tt)
          (stands-as told_by failures stops_alone alone rs new _ _ _ _ (world (Spent rev ∷ rest) e) (kepts (Spent rev ∷ rest) e)
          (t.steps (with_actor (answered w x.number) n (Named y)) y (with_kept (ks n) (kept_nop (ks n).client)) refl refl refl made))
      one (Revision v) rest e made is =
          let y = with_client (with_conn x (with_down x.conn rest)) (heard (birth_at w.pad x.birth) v x.client) in
          let k = known-pad w x v in
          let own : is_kept_own v.session (ks n).client.sent_in ≡ is_own v.session x.client.sent = ap (is_kept_own v.session) q.sent_in ∙ own-alike v.session x.client.sent in
          let same : shows_hears n (ks n).client (Some (down_of (Revision v))) ≡ shows_heard n x.client (Revision v ∷ rest) =
          ap₂ (λ (b : Bool) (i : ℕ). if b then shown.Committed n (suc i) else shown.Heard n (suc i)) own q.rev in
          IsEvent true (is ∙ same ∙ sym (showing (Revision v ∷ rest) e)) refl (λ _. tt)
          (stands-as told_by failures stops_alone alone rs new _ _ _ _ (world (Revision v ∷ rest) e) (kepts (Revision v ∷ rest) e)
          (t.steps (with_actor (known_after w x v) n (Named y)) y (undo_hears_rev v.change v.session (ks n)) k.0 k.1 (ap (λ (f : Name → AnActor). put f n (Named y)) k.2) made))

      go : (o : Option Down) → TakesDown (conn_of x.conn) o z.1 → m' ≡ record (member_of x (ks n)) { client = kept_hears_down o (ks n); conn = z.1 }
          → s ≡ shows_hears n (ks n).client o → IsPlayed told_by failures stops_alone alone rs w ks now (told.Hear n) new s
      go None d made is =
          let h = hears-none x.conn z.1 d in
          IsEvent true (is ∙ sym (showing [] h.0)) refl (λ _. tt)
          (stands-as told_by failures stops_alone alone rs new _ _ _ _ (world [] h.0) (kepts [] h.0)
          (t.stays (made ∙ ap (λ (i : KeptConn). record (member_of x (ks n)) { conn = i }) h.1 ∙ sym t.is)))
      go (Some d) takes made is =
          let h = takes-telling x.conn d z.1 takes in
          one h.first h.rest h.down
          (made
          ∙ ap (λ (i : Down). record (member_of x (ks n)) { client = kept_hears_down (Some i) (ks n); conn = z.1 }) h.is
          ∙ ap (λ (i : KeptConn). record (member_of x (ks n)) { client = kept_hears_down (Some (down_of h.first)) (ks n); conn = i }) h.after)
          (is ∙ ap (λ i. shows_hears n (ks n).client (Some i)) h.is)

  -- ---- a client is lost

  pub loses : (old new : World D) (w : WorldState) (ks : Kepts) (n : Name) (now : ℕ) (m m' : Member) (was : Bool) (s : Shown) → IsRun w ks
      → StandsFor told_by failures stops_alone alone rs old w ks → new.machine ≡ old.machine → new.id ≡ old.id → IsTurn old.actors n m m' new.actors
      → was ≡ m.client.client.connected → m' ≡ kept_member_lost m → s ≡ (if was then shown.Done verb.Lose (Some n) else shown.Nothing verb.Lose n)
      → Comes told_by failures stops_alone alone rs w ks now (told.Lose n) new (Ok s)
  loses old new w ks n now m m' was s r st machine id turn is lost-now shows-it = (
    ap is_client t.named,
    refl,
    IsEvent true
        (shows-it
        ∙ ap (λ b. if b then shown.Done verb.Lose (Some n) else shown.Nothing verb.Lose n) (is ∙ ap (λ (i : Member). i.client.client.connected) t.is ∙ q.connected)
        ∙ sym (ap (of_client (shown.Nothing verb.Lose n) (shows_lose n)) t.named)) refl (λ _. tt)
        (stands-as told_by failures stops_alone alone rs new _ _ _ _ (ap (lose_by w n) t.named) (ap (kept_lose ks n) t.named)
        (t.steps (with_actor w n (Named (lost_member x))) (lost_member x) (undo_lost (ks n)) refl refl refl
        (lost-now ∙ ap kept_member_lost t.is ∙ go (ks n).client.connected refl))),
  )
    where
      t : Turns told_by failures stops_alone alone rs new w ks n m m'
      t = turns told_by failures stops_alone alone rs old new w ks n m m' st machine id turn

      x : AMember
      x = t.member

      q : Keeps (birth_at w.pad x.birth) x.client (ks n).client
      q = keeps w ks n x r t.named

      y : AMember
      y = with_client (with_conn x (with_down x.conn [])) (lost x.client)

      go : (b : Bool) → (ks n).client.connected ≡ b → kept_member_lost (member_of x (ks n)) ≡ member_of (lost_member x) (undo_lost (ks n))
      go true e =
          ap (λ b. if b then record (member_of x (ks n)) { client = undo_lost (ks n); conn = kept_down (conn_of x.conn) [] } else member_of x (ks n)) e
          ∙ sym (ap (λ b. member_of (if b then y else x) (undo_lost (ks n))) (sym q.connected ∙ e))
      go false e =
          ap (λ b. if b then record (member_of x (ks n)) { client = undo_lost (ks n); conn = kept_down (conn_of x.conn) [] } else member_of x (ks n)) e
          ∙ ap (λ b. member_of x (record (ks n) { client = record (ks n).client { connected = b } })) e
          ∙ sym (ap (λ b. member_of (if b then y else x) (undo_lost (ks n))) (sym q.connected ∙ e))
