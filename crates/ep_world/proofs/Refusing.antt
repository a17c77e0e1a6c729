-- What comes late is refused.
use Rattle.std.proofs.Common.{◌≡◌, ℕ, Bool, true, false, List, [], ◌∷◌, Option, Some, None, inl, inr, if◌then◌else◌, refl, sym, ap, ◌∙◌, subst}
use Rattle.std.specs.Prelude.{IfErr}
use Rattle.ep_units.specs.Text.{Text}
use Rattle.ep_units.specs.declared.session.Session.{Session}
use Rattle.ep_outside.specs.declared.limits.Limits.{Limits}
use Rattle.ep_cs.specs.EditFits.{is_edit}
use Rattle.ep_history.specs.Accept.{live_fault, refusal, seat_fault}
use Rattle.ep_history.specs.Pad.{PadState, seat_of}
use Rattle.ep_history.specs.declared.pad_bad.PadBad.TheVariants as bad
use Rattle.ep_history.specs.declared.seat.Seat.{Seat}
use Rattle.ep_history.specs.declared.seat.Why.{Why}
use Rattle.ep_history.proofs.Lists.{none_some, some_same}
use Rattle.ep_schedule.specs.Headline.{after, first_sent}
use Rattle.ep_world.specs.Kepts.{Kepts}
use Rattle.ep_schedule.specs.World.{Name, Actor, Conn, Event, Member, Message, Reason, WorldState, late_as, late_by, late_first, late_of, pad_reason, reason, run, start, with_earlier, with_up}
use Rattle.ep_schedule.specs.World.Actor.{Nobody, Guest, Named}
use Rattle.ep_schedule.specs.World.Reason.{Unread, Refused}
use Rattle.ep_schedule.proofs.Good.{IsGoodActor, IsGoodWorld, same-author, session_of}
use Rattle.ep_schedule.proofs.Runs.{run-good, start-good}
use Rattle.ep_world.specs.declared.bad.WorldBad.{WorldBad}
use Rattle.ep_world.specs.declared.bad.WorldBad.TheVariants as world_bad
use Rattle.ep_world.specs.declared.taking.Took.{Took}
use Rattle.ep_world.specs.declared.taking.Took.TheVariants as took
use Rattle.ep_world.specs.Journal.{record_if, record_taken}
use Rattle.ep_world.specs.Late.{IsRefused, RefusesLate, next_late}
use Rattle.ep_world.specs.Shows.{late_up}
use Rattle.ep_world.specs.Standing.{IsRun}
use Rattle.ep_world.specs.Taking.{shows_late}

-- the session of the connection before the last resumption has ended
ended : (w : WorldState) → IsGoodWorld w → (n : Name) (m : Member) (c : Conn) → w.actors n ≡ Named m → m.earlier ≡ Some c → (l : Seat) → seat_of w.pad c.session ≡ Some l → l.end ≡ None → ⊥
ended w g n m c is earlier l found live =
    let mine = subst (IsGoodActor w.pad w.taken w.edits n) is (g.actors n) in
    let held = g.live c.session l found live in
    let same : held.0 ≡ n = same-author (sym held.1 ∙ mine.earlier_mine c earlier l found) in
    let session : session_of (Named m) ≡ Some c.session = ap session_of (sym is) ∙ ap (λ k. session_of (w.actors k)) (sym same) ∙ held.2 in
    mine.earlier_other c earlier (sym (some_same session) ∙ sym mine.current)

pub refused-late : (w : WorldState) → IsGoodWorld w → (n : Name) (m : Member) (c : Conn) (msg : Message) → w.actors n ≡ Named m → m.earlier ≡ Some c → IsRefused w.pad c.session msg
refused-late w g n m c msg is earlier = go (is_edit msg.change.edit) refl
  where
    dead : (why : Why) → refusal w.pad c.session msg.base msg.change ≡ Some (bad.Dead why) → is_edit msg.change.edit ≡ true → IsRefused w.pad c.session msg
    dead why r e = inr (why, ap (λ t. if t then pad_reason (refusal w.pad c.session msg.base msg.change) else Some (Unread msg.unread)) e ∙ ap pad_reason r)

    live : (l : Seat) → seat_of w.pad c.session ≡ Some l → is_edit msg.change.edit ≡ true → (o : Option Why) → l.end ≡ o → IsRefused w.pad c.session msg
    live l f e None d = absurd (ended w g n m c is earlier l f d)
    live l f e (Some why) d = dead why (ap (λ o. seat_fault w.pad o msg.base msg.change) f ∙ ap (λ o. live_fault w.pad l o msg.base msg.change) d) e

    seat : is_edit msg.change.edit ≡ true → (o : Option Seat) → seat_of w.pad c.session ≡ o → IsRefused w.pad c.session msg
    seat e None f = dead _ (ap (λ o. seat_fault w.pad o msg.base msg.change) f) e
    seat e (Some l) f = live l f e l.end refl

    go : (t : Bool) → is_edit msg.change.edit ≡ t → IsRefused w.pad c.session msg
    go true e = seat e (seat_of w.pad c.session) refl
    go false e = inl (ap (λ t. if t then pad_reason (refusal w.pad c.session msg.base msg.change) else Some (Unread msg.unread)) e)

-- it is refused for some reason
pub late-reason : (pad : PadState) (s : Session) (msg : Message) → IsRefused pad s msg → (r : Reason) × (reason pad s msg ≡ Some r)
late-reason pad s msg (inl e) = (Unread msg.unread, e)
late-reason pad s msg (inr e) = (Refused (bad.Dead e.0), e.1)

pub good-of : (w : WorldState) (ks : Kepts) → IsRun w ks → IsGoodWorld w
good-of w ks r = subst IsGoodWorld (sym r.world) (run-good r.events (start r.limits r.id) (start-good r.limits r.id))

pub refuses-late : (w : WorldState) → IsGoodWorld w → RefusesLate w
refuses-late w g = record {
  refused = λ n s msg e. one n s msg (w.actors n) refl e;
  unrecorded = λ now n. by n now (w.actors n) refl;
  pad = λ now n. stays n now (w.actors n) refl;
}
  where
    one : (n : Name) (s : Session) (msg : Message) (a : Actor) → w.actors n ≡ a → next_late a ≡ Some (s, msg) → IsRefused w.pad s msg
    one n s msg Nobody is e = none_some e
    one n s msg (Guest c) is e = none_some e
    one n s msg (Named m) is e = of m.earlier refl e
      where
        first : (c : Conn) → m.earlier ≡ Some c → (up : List Message) → first_sent c.session up ≡ Some (s, msg) → IsRefused w.pad s msg
        first c h [] e = none_some e
        first c h (x ∷ up) e =
            let p = some_same e in
            subst (λ (y : Session × Message). IsRefused w.pad y.0 y.1) p (refused-late w g n m c x is h)

        of : (o : Option Conn) → m.earlier ≡ o → late_up o ≡ Some (s, msg) → IsRefused w.pad s msg
        of None h e = none_some e
        of (Some c) h e = first c h c.up e

    by : (n : Name) (now : ℕ) (a : Actor) → w.actors n ≡ a → record_taken w.pad now (next_late a) ≡ None
    by n now Nobody is = refl
    by n now (Guest c) is = refl
    by n now (Named m) is = of m.earlier refl
      where
        of : (o : Option Conn) → m.earlier ≡ o → record_taken w.pad now (late_up o) ≡ None
        of None h = refl
        of (Some c) h = first c.up
          where
            first : (up : List Message) → record_taken w.pad now (first_sent c.session up) ≡ None
            first [] = refl
            first (x ∷ up) = let r = late-reason w.pad c.session x (refused-late w g n m c x is h) in ap (record_if w.pad c.session now x) r.1

    stays : (n : Name) (now : ℕ) (a : Actor) → w.actors n ≡ a → (late_by w now n a).pad ≡ w.pad
    stays n now Nobody is = refl
    stays n now (Guest c) is = refl
    stays n now (Named m) is = of m.earlier refl
      where
        of : (o : Option Conn) → m.earlier ≡ o → (late_of w now n m o).pad ≡ w.pad
        of None h = refl
        of (Some c) h = first c.up
          where
            first : (up : List Message) → (late_first w now n m c up).pad ≡ w.pad
            first [] = refl
            first (x ∷ up) =
                let r = late-reason w.pad c.session x (refused-late w g n m c x is h) in
                ap (λ o. (late_as w now n (with_earlier m (with_up c up)) c.session x o).pad) r.1

pub law : (limits : Limits) (id : Text) (events : List Event) → RefusesLate (after limits id events)
law limits id events = refuses-late (run events (start limits id)) (run-good events (start limits id) (start-good limits id))

-- so a late take never ends a world, but that memory may be wanting
pub late-ends : (n : Name) (t : Took) (P : WorldBad → Type 0) → P world_bad.NoMemory → IfErr (shows_late n t) P
late-ends n (took.Made c) P m = tt
late-ends n (took.Refused x) P m = tt
late-ends n (took.NoRoom k) P m = m
late-ends n (took.Shut k) P m = m
