-- What comes late is refused.
use Rattle.std.specs.Prelude.{◌≡◌, ◌⊎◌, ℕ, Option, Some, None}
use Rattle.ep_units.specs.declared.session.Session.{Session}
use Rattle.ep_history.specs.Pad.{PadState}
use Rattle.ep_history.specs.declared.pad_bad.PadBad.TheVariants.{Dead}
use Rattle.ep_history.specs.declared.seat.Why.{Why}
use Rattle.ep_schedule.specs.World.{Name, Message, Actor, WorldState, happens, reason}
use Rattle.ep_schedule.specs.World.Reason.{Unread, Refused}
use Rattle.ep_schedule.specs.World.Event.{Late}
use Rattle.ep_event.specs.declared.event.Event.TheVariants as told
use Rattle.ep_world.specs.Events.{of_client}
use Rattle.ep_world.specs.Journal.{record_at}
use Rattle.ep_world.specs.Shows.{late_up}

-- the first message of the connection that a client had before its last resumption, with that connection's session
abbrev pub next_late : Actor → Option (Session × Message)
next_late a = of_client None (λ m. late_up m.earlier) a

-- a message is refused, since its text spells no change or its session has ended
abbrev pub IsRefused : PadState → Session → Message → Type 0
IsRefused pad s msg = (reason pad s msg ≡ Some (Unread msg.unread)) ⊎ ((why : Why) × (reason pad s msg ≡ Some (Refused (Dead why))))

-- Each message that comes late is refused, and nothing of it is recorded: the pad stays as it was.
pub record RefusesLate (w : WorldState) : Type 0 where
  pub refused : (n : Name) (s : Session) (msg : Message) → next_late (w.actors n) ≡ Some (s, msg) → IsRefused w.pad s msg
  pub unrecorded : (now : ℕ) (n : Name) → record_at w now (told.Late n) ≡ None
  pub pad : (now : ℕ) (n : Name) → (happens w (Late now n)).pad ≡ w.pad
