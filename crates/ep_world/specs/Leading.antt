-- Which worlds the events of a script lead to.
use Rattle.std.specs.Prelude.{◌≡◌, ◌⊎◌, ℕ, Bool, true, false, ◌&&◌, List, [], ◌∷◌, Option, None, IsSome}
use Rattle.ep_schedule.specs.World.{WorldState, Event}
use Rattle.ep_schedule.specs.Kepts.{AreKept, AreSubmittedAlike}
use Rattle.ep_world.specs.Kepts.{Kepts, clients_of, nobodies}
use Rattle.ep_schedule.specs.Headline.{Headline}
use Rattle.ep_schedule.specs.Hearing.{AreDue}
use Rattle.ep_event.specs.declared.event.Event.{Event as Told}
use Rattle.ep_world.specs.Events.{event_at, happened, has_text, is_known, kept_happened}
use Rattle.ep_world.specs.Journal.{Decides, begun, full_at, journal_after, journal_full}
use Rattle.ep_world.specs.Standing.{IsRun, StandsFor, overfull_at}
use Rattle.ep_world.specs.declared.world.World.{World}
use Rattle.ep_outside.specs.Disk.{Contents}
use Rattle.ep_history.specs.declared.record.Record.{Record}

-- What comes of an event at a moment, and the journal then. It is played where somebody of its kind has the name and what it
-- brings is a text: what it asks for happens and is recorded, or else what a journal without room makes of it does. Of a crash
-- within a take the image that is asked for decides, where the disk fails in a stop alone.
abbrev pub BecomesIf : Bool → Bool → List Record → WorldState → Kepts → ℕ × Told → Option Event → List Record → Type 0
BecomesIf true alone rs w ks e o qs =
    ((kept : Bool) × (o ≡ event_at w ks e.0 kept e.1) × (full_at rs w e.0 kept e.1 ≡ None) × (alone ≡ true → Decides rs w e.0 e.1 kept) × (qs ≡ journal_after rs w e.0 kept e.1))
    ⊎ ((kept : Bool) × (o ≡ overfull_at rs w e.0 kept e.1) × IsSome (full_at rs w e.0 kept e.1) × (alone ≡ true → Decides rs w e.0 e.1 kept) × (qs ≡ journal_full rs w e.0 kept e.1))
BecomesIf false alone rs w ks e o qs = (o ≡ None) × (qs ≡ rs)

abbrev pub Becomes : Bool → List Record → WorldState → Kepts → ℕ × Told → Option Event → List Record → Type 0
Becomes alone rs w ks e o qs = BecomesIf (is_known w e.1 && has_text e.1) alone rs w ks e o qs

-- these events, each with its moment, lead from one journal and world to another
abbrev pub Lead : Bool → List Record → WorldState → Kepts → List (ℕ × Told) → List Record → WorldState → Kepts → Type 0
Lead alone rs w ks [] qs v js = (qs ≡ rs) × (v ≡ w) × (js ≡ ks)
Lead alone rs w ks (e ∷ es) qs v js =
    (o : Option Event) × (next : List Record) × Becomes alone rs w ks e o next × Lead alone next (happened w o) (kept_happened w ks e.1 o) es qs v js

-- what the schedule theorem says of a world that some events lead to, and of its clients as they are kept
pub record IsScheduled (w : WorldState) (ks : Kepts) : Type 0 where
  pub headline : Headline w
  pub shown : AreKept w (clients_of ks)
  pub sent : AreSubmittedAlike w (clients_of ks)
  pub heard : AreDue w

-- what holds while events are played: some of them lead to a run for which the world in code stands
module _ {D : Type 0} (told_by : D → Option Contents) (failures : D → ℕ) (stops_alone : D → Bool) (alone : Bool) where
  pub record Stays (code : World D) (first : WorldState) (es : List (ℕ × Told)) : Type 0 where
    pub journal : List Record
    pub world : WorldState
    pub kepts : Kepts
    pub leads : Lead alone begun first nobodies es journal world kepts
    pub run : IsRun world kepts
    pub stands : StandsFor told_by failures stops_alone alone journal code world kepts
