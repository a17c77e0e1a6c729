-- For which worlds of the rules a world in code stands, and what its calls come to there.
use Rattle.std.specs.Prelude.{◌≡◌, ◌⊎◌, ℕ, ◌<◌, Bool, true, false, if◌then◌else◌, List, [], Option, Some, None, Result, Ok, Err, IfErr}
use Rattle.ep_units.specs.Text.{Text, text_eq}
use Rattle.ep_outside.specs.Disk.{Contents}
use Rattle.ep_outside.specs.declared.limits.Limits.{Limits}
use Rattle.ep_history.specs.Entries.{Entry, Answer, Outcome, Reply, outcome}
use Rattle.ep_history.specs.Entries.Outcome.{Refuses, Answers, Records}
use Rattle.ep_history.specs.Machine.{MachineState, IsKeptState}
use Rattle.ep_history.specs.Pad.{PadState}
use Rattle.ep_history.specs.declared.pad_bad.PadBad.TheVariants as bad
use Rattle.ep_history.specs.declared.record.Record.{Record}
use Rattle.ep_history.specs.declared.record.Record.TheVariants as record_of
use Rattle.ep_schedule.specs.World.{Name, WorldState, Event, start, run}
use Rattle.ep_schedule.specs.World.Event.{Lose, Overfull, Stop, Take}
use Rattle.ep_schedule.specs.Kepts.{nobodies, run_kept}
use Rattle.ep_world.specs.Kepts.{Kepts, clients_of}
use Rattle.ep_pad.specs.Held.{Held}
use Rattle.ep_pad.specs.Opening.{HasRisenTo}
use Rattle.ep_pad_file.specs.Standing.{Holds, MayHold}
use Rattle.ep_pad.specs.Standing.{Stands}
use Rattle.ep_event.specs.declared.event.Event.{Event as Told}
use Rattle.ep_event.specs.declared.event.Event.TheVariants as told
use Rattle.ep_event.specs.declared.shown.Shown.{Shown}
use Rattle.ep_world.specs.declared.bad.WorldBad.{WorldBad}
use Rattle.ep_world.specs.declared.bad.WorldBad.TheVariants as world_bad
use Rattle.ep_world.specs.Actors.{AreActors, actor_of}
use Rattle.ep_members.specs.Actors.{found}
use Rattle.ep_world.specs.Events.{event_at, happened, kept_happened, is_known, has_text, stopped_name}
use Rattle.ep_world.specs.declared.world.World.{World}
use Rattle.ep_world.specs.Journal.{Decides, behind, full_at, full_by, full_in, is_shut, journal_after, journal_full, record_in, unopened}
use Rattle.ep_world.specs.Shows.{shows}

-- ---- runs

-- a world, and its clients as they are kept, to which some events lead; what is on their stacks is not asked
pub record IsRun (w : WorldState) (ks : Kepts) : Type 0 where
  pub limits : Limits
  pub id : Text
  pub events : List Event
  pub world : w ≡ run events (start limits id)
  pub kepts : clients_of ks ≡ run_kept events (start limits id) nobodies

-- ---- a pad's machine

-- the pad after what an entry comes to
abbrev pub pad_after : PadState → Outcome → PadState
pad_after pad (Refuses b) = pad
pad_after pad (Answers a next) = next
pad_after pad (Records r a next) = next

-- the answer
abbrev pub answer_of : Outcome → Option Answer
answer_of (Refuses b) = None
answer_of (Answers a next) = Some a
answer_of (Records r a next) = Some a

-- ---- a journal without room

-- An event for which it has none changes nothing, but that a take ends its session, and that who would have come back is lost.
-- Where the pad is shut each session is of an older opening, so that the rules refuse what is taken. A crash is one all the same.
abbrev pub overfull_at : List Record → WorldState → ℕ → Bool → Told → Option Event
overfull_at rs w now kept (told.Take n) = Some (if is_shut rs w.pad then Take now n else Overfull n)
overfull_at rs w now kept (told.Resume n) = Some (Lose n)
overfull_at rs w now kept (told.Stop at) = Some (Stop now (stopped_name at) kept)
overfull_at rs w now kept e = None

module _ {D : Type 0} (told_by : D → Option Contents) (failures : D → ℕ) (stops_alone : D → Bool) (alone : Bool) (rs : List Record) where
  -- an open machine in a state of this pad, which its records tell, and they are these; and its disk has this mark, that it
  -- fails in a stop alone
  pub record IsOpenAt (m : Held D) (p : PadState) : Type 0 where
    pub state : MachineState
    pub stands : Stands told_by failures m state
    pub kept : IsKeptState state
    pub is_open : state.is_open ≡ true
    pub records : state.records ≡ rs
    pub pad : state.pad ≡ p
    pub mark : stops_alone m.disk ≡ alone

  -- A closed machine, whose journal with these records has no room for an opening: so many bytes are too many. The pad is what
  -- they tell, but that it counts an opening more at least, and that nobody has entered it since.
  pub record IsShutAt (m : Held D) (p : PadState) : Type 0 where
    pub state : MachineState
    pub stands : Stands told_by failures m state
    pub kept : IsKeptState state
    pub is_closed : state.is_open ≡ false
    pub settled : state.pending ≡ []
    pub records : state.records ≡ rs
    pub pad : p ≡ record state.pad { epoch = p.epoch; sessions = [] }
    pub older : state.pad.epoch < p.epoch
    pub bytes : ℕ
    pub full : unopened rs p ≡ Some (bad.JournalFull bytes)
    pub mark : stops_alone m.disk ≡ alone

  -- one or the other
  abbrev pub IsAt : Held D → PadState → Type 0
  IsAt m p = IsOpenAt m p ⊎ IsShutAt m p

  -- what its file has then
  abbrev pub IsLent : Held D → PadState → Type 0
  IsLent m p = (IsOpenAt m p × Holds (told_by m.disk) rs) ⊎ (IsShutAt m p × MayHold (told_by m.disk) rs [])

  -- ---- the world

  -- the world in code stands for this one, whose clients are kept like that
  pub record StandsFor (world : World D) (w : WorldState) (ks : Kepts) : Type 0 where
    pub machine : IsAt world.machine w.pad
    pub id : world.id ≡ w.id
    pub actors : AreActors world.actors w ks

  -- so does this one but for a name, whom somebody else holds
  pub record StandsBut (world : World D) (n : Name) (w : WorldState) (ks : Kepts) : Type 0 where
    pub machine : IsAt world.machine w.pad
    pub id : world.id ≡ w.id
    pub actors : (q : Name) → text_eq q n ≡ false → found world.actors q ≡ actor_of (w.actors q) (ks q)

module _ {D : Type 0} (told_by : D → Option Contents) (failures : D → ℕ) (stops_alone : D → Bool) (alone : Bool) (rs : List Record) where
  -- an entry is answered as the rules say, and its record is kept; or refused for its reason; or the journal has no room for
  -- its record, or for an opening before it; or the machine is good for nothing more
  abbrev pub IsAnswered : Held D → PadState → Entry → Reply → Held D → Type 0
  IsAnswered old pad e (Ok a) new =
      (answer_of (outcome pad e) ≡ Some a)
      × IsAt told_by failures stops_alone alone (behind rs (record_in (outcome pad e))) new (pad_after pad (outcome pad e))
      × (full_in rs pad (record_in (outcome pad e)) ≡ None)
  IsAnswered old pad e (Err bad.NoMemory) new = Unit {0}
  IsAnswered old pad e (Err (bad.Store n)) new = Unit {0}
  IsAnswered old pad e (Err (bad.JournalFull n)) new =
      IsAt told_by failures stops_alone alone rs new pad × (full_in rs pad (record_in (outcome pad e)) ≡ Some (bad.JournalFull n))
  IsAnswered old pad e (Err b) new = (outcome pad e ≡ Refuses b) × IsAt told_by failures stops_alone alone rs new pad × (full_in rs pad None ≡ None)

  -- ---- events

  -- an event was played: it is shown, and then the world in code stands for the one after it; or for the one in which the
  -- journal had no room, for its record or for an opening
  pub data IsPlayed (w : WorldState) (ks : Kepts) (now : ℕ) (e : Told) (new : World D) (shown : Shown) : Type 0 where
    IsEvent : (kept : Bool) → shown ≡ shows w ks now kept e → full_at rs w now kept e ≡ None → (alone ≡ true → Decides rs w now e kept)
        → StandsFor told_by failures stops_alone alone (journal_after rs w now kept e) new (happened w (event_at w ks now kept e)) (kept_happened w ks e (event_at w ks now kept e))
        → IsPlayed w ks now e new shown
    HasNoRoom : (kept : Bool) → full_at rs w now kept e ≡ Some shown → (alone ≡ true → Decides rs w now e kept)
        → StandsFor told_by failures stops_alone alone (journal_full rs w now kept e) new (happened w (overfull_at rs w now kept e)) (kept_happened w ks e (overfull_at rs w now kept e))
        → IsPlayed w ks now e new shown

  -- what an event comes to. Where nobody of the kind has the name, or where what it brings is no text, nothing happens.
  abbrev pub Comes : WorldState → Kepts → ℕ → Told → World D → Result Shown WorldBad → Type 0
  Comes w ks now e new (Ok shown) = (is_known w e ≡ true) × (has_text e ≡ true) × IsPlayed w ks now e new shown
  Comes w ks now e new (Err world_bad.Unknown) = (is_known w e ≡ false) × StandsFor told_by failures stops_alone alone rs new w ks
  Comes w ks now e new (Err world_bad.NoText) = (has_text e ≡ false) × StandsFor told_by failures stops_alone alone rs new w ks
  Comes w ks now e new (Err (world_bad.Full n)) = Unit {0}
  Comes w ks now e new (Err (world_bad.Store n)) = Unit {0}
  Comes w ks now e new (Err world_bad.NoMemory) = Unit {0}

module _ {D : Type 0} (told_by : D → Option Contents) (failures : D → ℕ) (stops_alone : D → Bool) where
  -- of each world for which it stood
  abbrev pub Plays : World D → ℕ → Told → Result Shown WorldBad → World D → Type 0
  Plays old now e result new =
      (alone : Bool) (rs : List Record) (w : WorldState) (ks : Kepts) → IsRun w ks → StandsFor told_by failures stops_alone alone rs old w ks
      → Comes told_by failures stops_alone alone rs w ks now e new result

-- ---- what ends a world

-- of a crash within a take it is said over a disk that fails in a stop alone, and over no other
abbrev pub Said : Bool → Told → Type 0 → Type 0
Said alone (told.Stop (Some at)) p = alone ≡ true → p
Said alone e p = p

-- Why an event ends a world, by the counts of its disk's faults before and behind it: the store failed, and its count rose
-- to this; or memory is wanting. A journal without room ends none.
abbrev pub IsEnded : Bool → Told → ℕ → ℕ → WorldBad → Type 0
IsEnded alone e before after (world_bad.Store n) = Said alone e (HasRisenTo before after n)
IsEnded alone e before after (world_bad.Full n) = ⊥
IsEnded alone e before after b = Unit {0}

-- why no world begins on a disk: the disk, when it was dropped, had failed, and its count had risen to this; or the journal,
-- where nothing was left on the disk, has no room for the first opening; or memory is wanting
abbrev pub IsUnbegun : {D : Type 0} → (D → Option Contents) → (D → ℕ) → D → Limits → Text → WorldBad → Type 0
IsUnbegun {D} told_by failures disk limits id (world_bad.Store n) = (back : D) × HasRisenTo (failures disk) (failures back) n
IsUnbegun {D} told_by failures disk limits id (world_bad.Full n) = MayHold (told_by disk) [] [] → full_by [] (start limits id).pad (Some (record_of.Open 1)) ≡ Some (bad.JournalFull n)
IsUnbegun {D} told_by failures disk limits id world_bad.NoMemory = Unit {0}
IsUnbegun {D} told_by failures disk limits id world_bad.Unknown = ⊥
IsUnbegun {D} told_by failures disk limits id world_bad.NoText = ⊥

module _ {D : Type 0} (told_by : D → Option Contents) (failures : D → ℕ) (stops_alone : D → Bool) where
  -- of each world for which it stood
  abbrev pub Ends : World D → ℕ → Told → Result Shown WorldBad → World D → Type 0
  Ends old now e result new =
      (alone : Bool) (rs : List Record) (w : WorldState) (ks : Kepts) → IsRun w ks → StandsFor told_by failures stops_alone alone rs old w ks
      → IfErr result (IsEnded alone e (failures old.machine.disk) (failures new.machine.disk))
