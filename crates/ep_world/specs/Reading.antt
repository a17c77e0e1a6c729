-- What reading a world comes to.
use Rattle.std.specs.Prelude.{◌≡◌, ℕ, Bool, List, if◌then◌else◌, Option, Some, None, Result, Ok, Err, MatchResult}
use Rattle.ep_outside.specs.Disk.{Contents}
use Rattle.ep_cs.specs.Doc.{Doc}
use Rattle.ep_history.specs.History.{head, head_doc}
use Rattle.ep_history.specs.Kept.{KeptClient}
use Rattle.ep_history.specs.Pad.{PadState, newest}
use Rattle.ep_world.specs.Kepts.{Kepts}
use Rattle.ep_schedule.specs.World.{Name, WorldState}
use Rattle.ep_pad.specs.Held.{Held}
use Rattle.ep_event.specs.declared.shown.Shown.{Shown}
use Rattle.ep_world.specs.declared.bad.WorldBad.{WorldBad}
use Rattle.ep_world.specs.declared.bad.WorldBad.TheVariants as world_bad
use Rattle.ep_world.specs.declared.world.World.{World}
use Rattle.ep_history.specs.declared.pad_bad.PadBad.TheVariants as bad
use Rattle.ep_world.specs.declared.reading.Top.{Top}
use Rattle.ep_world.specs.declared.reading.Top.TheVariants as top
use Rattle.ep_world.specs.Events.{of_client}
use Rattle.ep_world.specs.Failing.{IsCaused, IsFailure}
use Rattle.ep_world.specs.Journal.{full_in}
use Rattle.ep_world.specs.Standing.{IsAt, StandsFor}
use Rattle.ep_history.specs.declared.record.Record.{Record}

-- the client of this name as it is kept, where there is one
abbrev pub client_kept : WorldState → Kepts → Name → Option KeptClient
client_kept w ks n = of_client None (λ m. Some (ks n).client) (w.actors n)

-- just this is shown of a client, or memory is wanting; where there is no client, that nobody has the name
abbrev pub ShowsClient : Option Shown → Result Shown WorldBad → Type 0
ShowsClient None r = r ≡ Err world_bad.Unknown
ShowsClient (Some s) (Ok x) = x ≡ s
ShowsClient (Some s) (Err b) = b ≡ world_bad.NoMemory

-- the head with its document, where the pad is there
abbrev pub head_there : PadState → Option (ℕ × Doc)
head_there pad = if pad.present then Some (head (newest pad), head_doc (newest pad)) else None

-- what is found of the head of a pad with these records
abbrev pub IsTop : List Record → PadState → Top → Type 0
IsTop rs pad (top.There r doc) = (head_there pad ≡ Some (r, doc)) × (full_in rs pad None ≡ None)
IsTop rs pad top.Gone = (head_there pad ≡ None) × (full_in rs pad None ≡ None)
IsTop rs pad (top.Shut n) = full_in rs pad None ≡ Some (bad.JournalFull n)

module _ {D : Type 0} (told_by : D → Option Contents) (failures : D → ℕ) (stops_alone : D → Bool) (alone : Bool) (rs : List Record) where
  -- the head is told, and the machine is where it was
  abbrev pub TellsHead : PadState → Result Top WorldBad → Held D → Type 0
  TellsHead pad r new = MatchResult r (λ x. IsTop rs pad x × IsAt told_by failures stops_alone alone rs new pad) IsFailure

  -- just this is shown of the pad, and the world stands as before; or it ends for its cause, by its disk's count of faults before
  abbrev pub ShowsPad : ℕ → WorldState → Kepts → Shown → Result Shown WorldBad → World D → Type 0
  ShowsPad before w ks s r new =
      MatchResult r (λ x. (x ≡ s) × StandsFor told_by failures stops_alone alone rs new w ks) (λ b. IsFailure b × IsCaused before (failures new.machine.disk) b)
