-- What happens in one round of a schedule: a client that is drawn edits, sends, and hears, or is lost, or neither.
use Rattle.std.specs.Prelude.{◌≡◌, ℕ, zero, suc, ◌+◌, Bool, true, false, not, if◌then◌else◌, length}
use Rattle.ep_schedule.specs.World.{Name, WorldState}
use Rattle.ep_event.specs.declared.event.Event.{Event}
use Rattle.ep_event.specs.declared.event.Event.TheVariants.{Edit, Hear, Lose, Push, Resume, Submit, Take}
use Rattle.ep_event.specs.declared.shown.Shown.{Shown}
use Rattle.ep_event.specs.declared.shown.Shown.TheVariants.{Nothing}
use Rattle.ep_world.specs.Kepts.{nobodies}
use Rattle.ep_world.specs.Events.{event_at, happened, of_client, view_of}
use Rattle.ep_world.specs.Shows.{shows}
use Rattle.ep_make.specs.Draws.{drawn_edit, name_of}
use Rattle.ep_make.specs.Generator.{following, pick}

-- ---- events

-- the world after an event at the moment 0. Neither a stop nor an undo or a redo is one of a schedule, so that there is nothing to
-- choose, and no stack is asked.
unfoldable pub after : WorldState → Event → WorldState
after w e = happened w (event_at w nobodies 0 false e)

-- that there is nothing to do is shown
abbrev pub is_nothing : Shown → Bool
is_nothing (Nothing verb name) = true
is_nothing shown = false

-- an event finds something to do
unfoldable pub does : WorldState → Event → Bool
does w e = not (is_nothing (shows w nobodies 0 false e))

-- so many pushes tell something, which is heard, and the next says that there is nothing
abbrev pub Drains : ℕ → Name → WorldState → WorldState → Type 0
Drains zero n w v = (does w (Push n) ≡ false) × (v ≡ after w (Push n))
Drains (suc k) n w v = (does w (Push n) ≡ true) × Drains k n (after (after w (Push n)) (Hear n)) v

-- push and hear, until push says that there is nothing
abbrev pub IsDrained : Name → WorldState → WorldState → Type 0
IsDrained n w v = (k : ℕ) × Drains k n w v

-- a client submits, and where there is a submission the server takes it
abbrev pub sent : WorldState → Name → WorldState
sent w n = if does w (Submit n) then after (after w (Submit n)) (Take n) else after w (Submit n)

-- it is lost, and resumes
abbrev pub back : WorldState → Name → WorldState
back w n = after (after w (Lose n)) (Resume n)

-- ---- a round

-- by a number below 3 a client is drained, or is lost and resumes, or neither
abbrev pub Rests : ℕ → Name → WorldState → WorldState → Type 0
Rests zero n w v = IsDrained n w v
Rests (suc zero) n w v = v ≡ back w n
Rests (suc (suc k)) n w v = v ≡ w

-- how many units a client sees
unfoldable pub view_length : WorldState → Name → ℕ
view_length w n = of_client 0 (λ m. length (view_of w.pad m)) (w.actors n)

-- from a last number and a world to those behind it, by the client n
abbrev pub RoundOf : Name → ℕ → WorldState → ℕ → WorldState → Type 0
RoundOf n x w y v =
    let d = drawn_edit (view_length w n) x in
    Rests (pick 3 d.1) n (sent (after w (Edit n d.0)) n) v × (y ≡ following d.1)

-- by one of so many
abbrev pub Round : ℕ → ℕ → WorldState → ℕ → WorldState → Type 0
Round clients x w y v = RoundOf (name_of (pick clients x + 1)) (following x) w y v
