-- What happens from a schedule's beginning to its end.
use Rattle.std.specs.Prelude.{◌≡◌, ℕ, zero, suc, [], codes}
use Rattle.ep_units.specs.Text.{Text}
use Rattle.ep_units.specs.Utf8.{units_of}
use Rattle.ep_outside.specs.declared.limits.Limits.{Limits}
use Rattle.ep_schedule.specs.World.{Name, WorldState, start}
use Rattle.ep_event.specs.declared.event.Event.TheVariants.{Create, Login}
use Rattle.ep_make.specs.Draws.{name_of}
use Rattle.ep_make.specs.Round.{IsDrained, Round, after, sent}

-- what the pad is held to: the limits of a play
abbrev pub make_limits : Limits
make_limits = record { live = 500; logins = 1000000; units = 1000000; journal = 268435456; openings = 0; pads = 10000 }

-- the name of the pad
abbrev pub pad_name : Text
pad_name = units_of (codes "pad")

-- a pad that is created with an empty text
abbrev pub new_world : WorldState
new_world = after (start make_limits pad_name) (Create [])

-- a step of each of the clients 1 to k, in order
abbrev pub Each : (Name → WorldState → WorldState → Type 0) → ℕ → WorldState → WorldState → Type 0
Each Step zero w v = v ≡ w
Each Step (suc k) w v = (u : WorldState) × Each Step k w u × Step (name_of (suc k)) u v

abbrev pub LogsIn : Name → WorldState → WorldState → Type 0
LogsIn n w v = v ≡ after w (Login n)

-- so many rounds, from a last number and a world to those behind them
abbrev pub Rounds : ℕ → ℕ → ℕ → WorldState → ℕ → WorldState → Type 0
Rounds zero clients x w y v = (y ≡ x) × (v ≡ w)
Rounds (suc k) clients x w y v = (z : ℕ) × (u : WorldState) × Rounds k clients x w z u × Round clients z u y v

-- so many times a client is drained and sends
abbrev pub Settles : ℕ → Name → WorldState → WorldState → Type 0
Settles zero n w v = v ≡ w
Settles (suc k) n w v = (u : WorldState) × (t : WorldState) × Settles k n w u × IsDrained n u t × (v ≡ sent t n)

-- The world that the schedule of a number makes, with so many clients and edits: the clients log in, and the rounds are
-- played. Then each client in order is drained and sends, three times, and then each is drained.
pub record Makes (number clients edits : ℕ) (end : WorldState) : Type 0 where
  pub begun : WorldState
  pub last : ℕ
  pub played : WorldState
  pub settled : WorldState
  pub logins : Each LogsIn clients new_world begun
  pub rounds : Rounds edits clients number begun last played
  pub settles : Each (Settles 3) clients played settled
  pub drains : Each IsDrained clients settled end
