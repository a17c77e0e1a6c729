-- What is kept in memory of the sessions of one opening, and of which pads it tells.
use Rattle.std.specs.Prelude.{◌≡◌, ℕ, suc, ◌<◌, ◌^◌, Bool, List, length, map, Option, Some, None}
use Rattle.ep_units.specs.Text.{Text}
use Rattle.ep_units.specs.declared.session.Session.{Session}
use Rattle.ep_cs.specs.Change.{Change}
use Rattle.ep_history.specs.Pad.{PadState}
use Rattle.ep_history.specs.Accept.{refusal}
use Rattle.ep_history.specs.declared.seat.Seat.{Seat}
use Rattle.ep_history.specs.declared.seat.Why.{Why}
use Rattle.ep_history.specs.declared.pad_bad.PadBad.{PadBad}
use Rattle.ep_seats.specs.declared.place.Place.{Place}
use Rattle.ep_seats.specs.declared.place.Place.TheVariants.{Sits, Ended}

-- of a live seat the author and the leave are kept, and of one that has ended why it did
abbrev pub place_with : Text → Bool → Option Why → Place
place_with author read_only None = Sits author read_only
place_with author read_only (Some why) = Ended why

-- what is kept of a seat
abbrev pub place_of : Seat → Place
place_of l = place_with l.author l.read_only l.end

-- the number of the opening, what is kept of each session in order, and how many more may enter before memory is asked for
pub record KeptSeats : Type 0 where
  pub epoch : ℕ
  pub places : List Place
  pub room : ℕ

-- it is what is kept of the sessions of this pad
pub record StandsFor (k : KeptSeats) (pad : PadState) : Type 0 where
  pub epoch : pad.epoch ≡ k.epoch
  pub sessions : map place_of pad.sessions ≡ k.places

-- the answer is what holds of every pad that it stands for
abbrev pub Tells : {A : Type 0} → KeptSeats → (PadState → A) → A → Type 0
Tells k f answer = (pad : PadState) → StandsFor k pad → answer ≡ f pad

-- where it stood for a pad, it stands for what became of that pad
abbrev pub Becomes : KeptSeats → (PadState → PadState) → KeptSeats → Type 0
Becomes old f new = (pad : PadState) → StandsFor old pad → StandsFor new (f pad)

-- the number of the next session has 64 bits
abbrev pub HasNext : KeptSeats → Type 0
HasNext k = suc (length k.places) < 2 ^ 64

-- a live seat
abbrev pub live_seat : Text → Bool → Seat
live_seat author read_only = record { author = author; read_only = read_only; end = None }

-- every edit of this session, on every base, is refused for this
abbrev pub RefusesAll : KeptSeats → Session → PadBad → Type 0
RefusesAll k s bad = (base : ℕ) (c : Change) → Tells k (λ pad. refusal pad s base c) (Some bad)

-- ---- law

-- what is kept stands for some pad, so what is told of every such pad is told of one
abbrev pub AreToldOf : Type 0
AreToldOf = (k : KeptSeats) → (pad : PadState) × StandsFor k pad
