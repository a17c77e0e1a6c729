-- Working words of private contracts: what the sessions of an opening hold in memory.
use Rattle.std.specs.Prelude.{◌≡◌, ◌-◌, min, vec_len, vec_capacity}
use Rattle.ep_seats.specs.Kept.{KeptSeats}
use Rattle.ep_seats.specs.Places.{taken_from, IsSingle}
use Rattle.ep_seats.specs.declared.seats.Seats.TheInside as seats

-- what is kept
abbrev pub kept_of : seats.Inside → KeptSeats
kept_of s = record {
  epoch = s.epoch;
  places = s.places.items;
  room = min (vec_capacity s.places - vec_len s.places) (vec_capacity s.live - vec_len s.live);
}

-- the index has the places where somebody sits, and each author sits once
pub record IsHeld (s : seats.Inside) : Type 0 where
  pub taken : s.live.items ≡ taken_from 0 s.places.items
  pub single : IsSingle s.places.items
