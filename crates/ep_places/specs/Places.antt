-- Places of records, and the four bytes in which one is kept.
use Rattle.std.specs.Prelude.{ℕ, ◌/◌, ◌%◌, ◌==◌, nat_lt, if◌then◌else◌, List, Option, Some, None}
use Rattle.ep_places.specs.declared.place.Place.{Place}

-- of each revision its place or none, and for how many more there is room
pub record KeptPlaces : Type 0 where
  pub places : List (Option Place)
  pub room : ℕ

-- a place as it is kept: a record is read by format 1 or by format 2
abbrev pub kept_place : Place → Place
kept_place p = record p { format = if p.format == 1 then 1 else 2 }

-- one whose index is 2^30 - 1 or more is none
abbrev pub kept : Option Place → Option Place
kept None = None
kept (Some p) = if nat_lt p.index 1073741823 then Some (kept_place p) else None

-- the place that four bytes stand for
abbrev pub place_in : ℕ → Option Place
place_in slot =
    if slot == 4294967295 then None
    else Some (record { index = slot / 4; format = if nat_lt (slot % 4) 2 then 1 else 2; framed = slot % 2 == 1 })
