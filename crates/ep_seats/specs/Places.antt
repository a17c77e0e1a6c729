-- Working words of private contracts: places by author and by number.
use Rattle.std.specs.Prelude.{◌≡◌, ℕ, suc, Bool, false, ◌==◌, if◌then◌else◌, List, [], ◌∷◌, Option, Some, None}
use Rattle.ep_units.specs.Text.{Text, text_eq}
use Rattle.ep_units.specs.declared.session.Session.{Session}
use Rattle.ep_history.specs.Lists.{at, numbered}
use Rattle.ep_history.specs.declared.seat.Why.{Why}
use Rattle.ep_seats.specs.Kept.{KeptSeats}
use Rattle.ep_seats.specs.declared.place.Place.{Place}
use Rattle.ep_seats.specs.declared.place.Place.TheVariants.{Sits, Ended}

-- whether this author sits at a place
abbrev pub sits : Text → Place → Bool
sits author (Sits sitting read_only) = text_eq sitting author
sits author (Ended why) = false

-- the same, where there is a place
abbrev pub sits_at : Text → Option Place → Bool
sits_at author None = false
sits_at author (Some p) = sits author p

-- a place where this author sat has ended
abbrev pub replaced_place : Text → Why → Place → Place
replaced_place author why (Sits sitting read_only) = if text_eq sitting author then Ended why else Sits sitting read_only
replaced_place author why (Ended old) = Ended old

-- a place has ended, for this where somebody sat there
abbrev pub ended_place : Why → Place → Place
ended_place why (Sits sitting read_only) = Ended why
ended_place why (Ended old) = Ended old

-- the place of a session, where the opening made it
abbrev pub place_for : KeptSeats → Session → Option Place
place_for k s = if s.epoch == k.epoch then numbered k.places s.count else None

-- the indices, counted from n, of the places where somebody sits
abbrev pub taken_from : ℕ → List Place → List ℕ
taken_from n [] = []
taken_from n (Sits author read_only ∷ ps) = n ∷ taken_from (suc n) ps
taken_from n (Ended why ∷ ps) = taken_from (suc n) ps

-- of two places where one author sits, one is the other
abbrev pub IsSingle : List Place → Type 0
IsSingle ps = (i j : ℕ) (author : Text) (one other : Bool) → at ps i ≡ Some (Sits author one) → at ps j ≡ Some (Sits author other) → i ≡ j
