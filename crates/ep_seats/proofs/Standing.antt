-- What holds of the seats for which places stand.
use Rattle.std.proofs.Common.{◌≡◌, ℕ, zero, suc, ◌+◌, ◌-◌, ◌≤◌, Bool, true, false, not, ◌||◌, ◌&&◌, ◌==◌, if◌then◌else◌, List, [], ◌∷◌, map, length, set, Option, Some, None, is_some, refl, sym, ap, ◌∙◌, arith}
use Rattle.std.specs.List.{list_any}
use Rattle.std.proofs.lemmas.List.{length-map}
use Rattle.ep_units.specs.Text.{Text, text_eq}
use Rattle.ep_units.specs.declared.session.Session.{Session}
use Rattle.ep_history.specs.Lists.{at, numbered}
use Rattle.ep_history.specs.Pad.{PadState, AreSingle, seat_of, live_count, has_live, leave, ended, end_at, end_numbered, first_end, replaced, next_session}
use Rattle.ep_history.specs.declared.seat.Seat.{Seat}
use Rattle.ep_history.specs.declared.seat.Why.{Why}
use Rattle.ep_history.specs.declared.seat.Why.TheVariants.{Left, Replaced}
use Rattle.ep_history.proofs.Lists.{none_some, some_same, at-below}
use Rattle.ep_seats.specs.Kept.{AreToldOf, KeptSeats, StandsFor, live_seat, place_of, place_with}
use Rattle.ep_seats.specs.Places.{sits, replaced_place, ended_place, taken_from, IsSingle}
use Rattle.ep_seats.specs.declared.place.Place.{Place}
use Rattle.ep_seats.specs.declared.place.Place.TheVariants.{Sits, Ended}

-- ---- the live ones

pub length-taken : (n : ℕ) (ls : List Seat) → length (taken_from n (map place_of ls)) ≡ live_count ls
length-taken n [] = refl
length-taken n (l ∷ ls) = go (λ m. length-taken m ls) l.end
  where
    go : ((m : ℕ) → length (taken_from m (map place_of ls)) ≡ live_count ls) → (end : Option Why) → length (taken_from n (place_with l.author l.read_only end ∷ map place_of ls)) ≡ (if not (is_some end) then 1 else 0) + live_count ls
    go later None = omega (arith, later (suc n))
    go later (Some why) = omega (arith, later (suc n))

pub any-sits : (author : Text) (ls : List Seat) → list_any (sits author) (map place_of ls) ≡ has_live author ls
any-sits author [] = refl
any-sits author (l ∷ ls) = go (any-sits author ls) l.end
  where
    go : list_any (sits author) (map place_of ls) ≡ has_live author ls → (end : Option Why) → (sits author (place_with l.author l.read_only end) || list_any (sits author) (map place_of ls)) ≡ ((not (is_some end) && text_eq l.author author) || has_live author ls)
    go later None = ap (λ b. text_eq l.author author || b) later
    go later (Some why) = later

at-places : (ls : List Seat) (i : ℕ) (l : Seat) → at ls i ≡ Some l → at (map place_of ls) i ≡ Some (place_of l)
at-places [] i l e = none_some e
at-places (x ∷ xs) zero l e = ap (λ o. Some (place_of o)) (some_same e)
at-places (x ∷ xs) (suc i) l e = at-places xs i l e

pub single : (k : KeptSeats) (pad : PadState) → StandsFor k pad → IsSingle k.places → AreSingle pad.sessions
single k pad h s i j l m p q live live' same = s i j l.author l.read_only m.read_only (sitting i l p live) (sitting j m q live' ∙ ap (λ a. Some (Sits a m.read_only)) (sym same))
  where
    sitting : (i : ℕ) (l : Seat) → at pad.sessions i ≡ Some l → l.end ≡ None → at k.places i ≡ Some (Sits l.author l.read_only)
    sitting i l p live = ap (λ ps. at ps i) (sym h.sessions) ∙ at-places pad.sessions i l p ∙ ap (λ e. Some (place_with l.author l.read_only e)) live

-- ---- what ends

pub places-ended : (why : Why) (ls : List Seat) → map place_of (map (ended why) ls) ≡ map (ended_place why) (map place_of ls)
places-ended why [] = refl
places-ended why (l ∷ ls) = λ i. go l.end i ∷ places-ended why ls i
  where
    go : (end : Option Why) → place_with l.author l.read_only (first_end end why) ≡ ended_place why (place_with l.author l.read_only end)
    go None = refl
    go (Some old) = refl

place-replaced : (pad : PadState) (author : Text) (l : Seat) → place_of (replaced pad author l) ≡ replaced_place author (Replaced (next_session pad)) (place_of l)
place-replaced pad author l = go (text_eq l.author author) refl
  where
    why : Why
    why = Replaced (next_session pad)

    gone : (end : Option Why) → text_eq l.author author ≡ true → place_with l.author l.read_only (first_end end why) ≡ replaced_place author why (place_with l.author l.read_only end)
    gone None e = ap (λ t. if t then Ended why else Sits l.author l.read_only) (sym e)
    gone (Some old) e = refl

    stays : (end : Option Why) → text_eq l.author author ≡ false → place_with l.author l.read_only end ≡ replaced_place author why (place_with l.author l.read_only end)
    stays None e = ap (λ t. if t then Ended why else Sits l.author l.read_only) (sym e)
    stays (Some old) e = refl

    go : (b : Bool) → text_eq l.author author ≡ b → place_of (if text_eq l.author author then ended why l else l) ≡ replaced_place author why (place_of l)
    go true e = ap (λ t. place_of (if t then ended why l else l)) e ∙ gone l.end e
    go false e = ap (λ t. place_of (if t then ended why l else l)) e ∙ stays l.end e

pub places-replaced : (pad : PadState) (author : Text) (ls : List Seat) → map place_of (map (replaced pad author) ls) ≡ map (replaced_place author (Replaced (next_session pad))) (map place_of ls)
places-replaced pad author [] = refl
places-replaced pad author (l ∷ ls) = λ i. place-replaced pad author l i ∷ places-replaced pad author ls i

pub places-left : (ls : List Seat) (i : ℕ) (author : Text) (read_only : Bool) → at ls i ≡ Some (live_seat author read_only) → map place_of (end_at i ls) ≡ set (map place_of ls) i (Ended Left)
places-left [] i author read_only e = refl
places-left (l ∷ ls) zero author read_only e = ap (λ (o : Seat). place_of (ended Left o) ∷ map place_of ls) (some_same e)
places-left (l ∷ ls) (suc i) author read_only e = ap (λ ps. place_of l ∷ ps) (places-left ls i author read_only e)

-- ---- a session leaves

-- the seat of a session that the opening made
record IsMade (pad : PadState) (s : Session) (l : Seat) : Type 0 where
  pub epoch : (s.epoch == pad.epoch) ≡ true
  pub index : ℕ
  pub count : s.count ≡ suc index
  pub seat : at pad.sessions index ≡ Some l

made : (pad : PadState) (s : Session) (l : Seat) → Some l ≡ seat_of pad s → IsMade pad s l
made pad s l e = go (s.epoch == pad.epoch) refl e
  where
    by-count : (s.epoch == pad.epoch) ≡ true → (n : ℕ) → s.count ≡ n → Some l ≡ numbered pad.sessions n → IsMade pad s l
    by-count t zero c h = none_some (sym h)
    by-count t (suc i) c h = record { epoch = t; index = i; count = c; seat = sym h }

    go : (b : Bool) → (s.epoch == pad.epoch) ≡ b → Some l ≡ (if b then numbered pad.sessions s.count else None) → IsMade pad s l
    go true t h = by-count t s.count refl h
    go false t h = none_some (sym h)

pub stands-left : (k new : KeptSeats) (pad : PadState) (s : Session) (author : Text) (read_only : Bool) → StandsFor k pad → Some (live_seat author read_only) ≡ seat_of pad s
    → new.epoch ≡ k.epoch → new.places ≡ set k.places (s.count - 1) (Ended Left) → StandsFor new (leave pad s)
stands-left k new pad s author read_only h e same places =
    let m = made pad s (live_seat author read_only) e in
    let index : m.index ≡ s.count - 1 = omega (arith, m.count) in
    record {
      epoch = h.epoch ∙ sym same;
      sessions =
          ap (λ b. map place_of (if b then end_numbered s.count pad.sessions else pad.sessions)) m.epoch
          ∙ ap (λ n. map place_of (end_numbered n pad.sessions)) m.count
          ∙ places-left pad.sessions m.index author read_only m.seat
          ∙ (λ i. set (h.sessions i) (index i) (Ended Left))
          ∙ sym places;
    }

-- ---- a pad for which places stand

abbrev seat_from : Place → Seat
seat_from (Sits author read_only) = live_seat author read_only
seat_from (Ended why) = record { author = []; read_only = false; end = Some why }

abbrev pad_of : KeptSeats → PadState
pad_of k = record {
  limits = record { live = 0; logins = 0; units = 0; journal = 0; openings = 0; pads = 0 };
  epoch = k.epoch;
  sessions = map seat_from k.places;
  births = [];
  present = false;
  public = false;
}

places-from : (ps : List Place) → map place_of (map seat_from ps) ≡ ps
places-from [] = refl
places-from (Sits author read_only ∷ ps) = ap (λ qs. Sits author read_only ∷ qs) (places-from ps)
places-from (Ended why ∷ ps) = ap (λ qs. Ended why ∷ qs) (places-from ps)

pub told-of : AreToldOf
told-of k = (pad_of k, record { epoch = refl; sessions = places-from k.places })

-- a session that is live in each such pad has a place
pub live-inside : (k : KeptSeats) (s : Session) (author : Text) (read_only : Bool) → ((pad : PadState) → StandsFor k pad → Some (live_seat author read_only) ≡ seat_of pad s) → (1 ≤ s.count) × (s.count ≤ length k.places)
live-inside k s author read_only live =
    let pad = (told-of k).0 in
    let h = (told-of k).1 in
    let m = made pad s (live_seat author read_only) (live pad h) in
    let below = at-below pad.sessions m.index (live_seat author read_only) m.seat in
    let size = ap (λ (ps : List Place). length ps) h.sessions in
    (omega (arith, m.count), omega (arith, m.count, below, size, length-map pad.sessions place_of))
