use Rattle.std.proofs.Common.{[], ◌∷◌, ◌++◌, List, map, ap, sym, ◌∙◌}
use Rattle.std.specs.List.{list_any}
use Rattle.std.proofs.lemmas.List.{map-append}
use Rattle.ep_history.specs.Pad.{replaced}
use Rattle.ep_history.specs.declared.seat.Why.TheVariants.{Replaced}
use Rattle.ep_seats.specs.Kept.{place_of}
use Rattle.ep_seats.specs.Places.{sits, replaced_place}
use Rattle.ep_seats.specs.declared.place.Place.{Place}
use Rattle.ep_seats.specs.declared.place.Place.TheVariants.{Sits}
use Rattle.ep_seats.proofs.Places.{nobody-replaced}
use Rattle.ep_seats.proofs.Standing.{places-replaced}
use Rattle.ep_seats.proofs.seats.Seats.enter.Goals as goal

pub sit-requires-clause-nobody : goal.sit-requires-clause-nobody
sit-requires-clause-nobody c = ap (list_any (sits c.args.author)) c.end_older.ensures.places ∙ nobody-replaced c.args.author (Replaced c.next_session-session.result) c.args.self.now.places

pub returns-clause-entered : goal.returns-clause-entered
returns-clause-entered c = λ pad h. record {
  epoch = h.epoch ∙ sym (c.sit.ensures.epoch ∙ c.end_older.ensures.epoch);
  sessions =
      map-append place_of (map (replaced pad c.args.author) pad.sessions) _
      ∙ ap (λ (ps : List Place). ps ++ Sits c.args.author c.args.read_only ∷ [])
      (places-replaced pad c.args.author pad.sessions
      ∙ (λ i. map (replaced_place c.args.author (Replaced (sym (c.next_session-session.ensures pad h) i))) (h.sessions i))
      ∙ sym c.end_older.ensures.places)
      ∙ sym c.sit.ensures.places;
}
