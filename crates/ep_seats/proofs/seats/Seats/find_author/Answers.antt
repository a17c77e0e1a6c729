use Rattle.std.proofs.Common.{◌≡◌, List, false, true, MatchOption, ap, sym, ◌∙◌, subst, arith}
use Rattle.std.specs.List.{find, list_any}
use Rattle.ep_history.specs.Lists.{at}
use Rattle.ep_seats.specs.Kept.{KeptSeats}
use Rattle.ep_seats.specs.Places.{sits, sits_at, taken_from, IsSingle}
use Rattle.ep_seats.specs.declared.place.Place.{Place}
use Rattle.ep_seats.proofs.Taken.{find-taken}
use Rattle.ep_seats.proofs.seats.Seats.find_author.Goals as goal

pub returns-clause-single : goal.returns-clause-single
returns-clause-single c = subst (λ (k : KeptSeats). IsSingle k.places) c.self.view_is c.self.invariant.single

pub returns-clause-found : goal.returns-clause-found
returns-clause-found c =
    let author = c.args.author.now in
    let ps : List Place = c.args.self.now.places in
    let places : c.deref.result.now ≡ ps = c.deref.ensures.value ∙ ap (λ (k : KeptSeats). k.places) c.self.view_is in
    let live : c.deref-2.result.now ≡ taken_from 0 ps = c.deref-2.ensures.value ∙ c.self.invariant.taken ∙ ap (λ (k : KeptSeats). taken_from 0 k.places) c.self.view_is in
    let is : c.first_of.result ≡ find (λ i. sits_at author (at ps i)) (taken_from 0 ps) = c.first_of.ensures ∙ (λ i. find (λ k. sits_at author (at (places i) k)) (live i)) in
    subst (λ r. MatchOption r (list_any (sits author) ps ≡ false) (λ i. sits_at author (at ps i) ≡ true)) (sym is) (find-taken author ps 0 (at ps) (λ k i e. ap (at ps) (omega (arith, e))))
