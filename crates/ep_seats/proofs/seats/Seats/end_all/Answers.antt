use Rattle.std.proofs.Common.{◌≡◌, [], map, refl, sym, ap, ◌∙◌, arith}
use Rattle.ep_history.specs.declared.seat.Why.TheVariants.{Deleted}
use Rattle.ep_seats.specs.Kept.{KeptSeats}
use Rattle.ep_seats.specs.Places.{ended_place}
use Rattle.ep_seats.proofs.Places.{single-ended}
use Rattle.ep_seats.proofs.Standing.{places-ended}
use Rattle.ep_seats.proofs.Taken.{ends-last, none-taken, no-items}
use Rattle.ep_seats.proofs.seats.Seats.end_all.Goals as goal

pub loop-i-init : goal.loop-i-init
loop-i-init c = (c.self.invariant.taken, c.self.invariant.single, refl, refl)

pub index_mut-requires : goal.index_mut-requires
index_mut-requires c =
    let s = c.loop-i.self-inside in
    let last = ends-last (Deleted c.args.birth) s.places.items c.pop.new.self.items c.in-Some.i (sym c.loop-i.invariant.0 ∙ c.in-Some.ensures.items) in
    omega (arith, last.inside, s.places.ok.0)

pub loop-i-preserved-in-Some : goal.loop-i-preserved-in-Some
loop-i-preserved-in-Some c =
    let s = c.loop-i.self-inside in
    let v = c.loop-i.invariant in
    let why = Deleted c.args.birth in
    let last = ends-last why s.places.items c.pop.new.self.items c.in-Some.i (sym v.0 ∙ c.in-Some.ensures.items) in
    (sym last.others, single-ended why s.places.items c.in-Some.i v.1, last.same ∙ v.2, v.3)

pub loop-i-preserved : goal.loop-i-preserved
loop-i-preserved c =
    let s = c.loop-i.self-inside in
    let v = c.loop-i.invariant in
    let why = Deleted c.args.birth in
    let last = ends-last why s.places.items c.pop.new.self.items c.in-Some.i (sym v.0 ∙ c.in-Some.ensures.items) in
    (sym last.others, single-ended why s.places.items c.in-Some.i v.1, last.same ∙ v.2, v.3)

pub invariant_of-self : goal.invariant_of-self
invariant_of-self c =
    let s = c.loop-i.self-inside in
    let none : s.live.items ≡ [] = no-items s.live.items (omega (arith, s.live.ok.0, c.in_default.ensures.cases.0)) in
    let left : c.pop.new.self.items ≡ [] = no-items c.pop.new.self.items (omega (arith, c.pop.new.self.ok.0, c.in_default.ensures.cases.1)) in
    record { taken = left ∙ sym none ∙ c.loop-i.invariant.0; single = c.loop-i.invariant.1 }

pub returns : goal.returns
returns c = λ pad h birth.
    let s = c.loop-i.self-inside in
    let v = c.loop-i.invariant in
    let none : s.live.items ≡ [] = no-items s.live.items (omega (arith, s.live.ok.0, c.in_default.ensures.cases.0)) in
    record {
      epoch = h.epoch ∙ sym (v.3 ∙ ap (λ (k : KeptSeats). k.epoch) c.self.view_is);
      sessions =
          places-ended _ pad.sessions
          ∙ (λ i. map (ended_place (Deleted (birth i))) (h.sessions i))
          ∙ ap (λ (k : KeptSeats). map (ended_place (Deleted c.args.birth)) k.places) (sym c.self.view_is)
          ∙ sym v.2
          ∙ none-taken (Deleted c.args.birth) s.places.items 0 (sym v.0 ∙ none);
    }
