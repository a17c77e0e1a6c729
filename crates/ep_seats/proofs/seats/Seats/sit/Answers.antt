use Rattle.std.proofs.Common.{◌≡◌, length, ap, sym, ◌∙◌, ◌++◌, ◌∷◌, [], List, ℕ, arith}
use Rattle.ep_seats.specs.Kept.{KeptSeats}
use Rattle.ep_seats.specs.Places.{taken_from, IsSingle, sits}
use Rattle.std.specs.List.{list_any}
use Rattle.std.proofs.Common.{subst, false}
use Rattle.ep_seats.proofs.Places.{single-sits}
use Rattle.ep_seats.proofs.Taken.{taken-sits}
use Rattle.ep_seats.proofs.seats.Seats.sit.Goals as goal

pub invariant_of-self : goal.invariant_of-self
invariant_of-self c =
    let s = c.self.inside in
    let size : c.len.result ≡ length s.places.items = omega (arith, s.places.ok.0, c.len.ensures) in
    let nobody : list_any (sits c.args.author) s.places.items ≡ false = ap (λ (k : KeptSeats). list_any (sits c.args.author) k.places) c.self.view_is ∙ c.requires.nobody in
    record {
      taken =
          c.push_reserved.ensures.items
          ∙ ap (λ (ks : List ℕ). ks ++ c.len.result ∷ []) c.self.invariant.taken
          ∙ sym (taken-sits c.args.author c.args.read_only s.places.items 0 c.len.result (omega (arith, size)))
          ∙ ap (taken_from 0) (sym c.push_reserved-2.ensures.items);
      single = subst IsSingle (sym c.push_reserved-2.ensures.items) (single-sits c.args.author c.args.read_only s.places.items c.self.invariant.single nobody);
    }
