use Rattle.std.proofs.Common.{◌≡◌, not, ◌==◌, filter, ap, sym, ◌∙◌, rules, arith}
use Rattle.std.proofs.lemmas.Fn.{filter_same}
use Rattle.ep_seats.proofs.Places.{single-ended}
use Rattle.ep_seats.proofs.Taken.{taken-ended}
use Rattle.ep_seats.proofs.seats.Seats.end.Goals as goal

pub invariant_of-self : goal.invariant_of-self
invariant_of-self c =
    let s = c.self.inside in
    let kept : c.retain.new.self.items ≡ filter (λ k. not (k == c.args.i)) s.live.items = filter_same _ _ _ (λ x b f' k. search rules) _ _ c.retain.ensures.filtered in
    record {
      taken = kept ∙ ap (filter (λ k. not (k == c.args.i))) c.self.invariant.taken ∙ sym (taken-ended c.args.why s.places.items 0 c.args.i c.args.i (omega arith));
      single = single-ended c.args.why s.places.items c.args.i c.self.invariant.single;
    }
