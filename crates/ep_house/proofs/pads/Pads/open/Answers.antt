use Rattle.std.proofs.Common.{◌∙◌, ap, refl, [], All}
use Rattle.std.specs.Prelude.{IfOk}
use Rattle.std.proofs.lemmas.List.Elements.{All-nil}
use Rattle.ep_house.specs.Named.{IsWithin}
use Rattle.ep_house.proofs.pads.Pads.open.Goals as goal

pub new-requires-2 : goal.new-requires-2
new-requires-2 g c = record {
  begun = (refl, (record { cells = ap (λ s. s.cells) c.new.ensures.begun; waiting = ap (λ s. s.waiting) c.new.ensures.begun }, refl), All-nil (λ x. IfOk x.1 (IsWithin g.P.PadOver.limits_of c.new.result.limits)));
}

pub invariant_of-result : goal.invariant_of-result
invariant_of-result g c = record { begun = ap (λ r. r.limits) c.in-Ok.ensures.first ∙ c.new.ensures.limits }
