use Rattle.std.proofs.Common.{ap, sym, ◌∙◌}
use Rattle.ep_apply.specs.declared.Stretch.{Stretch}
use Rattle.ep_make.specs.Same.{doc_eq}
use Rattle.ep_make.proofs.Stretches.{ended}
use Rattle.ep_make.proofs.same.is_same.Goals as goal

pub returns : goal.returns
returns c =
    ended (λ (s : Stretch). s.attrs.now) (λ (s : Stretch). s.text.now) 1 c.stretches.others c.take-2.new.self c.take-2.result c.is_none.result c.is_none.ensures c.take-2.ensures
    ∙ sym (ap (λ d. doc_eq d c.stretches.others) c.in_default.ensures.0)
    ∙ sym c.stretches.invariant
