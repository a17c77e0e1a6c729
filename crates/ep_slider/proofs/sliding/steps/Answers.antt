use Rattle.std.proofs.Common.{suc, take, drop, subst, ap, ◌∙◌}
use Rattle.std.proofs.lemmas.List.{nil_from_length}
use Rattle.ep_slider.proofs.Steps.{IsSliding, first_made, slides_on, slides_end}
use Rattle.ep_slider.proofs.sliding.steps.Goals as goal

pub step-requires : goal.step-requires
step-requires c = first_made c.args.most c.steps.now c.in-Some.first.now c.steps.rest.now c.in-Some.later.now c.split_at.result.0.now c.in-Some.ensures.cases.0 (c.split_at.ensures.front ∙ ap (λ n. take n c.in-Some.later.now) c.min.ensures) c.steps.invariant.0

pub steps-preserved : goal.steps-preserved
steps-preserved c =
    slides_on c.args.most c.args.doc.now c.args.revs.now c.steps.now c.in_ok-step.step.after c.in-Some.first.now c.steps.rest.now c.in-Some.later.now c.split_at.result.0.now c.split_at.result.1.now
    c.steps.forward.items c.steps.backward.items _ _ c.in_ok-step.step.forward c.in_ok-step.step.backward
    c.steps.invariant c.in-Some.ensures.cases.0 (c.split_at.ensures.front ∙ ap (λ n. take n c.in-Some.later.now) c.min.ensures) (c.split_at.ensures.back ∙ ap (λ n. drop n c.in-Some.later.now) c.min.ensures) c.in_ok-step.ensures.forward c.in_ok-step.ensures.backward c.in_ok-step.ensures.after c.in_ok-push.ensures.items c.in_ok-push-2.ensures.items

pub returns : goal.returns
returns c = slides_end (suc c.args.most) c.args.doc.now c.args.revs.now c.steps.now c.steps.forward.items c.steps.backward.items (subst (λ r. IsSliding (suc c.args.most) c.args.doc.now c.args.revs.now c.steps.now r c.steps.forward.items c.steps.backward.items) (nil_from_length c.steps.rest.now c.in_default.ensures.cases) c.steps.invariant)
