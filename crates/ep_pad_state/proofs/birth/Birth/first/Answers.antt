use Rattle.std.proofs.Common.{◌≤◌, sym, ap, ◌∙◌, subst, length, arith}
use Rattle.ep_history.specs.History.{lacks_newline, first_rev, by_nobody, newline}
use Rattle.ep_revs.specs.Revisions.{last_doc}
use Rattle.ep_step.specs.Revised.{revs_of}
use Rattle.ep_step.specs.Texts.{first_edit}
use Rattle.ep_pad_state.proofs.Lasting.{first-revs}
use Rattle.ep_pad_state.proofs.Readying.{step-ends}
use Rattle.ep_pad_state.proofs.birth.Birth.first.Goals as goal

pub invariant_of-result : goal.invariant_of-result
invariant_of-result c =
    let e = c.into_revs_of_nobody.ensures.revs (first_edit c.args.text.now) newline c.in_ok-step.ensures.made in
    let l = c.first_steps_are_first_revisions.ensures c.args.now c.args.text.now in
    let n = c.in_ok-reserve_two.ensures.revs ∙ c.new-revs.ensures in
    let all = first-revs _ _ (revs_of c.into_revs_of_nobody.result) (first_rev c.args.now c.args.text.now) n c.push_all.ensures (e ∙ l) in
    record {
      some = subst (λ us. 1 ≤ length us) (sym all) (omega arith);
      ends = ap (λ us. lacks_newline (last_doc us)) (all ∙ sym (e ∙ l))
          ∙ step-ends c.into_revs_of_nobody.result (by_nobody c.args.now) (first_edit c.args.text.now) newline e;
    }

pub returns-clause-revs : goal.returns-clause-revs
returns-clause-revs c =
    let e = c.into_revs_of_nobody.ensures.revs (first_edit c.args.text.now) newline c.in_ok-step.ensures.made in
    let l = c.first_steps_are_first_revisions.ensures c.args.now c.args.text.now in
    let n = c.in_ok-reserve_two.ensures.revs ∙ c.new-revs.ensures in
    first-revs _ _ (revs_of c.into_revs_of_nobody.result) (first_rev c.args.now c.args.text.now) n c.push_all.ensures (e ∙ l)
