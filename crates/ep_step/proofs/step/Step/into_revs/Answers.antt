use Rattle.std.proofs.Common.{◌≡◌, sym, ap, ◌∙◌, subst}
use Rattle.ep_cs.specs.Doc.{Doc}
use Rattle.ep_history.specs.History.{by_nobody, nobody}
use Rattle.ep_history.proofs.Lists.{none_some, some_same}
use Rattle.ep_step.specs.declared.revised.NewRev.{NewRev}
use Rattle.ep_step.specs.declared.step.Step.{Step}
use Rattle.ep_step.specs.Revised.{IsNewRev}
use Rattle.ep_step.proofs.Stepping.{rev_from, new-rev, new-newline}
use Rattle.ep_step.proofs.step.Step.into_revs.Goals as goal
use Rattle.ep_step.proofs.step.Step.into_revs.Goals.{in-None, in-Some}

pub returns-clause-made : goal.returns-clause-made
returns-clause-made c = λ e head h f. record {
  edit = new-rev (record { author = c.args.author; session = c.args.session; time = c.args.time }) c.into_rev-edit.result c.args.self.edit e head c.into_rev-edit.ensures.rev c.into_rev-edit.ensures.doc (ap (λ (s : Step). s.edit) h) f;
  newline = λ v is. elim c.match-newline.branch [
    | in-None w ↦ none_some (sym w.newline-is ∙ is)
    | in-Some w ↦
        let m = w.in-Some.made in
        let rev : w.into_rev.result.rev ≡ rev_from (by_nobody c.args.time) m =
        w.into_rev.ensures.rev ∙ (λ i. record { change = m.change; author = w.new.ensures i; session = nobody; time = c.args.time }) in
        subst (λ (x : NewRev × Doc). IsNewRev x.0 x.1) (λ i. (some_same (sym w.newline-is ∙ is) i, sym c.into_rev-edit.ensures.doc i))
        (new-newline c.args.time w.into_rev.result m c.args.self e head h w.in-Some.is c.reading-document.ensures.document rev w.into_rev.ensures.doc)
  ];
}
