use Rattle.std.proofs.Common.{◌≤◌, sym, ap, ◌∙◌, subst, length}
use Rattle.ep_history.specs.History.{lacks_newline, newline}
use Rattle.ep_revs.specs.Revisions.{last_doc}
use Rattle.ep_step.specs.Revised.{revs_of}
use Rattle.ep_pad_state.proofs.Pads.{made-append}
use Rattle.ep_pad_state.proofs.Lasting.{some-more}
use Rattle.ep_pad_state.proofs.birth.Birth.lengthen.Goals as goal

pub invariant_of-self : goal.invariant_of-self
invariant_of-self c = record {
  some = subst (λ us. 1 ≤ length us) (sym c.push_all.ensures) (some-more c.args.self.now.revs.revs (revs_of c.args.revised) c.args.self.now.some);
  ends = ap (λ us. lacks_newline (last_doc us)) c.push_all.ensures
      ∙ ap lacks_newline (made-append newline c.args.self.now.revs.revs (revs_of c.args.revised)) ∙ c.requires.ends;
}
