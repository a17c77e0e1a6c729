use Rattle.std.proofs.Common.{sym, ◌∙◌}
use Rattle.ep_history.specs.Pad.{newest}
use Rattle.ep_pad_state.proofs.Keeping.{head-doc-of, head-of}
use Rattle.ep_pad_state.proofs.birth.Birth.head.Goals as goal

pub returns-clause-head : goal.returns-clause-head
returns-clause-head c = λ p h e. record {
  rev = head-of c.args.self.now (newest p) _ h c.last.ensures.count;
  doc = c.doc.ensures.last ∙ head-doc-of c.args.self.now (newest p) h;
  limit = sym e;
}
