use Rattle.ep_pad_state.proofs.Readying.{ready-deletion}
use Rattle.ep_pad_state.proofs.pad.Pad.delete.Goals as goal

pub returns-clause-ready : goal.returns-clause-ready
returns-clause-ready c = ready-deletion c.args.self.now (λ p h. (c.in_ok-birth.ensures p h.keeps).0)
