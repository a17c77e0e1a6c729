use Rattle.ep_pad_state.proofs.Keeping.{keeps-born}
use Rattle.ep_pad_state.proofs.pad.Pad.bear.Goals as goal

pub returns-clause-keeps : goal.returns-clause-keeps
returns-clause-keeps c = λ p h. keeps-born c.args.self.now p c.args.birth h c.args.birth.some c.requires.nops
