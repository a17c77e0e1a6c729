use Rattle.std.proofs.Common.{rules}
use Rattle.ep_pad_state.proofs.Readying.{ready-birth}
use Rattle.ep_pad_state.proofs.pad.Pad.create.Goals as goal

pub returns-clause-ready : goal.returns-clause-ready
returns-clause-ready c = ready-birth c.args.self.now _ c.args.now c.args.text.now (search rules) (search rules) (search rules) (search rules)
