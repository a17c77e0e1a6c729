use Rattle.ep_session.proofs.Passes.{goes_of}
use Rattle.ep_session.proofs.session.leave_pad.Goals as goal

pub returns-clause-left : goal.returns-clause-left
returns-clause-left g c = (c.leave.result, (goes_of _ _ _ _ c.leave.ensures.asks.makes).made)
