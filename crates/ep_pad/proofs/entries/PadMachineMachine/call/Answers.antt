use Rattle.ep_pad.proofs.Histories.{goes-on}
use Rattle.ep_pad.proofs.entries.PadMachineMachine.call.Goals as goal

pub returns : goal.returns
returns g c begun h made = goes-on g.D.Disk.told g.D.Device.failures begun _ _ _ _ h made (λ st k s. let x = c.answer.ensures.makes st k s in (x.0, x.1, x.2)) c.answer.ensures.suits
