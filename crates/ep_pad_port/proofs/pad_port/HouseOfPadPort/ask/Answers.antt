use Rattle.std.proofs.Common.{◌∙◌, subst}
use Rattle.ep_house.specs.Pads.{begun_of, known}
use Rattle.ep_cell.specs.History.{pairs}
use Rattle.ep_pad.specs.Lazy.{IsLegalFrom}
use Rattle.ep_pad_port.proofs.Replied.{suits}
use Rattle.ep_pad_port.proofs.pad_port.HouseOfPadPort.ask.Goals as goal

pub returns-clause-of : goal.returns-clause-of
returns-clause-of g c = (c.call.ensures.pad.3 ∙ c.requires.of.0, c.call.ensures.pad.4 ∙ c.requires.of.1)

pub returns-clause-asks : goal.returns-clause-asks
returns-clause-asks g c = record {
  makes = c.call.ensures.makes;
  legal = subst (λ b. IsLegalFrom g.H.D.Disk.told g.H.D.Device.failures (g.P.PadCalls.begun b) (pairs (known c.call.new.self).seen)) c.call.ensures.pad.2 (g.met.P.PadCalls.is_legal _ _ c.call.ensures.legal);
}

pub returns-clause-suits : goal.returns-clause-suits
returns-clause-suits g c = suits g.H.D.Disk.told g.H.D.Device.failures _ (known c.args.pass.now) (known c.call.new.self) c.args.entry c.call.result c.call.ensures.makes (g.met.P.PadCalls.is_legal _ _ c.call.ensures.legal)
