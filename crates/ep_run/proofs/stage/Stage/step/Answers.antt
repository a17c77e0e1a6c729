use Rattle.std.proofs.Common.{true, refl, rules}
use Rattle.ep_run.proofs.Lines.{steps, step_stopped}
use Rattle.ep_run.proofs.stage.Stage.step.Goals as goal

pub returns-in_err-step : goal.returns-in_err-step
returns-in_err-step g c = λ s is.
    step_stopped g.D.Disk.told g.D.Device.failures g.D.Disk.stops_alone c.args.k s c.args.event c.in_err-step.field-0.0 c.step.new.self _ c.from_residual.result (search rules) (c.in_err-step.ensures.plays true s.journal s.world s.kepts is.run is.world)

pub returns : goal.returns
returns g c = λ s is.
    steps g.D.Disk.told g.D.Device.failures g.D.Disk.stops_alone c.args.k s c.args.event c.step.new.self (record { world = c.step.new.self; pool = c.args.self.now.pool }) refl is.pool c.args.self.now is c.in_ok-step.field-0
    (c.in_ok-step.ensures.plays true s.journal s.world s.kepts is.run is.world)
