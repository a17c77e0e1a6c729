use Rattle.std.proofs.Common.{rules, subst}
use Rattle.ep_world.specs.Kepts.{nobodies}
use Rattle.ep_schedule.specs.World.{start}
use Rattle.ep_world.specs.Journal.{begun}
use Rattle.ep_world.specs.Standing.{StandsFor}
use Rattle.ep_world.proofs.Leading.{begins}
use Rattle.ep_run.specs.Play.{play_limits}
use Rattle.ep_run.proofs.stage.Stage.new.Goals as goal

pub returns : goal.returns
returns g c = λ h mark. record {
  run = begins play_limits c.args.id;
  world = subst (λ b. StandsFor g.D.Disk.told g.D.Device.failures g.D.Disk.stops_alone b begun c.in_ok-world.world (start play_limits c.args.id) nobodies) mark (c.in_ok-world.ensures.begins h);
  pool = search rules;
}
