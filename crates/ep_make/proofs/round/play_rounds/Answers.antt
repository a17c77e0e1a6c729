use Rattle.std.proofs.Common.{arith}
use Rattle.ep_make.specs.Schedule.{Rounds}
use Rattle.ep_make.proofs.Steps.{leads_as, rounds_begin, rounds_go}
use Rattle.ep_make.proofs.round.play_rounds.Goals as goal

pub rounds-init : goal.rounds-init
rounds-init g c = rounds_begin g.D.Disk.told g.D.Device.failures g.D.Disk.stops_alone c.args.clients c.args.lots.now.number c.args.world.now

pub rounds-preserved : goal.rounds-preserved
rounds-preserved g c =
    rounds_go g.D.Disk.told g.D.Device.failures g.D.Disk.stops_alone c.args.clients c.rounds._round c.args.lots.now.number c.rounds.lots.number c.round.new.lots.number c.args.world.now c.rounds.world c.round.new.world
    c.rounds.invariant c.in_ok-round.ensures

pub returns : goal.returns
returns g c =
    leads_as g.D.Disk.told g.D.Device.failures g.D.Disk.stops_alone (λ k w v. Rounds k c.args.clients c.args.lots.now.number w c.rounds.lots.number v) c.args.world.now c.rounds.world c.rounds._round c.args.edits (omega arith)
    c.rounds.invariant
