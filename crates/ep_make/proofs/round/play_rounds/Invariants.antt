use Rattle.ep_make.specs.Made.{Leads}
use Rattle.ep_make.specs.Schedule.{Rounds}
use Rattle.ep_make.proofs.round.play_rounds.Given as goal

abbrev pub invariant-rounds : goal.invariant-rounds
invariant-rounds g l = Leads g.D.Disk.told g.D.Device.failures g.D.Disk.stops_alone (λ w v. Rounds l._round l.clients l.fn.lots.number w l.lots.number v) l.fn.world l.world
