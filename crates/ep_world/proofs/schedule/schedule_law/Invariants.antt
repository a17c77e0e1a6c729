use Rattle.std.proofs.Common.{◌≡◌, ◌++◌, []}
use Rattle.std.specs.Vec.Iter.{into_iter_items}
use Rattle.ep_schedule.specs.World.{start}
use Rattle.ep_pad_file.specs.Standing.{Holds}
use Rattle.ep_world.specs.Leading.{Stays}
use Rattle.ep_world.proofs.schedule.schedule_law.Given as goal

abbrev pub invariant-loop-now : goal.invariant-loop-now
invariant-loop-now g l =
    (l.yielded ++ into_iter_items l.now-iterator ≡ into_iter_items l.initial.now-iterator)
    × (Holds (g.D.Disk.told l.fn.disk) [] → Stays g.D.Disk.told g.D.Device.failures g.D.Disk.stops_alone (g.D.Disk.stops_alone l.fn.disk) l.world (start l.fn.limits l.fn.id) l.yielded)
