use Rattle.ep_import.specs.Seen.{said}
use Rattle.ep_move.specs.Moving.{Fails}
use Rattle.ep_move.proofs.Untaken.{stops_said}
use Rattle.ep_move.proofs.putting.put_into.Goals as goal

pub returns-in-Err-clause-stops : goal.returns-in-Err-clause-stops
returns-in-Err-clause-stops g c =
    let disk = c.args.disk in
    stops_said (g.D.Disk.told disk) (said c.args.history.now) (Fails (g.D.Device.is_steady disk) (g.D.Device.failures disk) (g.D.Device.failures c.in-Err.refused.back)) c.in-Err.refused.why c.in-Err.ensures.stops
