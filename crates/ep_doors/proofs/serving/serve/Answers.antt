use Rattle.std.proofs.Common.{arith}
use Rattle.ep_doors.proofs.Going.{ended_on, pace_on}
use Rattle.ep_doors.proofs.serving.serve.Goals as goal

pub returns-in-Err-clause-jobs : goal.returns-in-Err-clause-jobs
returns-in-Err-clause-jobs g c =
    let d = g.N.Doors.count in
    let w = g.W.Spawner.count in
    let l = c.loop in
    let n = c.serve_one.new in
    pace_on c.in-Err.served (d c.args.doors.now) (d l.doors) (d n.doors) (w c.args.spawner.now) (w l.spawner) (w n.spawner)
    l.invariant.keeps c.serve_one.ensures.counts.0 c.serve_one.ensures.counts.1 c.in-Err.ensures.err

pub returns-in-Err-clause-ended : goal.returns-in-Err-clause-ended
returns-in-Err-clause-ended g c =
    let d = g.N.Device.failures in
    let w = g.W.Device.failures in
    let l = c.loop in
    let n = c.serve_one.new in
    ended_on c.in-Err.served (g.N.Doors.is_over n.doors) (d c.args.doors.now) (d l.doors) (d n.doors) (w c.args.spawner.now) (w l.spawner) (w n.spawner)
    l.invariant.later.0 l.invariant.later.1 c.in-Err.ensures.ended
