use denote.Param.Send.{sendable}
use Rattle.std.proofs.Crossing.{crosses}
use Rattle.ep_bench_served.proofs.Sends.{job_send}
use Rattle.ep_bench_served.proofs.fn.serve_all.scope.Goals as goal

pub spawn-requires-send-F : goal.spawn-requires-send-F
spawn-requires-send-F g c κs within = search (sendable, crosses, job_send) depth 30
