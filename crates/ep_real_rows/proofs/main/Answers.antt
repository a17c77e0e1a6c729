use denote.Param.Send.{sendable}
use Rattle.std.proofs.Crossing.{crosses}
use Rattle.ep_real.proofs.Sends.{job_sends, starter_sends}
use Rattle.ep_real_rows.proofs.main.Goals as goal

pub spawn-requires-send-F : goal.spawn-requires-send-F
spawn-requires-send-F g c κs = search (sendable, crosses, job_sends, starter_sends) depth 100 fits 1000000
