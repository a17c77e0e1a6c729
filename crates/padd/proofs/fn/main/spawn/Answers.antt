use denote.Param.Send.{sendable}
use Rattle.std.proofs.Crossing.{crosses}
use Rattle.ep_real.proofs.Sends.{job_sends}
use Rattle.padd.proofs.fn.main.spawn.Goals as goal

pub start_all-requires-send-J : goal.start_all-requires-send-J
start_all-requires-send-J g c = search (sendable, crosses, job_sends) depth 100 fits 1000000
