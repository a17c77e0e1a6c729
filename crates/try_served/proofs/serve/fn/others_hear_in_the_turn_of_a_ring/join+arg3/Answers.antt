use denote.Param.Send.{sendable, IsSend}
use denote.Param.SendFields.{declared_send}
use Rattle.std.proofs.Crossing.{crosses}
use Rattle.ep_pad.proofs.lazy.LazyPad.TheSendSync as lazy_pad
use Rattle.ep_pad_port.proofs.Crossing.{house_send, house_sync}
use Rattle.ep_serve.proofs.Crossing.{serving_send}
use Rattle.try_served.specs.contracts.serve.MemJob as mem_job
use Rattle.try_served.proofs.serve.fn.others_hear_in_the_turn_of_a_ring.join+arg3.Goals as goal

job_send : IsSend mem_job.the_row
job_send = declared_send mem_job.the_type (search (serving_send, sendable, crosses, house_send, house_sync, lazy_pad.the_send) depth 100 fits 1000000, tt)

pub start_all-requires-send-J : goal.start_all-requires-send-J
start_all-requires-send-J g c = search (sendable, crosses, job_send) depth 100 fits 1000000
