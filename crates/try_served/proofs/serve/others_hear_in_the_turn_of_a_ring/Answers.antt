use denote.Param.Send.{sendable, IsSend}
use denote.Param.SendFields.{declared_send}
use Rattle.std.proofs.Crossing.{crosses}
use Rattle.ep_doors.proofs.thread_spawner.ThreadSpawner.TheSendSync as spawner
use Rattle.ep_pad.proofs.lazy.LazyPad.TheSendSync as lazy_pad
use Rattle.ep_pad_port.proofs.Crossing.{house_send, house_sync}
use Rattle.ep_serve.proofs.Crossing.{serving_send}
use Rattle.try_served.specs.contracts.serve.MemJob as mem_job
use Rattle.try_served.proofs.serve.others_hear_in_the_turn_of_a_ring.Goals as goal

job_send : IsSend mem_job.the_row
job_send = declared_send mem_job.the_type (search (serving_send, sendable, crosses, house_send, house_sync, lazy_pad.the_send) depth 100 fits 1000000, tt)

pub join-talked-requires-send-F : goal.join-talked-requires-send-F
join-talked-requires-send-F g c κs within = search (sendable, crosses, job_send, spawner.the_send) depth 100 fits 1000000
