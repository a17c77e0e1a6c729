use denote.Param.Send.{sendable}
use Rattle.std.proofs.Crossing.{crosses}
use Rattle.ep_keep_far.proofs.Crossing.{far_send}
use Rattle.try_threads.proofs.far.calls_are_made_by_another_thread.Goals as goal

pub join-came-requires-send-F : goal.join-came-requires-send-F
join-came-requires-send-F g c κs within = search (sendable, crosses, far_send) depth 100 fits 1000000
