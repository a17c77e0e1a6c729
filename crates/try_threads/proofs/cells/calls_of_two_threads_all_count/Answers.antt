use denote.Param.Send.{sendable}
use Rattle.std.proofs.Crossing.{crosses}
use Rattle.ep_cell.proofs.Crossing.{cell_sync, pass_send}
use Rattle.try_threads.proofs.cells.calls_of_two_threads_all_count.Goals as goal

pub join-one-requires-send-F : goal.join-one-requires-send-F
join-one-requires-send-F g c κs within = search (sendable, crosses, cell_sync) depth 30 fits 50000

pub join-one-requires-send-A : goal.join-one-requires-send-A
join-one-requires-send-A g c κs within = search (sendable, crosses, pass_send) depth 30 fits 50000
