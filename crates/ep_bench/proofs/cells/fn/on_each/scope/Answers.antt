use denote.Param.Send.{sendable}
use Rattle.std.proofs.Crossing.{crosses}
use Rattle.ep_cell.proofs.Crossing.{cell_sync}
use Rattle.ep_bench.proofs.cells.fn.on_each.scope.Goals as goal

pub spawn-requires-send-F : goal.spawn-requires-send-F
spawn-requires-send-F g c κs within = search (sendable, crosses, cell_sync) depth 30
