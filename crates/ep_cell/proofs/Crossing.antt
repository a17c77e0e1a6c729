-- What of a cell may cross threads.
use denote.RattleType.{RattleType}
use Rattle.ep_outside.specs.declared.machine.Machine.{Ghosts}
use denote.Param.Send.{IsSend, IsSync, sendable}
use Rattle.std.proofs.Crossing.{crosses}
use Rattle.ep_cell.specs.contracts.view.Last as last
use Rattle.ep_cell.specs.contracts.view.Held as held
use Rattle.ep_cell.specs.contracts.cell.Cell as cell
use Rattle.ep_cell.specs.contracts.cell.PassOf as pass
use Rattle.atomic_table.proofs.shared.Seat.TheSendSync as seat
use Rattle.atomic_table.proofs.shared.Shared.TheSendSync as shared
use Rattle.atomic_table.proofs.send_lease.SendLease.TheSendSync as lease

pub last_send : (E R : RattleType) → IsSend (last.the_row E R)
last_send E R = search (sendable, crosses) depth 20

pub held_send : (M E R : RattleType) → IsSend M → IsSend (held.the_row M E R)
held_send M E R m = search (sendable, crosses, last_send) depth 20

pub cell_sync : (M E R : RattleType) (g : Ghosts M.Denot E.Denot R.Denot) → IsSend M → IsSync (cell.the_row M E R g)
cell_sync M E R g m = search (sendable, crosses, held_send, shared.the_sync, lease.the_sync) depth 30

pub cell_send : (M E R : RattleType) (g : Ghosts M.Denot E.Denot R.Denot) → IsSend M → IsSend (cell.the_row M E R g)
cell_send M E R g m = search (sendable, crosses, held_send, shared.the_send, lease.the_send) depth 30

pub pass_send : (M E R : RattleType) → IsSend M → IsSend (pass.the_row M E R)
pass_send M E R m = search (sendable, crosses, held_send, seat.the_send) depth 30
