-- What of the pads and of the directory may cross threads.
use denote.RattleType.{RattleType}
use denote.Param.Send.{IsSend, IsSync, sendable}
use denote.Param.SendFields.{declared_sync, declared_send, variants_send, as_row_send}
use denote.Struct.Field.{row_field}
use Rattle.std.specs.contracts.result.Result as result
use Rattle.std.specs.contracts.sync.Arc as arc
use Rattle.std.specs.contracts.alloc.Global as global
use Rattle.std.specs.contracts.impls.GlobalAllocator.TheImpl as heap
use Rattle.std.proofs.Crossing.{crosses}
use Rattle.ep_cell.proofs.Crossing.{cell_sync, cell_send, pass_send}
use Rattle.ep_outside.specs.declared.machine.Machine as machine
use Rattle.ep_outside.specs.declared.device.Device as device
use Rattle.ep_outside.specs.declared.disk.Disk as disk
use Rattle.ep_outside.specs.declared.shelf.Shelf as shelf
use Rattle.ep_outside.specs.declared.keeper.Keeper as keeper
use Rattle.ep_cell.specs.contracts.cell.Cell as cell
use Rattle.ep_cell.specs.contracts.cell.PassOf as pass
use Rattle.ep_groups.specs.contracts.dir_machine.DirMachine as dir_machine
use Rattle.ep_groups.specs.contracts.entries.DirEntry as entry
use Rattle.ep_groups.specs.contracts.entries.DirReply as reply
use Rattle.ep_groups.specs.contracts.entries.DirMachineMachine.TheImpl as dir_machine_machine
use Rattle.ep_house.specs.declared.pad_over.PadOver as pad_over
use Rattle.ep_pad.specs.contracts.wanted.Wanted as wanted
use Rattle.ep_pad.specs.contracts.pass_bad.PassBad as bad
use Rattle.ep_house.specs.contracts.directory.Directory as directory
use Rattle.ep_house.specs.contracts.named.Named as named
use Rattle.ep_house.specs.contracts.named.Waiting as waiting
use Rattle.ep_house.specs.contracts.named.Kept as kept
use Rattle.ep_house.specs.contracts.registry.Registry as registry
use Rattle.ep_house.specs.contracts.registry.RegistryMachine.TheImpl as registry_machine
use Rattle.ep_house.specs.contracts.pads.Pads as pads
use Rattle.ep_house.specs.contracts.pads.PadPass as pad_pass

pub named_send : (P E R : RattleType) (g : machine.Ghosts P.Denot E.Denot R.Denot) → IsSend P → IsSend (named.the_row P E R g)
named_send P E R g p = search (sendable, crosses, cell_sync, cell_send) depth 30

shared_send : (P E R : RattleType) (g : machine.Ghosts P.Denot E.Denot R.Denot) → IsSend P → IsSend (arc.the_row (cell.the_row P E R g) global.the_row heap.ghosts)
shared_send P E R g p = search (sendable, crosses, cell_sync, cell_send) depth 30

waiting_send : (D P E R : RattleType) (g : machine.Ghosts P.Denot E.Denot R.Denot) → IsSend D → IsSend P → IsSend (waiting.the_row D P E R g)
waiting_send D P E R g d p = variants_send (waiting.enum D P E R g) ((as_row_send (row_field D) d, tt), ((cell_send P E R g p, tt), ((shared_send P E R g p, tt), tt)))

kept_send : (W : RattleType) → IsSend W → IsSend (kept.the_row W)
kept_send W w = search (sendable, crosses) depth 20

module _ (H P D E R : RattleType) (s : shelf.Ghosts H.Denot D.Denot) (t : device.Ghosts H.Denot) (d : disk.Ghosts D.Denot) (e : device.Ghosts D.Denot) (p : pad_over.Ghosts P.Denot D.Denot E.Denot R.Denot) (m : machine.Ghosts P.Denot E.Denot R.Denot)
    (h-send : IsSend H) (d-send : IsSend D) (p-send : IsSend P) where
  pub registry_send : IsSend (registry.the_row H P D E R s t d e p m)
  registry_send = search (sendable, crosses, named_send, kept_send, waiting_send) depth 30

  abbrev answer_row : RattleType
  answer_row = result.the_row (arc.the_row (cell.the_row P E R m) global.the_row heap.ghosts) bad.the_row

  pub pads_sync : IsSync (pads.the_row H P D E R s t d e p m)
  pads_sync = declared_sync (pads.the_type H P D E R s t d e p m) (search (sendable, crosses) depth 20, (search (sendable, crosses) depth 20, (cell_sync (registry.the_row H P D E R s t d e p m) wanted.the_row answer_row (registry_machine.ghosts H P D E R s registry_machine.no_dict t registry_machine.no_dict d registry_machine.no_dict e registry_machine.no_dict p registry_machine.no_dict m registry_machine.no_dict registry_machine.no_dict registry_machine.no_dict registry_machine.no_dict registry_machine.no_dict) registry_send, tt)))

  pub pads_send : IsSend (pads.the_row H P D E R s t d e p m)
  pads_send = declared_send (pads.the_type H P D E R s t d e p m) (search (sendable, crosses) depth 20, (search (sendable, crosses) depth 20, (cell_send (registry.the_row H P D E R s t d e p m) wanted.the_row answer_row (registry_machine.ghosts H P D E R s registry_machine.no_dict t registry_machine.no_dict d registry_machine.no_dict e registry_machine.no_dict p registry_machine.no_dict m registry_machine.no_dict registry_machine.no_dict registry_machine.no_dict registry_machine.no_dict registry_machine.no_dict) registry_send, tt)))

  pub pad_pass_send : IsSend (pad_pass.the_row H P D E R s t d e p m)
  pad_pass_send =
      let inner : IsSend (pass.the_row P E R) = pass_send P E R p-send in
      let outer : IsSend (pass.the_row (registry.the_row H P D E R s t d e p m) wanted.the_row answer_row) = pass_send (registry.the_row H P D E R s t d e p m) wanted.the_row answer_row registry_send in
      declared_send (pad_pass.the_type H P D E R s t d e p m) (search (sendable, crosses) depth 20, (shared_send P E R m p-send, (inner, (outer, tt))))

module _ (K : RattleType) (k : keeper.Ghosts K.Denot) (d : device.Ghosts K.Denot) (k-send : IsSend K) where
  pub machine_send : IsSend (dir_machine.the_row K k d)
  machine_send = search (sendable, crosses) depth 30

  pub directory_sync : IsSync (directory.the_row K k d)
  directory_sync = declared_sync (directory.the_type K k d) (search (sendable, crosses) depth 20, (cell_sync (dir_machine.the_row K k d) entry.the_row reply.the_row (dir_machine_machine.ghosts K k dir_machine_machine.no_dict d dir_machine_machine.no_dict dir_machine_machine.no_dict) machine_send, tt))

  pub directory_send : IsSend (directory.the_row K k d)
  directory_send = declared_send (directory.the_type K k d) (search (sendable, crosses) depth 20, (cell_send (dir_machine.the_row K k d) entry.the_row reply.the_row (dir_machine_machine.ghosts K k dir_machine_machine.no_dict d dir_machine_machine.no_dict dir_machine_machine.no_dict) machine_send, tt))
