-- What of a house may cross threads.
use denote.RattleType.{RattleType}
use denote.Param.Send.{IsSend, IsSync, sendable}
use denote.Param.SendFields.{declared_sync, declared_send}
use Rattle.std.proofs.Crossing.{crosses}
use Rattle.ep_outside.specs.declared.machine.Machine as machine
use Rattle.ep_outside.specs.declared.device.Device as device
use Rattle.ep_outside.specs.declared.disk.Disk as disk
use Rattle.ep_outside.specs.declared.shelf.Shelf as shelf
use Rattle.ep_outside.specs.declared.keeper.Keeper as keeper
use Rattle.ep_house.specs.declared.pad_over.PadOver as pad_over
use Rattle.ep_house.proofs.Crossing.{directory_send, directory_sync, pads_send, pads_sync}
use Rattle.ep_pad_port.specs.contracts.house.HouseOf as house

module _ (H P K D E R : RattleType) (s : shelf.Ghosts H.Denot D.Denot) (t : device.Ghosts H.Denot) (d : disk.Ghosts D.Denot) (e : device.Ghosts D.Denot) (p : pad_over.Ghosts P.Denot D.Denot E.Denot R.Denot) (m : machine.Ghosts P.Denot E.Denot R.Denot) (k : keeper.Ghosts K.Denot) (v : device.Ghosts K.Denot)
    (h-send : IsSend H) (d-send : IsSend D) (p-send : IsSend P) (k-send : IsSend K) where
  pub house_sync : IsSync (house.the_row H P K D E R s t d e p m k v)
  house_sync = declared_sync (house.the_type H P K D E R s t d e p m k v) (search (sendable, crosses) depth 20, (pads_sync H P D E R s t d e p m h-send d-send p-send, (directory_sync K k v k-send, tt)))

  pub house_send : IsSend (house.the_row H P K D E R s t d e p m k v)
  house_send = declared_send (house.the_type H P K D E R s t d e p m k v) (search (sendable, crosses) depth 20, (pads_send H P D E R s t d e p m h-send d-send p-send, (directory_send K k v k-send, tt)))
