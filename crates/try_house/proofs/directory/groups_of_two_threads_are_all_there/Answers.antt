use denote.Param.Send.{sendable}
use Rattle.std.proofs.Crossing.{crosses}
use Rattle.ep_house.proofs.Crossing.{directory_sync}
use Rattle.try_house.proofs.directory.groups_of_two_threads_are_all_there.Goals as goal

pub join-one-requires-send-F : goal.join-one-requires-send-F
join-one-requires-send-F g c κs within = search (sendable, crosses, directory_sync) depth 30 fits 50000
