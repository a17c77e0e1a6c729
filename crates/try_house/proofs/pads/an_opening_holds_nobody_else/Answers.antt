use denote.Param.Send.{sendable}
use Rattle.std.proofs.Crossing.{crosses}
use Rattle.ep_house.proofs.Crossing.{pad_pass_send}
use Rattle.try_house.proofs.pads.an_opening_holds_nobody_else.Goals as goal

pub join-first-requires-send-F : goal.join-first-requires-send-F
join-first-requires-send-F g c κs within = search (sendable, crosses, pad_pass_send) depth 30 fits 50000
