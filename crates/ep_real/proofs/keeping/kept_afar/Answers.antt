use denote.Param.Send.{sendable}
use Rattle.std.proofs.Crossing.{crosses}
use Rattle.ep_real.proofs.Sends.{database_sends, teller_sends}
use Rattle.ep_real.proofs.keeping.kept_afar.Goals as goal

pub spawn-requires-send-F : goal.spawn-requires-send-F
spawn-requires-send-F g c κs within = search (sendable, crosses, database_sends, teller_sends) depth 100 fits 1000000
