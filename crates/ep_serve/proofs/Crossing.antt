-- What is done for a caller may cross threads where its port, its connection, its clock and its draws may.
use denote.RattleType.{RattleType}
use denote.Param.Send.{IsSend, IsSync}
use Rattle.ep_serve.specs.contracts.work.Asking as asking
use Rattle.ep_serve.specs.contracts.work.Sitting as sitting
use Rattle.ep_serve.specs.contracts.work.Work as work
use Rattle.ep_serve.proofs.work.Asking.TheSendSync as an_asking
use Rattle.ep_serve.proofs.work.Sitting.TheSendSync as a_sitting
use Rattle.ep_serve.proofs.work.Work.TheSendSync as a_work
use denote.Hole.{as_row}
use denote.Param.SendFields.{as_row_send}

pub serving_send : (P L A C D E : RattleType) → IsSend P → IsSend L → IsSend A → IsSend C → IsSend D → IsSend E → IsSync P → IsSync C → IsSend (as_row (work.the_field (sitting.the_row P L C D E) (asking.the_row P E A C D)))
serving_send P L A C D E p l a c d e ps cs = as_row_send (work.the_field (sitting.the_row P L C D E) (asking.the_row P E A C D)) (a_work.the_field_send (sitting.the_row P L C D E) (asking.the_row P E A C D) (a_sitting.the_send P L C D E p l c d e ps cs) (an_asking.the_send P E A C D p e a c d ps cs))
