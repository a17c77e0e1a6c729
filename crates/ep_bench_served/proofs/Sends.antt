-- A session that is still to be served may cross threads.
use denote.Param.Send.{sendable, IsSend}
use denote.Param.SendFields.{declared_send, as_row_send}
use Rattle.std.proofs.Crossing.{crosses}
use Rattle.ep_pad.proofs.lazy.LazyPad.TheSendSync as lazy_pad
use Rattle.ep_pad_port.proofs.Crossing.{house_send, house_sync}
use Rattle.ep_bench_served.proofs.job.Sitting.TheSendSync as sitting
use Rattle.ep_bench_served.specs.contracts.job.ServedJob as served_job

pub job_send : IsSend served_job.the_row
job_send = declared_send served_job.the_type (search (sitting.the_field_send, as_row_send, sendable, crosses, house_send, house_sync, lazy_pad.the_send) depth 100 fits 1000000, tt)
