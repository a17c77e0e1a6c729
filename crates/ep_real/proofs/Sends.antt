-- What of a real house may cross threads.
use denote.RattleType.{RattleType}
use denote.Param.Send.{IsSend, IsSync, sendable}
use denote.Param.SendFields.{declared_send}
use Rattle.std.specs.declared.sync.Wait as wait
use Rattle.std.proofs.Crossing.{crosses}
use Rattle.ep_pad.proofs.lazy.LazyPad.TheSendSync as lazy_pad
use Rattle.ep_pad_port.proofs.Crossing.{house_send, house_sync}
use Rattle.ep_serve.proofs.Crossing.{serving_send}
use Rattle.ep_real.specs.contracts.host.RealJob as real_job
use Rattle.ep_real.specs.contracts.keeping.Database as database
use Rattle.ep_real.specs.contracts.keeping.Teller as teller
use Rattle.ep_real.specs.contracts.shelf.RealDisk as real_disk
use Rattle.ep_real.specs.contracts.shelf.RealShelf as real_shelf
use Rattle.ep_edge.specs.contracts.sys_clock.SysClock as sys_clock
use Rattle.ep_edge.specs.contracts.sys_draws.SysDraws as sys_draws
use Rattle.ep_doors.specs.contracts.thread_spawner.Starter as starter
use Rattle.ep_net.specs.contracts.api_stream.ApiStream as api_stream
use Rattle.ep_ws.specs.contracts.watch.WakeEar as wake_ear
use Rattle.ep_ws.specs.contracts.ws_link.WsLink as ws_link
use Rattle.ep_keep_far.proofs.Crossing.{far_send}

pub shelf_sends : IsSend real_shelf.the_row
shelf_sends = search (sendable, crosses) depth 30

pub disk_sends : IsSend real_disk.the_row
disk_sends = search (sendable, crosses) depth 30

pub database_sends : IsSend database.the_row
database_sends = search (sendable, crosses) depth 30

pub teller_sends : (R : RattleType) → IsSend R → IsSend (teller.the_row R)
teller_sends R r = declared_send (teller.the_type R) (search (sendable, crosses, far_send) depth 100 fits 1000000, tt)

pub starter_sends : (J : RattleType) → IsSend J → IsSend (starter.the_row J)
starter_sends J j = search (sendable, crosses) depth 100 fits 1000000

link_sends : (R : RattleType) → IsSend R → IsSend (ws_link.the_row R)
link_sends R r = search (sendable, crosses) depth 100 fits 1000000

stream_sends : (R : RattleType) → IsSend R → IsSend (api_stream.the_row R)
stream_sends R r = search (sendable, crosses) depth 100 fits 1000000

clock_sends : (R : RattleType) → IsSend R → IsSend (sys_clock.the_row R)
clock_sends R r = search (sendable, crosses) depth 100 fits 1000000

clock_syncs : (R : RattleType) → IsSync R → IsSync (sys_clock.the_row R)
clock_syncs R y = search (sendable, crosses) depth 100 fits 1000000

draws_sends : (R : RattleType) → IsSend R → IsSend (sys_draws.the_row R)
draws_sends R r = search (sendable, crosses) depth 100 fits 1000000

ear_sends : IsSend wake_ear.the_row
ear_sends = search (sendable, crosses) depth 100 fits 1000000

pub job_sends : (R A B : RattleType) (w : wait.Ghosts R.Denot) → IsSend R → IsSync R → IsSend (real_job.the_row R A B w)
job_sends R A B w r y = declared_send (real_job.the_type R A B w) (search (serving_send, house_send, house_sync, disk_sends, shelf_sends, far_send, lazy_pad.the_send, link_sends, stream_sends, clock_sends, clock_syncs, draws_sends, ear_sends) depth 100 fits 1000000, tt)
