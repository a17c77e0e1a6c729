use Rattle.std.proofs.Common.{Some}
use Rattle.ep_outside.proofs.Pieces.{started}
use Rattle.ep_disk_mem.proofs.mem_sink.MemSinkSink.write.Goals as goal

pub returns-then-is_err-clause-err : goal.returns-then-is_err-clause-err
returns-then-is_err-clause-err c = (c.args.bytes.now, started (Some c.args.self.now.bytes.items) c.args.bytes.now)
