use Rattle.std.proofs.Common.{None}
use Rattle.ep_outside.proofs.Pieces.{started}
use Rattle.ep_net.proofs.api_stream.ApiStreamSink.write.Goals as goal

pub returns-in-Err-clause-err : goal.returns-in-Err-clause-err
returns-in-Err-clause-err g c = (c.args.bytes.now, started None c.args.bytes.now)
