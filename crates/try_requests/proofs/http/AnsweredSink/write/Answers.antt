use Rattle.std.proofs.Common.{[], refl}
use Rattle.try_requests.proofs.http.AnsweredSink.write.Goals as goal

pub returns-then-self-clause-err : goal.returns-then-self-clause-err
returns-then-self-clause-err c = (c.args.bytes.now, record { gone = []; whole = refl; takes = tt })
