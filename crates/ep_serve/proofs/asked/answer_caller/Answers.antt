use Rattle.std.proofs.Common.{refl, subst}
use Rattle.ep_serve.specs.Asked.{Writes}
use Rattle.ep_serve.proofs.Answering.{reads}
use Rattle.ep_serve.proofs.asked.answer_caller.Goals as goal

pub returns-in-Ok-clause-answers : goal.returns-in-Ok-clause-answers
returns-in-Ok-clause-answers g c = record {
  mid = c.read_request-read.new.source;
  read = c.read_request-read.result;
  reads = reads g.A.Source.left g.A.Device.failures c.args.caller.now c.read_request-read.new.source c.read_request-read.result c.read_request-read.ensures.ok c.read_request-read.ensures.refused;
  replies = (c.in-Ok.ensures.due, subst (λ r. Writes g.A.Sink.held g.A.Device.failures c.read_request-read.new.source c.write-told.new.sink r c.write-told.result) c.reply.ensures c.write-told.ensures.writes);
}

pub returns-in-Err-clause-answers : goal.returns-in-Err-clause-answers
returns-in-Err-clause-answers g c = record {
  mid = c.read_request-read.new.source;
  read = c.read_request-read.result;
  reads = reads g.A.Source.left g.A.Device.failures c.args.caller.now c.read_request-read.new.source c.read_request-read.result c.read_request-read.ensures.ok c.read_request-read.ensures.refused;
  replies = (c.in-Err.ensures.undue, refl);
}
