use Rattle.std.proofs.Common.{◌∙◌, arith}
use Rattle.ep_outside.proofs.Pieces.{OnErr-of}
use Rattle.ep_verdicts.proofs.Lines.{one_more, one_part}
use Rattle.ep_verdicts.proofs.writing.write_lines.Goals as goal

pub returns-in_err-write-clause-part : goal.returns-in_err-write-clause-part
returns-in_err-write-clause-part g c =
    OnErr-of _ _ (one_part (g.K.Sink.held c.args.sink.now) (g.K.Sink.held c.loop-verdict.sink) (g.K.Sink.held c.write.new.self) c.args.verdicts.now c.loop-verdict.verdict-index c.verdict-item.result c.as_bytes.result.now
    c.loop-verdict.invariant.written (omega arith) c.verdict-item.is (c.as_bytes.ensures.value ∙ c.in_ok-line.ensures) c.in_err-write.ensures.err)

pub loop-verdict-preserved : goal.loop-verdict-preserved
loop-verdict-preserved g c = record {
  written =
      one_more (g.K.Sink.held c.args.sink.now) (g.K.Sink.held c.loop-verdict.sink) (g.K.Sink.held c.write.new.self) c.args.verdicts.now c.loop-verdict.verdict-index c.verdict-item.result c.as_bytes.result.now
      c.loop-verdict.invariant.written (omega arith) c.verdict-item.is (c.as_bytes.ensures.value ∙ c.in_ok-line.ensures) c.in_ok-write.ensures.ok;
  later = omega (arith, c.loop-verdict.invariant.later, c.write.ensures.cause.later);
  steady = c.write.ensures.cause.steady ∙ c.loop-verdict.invariant.steady;
}
