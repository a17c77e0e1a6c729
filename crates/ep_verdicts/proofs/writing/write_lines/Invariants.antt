use Rattle.std.proofs.Common.{◌≡◌, ◌≤◌}
use Rattle.ep_verdicts.proofs.Lines.{IsAt}
use Rattle.ep_verdicts.proofs.writing.write_lines.Given as goal

abbrev pub invariant-loop-verdict : goal.invariant-loop-verdict
invariant-loop-verdict g l = record {
  written : IsAt (g.K.Sink.held l.fn.sink) (g.K.Sink.held l.sink) l.verdicts l.verdict-index;
  later : g.K.Device.failures l.fn.sink ≤ g.K.Device.failures l.sink;
  steady : g.K.Device.is_steady l.sink ≡ g.K.Device.is_steady l.fn.sink;
}
