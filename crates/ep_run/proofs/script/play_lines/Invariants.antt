use Rattle.std.proofs.Common.{◌≡◌, ◌≤◌, true}
use Rattle.ep_outside.specs.Outside.{IsAtEnd}
use Rattle.ep_run.specs.Play.{Scene}
use Rattle.ep_run.specs.Played.{IsStage}
use Rattle.ep_run.proofs.Scripts.{IsRead}
use Rattle.ep_run.proofs.script.play_lines.Given as goal

abbrev pub invariant-loop-k : goal.invariant-loop-k
invariant-loop-k g l = record {
  read : (s : Scene) → IsStage g.D.Disk.told g.D.Device.failures g.D.Disk.stops_alone l.fn.stage s
      → IsRead g.D.Disk.told g.D.Device.failures g.D.Disk.stops_alone l.stage l.script s (g.S.Source.left l.fn.source) (g.S.Source.left l.source) (g.K.Sink.held l.fn.sink) (g.K.Sink.held l.sink) l.k;
  over : l.script.is_over ≡ true → IsAtEnd (g.S.Source.left l.source);
  source_later : g.S.Device.failures l.fn.source ≤ g.S.Device.failures l.source;
  source_steady : g.S.Device.is_steady l.source ≡ g.S.Device.is_steady l.fn.source;
  later : g.K.Device.failures l.fn.sink ≤ g.K.Device.failures l.sink;
  steady : g.K.Device.is_steady l.sink ≡ g.K.Device.is_steady l.fn.sink;
}
