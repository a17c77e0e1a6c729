use Rattle.std.proofs.Common.{◌∙◌}
use Rattle.ep_verify.proofs.window.Window.finish_all.Goals as goal

pub loop-self-preserved : goal.loop-self-preserved
loop-self-preserved g c = record {
  names = c.in_ok-finish_first.ensures.names ∙ c.loop-self.invariant.names;
  told = λ told h. c.in_ok-finish_first.ensures.told told (c.loop-self.invariant.told told h);
  workers = c.finish_first.ensures.workers ∙ c.loop-self.invariant.workers;
}
