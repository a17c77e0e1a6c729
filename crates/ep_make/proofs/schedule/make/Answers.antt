use Rattle.std.proofs.Common.{subst, ◌∙◌}
use Rattle.ep_outside.specs.Outside.{Takes, TakesPart}
use Rattle.ep_world.proofs.Leading.{scheduled}
use Rattle.ep_make.proofs.schedule.make.Goals as goal

pub returns-in_err-write-clause-part : goal.returns-in_err-write-clause-part
returns-in_err-write-clause-part g c = λ _.
    let m = c.in_ok-world.ensures in
    (m.0, m.1.0, subst (λ b. TakesPart (g.K.Sink.held c.args.sink.now) (g.K.Sink.held c.write.new.self) b) (c.as_bytes.ensures.value ∙ c.in_ok-lines.ensures m.0 m.1.1) c.in_err-write.ensures.err)

pub returns-clause-made : goal.returns-clause-made
returns-clause-made g c =
    let m = c.in_ok-world.ensures in
    record {
      end = m.0;
      kepts = m.1.1.kepts;
      makes = m.1.0;
      written = subst (λ b. Takes (g.K.Sink.held c.args.sink.now) (g.K.Sink.held c.write.new.self) b) (c.as_bytes.ensures.value ∙ c.in_ok-lines.ensures m.0 m.1.1) c.in_ok-write.ensures.ok;
      scheduled = scheduled m.0 m.1.1.kepts m.1.1.run;
    }
