use Rattle.std.proofs.Common.{◌∙◌, subst}
use Rattle.ep_outside.specs.Outside.{Takes}
use Rattle.ep_outside.proofs.Pieces.{OnErr-of, stopped, started}
use Rattle.ep_run.specs.Play.{error_line}
use Rattle.ep_run.proofs.script.end.Goals as goal

pub returns-in_err-text-clause-part : goal.returns-in_err-text-clause-part
returns-in_err-text-clause-part g c =
    let held = g.K.Sink.held c.args.sink.now in
    OnErr-of _ _ (stopped held held (error_line c.args.k c.args.reason) (error_line c.args.k c.args.reason) (started held (error_line c.args.k c.args.reason)))

pub returns-clause-whole : goal.returns-clause-whole
returns-clause-whole g c =
    subst (λ t. Takes (g.K.Sink.held c.args.sink.now) (g.K.Sink.held c.write.new.self) t) (c.as_bytes.ensures.value ∙ c.in_ok-text.ensures) c.in_ok-write.ensures.ok
