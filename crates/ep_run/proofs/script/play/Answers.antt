use Rattle.std.proofs.Common.{sym, subst}
use Rattle.ep_run.specs.Run.{IsEnd, Writes}
use Rattle.ep_run.proofs.Running.{ends_made, ends_part, ends_writes, known_code}
use Rattle.ep_run.proofs.script.play.Goals as goal

pub returns-clause-part : goal.returns-clause-part
returns-clause-part g c = ends_part _ _ _ c.args.id (g.K.Sink.held c.args.sink.now) (g.K.Sink.held c.play_script.new.sink) (g.S.Source.left c.args.source.now) c.play_script.result c.play_script.ensures.ends

pub returns-clause-headline : goal.returns-clause-headline
returns-clause-headline g c =
    rw c.outcome.ensures.world (ends_made _ _ _ c.args.id (g.K.Sink.held c.args.sink.now) (g.K.Sink.held c.play_script.new.sink) (g.S.Source.left c.args.source.now) c.play_script.result c.play_script.ensures.ends)

pub returns-clause-known : goal.returns-clause-known
returns-clause-known g c = rw c.outcome.ensures.status (known_code c.play_script.result)

pub returns-clause-writes : goal.returns-clause-writes
returns-clause-writes g c = λ k.
    subst (λ n. Writes c.args.id (g.S.Source.left c.args.source.now) (g.K.Sink.held c.args.sink.now) (g.K.Sink.held c.play_script.new.sink) n) (sym c.outcome.ensures.status)
    (ends_writes _ _ _ c.args.id (g.K.Sink.held c.args.sink.now) (g.K.Sink.held c.play_script.new.sink) (g.S.Source.left c.args.source.now) c.play_script.result c.play_script.ensures.ends (subst (λ n. IsEnd n) c.outcome.ensures.status k))
