use Rattle.ep_import.specs.Seen.{said}
use Rattle.ep_move.proofs.Coming.{some_comes}
use Rattle.ep_move.proofs.importing.import_into.Goals as goal

pub returns-in-Ok-clause-comes_in : goal.returns-in-Ok-clause-comes_in
returns-in-Ok-clause-comes_in g c =
    some_comes c.args.pad.now (g.S.Source.left c.args.source.now) (g.S.Source.left c.history_from.new.source) (g.D.Disk.told c.args.disk)
    (g.K.Sink.held c.args.sink.now) (g.K.Sink.held c.put_and_say.new.sink) (said c.in-Ok.history) c.put_and_say.result.moved c.in-Ok.ensures.says c.put_and_say.ensures.says
