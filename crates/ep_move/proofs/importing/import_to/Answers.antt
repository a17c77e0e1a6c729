use Rattle.ep_import.specs.Seen.{said}
use Rattle.ep_move.proofs.Coming.{none_comes, some_comes}
use Rattle.ep_move.proofs.importing.import_to.Goals as goal

pub returns-in-Ok-clause-comes_in : goal.returns-in-Ok-clause-comes_in
returns-in-Ok-clause-comes_in g c =
    some_comes c.args.pad.now (g.S.Source.left c.args.source.now) (g.S.Source.left c.history_from.new.source) (g.H.Shelf.told c.args.shelf.now c.args.pad.now)
    (g.K.Sink.held c.args.sink.now) (g.K.Sink.held c.put_on.new.sink) (said c.in-Ok.history) c.put_on.result c.in-Ok.ensures.says c.put_on.ensures.says

pub returns-in-Err-clause-comes_in : goal.returns-in-Err-clause-comes_in
returns-in-Err-clause-comes_in g c =
    none_comes c.args.pad.now (g.S.Source.left c.args.source.now) (g.S.Source.left c.history_from.new.source) (g.H.Shelf.told c.args.shelf.now c.args.pad.now)
    (g.K.Sink.held c.args.sink.now) (g.K.Sink.held c.write_stop.new.sink) c.in-Err.stop c.write_stop.result c.in-Err.ensures.stops c.write_stop.ensures.writes
