use Rattle.std.specs.String.{string_bytes}
use Rattle.ep_move.proofs.Writing.{goes_out}
use Rattle.ep_move.proofs.exporting.export_to.Goals as goal

pub returns-in-Ok-clause-goes_out : goal.returns-in-Ok-clause-goes_out
returns-in-Ok-clause-goes_out g c =
    goes_out (g.H.Shelf.names c.args.shelf.now) (g.H.Shelf.told c.args.shelf.now c.args.pad.now) c.args.pad.now (g.K.Sink.held c.args.sink.now) (g.K.Sink.held c.write_line.new.sink)
    c.in-Ok.line.refuses (string_bytes c.in-Ok.line.text) c.write_line.result c.in-Ok.ensures.said c.write_line.ensures.writes
