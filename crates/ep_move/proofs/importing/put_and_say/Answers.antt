use Rattle.std.proofs.Common.{ap, ◌∙◌, arith}
use Rattle.ep_import.specs.Seen.{said}
use Rattle.ep_move.specs.Lines.{imported}
use Rattle.ep_move.proofs.Coming.{said_puts}
use Rattle.ep_move.proofs.importing.put_and_say.Goals as goal

pub returns-in-Ok-put_into-clause-says : goal.returns-in-Ok-put_into-clause-says
returns-in-Ok-put_into-clause-says g c =
    said_puts c.args.pad.now (g.D.Disk.told c.args.disk) (said c.args.history.now) (g.K.Sink.held c.args.sink.now) (g.K.Sink.held c.say_imported.new.sink)
    c.as_str.result.now c.say_imported.result.moved (c.as_str.ensures.value ∙ c.in-Ok.ensures ∙ ap imported (omega (arith, c.len.ensures, c.saturating_sub-head.ensures))) c.say_imported.ensures.says
