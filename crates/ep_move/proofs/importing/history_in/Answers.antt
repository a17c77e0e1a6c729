use Rattle.ep_move.specs.Moving.IsNone.{NoText}
use Rattle.ep_move.proofs.Coming.{says_of, stops_of}
use Rattle.ep_move.proofs.importing.history_in.Goals as goal

pub returns-in-Ok-import-clause-says : goal.returns-in-Ok-import-clause-says
returns-in-Ok-import-clause-says c = says_of c.args.pad.now c.args.bytes.now c.in-Ok.text.now c.in-Ok-import.history c.in-Ok.ensures.cases.0 c.in-Ok-import.ensures.answer

pub returns-in-Err-clause-stops : goal.returns-in-Err-clause-stops
returns-in-Err-clause-stops c =
    stops_of c.args.pad.now c.args.bytes.now c.in-Ok.text.now c.in-Err.why c.stop_of_import.result c.in-Ok.ensures.cases.0 c.in-Err.ensures.answer c.stop_of_import.ensures

pub returns-in_default-clause-stops : goal.returns-in_default-clause-stops
returns-in_default-clause-stops c = NoText c.in_default.ensures.cases.0
