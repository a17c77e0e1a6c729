use Rattle.ep_script.proofs.Grammar.{write_line_of-text, write_line_of-other}
use Rattle.ep_script.proofs.write_line.read_write_line.Goals as goal

pub returns-in-Ok-clause-line : goal.returns-in-Ok-clause-line
returns-in-Ok-clause-line c = rw (write_line_of-text _ c.in-Ok.ensures.cases.1, ← c.in-Ok.ensures.cases.0) c.read_text_line.ensures.line

pub returns-in-Err-clause-line : goal.returns-in-Err-clause-line
returns-in-Err-clause-line c = write_line_of-other c.args.bytes.now c.in-Err.ensures.cases.0
