use Rattle.ep_script.proofs.Grammar.{line_of-text, line_of-other}
use Rattle.ep_script.proofs.line.read_line.Goals as goal

pub returns-in-Ok-clause-line : goal.returns-in-Ok-clause-line
returns-in-Ok-clause-line c = rw (line_of-text _ c.in-Ok.ensures.cases.1, ← c.in-Ok.ensures.cases.0) c.read_text_line.ensures.line

pub returns-in-Err-clause-line : goal.returns-in-Err-clause-line
returns-in-Err-clause-line c = line_of-other c.args.bytes.now c.in-Err.ensures.cases.0
