use Rattle.std.proofs.Common.{sym, ◌∙◌, rules, take}
use Rattle.ep_lines.proofs.Rows.{behind-none, behind-some}
use Rattle.ep_lines.proofs.lines.Lines.read_on.Goals as goal
use Rattle.ep_lines.proofs.lines.Lines.read_on.Goals.{in-Some, in-None}

pub returns-after-line_end-clause-end : goal.returns-after-line_end-clause-end
returns-after-line_end-clause-end g c = λ none. elim c.match-line_end.branch [
  | in-Some w ↦ search (rules, none, w, behind-some c.args.self.now.held (take c.in-Bytes.n c.read.new.room) w.in-Some.at none)
  | in-None w ↦ search (rules, none, w, behind-none c.args.self.now.held (take c.in-Bytes.n c.read.new.room) none)
]
