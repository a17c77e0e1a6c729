use Rattle.std.proofs.Common.{take, rules}
use Rattle.ep_script.proofs.Rows.{is-front}
use Rattle.ep_script.proofs.script.Script.cut.Goals as goal

pub returns-clause-line : goal.returns-clause-line
returns-clause-line c = search (rules, is-front (take c.args.at c.args.self.now.held))
