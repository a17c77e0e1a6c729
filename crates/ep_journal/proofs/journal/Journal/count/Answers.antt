use Rattle.std.proofs.Common.{◌≡◌, length, rules}
use Rattle.ep_journal.proofs.Keeping.{counted}
use Rattle.ep_journal.proofs.journal.Journal.count.Goals as goal

pub returns-clause-records : goal.returns-clause-records
returns-clause-records g c =
    let same : c.len.result ≡ length c.args.self.now.gates.items = search rules in
    counted _ c.args.self.now.gates.items c.args.self.now.gate c.len.result c.requires.held same
