use Rattle.ep_recall.proofs.Entries.{entries_same, get_there, get_none}
use Rattle.ep_recall.proofs.recall.Recall.get.Goals as goal

pub returns-clause-there : goal.returns-clause-there
returns-clause-there g c =
    get_there c.peek.result c.self.inside.cache.entries c.args.self.now.entries c.args.number c.peek.ensures (entries_same c.self.view_is)

pub returns-clause-none : goal.returns-clause-none
returns-clause-none g c =
    get_none c.peek.result c.self.inside.cache.entries c.args.self.now.entries c.args.number c.peek.ensures (entries_same c.self.view_is)
