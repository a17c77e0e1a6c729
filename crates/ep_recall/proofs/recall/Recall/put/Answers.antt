use Rattle.ep_recall.proofs.Entries.{entries_same, put_tells, put_adds}
use Rattle.ep_recall.proofs.recall.Recall.put.Goals as goal

pub returns-clause-there : goal.returns-clause-there
returns-clause-there g c =
    put_tells c.put.result c.is_ok.result c.self.inside.cache c.put.new.self c.args.number c.args.value c.is_ok.ensures.value c.put.ensures.entries

pub returns-clause-only : goal.returns-clause-only
returns-clause-only g c =
    put_adds c.put.result c.self.inside.cache c.put.new.self c.args.self.now.entries c.args.number c.args.value c.put.ensures.entries c.put.ensures.err (entries_same c.self.view_is)
