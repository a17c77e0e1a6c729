use Rattle.ep_recall.proofs.Entries.{entries_same, ask_finds, ask_keeps}
use Rattle.ep_recall.proofs.recall.Recall.ask.Goals as goal

pub returns-clause-there : goal.returns-clause-there
returns-clause-there g c =
    ask_finds c.self.inside.cache.entries c.args.self.now.entries c.args.number c.promote.result c.promote.ensures.value (entries_same c.self.view_is)

pub returns-clause-same : goal.returns-clause-same
returns-clause-same g c =
    ask_keeps c.self.inside.cache c.promote.new.self c.args.self.now.entries c.args.number c.promote.ensures.entries (entries_same c.self.view_is)
