use Rattle.std.proofs.Common.{ap}
use Rattle.ep_recent.specs.Recent.{LastRevs}
use Rattle.ep_recent.proofs.Told.{entry_at}
use Rattle.ep_recent.proofs.recent.Recent.kept_at.Goals as goal

pub returns : goal.returns
returns c =
    entry_at c.self.inside.kept.items c.args.self.now.kept c.args.i c.get.result (ap (λ (k : LastRevs). k.kept) c.self.view_is) c.get.ensures.item.0 c.get.ensures.lookup
