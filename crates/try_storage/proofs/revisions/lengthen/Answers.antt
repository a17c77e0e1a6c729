use Rattle.ep_revs.proofs.Docs.{last-pushed}
use Rattle.try_storage.proofs.revisions.lengthen.Goals as goal

pub returns : goal.returns
returns c =
    last-pushed c.args.revs.now.revs c.reserve_two.new.self.revs c.push.new.self.revs _ c.args.doc.now c.in_ok-after.after
    c.requires c.in_ok-reserve_two.ensures.revs c.push.ensures.revs c.in_ok-after.ensures
