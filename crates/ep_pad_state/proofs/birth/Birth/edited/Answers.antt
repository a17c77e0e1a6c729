use Rattle.ep_pad_state.proofs.Lasting.{edited-of}
use Rattle.ep_pad_state.proofs.birth.Birth.edited.Goals as goal

pub returns : goal.returns
returns c = λ b h. edited-of c.args.self.now.revs.revs b c.last.result c.rev.result.now (c.last.ensures.number b h) h.revs c.rev.ensures
