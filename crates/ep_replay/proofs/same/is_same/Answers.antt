use Rattle.ep_replay.proofs.Telling.{told_text}
use Rattle.ep_replay.proofs.same.is_same.Goals as goal

pub returns : goal.returns
returns c = told_text c.eq.result c.args.a.now c.args.b.now c.eq.ensures
