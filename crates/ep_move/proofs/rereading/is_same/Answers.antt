use Rattle.ep_move.proofs.Following.{told_text}
use Rattle.ep_move.proofs.rereading.is_same.Goals as goal

pub returns : goal.returns
returns c = told_text c.eq.result c.args.a.now c.args.b.now c.eq.ensures
