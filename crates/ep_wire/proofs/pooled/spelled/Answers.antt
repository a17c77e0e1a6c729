use Rattle.ep_wire.proofs.ReadWith.{change_with}
use Rattle.ep_wire.proofs.pooled.spelled.Goals as goal

pub returns-clause-read_with : goal.returns-clause-read_with
returns-clause-read_with c =
    change_with c.args.pool.now.pairs c.in_ok-text.text c.in_ok-change.change c.in_ok-change.ensures.change c.in_ok-text.ensures.text c.ops-runs.ensures.normal
