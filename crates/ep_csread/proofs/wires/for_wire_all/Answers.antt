use Rattle.ep_csread.proofs.WirePool.{all_named_there}
use Rattle.ep_csread.proofs.wires.for_wire_all.Goals as goal

pub spelled-requires : goal.spelled-requires
spelled-requires c = all_named_there _ c.args.changes.now c.in_ok-pool.ensures
