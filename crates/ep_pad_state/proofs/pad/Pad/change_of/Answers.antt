use Rattle.std.proofs.Common.{sym, subst}
use Rattle.ep_pad_state.specs.Rereading.{IsNextChange}
use Rattle.ep_pad_state.proofs.Telling.{deletion-next}
use Rattle.ep_pad_state.proofs.pad.Pad.change_of.Goals as goal

pub returns-in-Delete-clause-next : goal.returns-in-Delete-clause-next
returns-in-Delete-clause-next c =
    subst (λ r. IsNextChange c.args.self.now r c.where_there.result) (sym c.in-Delete.is) (deletion-next c.args.self.now c.in-Delete._time c.where_there.result c.where_there.ensures)
