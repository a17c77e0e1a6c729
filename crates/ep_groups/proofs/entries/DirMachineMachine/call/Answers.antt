use Rattle.std.proofs.Common.{sym}
use Rattle.ep_groups.proofs.Histories.{stands_on}
use Rattle.ep_groups.proofs.entries.DirMachineMachine.call.Goals as goal

pub returns : goal.returns
returns g c = λ first h s. stands_on g.K.Keeper.always_tells first c.args.self.now c.answer-reply.new.self c.args.entry c.answer-reply.result h s c.answer-reply.ensures (rw (sym c.self.view_is) c.tells.ensures)
