use Rattle.std.proofs.Common.{ap}
use Rattle.ep_groups.proofs.Histories.{begun}
use Rattle.ep_groups.proofs.dir_machine.DirMachine.new.Goals as goal

pub returns-clause-begun : goal.returns-clause-begun
returns-clause-begun g c = begun g.K.Keeper.always_tells c.args.keeper _ c.tells.ensures (ap (λ s. s.always_tells) c.new-records.ensures)
