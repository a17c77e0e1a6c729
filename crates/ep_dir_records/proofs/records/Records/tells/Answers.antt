use Rattle.std.proofs.Common.{sym}
use Rattle.ep_dir_records.proofs.records.Records.tells.Goals as goal

pub returns : goal.returns
returns g c = rw (sym c.self.view_is) (g.met.K.Keeper.tells c.self.inside.keeper)
