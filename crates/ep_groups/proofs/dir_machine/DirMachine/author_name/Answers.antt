use Rattle.std.proofs.Common.{sym}
use Rattle.ep_dir_records.proofs.Chains.{reads_only}
use Rattle.ep_groups.proofs.dir_machine.DirMachine.author_name.Goals as goal

pub returns : goal.returns
returns g c = rw (sym c.self.view_is) (reads_only c.name_of.ensures)
