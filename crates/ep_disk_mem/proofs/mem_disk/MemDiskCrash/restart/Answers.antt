use Rattle.ep_disk_mem.proofs.Kept.{moves_to}
use Rattle.ep_disk_mem.proofs.mem_disk.MemDiskCrash.restart.Goals as goal

pub returns-clause-time : goal.returns-clause-time
returns-clause-time c = moves_to c.args.self.now.past.items c.push_reserved.new.self.items c.of-was.result c.args.self.now.held c.restart.new.self c.of-was.ensures c.push_reserved.ensures.items
