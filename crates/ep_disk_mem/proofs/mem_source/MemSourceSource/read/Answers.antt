use Rattle.std.proofs.Common.{rules, ◌≡◌, arith, take, drop}
use Rattle.ep_disk_mem.proofs.Reading.{gives_part}
use Rattle.ep_disk_mem.proofs.mem_source.MemSourceSource.read.Goals as goal

pub returns-clause-bytes : goal.returns-clause-bytes
returns-clause-bytes c =
    let part : c.copy_from_slice.new.self ≡ take c.min-n.result (drop c.args.self.now.at c.args.self.now.bytes.items) = search rules in
    gives_part c.args.self.now.bytes.items c.args.room.now c.copy_from_slice.new.self c.args.self.now.at c.min-n.result (omega arith) (omega arith) part
