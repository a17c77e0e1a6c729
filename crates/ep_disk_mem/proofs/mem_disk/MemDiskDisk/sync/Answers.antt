use Rattle.std.proofs.Common.{◌+◌, ◌-◌, sym, subst, arith, rules}
use Rattle.ep_outside.specs.Disk.{Contents, MayLeave}
use Rattle.ep_outside.proofs.Images.{seen_image}
use Rattle.ep_disk_mem.proofs.Kept.{moves_to, room_at}
use Rattle.ep_disk_mem.proofs.mem_disk.MemDiskDisk.sync.Goals as goal

pub invariant_of-self-2 : goal.invariant_of-self-2
invariant_of-self-2 c =
    record {
      roomy = c.sync.ensures.room (c.args.self.now.room_calls - 1) (c.args.self.now.room_bytes) (room_at c.args.self.now.held c.args.self.now.room_calls c.args.self.now.room_bytes (c.args.self.now.room_calls - 1 + 1) (c.args.self.now.room_bytes) (omega arith) (omega arith) c.args.self.now.roomy);
      times = λ no. omega (arith, c.args.self.now.times no);
      in_sync = λ yes_fresh. absurd (omega (arith, (c.args.self.now.in_sync yes_fresh).1));
      sound = subst (λ (k : Contents). MayLeave k k.seen) (sym c.sync.ensures.contents) (seen_image c.args.self.now.held.bytes.items);
    }

pub returns-clause-call : goal.returns-clause-call
returns-clause-call c = record {
  time = moves_to c.args.self.now.past.items c.push_reserved.new.self.items c.of-was.result c.args.self.now.held c.sync.new.self c.of-was.ensures c.push_reserved.ensures.items;
  cause = search rules;
  planned = search rules;
  stops = search rules;
  alone = search rules;
}
