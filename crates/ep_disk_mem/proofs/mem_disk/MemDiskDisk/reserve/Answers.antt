use Rattle.std.proofs.Common.{◌∙◌, sym, ap, subst, arith}
use Rattle.ep_outside.specs.Disk.{Contents, MayLeave, settled}
use Rattle.ep_disk_mem.proofs.mem_disk.MemDiskDisk.reserve.Goals as goal

pub invariant_of-self : goal.invariant_of-self
invariant_of-self c = record {
  roomy = c.reserve.ensures.keeps _ _ c.args.self.now.roomy;
  times = c.args.self.now.times;
  in_sync = λ yes_fresh. (c.reserve.ensures.contents ∙ (c.args.self.now.in_sync yes_fresh).0 ∙ ap (λ (k : Contents). settled k.seen) (sym c.reserve.ensures.contents), (c.args.self.now.in_sync yes_fresh).1);
  sound = subst (λ (k : Contents). MayLeave k k.seen) (sym c.reserve.ensures.contents) c.args.self.now.sound;
}

pub invariant_of-self-then-is_err-2 : goal.invariant_of-self-then-is_err-2
invariant_of-self-then-is_err-2 c = record {
  roomy = c.reserve.ensures.keeps _ _ c.args.self.now.roomy;
  times = λ no. omega (arith, c.args.self.now.times no);
  in_sync = λ yes_fresh. (c.reserve.ensures.contents ∙ (c.args.self.now.in_sync yes_fresh).0 ∙ ap (λ (k : Contents). settled k.seen) (sym c.reserve.ensures.contents), (c.args.self.now.in_sync yes_fresh).1);
  sound = subst (λ (k : Contents). MayLeave k k.seen) (sym c.reserve.ensures.contents) c.args.self.now.sound;
}
