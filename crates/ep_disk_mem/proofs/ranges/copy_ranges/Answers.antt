use Rattle.std.proofs.Common.{rules, ◌≡◌, [], ℕ, List, length, subst, sym, arith}
use Rattle.ep_outside.specs.Disk.{IsUntouched}
use Rattle.ep_disk_mem.proofs.Touching.{copied_one, copied_all}
use Rattle.ep_disk_mem.proofs.ranges.copy_ranges.Goals as goal

pub loop-at-preserved : goal.loop-at-preserved
loop-at-preserved c = record {
  len = omega (arith, c.copy_range.ensures.len, c.loop-at.invariant.len);
  same = copied_one c.loop-at.to.items c.copy_range.new.to.items c.args.from.now c.loop-at.ranges.items c.pop.new.self.items c.in-Some.at c.in-Some.end c.in-Some.ensures.items c.copy_range.ensures.len c.loop-at.invariant.same c.copy_range.ensures.inside c.copy_range.ensures.outside;
  room = search rules;
  places = search rules;
}

pub returns-clause-copied : goal.returns-clause-copied
returns-clause-copied c =
    let none : c.loop-at.ranges.items ≡ [] = search rules in
    copied_all c.loop-at.to.items c.args.from.now (length c.args.to.now.items) c.loop-at.invariant.len c.requires.within
    (λ i lt. c.loop-at.invariant.same i lt (subst (λ (rs : List (ℕ × ℕ)). IsUntouched rs i) (sym none) tt))
