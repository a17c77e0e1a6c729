use Rattle.std.proofs.Common.{All, subst, sym}
use Rattle.ep_house.specs.Named.{MayWait}
use Rattle.ep_house.proofs.registry.Registry.waiting.Goals as goal

pub invariant_of-self-in-Some-1 : goal.invariant_of-self-in-Some-1
invariant_of-self-in-Some-1 g c = record {
  within = c.args.self.now.within;
  cells_within = c.args.self.now.cells_within;
  kept_within = (c.take_kept.ensures.within g.P.PadOver.limits_of c.args.self.now.limits (subst (All (λ k. MayWait g.P.PadOver.limits_of c.args.self.now.limits k.what)) (sym c.reserve.ensures.items) c.args.self.now.kept_within)).0;
}
