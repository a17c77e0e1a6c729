use Rattle.std.proofs.Common.{rules, sym, subst, List}
use Rattle.std.specs.List.{All}
use Rattle.ep_history.specs.declared.rev.Rev.{Rev}
use Rattle.ep_revs.specs.Near.{IsNear}
use Rattle.ep_revs.proofs.revs.Revs.reserve_two.Goals as goal

pub invariant_of-self-in_err-make_room : goal.invariant_of-self-in_err-make_room
invariant_of-self-in_err-make_room c = record {
  kept = search rules;
  revs = search rules;
  frames = search rules;
  near = subst (λ (vs : List Rev). All (IsNear vs) c.make_room.new.near.items) (sym c.reserve.ensures.items) (c.make_room.ensures _ c.self.invariant.near);
}

pub invariant_of-self-then-self-lt2 : goal.invariant_of-self-then-self-lt2
invariant_of-self-then-self-lt2 c = record {
  kept = search rules;
  revs = search rules;
  frames = search rules;
  near = subst (λ (vs : List Rev). All (IsNear vs) c.make_room.new.near.items) (sym c.reserve.ensures.items) (c.make_room.ensures _ c.self.invariant.near);
}
