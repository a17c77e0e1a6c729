use Rattle.std.proofs.Common.{◌≡◌, length, sym, ap, arith}
use Rattle.ep_members.proofs.Places.{found-each}
use Rattle.ep_members.proofs.actors.Actors.cut_off.Goals as goal

pub returns : goal.returns
returns c =
    let e : length c.self.inside.slots.items ≡ length c.args.self.now = ap length c.self.view_is in
    let i = c.loop-place.invariant in
    found-each c.args.self.now c.loop-place.self-inside.slots.items (sym i.0) (λ k d l. i.1 k d (omega (arith, c.self.inside.slots.ok.0)))
