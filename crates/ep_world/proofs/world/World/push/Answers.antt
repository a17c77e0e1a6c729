use Rattle.std.proofs.Common.{refl, rules}
use Rattle.ep_world.specs.declared.world.World.{World}
use Rattle.ep_event.specs.declared.event.Event.TheVariants as told
use Rattle.ep_world.proofs.Counting.{as-err, caused-ends}
use Rattle.ep_world.proofs.Pushes.{push-turn}
use Rattle.ep_world.proofs.Turns.{lent-turn, nobody-lent}
use Rattle.ep_world.proofs.world.World.push.Goals as goal

pub returns-in_default-clause-plays : goal.returns-in_default-clause-plays
returns-in_default-clause-plays g c = λ now alone rs w ks r s.
    let old = c.args.self.now in
    let new : World g.row.D.Denot = record { alloc = old.alloc; id = old.id; machine = old.machine; actors = c.client.follows.lender-at-none } in
    let x = nobody-lent g.D.Disk.told g.D.Device.failures g.D.Disk.stops_alone alone rs old new w ks c.args.name s refl refl c.in_default.ensures.told c.client.follows.holds-at-none in
    (x.0, x.1)

pub returns-clause-plays : goal.returns-clause-plays
returns-clause-plays g c = λ now alone rs w ks r s.
    let old = c.args.self.now in
    let m = c.in-Some.member.now in
    let m' = c.tell_member.new.member in
    let new : World g.row.D.Denot = record { alloc = old.alloc; id = old.id; machine = c.tell_member.new.machine; actors = c.client.follows.lender m' } in
    let turn = lent-turn old.actors c.args.name m m' new.actors c.client.result c.in-Some.member c.in-Some.is c.in-Some.ensures.told (c.client.follows.holds m') in
    push-turn g.D.Disk.told g.D.Device.failures g.D.Disk.stops_alone alone rs old new w ks c.args.name now m m' c.in_ok-pushed.pushed c.show.result r s refl turn
    (c.in_ok-pushed.ensures.told alone rs) c.show.ensures

pub returns-in_err-pushed-clause-ends : goal.returns-in_err-pushed-clause-ends
returns-in_err-pushed-clause-ends g c = λ now alone rs w ks run s.
    let b = c.in_err-pushed.field-0.0 in
    as-err _ _ c.from_residual.result b (search rules) (caused-ends alone (told.Push c.args.name) _ _ b (c.in_err-pushed.ensures.counts alone rs w.pad s.machine))
