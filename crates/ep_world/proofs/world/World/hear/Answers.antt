use Rattle.std.proofs.Common.{refl}
use Rattle.ep_world.specs.declared.world.World.{World}
use Rattle.ep_world.proofs.Hears.{hears-down}
use Rattle.ep_world.proofs.Turns.{lent-turn, nobody-lent}
use Rattle.ep_world.proofs.world.World.hear.Goals as goal

pub returns-in_default-clause-plays : goal.returns-in_default-clause-plays
returns-in_default-clause-plays g c = λ now alone rs w ks r s.
    let old = c.args.self.now in
    let new : World g.row.D.Denot = record { alloc = old.alloc; id = old.id; machine = old.machine; actors = c.client.follows.lender-at-none } in
    let x = nobody-lent g.D.Disk.told g.D.Device.failures g.D.Disk.stops_alone alone rs old new w ks c.args.name s refl refl c.in_default.ensures.told c.client.follows.holds-at-none in
    (x.0, x.1)

pub returns-clause-plays : goal.returns-clause-plays
returns-clause-plays g c = λ now alone rs w ks r s.
    let old = c.args.self.now in
    let m = c.in-Some.member.now in
    let m' = c.hear.new.self in
    let new : World g.row.D.Denot = record { alloc = old.alloc; id = old.id; machine = old.machine; actors = c.client.follows.lender m' } in
    let turn = lent-turn old.actors c.args.name m m' new.actors c.client.result c.in-Some.member c.in-Some.is c.in-Some.ensures.told (c.client.follows.holds m') in
    hears-down g.D.Disk.told g.D.Device.failures g.D.Disk.stops_alone alone rs old new w ks c.args.name now m m' c.in_ok-hear.field-0 r s refl refl turn c.in_ok-hear.ensures
