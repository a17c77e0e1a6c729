use Rattle.std.proofs.Common.{◌≡◌, Some, refl, sym, ap, ◌∙◌}
use Rattle.ep_members.specs.declared.actors.Actor.TheVariants as actor
use Rattle.ep_members.specs.declared.message.Sent.{Sent}
use Rattle.ep_members.specs.Actors.{found}
use Rattle.ep_members.specs.Conns.{kept_sends}
use Rattle.ep_world.specs.declared.world.World.{World}
use Rattle.ep_world.proofs.Sends.{client-injects, injects, nobody-injects}
use Rattle.ep_world.proofs.world.World.inject.Goals as goal

pub returns-in_ok-put-in-Some-Guest-clause-plays : goal.returns-in_ok-put-in-Some-Guest-clause-plays
returns-in_ok-put-in-Some-Guest-clause-plays g c = λ now alone rs w ks r s.
    let old = c.args.self.now in
    let new : World g.row.D.Denot = record { alloc = old.alloc; id = old.id; machine = old.machine; actors = c.put.new.self } in
    let e : found old.actors c.args.name ≡ Some (actor.Guest c.in-Some-Guest.conn) = cc (c.take.ensures.actor, c.in-Some-Guest.is, c.in-Some-Guest.field-0-is) in
    injects g.D.Disk.told g.D.Device.failures g.D.Disk.stops_alone alone rs old new c.take.new.self w ks c.args.name now c.args.base c.args.change c.in-Some-Guest.conn c.send.new.self s refl refl e
    c.take.ensures.others c.message.ensures.normal
    (c.in_ok-send-in-Some-Guest.ensures ∙ ap (λ (x : Sent). kept_sends x c.in-Some-Guest.conn) c.message.ensures.whole) c.in_ok-put-in-Some-Guest.ensures

pub returns-in_ok-seat-in-Some-Named-clause-plays : goal.returns-in_ok-seat-in-Some-Named-clause-plays
returns-in_ok-seat-in-Some-Named-clause-plays g c = λ now alone rs w ks r s.
    let old = c.args.self.now in
    let new : World g.row.D.Denot = record { alloc = old.alloc; id = old.id; machine = old.machine; actors = c.seat.new.self } in
    let e : found old.actors c.args.name ≡ Some (actor.Named c.in-Some-Named.member) = cc (c.take.ensures.actor, c.in-Some-Named.is, c.in-Some-Named.field-0-is) in
    client-injects g.D.Disk.told g.D.Device.failures g.D.Disk.stops_alone alone rs old new c.take.new.self w ks c.args.name now c.args.base c.args.change c.in-Some-Named.member s refl refl e
    c.take.ensures.others c.in_ok-seat-in-Some-Named.ensures

pub returns-in-None-clause-plays : goal.returns-in-None-clause-plays
returns-in-None-clause-plays g c = λ now alone rs w ks r s.
    let old = c.args.self.now in
    let new : World g.row.D.Denot = record { alloc = old.alloc; id = old.id; machine = old.machine; actors = c.take.new.self } in
    nobody-injects g.D.Disk.told g.D.Device.failures g.D.Disk.stops_alone alone rs old new w ks c.args.name now c.args.base c.args.change s refl refl (sym c.in-None.ensures.actor) c.take.ensures.others
