use Rattle.std.proofs.Common.{refl, sym, ap, ◌∙◌, Some, not}
use Rattle.ep_world.specs.Events.{is_nobody}
use Rattle.ep_world.proofs.Seating.{is-guest, is-named, is-nobody, lent, same-stands, without-nobody}
use Rattle.ep_world.proofs.Counting.{counts-ends}
use Rattle.ep_event.specs.declared.event.Event.TheVariants as told
use Rattle.ep_world.proofs.world.World.take.Goals as goal

pub returns-in-None-clause-plays : goal.returns-in-None-clause-plays
returns-in-None-clause-plays g c = λ alone rs w ks run s.
    let f = sym c.take.ensures.actor ∙ c.in-None.is in
    let n = is-nobody (w.actors c.args.name) (ks c.args.name) (sym (s.actors c.args.name) ∙ f) in
    (ap (λ a. not (is_nobody a)) n, same-stands g.D.Disk.told g.D.Device.failures g.D.Disk.stops_alone alone rs c.args.self.now _ w ks s s.machine refl (without-nobody c.args.self.now.actors c.take.new.self c.args.name c.take.ensures.others f))

pub returns-in-Some-Guest-clause-plays : goal.returns-in-Some-Guest-clause-plays
returns-in-Some-Guest-clause-plays g c = λ alone rs w ks run s.
    let f = sym c.take.ensures.actor ∙ c.in-Some-Guest.is ∙ ap Some c.in-Some-Guest.field-0-is in
    let a = is-guest (w.actors c.args.name) (ks c.args.name) c.in-Some-Guest.conn (sym (s.actors c.args.name) ∙ f) in
    c.take_of_guest.ensures.comes alone rs w ks a.0 a.1 a.2 (lent g.D.Disk.told g.D.Device.failures g.D.Disk.stops_alone alone rs c.args.self.now _ c.args.name w ks s s.machine refl c.take.ensures.others)

pub returns-in-Some-Named-clause-plays : goal.returns-in-Some-Named-clause-plays
returns-in-Some-Named-clause-plays g c = λ alone rs w ks run s.
    let f = sym c.take.ensures.actor ∙ c.in-Some-Named.is ∙ ap Some c.in-Some-Named.field-0-is in
    let a = is-named (w.actors c.args.name) (ks c.args.name) c.in-Some-Named.member (sym (s.actors c.args.name) ∙ f) in
    c.take_of_member.ensures.comes alone rs w ks a.0 a.1 a.2 (lent g.D.Disk.told g.D.Device.failures g.D.Disk.stops_alone alone rs c.args.self.now _ c.args.name w ks s s.machine refl c.take.ensures.others)

pub returns-in-Some-Guest-clause-ends : goal.returns-in-Some-Guest-clause-ends
returns-in-Some-Guest-clause-ends g c = λ alone rs w ks run s.
    let f = sym c.take.ensures.actor ∙ c.in-Some-Guest.is ∙ ap Some c.in-Some-Guest.field-0-is in
    let a = is-guest (w.actors c.args.name) (ks c.args.name) c.in-Some-Guest.conn (sym (s.actors c.args.name) ∙ f) in
    counts-ends alone (told.Take c.args.name) _ _ c.take_of_guest.result
    (c.take_of_guest.ensures.counts alone rs w ks a.0 a.1 a.2 (lent g.D.Disk.told g.D.Device.failures g.D.Disk.stops_alone alone rs c.args.self.now _ c.args.name w ks s s.machine refl c.take.ensures.others))

pub returns-in-Some-Named-clause-ends : goal.returns-in-Some-Named-clause-ends
returns-in-Some-Named-clause-ends g c = λ alone rs w ks run s.
    let f = sym c.take.ensures.actor ∙ c.in-Some-Named.is ∙ ap Some c.in-Some-Named.field-0-is in
    let a = is-named (w.actors c.args.name) (ks c.args.name) c.in-Some-Named.member (sym (s.actors c.args.name) ∙ f) in
    counts-ends alone (told.Take c.args.name) _ _ c.take_of_member.result
    (c.take_of_member.ensures.counts alone rs w ks a.0 a.1 a.2 (lent g.D.Disk.told g.D.Device.failures g.D.Disk.stops_alone alone rs c.args.self.now _ c.args.name w ks s s.machine refl c.take.ensures.others))
