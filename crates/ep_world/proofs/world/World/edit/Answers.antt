use Rattle.std.proofs.Common.{refl, sym, ap, ◌∙◌, subst}
use Rattle.ep_world.specs.declared.world.World.{World}
use Rattle.ep_world.specs.Shows.{shows_edited}
use Rattle.ep_world.proofs.Sends.{edits-view}
use Rattle.ep_world.proofs.Turns.{IsTurn, lent-turn, nobody-lent}
use Rattle.ep_world.proofs.world.World.edit.Goals as goal

pub returns-in_default-clause-plays : goal.returns-in_default-clause-plays
returns-in_default-clause-plays g c = λ now alone rs w ks r s.
    let old = c.args.self.now in
    let new : World g.row.D.Denot = record { alloc = old.alloc; id = old.id; machine = old.machine; actors = c.client.follows.lender-at-none } in
    let x = nobody-lent g.D.Disk.told g.D.Device.failures g.D.Disk.stops_alone alone rs old new w ks c.args.name s refl refl c.in_default.ensures.told c.client.follows.holds-at-none in
    (x.0, x.1)

pub returns-clause-plays : goal.returns-clause-plays
returns-clause-plays g c = λ now alone rs w ks r s.
    let old = c.args.self.now in
    let m = c.in-Some.member.now in
    let m' = c.edit.new.self in
    let new : World g.row.D.Denot = record { alloc = old.alloc; id = old.id; machine = old.machine; actors = c.client.follows.lender m' } in
    let turn = lent-turn old.actors c.args.name m m' new.actors c.client.result c.in-Some.member c.in-Some.is c.in-Some.ensures.told (c.client.follows.holds m') in
    let made = c.in_ok-bad.ensures in
    edits-view g.D.Disk.told g.D.Device.failures g.D.Disk.stops_alone alone rs old new w ks c.args.name now c.args.edit.now m made.0 c.in_ok-bad.bad c.show_edited.result r s refl refl
    (subst (λ y. IsTurn old.actors c.args.name m y new.actors) made.1 turn)
    (sym c.is_text.ensures ∙ c.if-not-is_text.false) made.2
    (c.show_edited.ensures ∙ ap (λ v. shows_edited v c.args.name c.in_ok-bad.bad) c.verb_of.ensures)
