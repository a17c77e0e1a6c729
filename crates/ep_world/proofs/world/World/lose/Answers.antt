use Rattle.std.proofs.Common.{refl, ap, ◌∙◌, rules}
use Rattle.ep_history.specs.Kept.{KeptClient}
use Rattle.ep_world.specs.declared.world.World.{World}
use Rattle.ep_world.proofs.Hears.{loses}
use Rattle.ep_event.specs.declared.event.Event.TheVariants as told
use Rattle.ep_world.proofs.Counting.{as-err, caused-ends, memory-caused}
use Rattle.ep_world.proofs.world.World.lose.Goals as goal

pub returns-clause-plays : goal.returns-clause-plays
returns-clause-plays g c = λ now alone rs w ks r s.
    let m = c.in_ok-member in
    let old = c.args.self.now in
    let new : World g.row.D.Denot = record { alloc = old.alloc; id = old.id; machine = old.machine; actors = c.seat.new.self } in
    loses g.D.Disk.told g.D.Device.failures g.D.Disk.stops_alone alone rs old new w ks c.args.name now m.member c.lose.new.self c.is_connected-was.result c.show_lost.result r s refl refl
    (record { between = c.member.new.actors; taken = m.ensures.taken.0; without = m.ensures.taken.1; seated = c.in_ok-seat.ensures })
    (c.is_connected-was.ensures ∙ ap (λ (k : KeptClient). k.connected) c.client.ensures.shown) c.lose.ensures c.show_lost.ensures

pub returns-in_err-member-clause-ends : goal.returns-in_err-member-clause-ends
returns-in_err-member-clause-ends g c = λ now alone rs w ks run s.
    let b = c.in_err-member.field-0.0 in
    as-err _ _ c.from_residual.result b (search rules) (caused-ends alone (told.Lose c.args.name) _ _ b (memory-caused _ _ b c.in_err-member.ensures.failed))
