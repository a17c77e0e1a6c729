use Rattle.std.proofs.Common.{ap, ◌∙◌, subst}
use Rattle.ep_event.specs.declared.event.Event.TheVariants.{Edit}
use Rattle.ep_make.specs.Draws.{drawn_edit}
use Rattle.ep_make.specs.Made.{IsOf}
use Rattle.ep_make.specs.Round.{after, sent}
use Rattle.ep_make.proofs.Steps.{rests_as, round_from}
use Rattle.ep_make.proofs.round.round.Goals as goal

pub returns : goal.returns
returns g c = λ w at.
    let n = c.in_ok-name.name in
    let e = c.in_ok-edit.edit in
    let y = c.draw_name.new.lots.number in
    let p = subst (λ m. IsOf g.D.Disk.told g.D.Device.failures g.D.Disk.stops_alone c.play.new.world (after w (Edit m e))) c.in_ok-copy.ensures (c.in_ok-play.ensures w at).1 in
    let s = c.in_ok-send.ensures (after w (Edit n e)) p in
    let r = c.in_ok-rest.ensures (sent (after w (Edit n e)) n) s in (
      r.0,
      round_from c.args.clients c.args.lots.now.number n y c.draw_edit.new.lots.number c.pick.new.self.number e w r.0 c.in_ok-name.ensures.name c.draw_name.ensures.number
          (c.in_ok-edit.ensures ∙ ap (λ u. drawn_edit u y) (c.in_ok-units.ensures.length w at))
          c.pick.ensures.number
          (rests_as c.pick.result _ n (sent (after w (Edit n e)) n) r.0 c.pick.ensures.picked r.1),
      r.2,
    )
