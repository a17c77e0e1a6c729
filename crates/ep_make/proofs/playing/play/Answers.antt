use Rattle.std.proofs.Common.{sym, ◌∙◌}
use Rattle.ep_make.proofs.Played.{plays}
use Rattle.ep_make.proofs.playing.play.Goals as goal

pub returns : goal.returns
returns g c = λ w at.
    plays g.D.Disk.told g.D.Device.failures g.D.Disk.stops_alone w c.args.world.now c.step.new.self c.args.event c.in_ok-shown.shown c.is_nothing.result c.is_nothing.ensures c.requires
    (sym c.is_overfull.ensures ∙ c.if-is_overfull.false) at (c.in_ok-shown.ensures.plays at.alone at.journal w at.kepts at.run at.stands)
