use Rattle.std.proofs.Common.{Err, refl, sym}
use Rattle.ep_world.specs.Shows.{shows_view}
use Rattle.ep_world.specs.declared.bad.WorldBad.TheVariants.{Unknown}
use Rattle.ep_world.proofs.Showing.{shows-client, shows-result, unshown}
use Rattle.ep_world.proofs.world.World.show.Goals as goal

pub returns-in-Some : goal.returns-in-Some
returns-in-Some g c = λ alone rs w ks run s.
    shows-result (shows_view w c.args.name) _ c.show_view.result (shows-client w ks c.args.name c.in-Some.client.now run (sym (c.in-Some.ensures alone rs w ks s))) c.show_view.ensures.shown c.show_view.ensures.failed

pub returns-in-None : goal.returns-in-None
returns-in-None g c = λ alone rs w ks run s. (unshown w ks c.args.name (Err Unknown) (sym (c.in-None.ensures alone rs w ks s)) refl).0
