use Rattle.std.proofs.Common.{◌∙◌, ap}
use Rattle.ep_members.specs.Undoing.{shows_made_again}
use Rattle.ep_members.proofs.Remaking.{made-again}
use Rattle.ep_members.proofs.undoing.Remake.make.Goals as goal

pub returns : goal.returns
returns c =
    let made = c.in_ok-made.made in
    made-again c.args.self c.args.name c.args.client.now c.change.new.client made c.show_made.result c.in_ok-made.ensures.made c.in_ok-made.ensures.told c.in_ok-made.ensures.fits c.show_made.ensures.normal
    (c.show_made.ensures.shown ∙ ap (λ v. shows_made_again v c.args.name made) c.verb.ensures)
