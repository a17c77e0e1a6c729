use Rattle.std.proofs.Common.{sym, ◌∙◌}
use Rattle.ep_members.proofs.Places.{at-place, found-none}
use Rattle.ep_members.proofs.actors.Actors.find.Goals as goal

pub returns-in_err-place : goal.returns-in_err-place
returns-in_err-place c = rw c.from_residual.ensures (sym (found-none c.args.self.now c.args.name.now (sym c.in_err-place.ensures)))

pub returns : goal.returns
returns c =
    c.as_ref.ensures.value
    ∙ at-place c.args.self.now c.self.inside.slots.items c.args.name.now c.in_ok-place.place c.index.result.now (sym c.in_ok-place.ensures) c.self.view_is c.index.ensures
