use Rattle.std.proofs.Common.{None, sym, ◌∙◌}
use Rattle.ep_members.proofs.Places.{at-place, found-none, set-place, without-none}
use Rattle.ep_members.proofs.actors.Actors.take.Goals as goal

pub returns-in_err-place-clause-actor : goal.returns-in_err-place-clause-actor
returns-in_err-place-clause-actor c = rw c.from_residual.ensures (sym (found-none c.args.self.now c.args.name.now (sym c.in_err-place.ensures)))

pub returns-in_err-place-clause-others : goal.returns-in_err-place-clause-others
returns-in_err-place-clause-others c = without-none c.args.self.now c.args.name.now (sym c.in_err-place.ensures)

pub returns-clause-actor : goal.returns-clause-actor
returns-clause-actor c =
    c.replace.ensures.value
    ∙ at-place c.args.self.now c.self.inside.slots.items c.args.name.now c.in_ok-place.place c.index_mut.result.now (sym c.in_ok-place.ensures) c.self.view_is c.index_mut.ensures.value

pub returns-clause-others : goal.returns-clause-others
returns-clause-others c = λ q.
    rw c.replace.ensures.after
    (set-place c.args.self.now c.self.inside.slots.items c.args.name.now c.in_ok-place.place c.index_mut.result.now None (sym c.in_ok-place.ensures) c.self.view_is c.index_mut.ensures.value q)
