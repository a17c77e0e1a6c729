use Rattle.std.proofs.Common.{Some, None, refl, sym, ap, ◌∙◌}
use Rattle.ep_members.specs.declared.actors.Actor.TheVariants as actor
use Rattle.ep_members.specs.Actors.{client_of}
use Rattle.ep_members.proofs.Places.{at-place, found-none, on-some, place-in, set-back, set-place}
use Rattle.ep_members.proofs.actors.Actors.client.Goals as goal

pub returns-in_err-place : goal.returns-in_err-place
returns-in_err-place c =
    let none = place-in c.args.self.now c.self.inside.slots.items c.args.name.now None c.self.view_is c.in_err-place.ensures in
    rw c.from_residual.ensures
    ((refl, (λ w. tt), c.self.view_is), record { lends = tt; told = sym (ap client_of (found-none c.args.self.now c.args.name.now none)) })

pub returns : goal.returns
returns c =
    let items = c.self.inside.slots.items in
    let x = c.index_mut.result.now in
    let place = place-in c.args.self.now items c.args.name.now (Some c.in_ok-place.place) c.self.view_is c.in_ok-place.ensures in (
      (
        refl,
        (λ w. on-some c.client.result (λ q. set-place c.args.self.now items c.args.name.now c.in_ok-place.place x (Some (actor.Named w)) place c.self.view_is c.index_mut.ensures.value q)),
        set-back c.args.self.now items c.in_ok-place.place x c.self.view_is c.index_mut.ensures.value,
      ),
      record {
        lends = tt;
        told = c.client.ensures.told ∙ ap client_of (at-place c.args.self.now items c.args.name.now c.in_ok-place.place x place c.self.view_is c.index_mut.ensures.value);
      },
    )
