use Rattle.std.proofs.Common.{◌≡◌, Some, None, sym, subst}
use Rattle.ep_members.specs.declared.actors.Actor.TheVariants as actor
use Rattle.ep_world.specs.Actors.{IsNoClient}
use Rattle.ep_members.specs.Actors.{found}
use Rattle.ep_world.proofs.Seating.{put-back, without-nobody}
use Rattle.ep_world.proofs.clients.member.Goals as goal

pub returns-in_ok-put-in-Some-Guest-clause-unknown : goal.returns-in_ok-put-in-Some-Guest-clause-unknown
returns-in_ok-put-in-Some-Guest-clause-unknown c = λ _.
    let e : found c.args.actors.now c.args.name.now ≡ Some (actor.Guest c.in-Some-Guest.conn) = cc (c.take.ensures.actor, c.in-Some-Guest.is, c.in-Some-Guest.field-0-is) in (
      subst IsNoClient (sym e) tt,
      put-back c.args.actors.now c.take.new.self c.put.new.self c.args.name.now (actor.Guest c.in-Some-Guest.conn) c.take.ensures.others e c.in_ok-put-in-Some-Guest.ensures,
    )

pub returns-in-None-clause-unknown : goal.returns-in-None-clause-unknown
returns-in-None-clause-unknown c = λ _.
    let e : found c.args.actors.now c.args.name.now ≡ None = sym c.in-None.ensures.actor in
    (subst IsNoClient (sym e) tt, without-nobody c.args.actors.now c.take.new.self c.args.name.now c.take.ensures.others e)
