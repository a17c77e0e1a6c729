use Rattle.std.proofs.Common.{sym}
use Rattle.ep_world.proofs.Crashes.{puts-back}
use Rattle.ep_world.proofs.Seating.{without-nobody}
use Rattle.ep_world.proofs.stopping.first_sent.Goals as goal

pub returns-in-None : goal.returns-in-None
returns-in-None c =
    let e = sym c.in-None.ensures.actor in
    (e, without-nobody c.args.actors.now c.take.new.self c.args.name.now c.take.ensures.others e)

pub returns-in_ok-put-in-Some : goal.returns-in_ok-put-in-Some
returns-in_ok-put-in-Some c = (
  c.in-Some.actor,
  c.first_sent-first.new.self,
  sym c.in-Some.ensures.actor,
  c.first_sent-first.ensures,
  puts-back c.args.actors.now c.take.new.self c.put.new.self c.args.name.now c.first_sent-first.new.self c.take.ensures.others c.in_ok-put-in-Some.ensures,
)
