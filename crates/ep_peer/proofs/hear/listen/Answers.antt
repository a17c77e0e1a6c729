use Rattle.std.proofs.Common.{arith}
use Rattle.ep_peer.specs.Writer.{Goes, Listening}
use Rattle.ep_peer.proofs.Parting.{done_nothing}
use Rattle.ep_peer.proofs.Receiving.{waits_none, waits_some, waits_err}
use Rattle.ep_peer.proofs.hear.listen.Goals as goal

pub waits-init : goal.waits-init
waits-init g c = record { next = tt; finite = tt; done = λ w. done_nothing (g.L.Link.traffic c.args.link.now) (Goes (Listening w)); later = omega arith }

pub returns-in-Ok-Some-clause-done : goal.returns-in-Ok-Some-clause-done
returns-in-Ok-Some-clause-done g c w =
    let t = g.L.Link.traffic in waits_some (t c.args.link.now) (t c.waits.link) (t c.receive.new.link) w c.in-Ok-Some.field-0 c.in-Ok-Some.received c.in-Ok-Some.field-0-is (c.waits.invariant.done w) c.in-Ok-Some.ensures.received

pub returns-in-Err-clause-done : goal.returns-in-Err-clause-done
returns-in-Err-clause-done g c w = let t = g.L.Link.traffic in waits_err (t c.args.link.now) (t c.waits.link) (t c.receive.new.link) w c.in-Err.bad (c.waits.invariant.done w) c.in-Err.ensures.received

pub waits-preserved : goal.waits-preserved
waits-preserved g c =
    let t = g.L.Link.traffic in
    record {
      next = tt;
      finite = tt;
      done = λ w. waits_none (t c.args.link.now) (t c.waits.link) (t c.receive.new.link) w c.in-Ok-None.field-0 c.in-Ok-None.field-0-is (c.waits.invariant.done w) c.in-Ok-None.ensures.received;
      later = omega (arith, c.waits.invariant.later, c.receive.ensures.later);
    }
