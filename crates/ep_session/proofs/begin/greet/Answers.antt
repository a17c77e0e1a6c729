use Rattle.std.proofs.Common.{arith}
use Rattle.ep_session.proofs.Running.{waits_first, greet_some, greet_none, greet_err}
use Rattle.ep_session.proofs.begin.greet.Goals as goal

pub waits-init : goal.waits-init
waits-init g c = record { next = tt; finite = tt; done = waits_first (g.L.Link.traffic c.args.link.now); later = omega arith }

pub returns-in-Ok-Some-clause-done : goal.returns-in-Ok-Some-clause-done
returns-in-Ok-Some-clause-done g c drawn = let t = g.L.Link.traffic in greet_some (t c.args.link.now) (t c.waits.link) (t c.greet_once.new.link) drawn c.in-Ok-Some.field-0 c.in-Ok-Some.ready c.in-Ok-Some.field-0-is (c.waits.invariant.done drawn) c.in-Ok-Some.ensures.heard

pub returns-in-Err-clause-done : goal.returns-in-Err-clause-done
returns-in-Err-clause-done g c drawn = let t = g.L.Link.traffic in greet_err (t c.args.link.now) (t c.waits.link) (t c.greet_once.new.link) drawn c.in-Err.end (c.waits.invariant.done drawn) c.in-Err.ensures.heard

pub waits-preserved : goal.waits-preserved
waits-preserved g c =
    let t = g.L.Link.traffic in
    record {
      next = tt;
      finite = tt;
      done = λ drawn. greet_none (t c.args.link.now) (t c.waits.link) (t c.greet_once.new.link) drawn c.in-Ok-None.field-0 c.in-Ok-None.field-0-is (c.waits.invariant.done drawn) c.in-Ok-None.ensures.heard;
      later = omega (arith, c.waits.invariant.later, c.greet_once.ensures.later);
    }
