use Rattle.std.proofs.Common.{arith}
use Rattle.ep_recent.proofs.Told.{leave_led}
use Rattle.ep_recent.proofs.recent.Recent.leave.Goals as goal

pub invariant_of-self-2 : goal.invariant_of-self-2
invariant_of-self-2 c =
    let few = c.self.invariant.few in
    let less = c.in_ok-rev.ensures.cases in
    record {
      led = leave_led c.self.inside.kept.items c.pop_front.new.self.items c.in_ok-rev.field-0 c.self.inside.head c.in_ok-rev.ensures.items c.self.invariant.led;
      few = omega (arith, few, less);
    }
