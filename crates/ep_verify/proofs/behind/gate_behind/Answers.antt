use Rattle.std.proofs.Common.{ap, length, arith}
use Rattle.ep_verify.proofs.Gate.{gate_more}
use Rattle.ep_verify.proofs.behind.gate_behind.Goals as goal

pub loop-i-preserved : goal.loop-i-preserved
loop-i-preserved c =
    gate_more c.args.records.now c.loop-i.i c.loop-i.gate c.in_ok-gate.gate (length c.get.result.now) (omega (arith, c.loop-i-test.true, c.len-i-end.ensures)) c.loop-i.invariant (ap length c.get.ensures)
    (omega (arith, c.in_ok-gate.ensures, c.in_ok-checked_add.ensures))
