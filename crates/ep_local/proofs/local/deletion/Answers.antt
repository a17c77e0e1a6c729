use Rattle.std.proofs.Common.{◌≡◌, length, ap, arith}
use Rattle.ep_local.proofs.local.deletion.Goals as goal

pub splice-requires-clause-short : goal.splice-requires-clause-short
splice-requires-clause-short c = λ _. let e : length c.new-nothing.result ≡ 0 = ap length c.new-nothing.ensures in omega (arith, e)
