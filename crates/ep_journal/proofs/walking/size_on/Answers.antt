use Rattle.std.proofs.Common.{arith, refl, ◌-◌}
use Rattle.ep_journal.proofs.Gates.{size_short, size_read}
use Rattle.ep_journal.proofs.walking.size_on.Goals as goal

pub returns-then-left-lt6-clause-size : goal.returns-then-left-lt6-clause-size
returns-then-left-lt6-clause-size g c = size_short _ c.args.gate c.args.total c.requires.within c.if-left-lt6.true

pub returns-clause-size : goal.returns-clause-size
returns-clause-size g c = size_read _ c.args.gate c.args.total (c.args.total - c.args.gate) c.read.new.into c.size_of_head.result c.in_ok-read.ensures.value (omega arith) refl c.size_of_head.ensures.size
