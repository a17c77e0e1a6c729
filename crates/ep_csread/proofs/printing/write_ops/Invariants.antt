use Rattle.std.proofs.Common.{◌≡◌, ◌++◌, take}
use Rattle.ep_csread.specs.Spelling.{ops_text}
use Rattle.ep_csread.proofs.printing.write_ops.Given as goal

abbrev pub invariant-loop-op : goal.invariant-loop-op
invariant-loop-op g l = g.S.Spell.spelled l.out ≡ g.S.Spell.spelled l.initial.out ++ ops_text l.pool.pairs (take l.op-index l.ops)
