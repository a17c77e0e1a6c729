use Rattle.std.proofs.Common.{◌∙◌, ◌++◌, ◌∷◌, [], sym, ap₂, List}
use Rattle.ep_cs.specs.declared.op.Op.{Op}
use Rattle.ep_csread.proofs.Named.{small_ops, resolved_more}
use Rattle.ep_csread.proofs.attrs.resolved.Goals as goal

pub resolved_op-requires-clause-small : goal.resolved_op-requires-clause-small
resolved_op-requires-clause-small c = (small_ops c.args.ops.now c.loop-i.i c.index-ops-i.result c.loop-i-test.true c.index-ops-i.is c.loop-i.invariant.small).first

pub loop-i-preserved : goal.loop-i-preserved
loop-i-preserved c = record {
  so_far =
      c.in_ok-push.ensures.items
      ∙ ap₂ (λ (os : List Op) (o : Op). os ++ o ∷ []) c.loop-i.invariant.so_far c.in_ok-op.ensures
      ∙ sym (resolved_more c.args.pool.now.pairs c.args.ops.now c.loop-i.i c.index-ops-i.result c.loop-i-test.true c.index-ops-i.is);
  small = (small_ops c.args.ops.now c.loop-i.i c.index-ops-i.result c.loop-i-test.true c.index-ops-i.is c.loop-i.invariant.small).rest;
}
