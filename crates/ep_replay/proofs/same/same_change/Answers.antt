use Rattle.std.proofs.Common.{◌∙◌, sym, arith}
use Rattle.ep_replay.proofs.Sameness.{same_number, same_ops_true}
use Rattle.ep_replay.proofs.Telling.{told_change}
use Rattle.ep_replay.proofs.same.same_change.Goals as goal
use Rattle.ep_replay.proofs.same.same_change.Goals.{then-old_len, else-old_len}

pub returns-then-same_ops : goal.returns-then-same_ops
returns-then-same_ops c =
    elim c.if-old_len.branch [
      | then-old_len w ↦
          told_change c.is_same.result c.args.a.now c.args.b.now c.bank.result.now c.bank-then-same_ops.result.now w.ops.ensures.normal w.ops-then-old_len.ensures.normal (omega arith)
          (sym w.ops.ensures.runs ∙ same_ops_true _ _ (sym w.same_ops.ensures ∙ sym w.value-is ∙ c.if-same_ops.true) ∙ w.ops-then-old_len.ensures.runs) c.bank.ensures c.bank-then-same_ops.ensures
          c.is_same.ensures
      | else-old_len w ↦ absurd (omega (arith, same_number c.old_len.result c.old_len-2.result (sym w.value-is ∙ c.if-same_ops.true)))
    ]
