use Rattle.std.proofs.Common.{arith}
use Rattle.std.proofs.lemmas.Result.{err_from_is_err_and}
use Rattle.ep_put.proofs.Gated.{framed_all, framed_at, framed_more, framed_stop}
use Rattle.ep_put.proofs.framing.gated_all.Goals as goal

pub returns-in_err-add-clause-large : goal.returns-in_err-add-clause-large
returns-in_err-add-clause-large c =
    let p = err_from_is_err_and c.from_residual.result c.from_residual.ensures.1 in
    let f = framed_at _ _ _ _ c.loop-entry.invariant (omega arith) c.entry-item.is in
    rw (p.1, p.2) (framed_stop _ _ _ _ c.in_err-add.field-0.0 f c.in_err-add.ensures.large)

pub loop-entry-preserved : goal.loop-entry-preserved
loop-entry-preserved c =
    let f = framed_at _ _ _ _ c.loop-entry.invariant (omega arith) c.entry-item.is in
    framed_more _ _ _ _ _ f c.in_ok-add.ensures.added c.in_ok-add.ensures.is c.in_ok-add.ensures.small

pub returns-clause-bytes : goal.returns-clause-bytes
returns-clause-bytes c = (framed_all _ _ _ _ c.loop-entry.invariant (omega arith) c.in_ok-push.ensures.items).bytes

pub returns-clause-are : goal.returns-clause-are
returns-clause-are c = (framed_all _ _ _ _ c.loop-entry.invariant (omega arith) c.in_ok-push.ensures.items).are

pub returns-clause-small : goal.returns-clause-small
returns-clause-small c = (framed_all _ _ _ _ c.loop-entry.invariant (omega arith) c.in_ok-push.ensures.items).small
