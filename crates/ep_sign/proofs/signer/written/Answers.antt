use Rattle.std.proofs.Common.{ap, ◌∙◌, arith}
use Rattle.std.proofs.lemmas.Result.{IfOk-weaker}
use Rattle.ep_cs.specs.Change.{Change}
use Rattle.ep_sign.proofs.Walk.{ended, ends_short, ends_whole, left_with, written_fits}
use Rattle.ep_sign.proofs.Loop.{begin, room_at, next, all_done}
use Rattle.ep_sign.proofs.signer.written.Goals as goal

pub loop-op-init : goal.loop-op-init
loop-op-init c =
    begin c.args.author.now c.args.change.now c.new-out.result c.ops-op-items.result.now c.new_len.result c.ops-op-items.ensures.normal c.new_len.ensures c.new-out.ensures c.ops-op-items.ensures.runs

pub keep_run-requires-clause-inside : goal.keep_run-requires-clause-inside
keep_run-requires-clause-inside c =
    (room_at c.args.author.now c.args.change.now c.loop-op.out c.ops-op-items.result.now c.loop-op.op-index c.op-item.result c.ops-op-items.ensures.normal c.loop-op.invariant (omega arith) c.op-item.is).0

pub keep_run-requires-clause-lined : goal.keep_run-requires-clause-lined
keep_run-requires-clause-lined c =
    (room_at c.args.author.now c.args.change.now c.loop-op.out c.ops-op-items.result.now c.loop-op.op-index c.op-item.result c.ops-op-items.ensures.normal c.loop-op.invariant (omega arith) c.op-item.is).1

pub loop-op-preserved : goal.loop-op-preserved
loop-op-preserved c =
    next c.args.author.now c.args.change.now c.loop-op.out c.keep_run.new.out c.ops-op-items.result.now c.loop-op.op-index c.op-item.result c.loop-op.invariant (omega arith) c.op-item.is c.in_ok-keep_run.ensures

pub finish-requires-clause-short : goal.finish-requires-clause-short
finish-requires-clause-short c =
    let w = all_done c.args.author.now c.args.change.now c.loop-op.out c.ops-op-items.result.now c.loop-op.op-index c.loop-op.invariant (omega arith) in
    ends_short c.args.author.now c.args.change.now c.loop-op.out (left_with c.args.change.now _ w.bank) c.ops-op-items.ensures.normal w.signs

pub finish-requires-clause-pieces : goal.finish-requires-clause-pieces
finish-requires-clause-pieces c =
    let w = all_done c.args.author.now c.args.change.now c.loop-op.out c.ops-op-items.result.now c.loop-op.op-index c.loop-op.invariant (omega arith) in
    ends_whole c.args.author.now c.args.change.now c.loop-op.out w.bank c.ops-op-items.ensures.normal w.signs

pub returns-clause-edit : goal.returns-clause-edit
returns-clause-edit c =
    let w = all_done c.args.author.now c.args.change.now c.loop-op.out c.ops-op-items.result.now c.loop-op.op-index c.loop-op.invariant (omega arith) in
    IfOk-weaker c.finish.result _ _ (λ p e. ap (λ (x : Change). x.edit) e ∙ ended c.args.author.now c.args.change.now c.loop-op.out w.bank c.ops-op-items.ensures.normal w.signs) c.finish.ensures

pub returns-clause-fits : goal.returns-clause-fits
returns-clause-fits c =
    let w = all_done c.args.author.now c.args.change.now c.loop-op.out c.ops-op-items.result.now c.loop-op.op-index c.loop-op.invariant (omega arith) in
    IfOk-weaker c.finish.result _ _ (λ p e doc f. written_fits c.args.author.now c.args.change.now p c.loop-op.out w.bank c.ops-op-items.ensures.normal w.signs e doc f) c.finish.ensures
