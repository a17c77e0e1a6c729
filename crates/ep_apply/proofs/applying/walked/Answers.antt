use Rattle.std.proofs.Common.{◌≡◌, ◌∙◌, ℕ, ◌+◌, ◌-◌, ◌<◌, ◌^◌, ◌++◌, map, length, take, drop, sym, ap, subst, arith}
use Rattle.std.proofs.lemmas.List.{take_rest}
use Rattle.ep_attr.specs.AttrMap.{none}
use Rattle.ep_cs.specs.Doc.{painted}
use Rattle.ep_cs.specs.Edit.{apply}
use Rattle.ep_cs.specs.Runs.{passed, inserted}
use Rattle.ep_apply.specs.Makes.{run_makes}
use Rattle.ep_apply.proofs.Documents.{document_is, document_made}
use Rattle.ep_apply.proofs.Walk.{walk_of, begin, go_on, run_short, over_all, end_short, length_after}
use Rattle.ep_apply.proofs.applying.walked.Goals as goal

pub loop-op-init : goal.loop-op-init
loop-op-init c =
    let w = walk_of c.args.change.now c.args.doc.now c.ops-op-items.result.now c.as_slice-bank.result.now c.ops-op-items.ensures.normal c.requires c.ops-op-items.ensures.runs (c.as_slice-bank.ensures ∙ c.bank.ensures) in
    begin c.args.change.now c.args.doc.now c.ops-op-items.result.now c.as_slice-bank.result.now c.in_ok-out.out c.reading-rest.result w c.in_ok-out.ensures c.reading-rest.ensures.all

pub apply_op-requires-clause-short : goal.apply_op-requires-clause-short
apply_op-requires-clause-short c =
    let w = walk_of c.args.change.now c.args.doc.now c.ops-op-items.result.now c.as_slice-bank.result.now c.ops-op-items.ensures.normal c.requires c.ops-op-items.ensures.runs (c.as_slice-bank.ensures ∙ c.bank.ensures) in
    let o = c.op-item.result in
    let width : inserted o.kind o.units ≡ c.loop-op.used + c.inserted.result - c.loop-op.used = omega (arith, c.inserted.ensures.is) in
    subst (λ (k : ℕ). length c.loop-op.out + length (run_makes o.kind o.attrs (take k (drop c.loop-op.used c.as_slice-bank.result.now)) (take (passed o.kind o.units) c.loop-op.rest)) < 2 ^ 32) width
    (run_short c.args.change.now c.args.doc.now c.ops-op-items.result.now c.as_slice-bank.result.now c.loop-op.out c.loop-op.rest c.loop-op.op-index c.loop-op.at c.loop-op.used o w c.loop-op.invariant (omega arith) c.op-item.is)

pub loop-op-preserved : goal.loop-op-preserved
loop-op-preserved c =
    let w = walk_of c.args.change.now c.args.doc.now c.ops-op-items.result.now c.as_slice-bank.result.now c.ops-op-items.ensures.normal c.requires c.ops-op-items.ensures.runs (c.as_slice-bank.ensures ∙ c.bank.ensures) in
    go_on c.args.change.now c.args.doc.now c.ops-op-items.result.now c.as_slice-bank.result.now c.loop-op.out c.loop-op.rest c.apply_op.new.out c.apply_op.new.rest c.loop-op.op-index c.loop-op.at c.loop-op.used c.passed-at.result c.inserted.result c.op-item.result
    w c.loop-op.invariant (omega arith) c.op-item.is c.passed-at.ensures.is c.inserted.ensures.is c.in_ok-apply_op.ensures.done c.in_ok-apply_op.ensures.rest

pub keep-requires-clause-short : goal.keep-requires-clause-short
keep-requires-clause-short c =
    let w = walk_of c.args.change.now c.args.doc.now c.ops-op-items.result.now c.as_slice-bank.result.now c.ops-op-items.ensures.normal c.requires c.ops-op-items.ensures.runs (c.as_slice-bank.ensures ∙ c.bank.ensures) in
    omega (arith, c.len.ensures, end_short c.args.change.now c.args.doc.now c.ops-op-items.result.now c.as_slice-bank.result.now c.loop-op.out c.loop-op.rest c.loop-op.op-index c.loop-op.at c.loop-op.used w c.loop-op.invariant (omega arith))

pub finish-requires : goal.finish-requires
finish-requires c =
    let w = walk_of c.args.change.now c.args.doc.now c.ops-op-items.result.now c.as_slice-bank.result.now c.ops-op-items.ensures.normal c.requires c.ops-op-items.ensures.runs (c.as_slice-bank.ensures ∙ c.bank.ensures) in
    let at = c.loop-op.at in
    let out = c.loop-op.out in
    let n : c.len.result - at ≡ length c.args.doc.now - at = ap (λ (k : ℕ). k - at) c.len.ensures in
    let is : c.keep.new.out ≡ apply c.args.change.now.edit c.args.doc.now =
    over_all c.args.change.now c.args.doc.now c.ops-op-items.result.now c.as_slice-bank.result.now out c.loop-op.rest c.keep.new.out c.loop-op.op-index at c.loop-op.used w c.loop-op.invariant (omega arith)
    (c.in_ok-keep.ensures.done ∙ (λ i. out ++ map (λ d. painted d (c.none-as_it_is.ensures i)) (take (n i) (c.loop-op.invariant.rest_is i))) ∙ ap (λ cs. out ++ map (λ d. painted d none) cs) (take_rest c.args.doc.now at)) in
    omega (arith, ap length is, w.short)

pub returns : goal.returns
returns c =
    let w = walk_of c.args.change.now c.args.doc.now c.ops-op-items.result.now c.as_slice-bank.result.now c.ops-op-items.ensures.normal c.requires c.ops-op-items.ensures.runs (c.as_slice-bank.ensures ∙ c.bank.ensures) in
    let at = c.loop-op.at in
    let out = c.loop-op.out in
    let n : c.len.result - at ≡ length c.args.doc.now - at = ap (λ (k : ℕ). k - at) c.len.ensures in
    c.in_ok-body.ensures ∙ over_all c.args.change.now c.args.doc.now c.ops-op-items.result.now c.as_slice-bank.result.now out c.loop-op.rest c.keep.new.out c.loop-op.op-index at c.loop-op.used w c.loop-op.invariant (omega arith)
    (c.in_ok-keep.ensures.done ∙ (λ i. out ++ map (λ d. painted d (c.none-as_it_is.ensures i)) (take (n i) (c.loop-op.invariant.rest_is i))) ∙ ap (λ cs. out ++ map (λ d. painted d none) cs) (take_rest c.args.doc.now at))

pub invariant_of-result : goal.invariant_of-result
invariant_of-result c =
    let w = walk_of c.args.change.now c.args.doc.now c.ops-op-items.result.now c.as_slice-bank.result.now c.ops-op-items.ensures.normal c.requires c.ops-op-items.ensures.runs (c.as_slice-bank.ensures ∙ c.bank.ensures) in
    let at = c.loop-op.at in
    let out = c.loop-op.out in
    let n : c.len.result - at ≡ length c.args.doc.now - at = ap (λ (k : ℕ). k - at) c.len.ensures in
    let is : c.in_ok-body.body ≡ apply c.args.change.now.edit c.args.doc.now =
    c.in_ok-body.ensures ∙ over_all c.args.change.now c.args.doc.now c.ops-op-items.result.now c.as_slice-bank.result.now out c.loop-op.rest c.keep.new.out c.loop-op.op-index at c.loop-op.used w c.loop-op.invariant (omega arith)
    (c.in_ok-keep.ensures.done ∙ (λ i. out ++ map (λ d. painted d (c.none-as_it_is.ensures i)) (take (n i) (c.loop-op.invariant.rest_is i))) ∙ ap (λ cs. out ++ map (λ d. painted d none) cs) (take_rest c.args.doc.now at)) in
    record {
      document = document_is (apply c.args.change.now.edit c.args.doc.now) _ (document_made c.args.change.now c.args.doc.now c.ops-op-items.ensures.normal c.requires c.reading-rest.ensures.document) is;
      units = c.new_len.ensures ∙ sym (ap length is ∙ length_after c.args.change.now.edit c.args.doc.now c.requires.length);
      short = omega (arith, ap length is, w.short);
    }
