use Rattle.std.proofs.Common.{◌≡◌, ◌∙◌, IfSome, length, sym, ap, subst, arith}
use Rattle.ep_cs.specs.Edit.{apply}
use Rattle.ep_cs.specs.Runs.{cells}
use Rattle.ep_apply.specs.Documents.{IsDocument}
use Rattle.ep_block_parts.specs.Splices.{spliced}
use Rattle.ep_apply.proofs.Documents.{document_is, document_made}
use Rattle.ep_apply.proofs.Walk.{walk_of, length_after}
use Rattle.ep_apply.proofs.applying.spliced.Goals as goal

pub splice_of-requires-clause-bank : goal.splice_of-requires-clause-bank
splice_of-requires-clause-bank c =
    (walk_of c.args.change.now c.args.doc.now c.ops.result.now c.as_slice-bank.result.now c.ops.ensures.normal c.requires c.ops.ensures.runs (c.as_slice-bank.ensures ∙ c.bank.ensures)).runs.all_used

pub invariant_of-result : goal.invariant_of-result
invariant_of-result c =
    let doc = c.args.doc.now in
    let change = c.args.change.now in
    let s = c.in-Some.splice in
    let new = cells s.new.attrs.now s.new.text.now in
    let w = walk_of change doc c.ops.result.now c.as_slice-bank.result.now c.ops.ensures.normal c.requires c.ops.ensures.runs (c.as_slice-bank.ensures ∙ c.bank.ensures) in
    let made = subst (λ o. IfSome o (λ b. b ≡ spliced s.at s.dropped new c.doc.inside.body)) c.in-Some-2.is c.in_ok-spliced.ensures in
    let is : c.in-Some-2.body ≡ apply change.edit doc =
    made ∙ ap (spliced s.at s.dropped new) c.doc.view_is ∙ sym (c.in-Some.ensures.is.is doc w.runs.inside) ∙ w.whole in
    record {
      document = document_is (apply change.edit doc) _ (document_made change doc c.ops.ensures.normal c.requires (subst IsDocument c.doc.view_is c.doc.invariant.document)) is;
      units = c.new_len.ensures ∙ sym (ap length is ∙ length_after change.edit doc c.requires.length);
      short = omega (arith, ap length is, w.short);
    }
