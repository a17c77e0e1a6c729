use Rattle.std.proofs.Common.{true≢false, sym, ◌∙◌, subst}
use Rattle.std.proofs.lemmas.Result.{IfOk-weaker}
use Rattle.ep_cs.specs.Draft.{Draft, blank}
use Rattle.ep_cursor.specs.Left.{Left, left_of}
use Rattle.ep_compose.specs.Composing.{IsComposing}
use Rattle.ep_compose.proofs.Ends.{starts, all_done, ends_short, ends_whole, composed, composed_fits}
use Rattle.ep_compose.proofs.composing.compose.Goals as goal

-- src/composing.rt:26:5
pub pieces-init : goal.pieces-init
pieces-init c = (
  subst (λ (x : Draft × (Left × Left)). IsComposing c.args.first.now c.args.second.now x.0 x.1.0 x.1.1)
      (λ i. (sym c.in_ok-out.ensures i, (sym c.new-a.ensures.left i, sym c.new-b.ensures.left i)))
      (subst (λ n. IsComposing c.args.first.now c.args.second.now (blank n) (left_of c.args.first.now) (left_of c.args.second.now)) (sym c.old_len.ensures)
      (starts c.args.first.now c.args.second.now c.new-a.ensures.normal c.new-b.ensures.normal c.requires.0 c.requires.1 c.requires.2)),
  λ e. absurd (true≢false e),
)

-- src/composing.rt:26:5
pub pieces-preserved : goal.pieces-preserved
pieces-preserved c =
    all_done c.args.first.now c.args.second.now c.pieces.out c.pieces.a c.pieces.b c.step.new.out c.step.new.a c.step.new.b c.in_ok-more.more c.pieces.invariant.0 c.in_ok-more.ensures

-- src/composing.rt:29:5
pub finish-requires-clause-short : goal.finish-requires-clause-short
finish-requires-clause-short c =
    let rest = c.pieces.invariant.1 c.pieces-test.false in
    ends_short c.args.first.now c.args.second.now c.pieces.out c.pieces.a c.pieces.b c.pieces.invariant.0 rest.0 rest.1

-- src/composing.rt:29:5
pub finish-requires-clause-pieces : goal.finish-requires-clause-pieces
finish-requires-clause-pieces c =
    let rest = c.pieces.invariant.1 c.pieces-test.false in
    ends_whole c.args.first.now c.args.second.now c.pieces.out c.pieces.a c.pieces.b c.new-a.ensures.normal c.new-b.ensures.normal c.requires.0 c.requires.1 c.requires.2 c.pieces.invariant.0 rest.0 rest.1

-- src/composing.rt:17:1
pub returns-clause-both : goal.returns-clause-both
returns-clause-both c =
    let rest = c.pieces.invariant.1 c.pieces-test.false in
    IfOk-weaker c.finish.result _ _ (λ x e doc fp fq. e ∙ composed c.args.first.now c.args.second.now c.pieces.out c.pieces.a c.pieces.b c.pieces.invariant.0 rest.0 rest.1 doc fp fq) c.finish.ensures

-- src/composing.rt:17:1
pub returns-clause-fits : goal.returns-clause-fits
returns-clause-fits c =
    IfOk-weaker c.finish.result _ _ (λ x both doc fp fq. composed_fits c.args.first.now c.args.second.now x doc fp fq (both doc fp fq)) (returns-clause-both c)
