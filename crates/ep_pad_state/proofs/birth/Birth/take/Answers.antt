use Rattle.std.proofs.Common.{◌∙◌, subst, arith}
use Rattle.ep_history.proofs.Lists.{some_same}
use Rattle.ep_step.specs.Taking.{Leads}
use Rattle.ep_pad_state.proofs.Taking.{asked-none, asked-some, last-is, leads}
use Rattle.ep_pad_state.proofs.birth.Birth.take.Goals as goal

pub returns-then-base-head-clause-taken : goal.returns-then-base-head-clause-taken
returns-then-base-head-clause-taken c = λ p l b u a w.
    c.take.ensures.taken p l c.args.base (asked-none p l c.head-head.result c.args.author.now c.args.base (c.head-head.ensures.head p b u) c.if-base-head.true a w)

pub returns-then-base-head-2-clause-taken : goal.returns-then-base-head-2-clause-taken
returns-then-base-head-2-clause-taken c = λ p l b u a w.
    c.take-then-base-head-2.ensures.taken p l c.args.base
    (asked-some c.args.self.now p l c.head-head.result _ c.args.author.now c.args.base b (c.head-head.ensures.head p b u) (omega arith)
    (c.head-head.ensures.doc ∙ last-is c.args.self.now.revs.revs c.args.base (let e = c.head-head.ensures.rev in omega arith)) c.since-since.ensures.revs a w)

pub take-requires-2 : goal.take-requires-2
take-requires-2 c = λ x e.
    subst (λ y. Leads y c.head-head.result) (some_same e)
    (leads c.args.self.now.revs.revs _ c.head-head.result c.args.base c.in_ok-doc.ensures c.since-since.ensures.revs c.since-since.ensures.made c.head-head.ensures.doc)

pub returns-clause-taken : goal.returns-clause-taken
returns-clause-taken c = λ p l b u a w.
    c.take-2.ensures.taken p l c.args.base
    (asked-some c.args.self.now p l c.head-head.result _ c.args.author.now c.args.base b (c.head-head.ensures.head p b u) (omega arith) c.in_ok-doc.ensures c.since-since.ensures.revs a w)
