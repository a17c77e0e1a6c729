use Rattle.std.proofs.Common.{◌∙◌}
use Rattle.std.proofs.lemmas.Result.{IfOk-weaker}
use Rattle.ep_invert.proofs.Walk.{IsAsked, IsFirst, starts, can_undo, goes_on, ends_short, ends_whole, inverted, inverse_fits, inverse_gives_back}
use Rattle.ep_invert.proofs.inverting.invert.Goals as goal

pub runs-init : goal.runs-init
runs-init c =
    let a : IsAsked c.args.change.now c.args.doc.now = record { normal = c.new-runs.ensures.normal; fits = c.requires; document = c.reading-rest.ensures.document } in
    starts c.args.change.now c.args.doc.now c.new-out.result c.new-runs.result c.reading-rest.result c.new_len.result a c.new-out.ensures c.new_len.ensures c.new-runs.ensures.left c.reading-rest.ensures.all

pub undo-requires : goal.undo-requires
undo-requires c =
    let a : IsAsked c.args.change.now c.args.doc.now = record { normal = c.new-runs.ensures.normal; fits = c.requires; document = c.reading-rest.ensures.document } in
    let f : IsFirst c.in-Some.run' c.runs.runs = record { head = c.in-Some.ensures.head; written = c.in-Some.ensures.written } in
    can_undo c.args.change.now c.args.doc.now c.runs.out c.runs.runs c.runs.rest c.in-Some.run' a c.runs.invariant f

pub runs-preserved : goal.runs-preserved
runs-preserved c =
    let f : IsFirst c.in-Some.run' c.runs.runs = record { head = c.in-Some.ensures.head; written = c.in-Some.ensures.written } in
    goes_on c.args.change.now c.args.doc.now c.runs.out c.undo.new.out c.runs.runs c.advance.new.self c.runs.rest c.undo.new.rest c.in-Some.run' c.runs.invariant f c.advance.ensures c.in_ok-undo.ensures.written c.in_ok-undo.ensures.rest

pub finish-requires-clause-short : goal.finish-requires-clause-short
finish-requires-clause-short c =
    let a : IsAsked c.args.change.now c.args.doc.now = record { normal = c.new-runs.ensures.normal; fits = c.requires; document = c.reading-rest.ensures.document } in
    ends_short c.args.change.now c.args.doc.now c.runs.out c.runs.runs c.runs.rest a c.runs.invariant c.in_default.ensures.head

pub finish-requires-clause-pieces : goal.finish-requires-clause-pieces
finish-requires-clause-pieces c =
    let a : IsAsked c.args.change.now c.args.doc.now = record { normal = c.new-runs.ensures.normal; fits = c.requires; document = c.reading-rest.ensures.document } in
    ends_whole c.args.change.now c.args.doc.now c.runs.out c.runs.runs c.runs.rest a c.runs.invariant c.in_default.ensures.head

pub returns-clause-change : goal.returns-clause-change
returns-clause-change c =
    let a : IsAsked c.args.change.now c.args.doc.now = record { normal = c.new-runs.ensures.normal; fits = c.requires; document = c.reading-rest.ensures.document } in
    IfOk-weaker c.finish.result _ _ (λ x e. e ∙ inverted c.args.change.now c.args.doc.now c.runs.out c.runs.runs c.runs.rest a c.runs.invariant c.in_default.ensures.head) c.finish.ensures

pub returns-clause-fits : goal.returns-clause-fits
returns-clause-fits c =
    let a : IsAsked c.args.change.now c.args.doc.now = record { normal = c.new-runs.ensures.normal; fits = c.requires; document = c.reading-rest.ensures.document } in
    IfOk-weaker c.finish.result _ _ (λ x e. inverse_fits c.args.change.now x c.args.doc.now a e) (returns-clause-change c)

pub returns-clause-undoes : goal.returns-clause-undoes
returns-clause-undoes c =
    let a : IsAsked c.args.change.now c.args.doc.now = record { normal = c.new-runs.ensures.normal; fits = c.requires; document = c.reading-rest.ensures.document } in
    IfOk-weaker c.finish.result _ _ (λ x e. inverse_gives_back c.args.change.now x c.args.doc.now a e) (returns-clause-change c)
