use Rattle.std.proofs.Common.{sym, ap, ◌∙◌, subst}
use Rattle.std.proofs.lemmas.Result.{err_from_is_err_and}
use Rattle.serde_json.specs.View.{view}
use Rattle.ep_cs.specs.Edit.{apply}
use Rattle.ep_cs.specs.Fits.{Fits}
use Rattle.ep_apply.specs.Documents.{insertion}
use Rattle.ep_wire_words.specs.Sent.{IsSent}
use Rattle.ep_wire.proofs.ReadWith.{attribs_with, few_pairs, sent_with}
use Rattle.ep_wire.proofs.Inserted.{fits_nothing, insertion_is, no_units}
use Rattle.ep_wire_words.proofs.Refused.{doc_answers_at, doc_refused_at, pool_refused}
use Rattle.ep_wire.proofs.pooled.document.Goals as goal

pub returns-in_err-pool-clause-answer : goal.returns-in_err-pool-clause-answer
returns-in_err-pool-clause-answer c =
    let p = err_from_is_err_and c.from_residual-in_err-pool.result c.from_residual-in_err-pool.ensures.1 in
    rw (p.1, p.2) (pool_refused (view c.args.pool.now) _ c.in_err-pool.field-0.0 c.in_err-pool.ensures.bad)

pub returns-in_err-change-clause-answer : goal.returns-in_err-change-clause-answer
returns-in_err-change-clause-answer c =
    let p = err_from_is_err_and c.from_residual-in_err-change.result c.from_residual-in_err-change.ensures.1 in
    rw (p.1, p.2) (doc_refused_at (view c.args.pool.now) c.in_ok-pool.pool.pairs c.args.text.now c.args.attribs.now c.in_ok-text.text c.in_ok-attribs.attribs c.in_err-change.field-0.0 c.in_ok-text.ensures.units c.in_ok-attribs.ensures.units (c.in_ok-pool.ensures.pool, c.in_ok-pool.pool.distinct) c.in_err-change.ensures.refused)

pub apply-requires : goal.apply-requires
apply-requires c =
    let normal = c.ops-runs.ensures.normal in
    let none = no_units c.in_ok-pool.pool.pairs c.in_ok-text.text c.in_ok-attribs.attribs c.in_ok-change.change c.in_ok-change.ensures.change in
    subst (λ doc. Fits c.in_ok-change.change doc) (sym c.empty.ensures) (fits_nothing c.in_ok-change.change normal none)

pub returns-clause-answer : goal.returns-clause-answer
returns-clause-answer c =
    doc_answers_at (view c.args.pool.now) c.in_ok-pool.pool.pairs c.args.text.now c.args.attribs.now c.in_ok-text.text c.in_ok-attribs.attribs c.in_ok-change.change _ c.in_ok-text.ensures.units c.in_ok-attribs.ensures.units (c.in_ok-pool.ensures.pool, c.in_ok-pool.pool.distinct) c.in_ok-change.ensures.change
    (c.in_ok-apply.ensures ∙ ap (λ d. apply c.in_ok-change.change.edit d) c.empty.ensures)

pub returns-clause-sent : goal.returns-clause-sent
returns-clause-sent c =
    let change = c.in_ok-change.change in
    let normal = c.ops-runs.ensures.normal in
    let none = no_units c.in_ok-pool.pool.pairs c.in_ok-text.text c.in_ok-attribs.attribs change c.in_ok-change.ensures.change in
    let made = c.in_ok-apply.ensures ∙ ap (λ d. apply change.edit d) c.empty.ensures in
    let sent =
    sent_with c.in_ok-pool.pool.pairs change c.in_ok-pool.ensures.texts (few_pairs c.len-pairs.result c.in_ok-pool.pool.pairs c.len-pairs.ensures c.len-pairs.type_inv)
    (attribs_with c.in_ok-pool.pool.pairs c.in_ok-text.text c.in_ok-attribs.attribs change c.in_ok-change.ensures.change c.in_ok-text.ensures.text normal) in
    subst (λ d. IsSent (insertion d)) (sym made) (subst IsSent (sym (insertion_is change normal none)) sent)
