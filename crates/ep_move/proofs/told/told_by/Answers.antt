use Rattle.std.proofs.Common.{◌∙◌, sym}
use Rattle.ep_history.specs.Records.{told}
use Rattle.ep_verify.specs.Verdicts.{no_limits}
use Rattle.ep_verify.proofs.Rereading.{journal, tells-all}
use Rattle.ep_move.proofs.Causes.{ok_then}
use Rattle.ep_move.proofs.Telling.{revisions_of, untold_result}
use Rattle.ep_move.proofs.told.told_by.Goals as goal

pub returns-clause-tells : goal.returns-clause-tells
returns-clause-tells c =
    let file = c.args.bytes.now in
    let stands = sym c.in_ok-records.ensures ∙ c.in-Some.is in
    ok_then c.reread.result _ _ (c.reread.ensures.tells file (journal file c.in-Some.records stands).are)
    (λ k x. (told no_limits x.0, tells-all file c.in-Some.records x.0 stands x.1, x.2))

pub returns-clause-revisions : goal.returns-clause-revisions
returns-clause-revisions c =
    let file = c.args.bytes.now in
    let stands = sym c.in_ok-records.ensures ∙ c.in-Some.is in
    ok_then c.reread.result _ _ (c.reread.ensures.tells file (journal file c.in-Some.records stands).are)
    (λ k x. revisions_of k x.0 c.births_are_revisions.ensures x.1.legal x.2)

pub returns-clause-untold : goal.returns-clause-untold
returns-clause-untold c =
    let file = c.args.bytes.now in
    let j = journal file c.in-Some.records (sym c.in_ok-records.ensures ∙ c.in-Some.is) in
    untold_result file c.reread.result j.own (λ k. c.reread.ensures.bad file k j.are) c.reread.ensures.own
