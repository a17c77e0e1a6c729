use Rattle.std.proofs.Common.{subst, sym}
use Rattle.std.proofs.lemmas.Result.{err_from_is_err_and}
use Rattle.ep_cs.specs.Doc.{Doc}
use Rattle.ep_cs.specs.Fits.{Fits}
use Rattle.ep_put.proofs.Telling.{all_fit, all_of, first_fit, long_begun, long_behind, none_long}
use Rattle.ep_put.proofs.records.all_records.Goals as goal

pub after-requires : goal.after-requires
after-requires c = subst (λ (d : Doc). Fits c.args.rev.now.change d) (sym c.in_ok-newline.ensures) (first_fit c.args.rev.now c.requires.0)

pub add_later-requires : goal.add_later-requires
add_later-requires c = all_fit c.args.rev.now c.args.later.now _ _ c.requires c.in_ok-newline.ensures c.in_ok-doc.ensures.after

pub returns-in_err-doc-clause-long : goal.returns-in_err-doc-clause-long
returns-in_err-doc-clause-long c =
    let p = err_from_is_err_and c.from_residual-in_err-doc.result c.from_residual-in_err-doc.ensures.1 in
    rw (p.1, p.2) (long_begun c.args.rev.now c.args.later.now _ c.in_err-doc.field-0.0 c.in_ok-newline.ensures c.in_err-doc.ensures.long)

pub returns-in_err-add_later-clause-long : goal.returns-in_err-add_later-clause-long
returns-in_err-add_later-clause-long c =
    let p = err_from_is_err_and c.from_residual-in_err-add_later.result c.from_residual-in_err-add_later.ensures.1 in
    rw (p.1, p.2) (long_behind c.args.rev.now c.args.later.now _ _ c.in_err-add_later.field-0.0 c.in_ok-newline.ensures c.in_ok-doc.ensures.after c.in_ok-doc.ensures.short c.in_err-add_later.ensures.long)

pub returns-clause-records : goal.returns-clause-records
returns-clause-records c =
    all_of c.args.rev.now c.args.later.now c.args.public _ _ _ _ _ c.in_ok-newline.ensures c.in_ok-doc.ensures.after c.in_ok-out.ensures c.in_ok-add_later.ensures.records c.in_ok-add_public.ensures

pub returns-clause-short : goal.returns-clause-short
returns-clause-short c = none_long c.args.rev.now c.args.later.now _ _ c.in_ok-newline.ensures c.in_ok-doc.ensures.after c.in_ok-doc.ensures.short c.in_ok-add_later.ensures.short
