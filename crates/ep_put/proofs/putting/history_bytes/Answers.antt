use Rattle.std.proofs.Common.{◌∙◌, arith}
use Rattle.std.proofs.lemmas.Result.{err_from_is_err_and}
use Rattle.ep_put.proofs.Gated.{refused_large, refused_long, refused_past, stands_for_it, taken_within}
use Rattle.ep_put.proofs.putting.history_bytes.Goals as goal

pub returns-in_err-records-clause-refused : goal.returns-in_err-records-clause-refused
returns-in_err-records-clause-refused c =
    let p = err_from_is_err_and c.from_residual.result c.from_residual.ensures.1 in
    rw (p.1, p.2) (refused_long c.args.limit c.args.revs.now c.args.public c.in_err-records.field-0.0 c.in_err-records.ensures.long)

pub returns-in_err-bytes-clause-refused : goal.returns-in_err-bytes-clause-refused
returns-in_err-bytes-clause-refused c =
    let p = err_from_is_err_and c.from_residual-in_err-bytes.result c.from_residual-in_err-bytes.ensures.1 in
    rw (p.1, p.2)
    (refused_large c.args.limit c.args.revs.now c.args.public c.deref.result.now c.in_err-bytes.field-0.0 (c.deref.ensures.value ∙ c.in_ok-records.ensures.records) c.in_ok-records.ensures.short c.in_err-bytes.ensures.large)

pub returns-then-length-limit-clause-refused : goal.returns-then-length-limit-clause-refused
returns-then-length-limit-clause-refused c =
    refused_past c.args.limit c.in-Some.length c.args.revs.now c.args.public c.deref.result.now c.in_ok-bytes.bytes.items (c.deref.ensures.value ∙ c.in_ok-records.ensures.records) c.in_ok-records.ensures.short c.in_ok-bytes.ensures.bytes
    c.in_ok-bytes.ensures.small (omega (arith, c.in-Some.ensures)) (omega arith)

pub returns-clause-stands : goal.returns-clause-stands
returns-clause-stands c = stands_for_it c.args.revs.now c.args.public c.deref.result.now (c.deref.ensures.value ∙ c.in_ok-records.ensures.records) c.in_ok-bytes.ensures.are c.in_ok-bytes.ensures.small

pub returns-clause-taken : goal.returns-clause-taken
returns-clause-taken c =
    taken_within c.args.limit c.in-Some.length c.args.revs.now c.args.public c.deref.result.now c.in_ok-bytes.bytes.items (c.deref.ensures.value ∙ c.in_ok-records.ensures.records) c.in_ok-records.ensures.short c.in_ok-bytes.ensures.bytes
    c.in_ok-bytes.ensures.small (omega (arith, c.in-Some.ensures)) (omega arith)
