use Rattle.std.proofs.Common.{List, sym, subst}
use Rattle.ep_outside.specs.Outside.{TakesPart}
use Rattle.ep_verify.specs.declared.verdict.Verdict.{Verdict}
use Rattle.ep_verify.proofs.Causes.{err_then}
use Rattle.ep_verdicts.specs.Lines.{lines_of}
use Rattle.ep_verdicts.specs.Refusals.{Leaves}
use Rattle.ep_verdicts.specs.Written.{WritesPart}
use Rattle.ep_verdicts.proofs.Leaving.{leaves-part}
use Rattle.ep_verdicts.proofs.writing.verify_to.Goals as goal

pub returns-in_err-write_lines-clause-leaves : goal.returns-in_err-write_lines-clause-leaves
returns-in_err-write_lines-clause-leaves g c =
    let names = g.H.Shelf.names c.args.shelf.now in
    let told = g.H.Shelf.told c.args.shelf.now in
    let old = g.K.Sink.held c.args.sink.now in
    let now = g.K.Sink.held c.write_lines.new.sink in
    let part : WritesPart names told old now = record {
      verdicts = c.in_ok-verdicts.verdicts.items;
      are = record { named = c.in_ok-verdicts.ensures.names; order = c.in_ok-verdicts.ensures.order; judged = c.in_ok-verdicts.ensures.judged };
      written = subst (λ (vs : List Verdict). TakesPart old now (lines_of vs)) c.deref.ensures.value c.in_err-write_lines.ensures.part;
    } in
    err_then c.from_residual-in_err-write_lines.result _ _ c.from_residual-in_err-write_lines.ensures.1 (λ e is.
    subst (Leaves g.K.Sink.held names told c.args.sink.now c.write_lines.new.sink) (sym is) (leaves-part g.K.Sink.held names told c.args.sink.now c.write_lines.new.sink c.in_err-write_lines.field-0.0 _ c.in_err-write_lines.ensures.refused part))
