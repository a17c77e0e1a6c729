use Rattle.std.proofs.Common.{subst, sym}
use Rattle.std.specs.String.{string_bytes}
use Rattle.ep_verify.specs.Files.{IsFile}
use Rattle.ep_move.specs.Moving.IsSaid.{OfFile}
use Rattle.ep_move.proofs.Causes.{ok_then}
use Rattle.ep_move.proofs.Writing.{file_found, none_found, no_file}
use Rattle.ep_move.proofs.exporting.line_for.Goals as goal

pub returns-in-Some : goal.returns-in-Some
returns-in-Some c = λ names told is.
    let file = file_found names told c.args.pad.now c.args.found.now c.in-Some.bytes c.in-Some.is is in
    ok_then c.line_in.result _ _ c.line_in.ensures (λ line w.
    OfFile c.deref.result.now line.refuses (string_bytes line.text) (subst (IsFile told) (sym c.deref.ensures.value) file) w)

pub returns-in-None : goal.returns-in-None
returns-in-None c = λ names told is.
    let not = none_found names told c.args.pad.now c.args.found.now c.in-None.is is in
    ok_then c.refused.result _ _ c.refused.ensures (λ line x. no_file names told c.args.pad.now line.refuses (string_bytes line.text) x.0 x.1 not)
