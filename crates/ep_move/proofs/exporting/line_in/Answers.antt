use Rattle.std.proofs.Common.{subst}
use Rattle.std.specs.String.{string_bytes}
use Rattle.ep_move.specs.Told.IsUnexported.{BadRecord, Foreign}
use Rattle.ep_move.specs.Untold.{IsUntold}
use Rattle.ep_move.specs.declared.lines.Reason.TheVariants as reason
use Rattle.ep_move.proofs.Causes.{ok_then}
use Rattle.ep_move.proofs.Writing.{is_refused}
use Rattle.ep_move.proofs.exporting.line_in.Goals as goal

pub returns-in-Ok : goal.returns-in-Ok
returns-in-Ok c =
    let x = c.in-Ok.ensures.tells in
    c.line_on.ensures c.args.bytes.now x.0 x.1 x.2

pub returns-in-Err-Foreign : goal.returns-in-Err-Foreign
returns-in-Err-Foreign c =
    let file = c.args.bytes.now in
    let why = subst (IsUntold file) c.in-Err-Foreign.field-0-is c.in-Err-Foreign.ensures.untold in
    ok_then c.refused.result _ _ c.refused.ensures (λ line x. is_refused c.args.pad.now file reason.Foreign line.refuses (string_bytes line.text) x.0 x.1 (Foreign why))

pub returns-in-Err-Record : goal.returns-in-Err-Record
returns-in-Err-Record c =
    let file = c.args.bytes.now in
    let k = c.in-Err-Record.k in
    let why = subst (IsUntold file) c.in-Err-Record.field-0-is c.in-Err-Record.ensures.untold in
    ok_then c.refused-in-Err-Record.result _ _ c.refused-in-Err-Record.ensures
    (λ line x. is_refused c.args.pad.now file (reason.Record k) line.refuses (string_bytes line.text) x.0 x.1 (BadRecord k why.0 why.1))
