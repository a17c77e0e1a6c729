use Rattle.std.proofs.Common.{ap}
use Rattle.std.specs.Prelude.{Err}
use Rattle.std.specs.String.{string_bytes}
use Rattle.ep_move.specs.Told.IsUnexported.{Late}
use Rattle.ep_move.proofs.Causes.{ok_then}
use Rattle.ep_move.proofs.Writing.{is_refused, is_whole}
use Rattle.ep_move.specs.declared.lines.Reason.TheVariants as reason
use Rattle.ep_move.proofs.exporting.line_of.Goals as goal

pub export-requires-clause-some : goal.export-requires-clause-some
export-requires-clause-some c = (c.births_can_be_exported.ensures c.args.revs.now c.requires).0

pub export-requires-clause-made : goal.export-requires-clause-made
export-requires-clause-made c = (c.births_can_be_exported.ensures c.args.revs.now c.requires).1

pub returns-in-Ok : goal.returns-in-Ok
returns-in-Ok c = λ file h.
    ok_then c.whole.result _ _ c.whole.ensures (λ line x.
    is_whole c.args.pad.now file c.args.revs.now c.args.public line.refuses (string_bytes line.text) (string_bytes c.in-Ok.text) x.0 x.1 h c.in-Ok.ensures.in_time c.in-Ok.ensures.text)

pub returns-in-Err-Time : goal.returns-in-Err-Time
returns-in-Err-Time c = λ file h.
    let n = c.in-Err-Time.n in
    let late = (c.in-Err-Time.ensures.time n).0 (ap (λ b. Err b) c.in-Err-Time.field-0-is) in
    ok_then c.refused.result _ _ c.refused.ensures (λ line x.
    is_refused c.args.pad.now file (reason.Time n) line.refuses (string_bytes line.text) x.0 x.1 (Late c.args.revs.now c.args.public n h late))
