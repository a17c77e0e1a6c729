use Rattle.std.proofs.Common.{sym, subst}
use Rattle.std.specs.String.{string_bytes}
use Rattle.ep_move.specs.Told.{HasPast}
use Rattle.ep_move.specs.Told.IsUnexported.{Gone}
use Rattle.ep_move.specs.declared.lines.Reason.TheVariants as reason
use Rattle.ep_move.proofs.Causes.{ok_then}
use Rattle.ep_move.proofs.Writing.{has_past, is_gone, is_refused}
use Rattle.ep_move.proofs.exporting.line_on.Goals as goal

pub returns-in-Some : goal.returns-in-Some
returns-in-Some c = λ file p t h.
    c.line_of.ensures file (subst (λ vs. HasPast file vs c.args.told.now.public) (sym c.deref.ensures.value) (has_past file p c.args.told.now c.in-Some.last t h c.in-Some.is))

pub returns-in-None : goal.returns-in-None
returns-in-None c = λ file p t h.
    ok_then c.refused.result _ _ c.refused.ensures (λ line x.
    is_refused c.args.pad.now file reason.Gone line.refuses (string_bytes line.text) x.0 x.1 (Gone (is_gone file p c.args.told.now t h c.in-None.is)))
