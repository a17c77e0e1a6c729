use Rattle.std.proofs.Common.{ap, Err}
use Rattle.ep_fields.proofs.writing.utf8.Goals as goal

pub returns-in-Err-LonePair-clause-none : goal.returns-in-Err-LonePair-clause-none
returns-in-Err-LonePair-clause-none c =
    λ e is.
    let at = c.in-Err-LonePair.field-0-0 in
    let alone = (c.in-Err-LonePair.ensures.lone at).0 (ap (λ b. Err b) c.in-Err-LonePair.field-0-is) in
    let none = (c.well_formed_has_no_lone_half.ensures c.args.us.now).0 is.whole in
    absurd cc
