use Rattle.std.proofs.Common.{true, ap, ◌∙◌}
use Rattle.ep_undo.specs.Undo.{undo_started}
use Rattle.ep_editor.specs.Kept.{kept_fault}
use Rattle.ep_timeslider.specs.Steps.{slider_at}
use Rattle.ep_editor.proofs.Keeping.{made-fits, refused-cause}
use Rattle.ep_editor.proofs.kept.Kept.enter.Goals as goal

pub returns-in_err-client-clause-refused : goal.returns-in_err-client-clause-refused
returns-in_err-client-clause-refused c =
    refused-cause (kept_fault c.args.self) c.in_err-client.field-0.0 c.from_residual-in_err-client.result c.in_err-client.ensures.refused c.from_residual-in_err-client.ensures.1

pub returns-clause-entered : goal.returns-clause-entered
returns-clause-entered c =
    let k = c.args.self in
    let client = c.start.ensures ∙ ap undo_started c.in_ok-client.ensures.made in
    let slider = c.at-slider.ensures ∙ ap (slider_at k.rev) c.in_ok-copy.ensures in
    ((λ i. record { wanted = c.args.wanted; author = k.author; read_only = k.read_only; birth = k.birth; client = client i; returning = true; slider = slider i }), made-fits (kept_fault k) c.in_ok-client.client c.in_ok-client.ensures.refused)
