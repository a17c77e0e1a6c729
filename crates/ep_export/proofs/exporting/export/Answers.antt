use Rattle.std.proofs.Common.{Some, ap, ◌∙◌}
use Rattle.serde_json.specs.View.{view}
use Rattle.serde_json.specs.Written.{compact_text, has_float}
use Rattle.ep_export.proofs.Depths.{view_low}
use Rattle.ep_export.proofs.Floats.{exported_plain}
use Rattle.ep_export.proofs.exporting.export.Goals as goal

pub returns-clause-text : goal.returns-clause-text
returns-clause-text c =
    c.in_ok-to_string.ensures.text (ap has_float c.in_ok-value.ensures ∙ exported_plain c.args.pad.now c.args.revs.now c.args.public) ∙ ap compact_text c.in_ok-value.ensures

pub returns-clause-reads : goal.returns-clause-reads
returns-clause-reads c =
    c.in_ok-to_string.ensures.reads_back (view_low c.args.pad.now c.args.revs.now c.args.public (view c.in_ok-value.value) c.in_ok-value.ensures) ∙ ap Some c.in_ok-value.ensures
