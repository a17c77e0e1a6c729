use Rattle.std.proofs.Common.{ap, ◌∙◌}
use Rattle.ep_history.specs.Kept.{KeptClient}
use Rattle.ep_members.proofs.Remaking.{edits-local}
use Rattle.ep_members.proofs.undoing.edit_view.Goals as goal

pub returns-in-Ok-edit : goal.returns-in-Ok-edit
returns-in-Ok-edit c =
    edits-local c.args.edit.now c.args.client.now c.edit.new.self c.view.result.now c.in-Ok.change (c.view.ensures.shown ∙ ap (λ (k : KeptClient). k.view) c.client.ensures.shown) c.in-Ok.ensures c.ops-normal.ensures.normal c.in-Ok-edit.ensures.made
