use Rattle.std.proofs.Common.{ap, ◌∙◌}
use Rattle.serde_json.specs.View.{members_view, view}
use Rattle.serde_json.proofs.Views.{view-Object}
use Rattle.ep_export.proofs.Spelled.{object_is}
use Rattle.ep_export.proofs.exporting.object.Goals as goal

pub returns : goal.returns
returns c =
    view-Object c.put_revs.new.members
    ∙ object_is c.args.pad.now c.args.revs.now c.args.public c.as_str.result.now c.as_str-2.result.now c.deref.result.now c.in_ok-wires.wires.pool.pairs (view c.in_ok-front.front)
    (members_view c.new-members.result.entries) (members_view c.put.new.map.entries) (members_view c.put_revs.new.members.entries)
    (c.as_str.ensures.value ∙ c.in_ok-key.ensures) (c.as_str-2.ensures.value ∙ c.in_ok-key.ensures) (c.deref.ensures.value ∙ c.in_ok-wires.ensures.texts) c.in_ok-wires.ensures.pool c.in_ok-front.ensures
    (ap members_view c.new-members.ensures.empty) c.in_ok-put.ensures.ok c.in_ok-put_revs.ensures
