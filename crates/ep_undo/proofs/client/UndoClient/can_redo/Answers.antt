use Rattle.std.proofs.Common.{[], sym, ap, ◌∙◌}
use Rattle.std.specs.Prelude.{is_some}
use Rattle.ep_undo.specs.Stacks.{edits_of, stood}
use Rattle.ep_undo.specs.Undo.{UndoState, top}
use Rattle.ep_undo.proofs.Tops.{some-all_down}
use Rattle.ep_undo.proofs.client.UndoClient.can_redo.Goals as goal

pub returns : goal.returns
returns c =
    c.has_top.ensures ∙ sym (some-all_down (edits_of c.self.inside.recent.items) (stood c.self.inside.redos.records.items []))
    ∙ ap (λ (s : UndoState). is_some (top s.redos)) c.self.view_is
