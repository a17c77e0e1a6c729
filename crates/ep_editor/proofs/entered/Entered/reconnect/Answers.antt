use Rattle.std.proofs.Common.{false, sym, ap, ◌∙◌}
use Rattle.ep_undo.specs.Undo.{UndoState}
use Rattle.ep_editor.specs.Comes.{said}
use Rattle.ep_editor.proofs.Resuming.{comes-err, resumed-ok}
use Rattle.ep_editor.proofs.entered.Entered.reconnect.Goals as goal

pub returns-in-Ok-clause-replies : goal.returns-in-Ok-clause-replies
returns-in-Ok-clause-replies c =
    let a = c.args in
    let q = c.hear_if.new.self in
    resumed-ok a.back a.news a.self.now q c.in-Ok.said c.requires.off c.requires.due c.in-Ok.ensures.replies
    ∙ ap (λ (s : UndoState). (said c.in-Ok.said, record q { client = s; returning = false })) (sym c.resume.ensures)

pub returns-in-Err-clause-replies : goal.returns-in-Err-clause-replies
returns-in-Err-clause-replies c =
    let a = c.args in comes-err a.back a.news a.self.now c.hear_if.new.self c.in-Err.bad c.requires.off c.requires.due c.in-Err.ensures.replies
