use Rattle.std.proofs.Common.{rules, ◌≡◌, Some, ap, ◌∙◌, subst}
use Rattle.ep_cs.specs.Fits.{Fits}
use Rattle.ep_undo.specs.Undo.{UndoState, top}
use Rattle.ep_editor.proofs.Signing.{undone_view}
use Rattle.ep_editor.proofs.entered.Entered.undo.Goals as goal

pub returns-clause-fits : goal.returns-clause-fits
returns-clause-fits c =
    let s : UndoState = c.in_ok-client.client in
    let told : Some c.in-Some.made.edit ≡ top s.undos = search rules in
    subst (λ (t : UndoState). Fits c.in_ok-made-2.made t.client.view) c.in_ok-client.ensures
    (c.in_ok-made-2.ensures.fits s.client.view (search rules) (ap (λ (t : UndoState). t.client.view) c.in_ok-made.ensures.made ∙ undone_view s.undos s c.in-Some.made.edit told))
