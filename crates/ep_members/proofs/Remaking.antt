-- Local edits of a client that can take them back, and what it takes back or makes again.
use Rattle.std.proofs.Common.{◌≡◌, true, Option, Some, None, ap, ◌∙◌, subst}
use Rattle.std.specs.Prelude.{Ok, IfSome, option_map}
use Rattle.ep_units.specs.Text.{Text}
use Rattle.ep_cs.specs.Change.{Change, stamped}
use Rattle.ep_cs.specs.Doc.{Doc, text_of}
use Rattle.ep_cs.specs.EditFits.{fits, is_edit}
use Rattle.ep_cs.specs.Fits.{Fits}
use Rattle.ep_cs.specs.NormalRuns.{IsNormal}
use Rattle.ep_cs.proofs.EditFits.{true_fits}
use Rattle.ep_history.proofs.Answered.{normal-edit}
use Rattle.ep_history.proofs.Sound.{fit-of}
use Rattle.ep_event.specs.declared.event.Local.{Local}
use Rattle.ep_event.specs.declared.shown.Shown.{Shown}
use Rattle.ep_event.specs.declared.shown.Shown.TheVariants as shown
use Rattle.ep_local.specs.Local.{local_bad, local_edit}
use Rattle.ep_local.specs.Makes.{IsLocal}
use Rattle.ep_undo.specs.Undo.{UndoState, undo_edited}
use Rattle.ep_members.specs.Undoing.{EditsView, FitsIf, Remade, remade, remade_verb, shows_made_again, shows_remade, to_make}
use Rattle.ep_members.specs.declared.undoing.Remake.{Remake}

-- a client makes the edit that was asked for
pub edits-local : (e : Local) (old new : UndoState) (doc : Doc) (c : Change) → doc ≡ old.client.view → IsLocal e doc (Ok c) → IsNormal c → new ≡ undo_edited c.edit old → EditsView e old new None
edits-local e old new doc c v l n m =
    let q : c.edit ≡ local_edit e old.client.view = l.1 ∙ ap (local_edit e) v in
    let f : fits c.edit doc ≡ true = true_fits c.edit doc (fit-of c doc l.2 (normal-edit c n)) in
    (subst (λ d. local_bad e d ≡ None) v l.0, subst (λ x. fits x old.client.view ≡ true) q (subst (λ d. fits c.edit d ≡ true) v f), m ∙ ap (λ x. undo_edited x old) q)

-- a change that fits a document is its edit, stamped by that
stamped-of : (c : Change) (doc : Doc) → Fits c doc → c ≡ stamped c.edit (text_of doc)
stamped-of c doc f = ap (λ r. record { edit = c.edit; runs = r }) f.runs

-- what was made is what was to be made, and is shown so
pub made-again : (rm : Remake) (n : Text) (old new : UndoState) (o : Option Change) (s : Shown) → new ≡ remade rm old → option_map (λ (c : Change). c.edit) o ≡ to_make rm old
    → IfSome o (λ c. Fits c old.client.view) → IfSome o (λ (c : Change). is_edit c.edit ≡ true) → s ≡ shows_made_again (remade_verb rm) n o → Remade rm n old new s
made-again rm n old new o s is told fit normal shown-is = (is, go o told fit normal, shown-is ∙ showing o told fit)
  where
    go : (o : Option Change) → option_map (λ (c : Change). c.edit) o ≡ to_make rm old → IfSome o (λ c. Fits c old.client.view) → IfSome o (λ (c : Change). is_edit c.edit ≡ true) → FitsIf (to_make rm old) old.client.view
    go None e f n = subst (λ x. FitsIf x old.client.view) e tt
    go (Some c) e f n = subst (λ x. FitsIf x old.client.view) e (true_fits c.edit old.client.view (fit-of c old.client.view f n))

    showing : (o : Option Change) → option_map (λ (c : Change). c.edit) o ≡ to_make rm old → IfSome o (λ c. Fits c old.client.view)
        → shows_made_again (remade_verb rm) n o ≡ shows_remade (remade_verb rm) n old.client.view (to_make rm old)
    showing None e f = ap (shows_remade (remade_verb rm) n old.client.view) e
    showing (Some c) e f = ap (shown.Remade (remade_verb rm) n) (stamped-of c old.client.view f) ∙ ap (shows_remade (remade_verb rm) n old.client.view) e
