-- What is taken back or made again, and the author's name on what that puts.
use Rattle.std.proofs.Common.{◌≡◌, ℕ, Bool, true, false, List, [], ◌∷◌, length, Option, Some, None, refl, sym, ap, ◌∙◌, subst}
use Rattle.ep_units.specs.Text.{Text}
use Rattle.ep_cs.specs.Change.{Change}
use Rattle.ep_cs.specs.Doc.{Doc}
use Rattle.ep_cs.specs.Edit.{Edit, Item, apply, are_settled, items}
use Rattle.ep_cs.specs.EditFits.{fits}
use Rattle.ep_cs.specs.Fits.{Fits, ArePieces}
use Rattle.ep_cs.specs.NormalRuns.{IsNormal}
use Rattle.ep_cs.proofs.EditFits.{true_fits}
use Rattle.ep_apply.proofs.Walk.{length_after}
use Rattle.ep_history.proofs.Answered.{normal-edit}
use Rattle.ep_history.proofs.Sound.{fit-of}
use Rattle.ep_sign.specs.Signing.{signing}
use Rattle.ep_sign.proofs.Signed.{placed, length_placed, signing_pairs}
use Rattle.ep_undo.specs.Undo.{UndoState, redone_by, top, undone_by}

pub change_fits : (c : Change) (doc : Doc) → IsNormal c → Fits c doc → fits c.edit doc ≡ true
change_fits c doc n f = true_fits c.edit doc (fit-of c doc f (normal-edit c n))

settled : (author : Text) (is : List Item) → are_settled (placed author is) ≡ true
settled author [] = refl
settled author (i ∷ is) = settled author is

pieces : (author : Text) (is : List Item) → ArePieces (placed author is) []
pieces author [] = refl
pieces author (i ∷ is) = (refl, pieces author is)

pub signing_fits : (author : Text) (c : Change) (doc : Doc) → IsNormal c → Fits c doc → fits (signing author c.edit) (apply c.edit doc) ≡ true
signing_fits author c doc n f =
    true_fits (signing author c.edit) (apply c.edit doc)
    (record {
      long = length_after c.edit doc f.length ∙ sym (length_placed author (items c.edit));
      pairs = signing_pairs author c.edit doc f.length n.pieces f.pairs;
      settled = settled author (items c.edit);
      pieces = pieces author (items c.edit);
    })

-- ---- what a call makes of the view

pub undone_view : (us : List Edit) (s : UndoState) (e : Edit) → Some e ≡ top us → (undone_by s us).client.view ≡ apply e s.client.view
undone_view [] s e t = absurd (no t)
  where
    no : Some e ≡ None → ⊥
    no t = cc
undone_view (u ∷ us) s e t = ap (λ (o : Option Edit). apply (or_edit u o) s.client.view) (sym t)
  where
    or_edit : Edit → Option Edit → Edit
    or_edit d None = d
    or_edit d (Some x) = x

pub redone_view : (us : List Edit) (s : UndoState) (e : Edit) → Some e ≡ top us → (redone_by s us).client.view ≡ apply e s.client.view
redone_view [] s e t = absurd (no t)
  where
    no : Some e ≡ None → ⊥
    no t = cc
redone_view (u ∷ us) s e t = ap (λ (o : Option Edit). apply (or_edit u o) s.client.view) (sym t)
  where
    or_edit : Edit → Option Edit → Edit
    or_edit d None = d
    or_edit d (Some x) = x
