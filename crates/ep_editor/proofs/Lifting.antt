-- What comes of a call inside of a pad, as of the editor; and the ways to an answer.
use Rattle.std.proofs.Common.{◌≡◌, ◌⊎◌, inl, inr, Option, None, Result, Ok, Err, sym, ap, ◌∙◌}
use Rattle.ep_cs.specs.Change.{Change}
use Rattle.ep_cs.specs.Edit.{Edit}
use Rattle.ep_undo.specs.Undo.{UndoState, undo_edited}
use Rattle.ep_invert.specs.Refusal.{cause}
use Rattle.ep_invert.specs.declared.bad.SpliceBad.{SpliceBad}
use Rattle.ep_invert.specs.declared.bad.SpliceBad.TheVariants as splice
use Rattle.ep_editor.specs.Bads.{bad_of_splice}
use Rattle.ep_editor.specs.Comes.{Comes}
use Rattle.ep_editor.specs.Inside.{makes, with_client}
use Rattle.ep_editor.specs.Replies.{Reply, Refuses}
use Rattle.ep_editor.specs.Requests.{within}
use Rattle.ep_editor.specs.declared.bad.EditorBad.{EditorBad}
use Rattle.ep_editor.specs.declared.bad.EditorBad.TheVariants as bad
use Rattle.ep_editor.specs.declared.editor.Editor.TheVariants.{Inside}
use Rattle.ep_editor.specs.declared.entered.Entered.{Entered}

-- a call inside of a pad is one of the editor
pub comes_within : {X : Type 0} (to : X → Reply) (r : Result X EditorBad) (old new : Entered) (f : Entered → Reply × Entered)
    → Comes to r old new (f old) → Comes to r (Inside old) (Inside new) (within f (Inside old))
comes_within to (Ok x) old new f h = ap (λ (o : Reply × Entered). (o.0, Inside o.1)) h
comes_within to (Err why) old new f (e, inl m) = (ap Inside e, inl m)
comes_within to (Err why) old new f (e, inr h) = (ap Inside e, inr (ap (λ (o : Reply × Entered). (o.0, Inside o.1)) h))

-- an edit that isn't made
pub unmade : (said : Reply) (why : EditorBad) (b : SpliceBad) (o : Option SpliceBad) (e : Edit) (p : Entered) → why ≡ bad_of_splice b → cause b ≡ o
    → (why ≡ bad.NoMemory) ⊎ (makes said o e p ≡ (Refuses why, p))
unmade said why splice.NoMemory o e p w h = inl w
unmade said why splice.Place o e p w h = inr (ap (λ x. makes said x e p) (sym h) ∙ ap (λ x. (Refuses x, p)) (sym w))
unmade said why (splice.CutsPair at) o e p w h = inr (ap (λ x. makes said x e p) (sym h) ∙ ap (λ x. (Refuses x, p)) (sym w))

-- an edit that is made
pub made : (said : Reply) (o : Option SpliceBad) (e : Edit) (c : Change) (p : Entered) (s : UndoState) → None ≡ o → c.edit ≡ e → s ≡ undo_edited c.edit p.client
    → makes said o e p ≡ (said, with_client p s)
made said o e c p s n h m = ap (λ x. makes said x e p) (sym n) ∙ ap (λ x. (said, with_client p (undo_edited x p.client))) (sym h) ∙ ap (λ x. (said, with_client p x)) (sym m)
