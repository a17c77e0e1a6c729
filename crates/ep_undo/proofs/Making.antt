-- The top of a stack is made.
use Rattle.std.proofs.Common.{◌≡◌, List, [], ◌∷◌, ◌++◌, Option, Some, None, sym, ap, ◌∙◌, subst}
use Rattle.std.specs.Prelude.{option_map}
use Rattle.ep_cs.specs.Change.{Change}
use Rattle.ep_cs.specs.Doc.{Doc}
use Rattle.ep_cs.specs.Edit.{Edit, apply}
use Rattle.ep_cs.specs.Fits.{Fits}
use Rattle.ep_history.specs.Kept.{KeptClient}
use Rattle.ep_undo.specs.Undo.{UndoState, undone, redone, top}
use Rattle.ep_undo.specs.Stacks.{edits_of, all_down, stood, IsWay, IsStackOf, AreAlike, AreHeard, IsSettled, Makes}
use Rattle.ep_undo.specs.declared.stack.Record.{Record}
use Rattle.ep_undo.proofs.Stacks.{stood-top, chain-pop}

-- the top is an edit of some document, from which what it heard leads to the view
pub can-settle : (rest : List Record) (r : Record) (view : Doc) → IsStackOf (rest ++ r ∷ []) view → (base : Doc) × ((end : Doc) × (Fits r.change base × IsWay r.heard.items base end))
can-settle rest r view c = let h = chain-pop rest r c.0 view c.1 in (h.2.base, (view, (h.2.fits, h.2.way)))

pub fits-made : (rest : List Record) (r : Record) (view : Doc) (change : Change) (heard : List Change) → IsStackOf (rest ++ r ∷ []) view → IsSettled r change heard → Fits change view
fits-made rest r view change heard c s = let h = chain-pop rest r c.0 view c.1 in (s.fits h.2.base view h.2.fits h.2.way).0

pub left-made : (rest rest' rest'' : List Record) (r : Record) (change : Change) (heard : List Change) → IsSettled r change heard → AreAlike rest rest' → AreHeard rest' heard rest''
    → stood (rest ++ r ∷ []) [] ≡ change.edit ∷ stood rest'' []
left-made rest rest' rest'' r change heard s a h =
    stood-top rest r [] ∙ s.down (stood rest []) ∙ ap (λ us. change.edit ∷ us) (ap (all_down (edits_of heard)) (sym a.edits) ∙ sym h.edits)

pub chain-made : (rest rest' rest'' : List Record) (r : Record) (view : Doc) (change : Change) (heard : List Change) → IsStackOf (rest ++ r ∷ []) view → IsSettled r change heard
    → AreAlike rest rest' → AreHeard rest' heard rest'' → IsStackOf rest'' (apply change.edit view)
chain-made rest rest' rest'' r view change heard c s a h =
    let p = chain-pop rest r c.0 view c.1 in
    let o = p.2 in
    let w = (s.fits o.base view o.fits o.way).1 in
    h.chain p.0 (apply change.edit view) (a.chain p.0 (c.0, p.1)) (subst (λ d. IsWay heard d (apply change.edit view)) o.makes w)

abbrev state : KeptClient → List Edit → List Edit → UndoState
state k us rs = record { client = k; undos = us; redos = rs }

pub undone-made : (k k' : KeptClient) (us us' rs rs' : List Edit) (o : Option Change) → Makes k us rs o k' us' rs' → state k' us' rs' ≡ undone (state k us rs)
undone-made k k' us us' rs rs' None m = (λ i. state (m.1 i) (m.2 i) (m.3 i)) ∙ ap (λ (vs : List Edit). state k vs rs) m.0 ∙ sym (ap (λ (vs : List Edit). undone (state k vs rs)) m.0)
undone-made k k' us us' rs rs' (Some c) m = (λ i. state (m.2 i) us' (m.3 i)) ∙ sym (ap (λ (vs : List Edit). undone (state k vs rs)) m.0)

pub redone-made : (k k' : KeptClient) (us us' rs rs' : List Edit) (o : Option Change) → Makes k rs us o k' rs' us' → state k' us' rs' ≡ redone (state k us rs)
redone-made k k' us us' rs rs' None m = (λ i. state (m.1 i) (m.3 i) (m.2 i)) ∙ ap (λ (vs : List Edit). state k us vs) m.0 ∙ sym (ap (λ (vs : List Edit). redone (state k us vs)) m.0)
redone-made k k' us us' rs rs' (Some c) m = (λ i. state (m.2 i) (m.3 i) rs') ∙ sym (ap (λ (vs : List Edit). redone (state k us vs)) m.0)

pub told-made : (k k' : KeptClient) (us us' rs rs' : List Edit) (o : Option Change) → Makes k us rs o k' us' rs' → option_map (λ (c : Change). c.edit) o ≡ top us
told-made k k' us us' rs rs' None m = sym (ap top m.0)
told-made k k' us us' rs rs' (Some c) m = sym (ap top m.0)
