-- The laws of edits, for changes that fit a document.
use Rattle.std.proofs.Common.{◌≡◌, suc, ◌+◌, List, [], ◌∷◌, ◌++◌, map, length, refl, sym, ap, ◌∙◌, subst, arith, length-append}
use Rattle.std.proofs.lemmas.List.{length-map}
use Rattle.ep_cs.specs.Doc.{Cell, Doc, text_of, painted}
use Rattle.ep_cs.specs.Edit.{Fate, Place, Edit, Item, IsSettled, at_place, over, painted_item, apply, items, numbered, compose, identity}
use Rattle.ep_cs.specs.Edit.Fate.{Drop, Keep}
use Rattle.ep_cs.specs.Edit.Item.{New}
use Rattle.ep_cs.specs.Change.{Change, stamped}
use Rattle.ep_cs.specs.Fits.{Fits}
use Rattle.ep_cs.specs.NormalRuns.{IsNormal}
use Rattle.ep_cs.proofs.Items.{compose_assoc, identity-compose, compose-identity, length-numbered, settle_settled}
use Rattle.ep_cursor.specs.Left.{left_of, steps_left}
use Rattle.ep_cursor.proofs.Starts.{edit_left}
use Rattle.ep_compose.specs.Composed.{composed}

-- an edit makes as much of lists of one length
same_length : (ps : List Place) (last : List Cell) (xs : List Item) (doc : Doc) → length xs ≡ length doc → length (over painted_item New ps last xs) ≡ length (over painted (λ c. c) ps last doc)
same_length [] last xs doc e = length-map last New ∙ sym (length-map last (λ c. c))
same_length (p ∷ ps) last [] [] e =
    length-append (map New p.before) _ ∙ (λ i. (length-map p.before New ∙ sym (length-map p.before (λ c. c))) i + same_length ps last [] [] refl i) ∙ sym (length-append (map (λ (c : Cell). c) p.before) _)
same_length (p ∷ ps) last (x ∷ xs) [] e = absurd (omega (arith, e))
same_length (p ∷ ps) last [] (c ∷ doc) e = absurd (omega (arith, e))
same_length (p ∷ ps) last (x ∷ xs) (c ∷ doc) e =
    length-append (map New p.before) _
    ∙ (λ i. (length-map p.before New ∙ sym (length-map p.before (λ c. c))) i + place p.fate (same_length ps last xs doc (omega (arith, e))) i)
    ∙ sym (length-append (map (λ (c : Cell). c) p.before) _)
  where
    place : (f : Fate) → length (over painted_item New ps last xs) ≡ length (over painted (λ c. c) ps last doc)
        → length (at_place painted_item New f x ++ over painted_item New ps last xs) ≡ length (at_place painted (λ c. c) f c ++ over painted (λ c. c) ps last doc)
    place Drop h = h
    place (Keep m) h = ap suc h

items_of : (a : Edit) (doc : Doc) → length doc ≡ length a.places → length (items a) ≡ length (apply a doc)
items_of a doc e = same_length a.places a.last (numbered 0 (length a.places)) doc (length-numbered 0 (length a.places) ∙ sym e)

pub either_way : (a b c : Change) (doc : Doc) → Fits a doc → Fits b (apply a.edit doc) → composed (composed a b doc) c doc ≡ composed a (composed b c (apply a.edit doc)) doc
either_way a b c doc fa fb = ap (λ (e : Edit). stamped e (text_of doc)) (compose_assoc a.edit b.edit c.edit (items_of a.edit doc fa.length ∙ fb.length))

settled : (a : Change) → IsNormal a → IsSettled a.edit
settled a n = subst IsSettled (sym (edit_left a n)) (settle_settled [] (steps_left (left_of a)))

fitting : (a : Change) (doc : Doc) → Fits a doc → stamped a.edit (text_of doc) ≡ a
fitting a doc f = λ i. record { edit = a.edit; runs = sym f.runs i }

pub after_identity : (e a : Change) (doc : Doc) → IsNormal a → Fits a doc → e.edit ≡ identity (length doc) → composed e a doc ≡ a
after_identity e a doc n f is =
    ap (λ (d : Edit). stamped d (text_of doc)) (ap (λ d. compose d a.edit) (is ∙ ap identity f.length) ∙ identity-compose a.edit (settled a n)) ∙ fitting a doc f

pub before_identity : (a e : Change) (doc : Doc) → IsNormal a → Fits a doc → e.edit ≡ identity (length (apply a.edit doc)) → composed a e doc ≡ a
before_identity a e doc n f is =
    ap (λ (d : Edit). stamped d (text_of doc)) (ap (compose a.edit) (is ∙ ap identity (sym (items_of a.edit doc f.length))) ∙ compose-identity a.edit (settled a n)) ∙ fitting a doc f
