-- How long a document is after a step.
use Rattle.std.proofs.Common.{◌≡◌, ℕ, suc, ◌+◌, Bool, true, false, if◌then◌else◌, [], ◌∷◌, length, Option, Some, None, refl, sym, ap, ◌∙◌, arith}
use mir.Val.{bool_byte}
use Rattle.ep_cs.specs.Doc.{Doc}
use Rattle.ep_cs.specs.Edit.{Edit, apply, identity}
use Rattle.ep_cs.specs.Fits.{is_identity}
use Rattle.ep_cs.proofs.Identity.{apply-identity, only_identity}
use Rattle.ep_history.specs.History.{lacks_newline, made, newline_edit, newline_rev, step_doc}
use Rattle.ep_step.specs.declared.step.Made.{Made}
use Rattle.ep_step.specs.Step.{made_of}

length-closed : (doc : Doc) → length (apply (newline_edit (length doc)) doc) ≡ suc (length doc)
length-closed [] = refl
length-closed (c ∷ doc) = ap suc (length-closed doc)

-- a newline more where the edit's document lacks it
pub length-step : (e : Edit) (head : Doc) → length (step_doc e head) ≡ length (apply e head) + (if lacks_newline (apply e head) then 1 else 0)
length-step e head = go (lacks_newline (apply e head))
  where
    go : (b : Bool) → length (made (apply e head) (if b then newline_rev 0 (apply e head) ∷ [] else [])) ≡ length (apply e head) + (if b then 1 else 0)
    go true = let l = length-closed (apply e head) in omega (arith, l)
    go false = omega arith

-- an edit that alters nothing leaves the head's own length
pub length-nothing : (e : Edit) (head : Doc) → length head ≡ length e.places → is_identity e ≡ true → length (step_doc e head) ≡ length head + (if lacks_newline head then 1 else 0)
length-nothing e head l n =
    length-step e head ∙ ap (λ (d : Doc). length d + (if lacks_newline d then 1 else 0)) (ap (λ x. apply x head) (only_identity e n ∙ ap identity (sym l)) ∙ apply-identity head)

-- a test as a number
pub as_number : (b : Bool) → bool_byte b ≡ (if b then 1 else 0)
as_number true = refl
as_number false = refl

-- counted in two parts
pub closed-length : (e : Edit) (head : Doc) (m : Made) (units more : ℕ) (lacks : Bool) → m ≡ made_of e head → units ≡ length m.doc → more ≡ bool_byte lacks → lacks ≡ lacks_newline m.doc
    → units + more ≡ length (step_doc e head)
closed-length e head m units more lacks h u n l =
    (λ i. u i + (n ∙ as_number lacks) i) ∙ ap (λ t. length m.doc + (if t then 1 else 0)) l ∙ ap (λ (m : Made). length m.doc + (if lacks_newline m.doc then 1 else 0)) h ∙ sym (length-step e head)

pub nothing-length : (e : Edit) (head : Doc) (units more : ℕ) (lacks : Bool) → length head ≡ length e.places → is_identity e ≡ true → units ≡ length head → more ≡ bool_byte lacks → lacks ≡ lacks_newline head
    → units + more ≡ length (step_doc e head)
nothing-length e head units more lacks p i u n l =
    (λ i. u i + (n ∙ as_number lacks) i) ∙ ap (λ t. length head + (if t then 1 else 0)) l ∙ sym (length-nothing e head p i)
