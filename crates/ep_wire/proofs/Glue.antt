-- Pieces that are written one after another.
use Rattle.std.proofs.Common.{◌≡◌, List, [], ◌∷◌, ◌++◌, append_assoc, append-nil, refl, sym, ap, ◌∙◌}

-- each piece at the end of what stands before it
abbrev pub pile : {A : Type 0} → List A → List (List A) → List A
pile t [] = t
pile t (p ∷ ps) = pile (t ++ p) ps

abbrev pub flat : {A : Type 0} → List (List A) → List A
flat [] = []
flat (p ∷ ps) = p ++ flat ps

pub glue : {A : Type 0} (t : List A) (ps : List (List A)) → pile t ps ≡ t ++ flat ps
glue t [] = sym (append-nil t)
glue t (p ∷ ps) = glue (t ++ p) ps ∙ append_assoc t p (flat ps)

-- pieces before an end
abbrev pub ended : {A : Type 0} → List (List A) → List A → List A
ended [] e = e
ended (p ∷ ps) e = p ++ ended ps e

pile-ended : {A : Type 0} (t : List A) (ps : List (List A)) (e : List A) → pile t ps ++ e ≡ t ++ ended ps e
pile-ended t [] e = refl
pile-ended t (p ∷ ps) e = pile-ended (t ++ p) ps e ∙ append_assoc t p (ended ps e)

ended-append : {A : Type 0} (ps : List (List A)) (e o : List A) → ended ps (e ++ o) ≡ ended ps e ++ o
ended-append [] e o = refl
ended-append (p ∷ ps) e o = ap (λ x. p ++ x) (ended-append ps e o) ∙ sym (append_assoc p (ended ps e) o)

-- the pieces of an object within another: its beginning, its members, its end, and what stands behind it
pub within : {A : Type 0} (t b : List A) (ps : List (List A)) (e o : List A) → pile (t ++ b) ps ++ (e ++ o) ≡ t ++ (b ++ (ended ps e ++ o))
within t b ps e o = pile-ended (t ++ b) ps (e ++ o) ∙ append_assoc t b (ended ps (e ++ o)) ∙ ap (λ x. t ++ (b ++ x)) (ended-append ps e o)
