-- Texts as documents without attributes, and back.
use Rattle.std.proofs.Common.{◌≡◌, suc, List, [], ◌∷◌, length, refl, sym, ap, ◌∙◌}
use Rattle.ep_units.specs.Text.{Text}
use Rattle.ep_cs.specs.Doc.{Cell, text_of}
use Rattle.ep_cs.specs.Plain.{plain}

pub text_of-plain : (us : Text) → text_of (plain us) ≡ us
text_of-plain [] = refl
text_of-plain (u ∷ us) = ap (λ vs. u ∷ vs) (text_of-plain us)

pub length-plain : (us : Text) → length (plain us) ≡ length us
length-plain [] = refl
length-plain (u ∷ us) = ap suc (length-plain us)

pub length-text_of : (cs : List Cell) → length (text_of cs) ≡ length cs
length-text_of [] = refl
length-text_of (c ∷ cs) = ap suc (length-text_of cs)

-- documents without attributes are known by their texts
pub same_plain : (us vs : Text) → plain us ≡ plain vs → us ≡ vs
same_plain us vs e = sym (text_of-plain us) ∙ ap text_of e ∙ text_of-plain vs
