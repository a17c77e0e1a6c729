-- The edit of a line is the identity just where the line says nothing.
use Rattle.std.proofs.Common.{◌≡◌, ◌+◌, ◌-◌, ◌==◌, ℕ, zero, suc, false, true, List, [], ◌∷◌, ◌++◌, length, ◌&&◌, refl, sym, ap, ◌∙◌, arith}
use Rattle.std.proofs.lemmas.Bool.Decides.{nat_tests}
use Rattle.ep_units.specs.Text.{Text}
use Rattle.ep_attr.specs.AttrMap.{AttrMap, is_none, of_pairs}
use Rattle.ep_cs.specs.Doc.{Cell, Doc}
use Rattle.ep_cs.specs.Edit.{Step, edit_of, inserts, settle}
use Rattle.ep_cs.specs.Fits.{is_identity}
use Rattle.ep_cs.specs.Plain.{plain, plain_cell}
use Rattle.ep_cs.specs.Splice.{dropped, kept, splice}
use Rattle.ep_event.specs.declared.event.Local.{Local}
use Rattle.ep_event.specs.declared.event.Local.TheVariants as local
use Rattle.ep_invert.specs.Paint.{paint, paint_steps}
use Rattle.ep_local.specs.Local.{local_edit}
use Rattle.ep_peer.specs.Altered.{says_nothing}

not_zero : (n : ℕ) → (suc n == 0) ≡ false
not_zero n = grind (arith, nat_tests)

-- what is kept in front doesn't count
kept_on : (n : ℕ) (s : List Step) → is_identity (edit_of (kept n ++ s)) ≡ is_identity (edit_of s)
kept_on zero s = refl
kept_on (suc n) s = kept_on n s

kept_all : (n : ℕ) → is_identity (edit_of (kept n)) ≡ true
kept_all zero = refl
kept_all (suc n) = kept_all n

-- what waits is inserted before the next place, or last
waits : (c : Cell) (w piece : List Cell) (n : ℕ) → is_identity (settle (c ∷ w) (inserts piece ++ kept n)) ≡ false
waits c w [] zero = refl
waits c w [] (suc n) = refl
waits c w (d ∷ piece) n = waits c (w ++ d ∷ []) piece n

inserts_some : (n at : ℕ) (text : Text) → is_identity (splice n at 0 (plain text)) ≡ (length text == 0)
inserts_some n at [] = kept_on at (kept (n - (at + 0))) ∙ kept_all (n - (at + 0))
inserts_some n at (u ∷ us) = kept_on at (inserts (plain (u ∷ us)) ++ kept (n - (at + 0))) ∙ (waits (plain_cell u) [] (plain us) (n - (at + 0)) ∙ sym (not_zero (length us)))

deletes_some : (n at units : ℕ) → is_identity (splice n at units []) ≡ (units == 0)
deletes_some n at zero = kept_on at (kept (n - (at + 0))) ∙ kept_all (n - (at + 0))
deletes_some n at (suc units) = kept_on at (dropped (suc units) ++ kept (n - (at + suc units))) ∙ sym (not_zero units)

formats_some : (n at units : ℕ) (m : AttrMap) → is_none m ≡ false → is_identity (paint n at units m) ≡ (units == 0)
formats_some n at zero m some = kept_on at (kept (n - (at + 0))) ∙ kept_all (n - (at + 0))
formats_some n at (suc units) m some = kept_on at (paint_steps (suc units) m ++ kept (n - (at + suc units))) ∙ (ap (λ b. b && is_identity (edit_of (paint_steps units m ++ kept (n - (at + suc units))))) some ∙ sym (not_zero units))

pub says : (e : Local) (doc : Doc) → is_identity (local_edit e doc) ≡ says_nothing e
says (local.Insert at text) doc = inserts_some (length doc) at text
says (local.Delete at units) doc = deletes_some (length doc) at units
says (local.Format at units key value) doc = formats_some (length doc) at units (of_pairs ((key, value) ∷ [])) refl
