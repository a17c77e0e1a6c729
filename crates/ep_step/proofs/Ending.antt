-- Whether a document ends in a newline, and the newline as a splice.
use Rattle.std.proofs.Common.{◌≡◌, ℕ, zero, suc, ◌+◌, ◌-◌, Bool, true, false, cond, not, List, [], ◌∷◌, ◌++◌, length, refl, sym, ap, ◌∙◌, arith, append-nil}
use Rattle.ep_units.specs.Text.{is_high, is_low, is_paired}
use Rattle.ep_attr.proofs.SameMap.{first_true, second_true}
use Rattle.ep_cs.proofs.EditFits.{ends_well}
use Rattle.ep_apply.specs.Documents.{IsDocument}
use Rattle.ep_attr.specs.AttrMap.{none}
use Rattle.ep_cs.specs.Doc.{Cell, Doc, text_of}
use Rattle.ep_cs.specs.Edit.{inserts, settle, with_place, identity}
use Rattle.ep_cs.specs.Edit.Fate.{Keep}
use Rattle.ep_cs.specs.Lines.{is_whole_lines}
use Rattle.ep_cs.specs.Plain.{plain}
use Rattle.ep_cs.specs.Splice.{kept, splice}
use Rattle.ep_history.specs.History.{lacks_newline, newline, newline_edit}

pub whole-lacking : (doc : Doc) → (length doc ≡ 0 → ⊥) → lacks_newline doc ≡ not (is_whole_lines (text_of doc))
whole-lacking [] some = absurd (some refl)
whole-lacking (c ∷ []) some = refl
whole-lacking (c ∷ (d ∷ doc)) some = whole-lacking (d ∷ doc) (λ e. omega (arith, e))

settle-kept : (n : ℕ) (piece : List Cell) (m : ℕ) → m ≡ 0 → settle [] (kept n ++ (inserts piece ++ kept m)) ≡ record { places = (identity n).places; last = piece }
settle-kept zero piece m e = ap (λ k. settle [] (inserts piece ++ kept k)) e ∙ ap (settle []) (append-nil (inserts piece)) ∙ settle-new [] piece
  where
    settle-new : (waiting cells : List Cell) → settle waiting (inserts cells) ≡ record { places = []; last = waiting ++ cells }
    settle-new waiting [] = ap (λ w. record { places = []; last = w }) (sym (append-nil waiting))
    settle-new waiting (c ∷ cells) = settle-new (waiting ++ c ∷ []) cells ∙ ap (λ w. record { places = []; last = w }) (append-more waiting c cells)
      where
        append-more : (w : List Cell) (c : Cell) (cs : List Cell) → (w ++ c ∷ []) ++ cs ≡ w ++ c ∷ cs
        append-more [] c cs = refl
        append-more (x ∷ w) c cs = ap (λ ys. x ∷ ys) (append-more w c cs)
settle-kept (suc n) piece m e = ap (with_place (record { before = []; fate = Keep none })) (settle-kept n piece m e)

pub newline-splice : (n : ℕ) → splice n n 0 (plain (10 ∷ [])) ≡ newline_edit n
newline-splice n = settle-kept n newline (n - (n + 0)) (omega arith)

-- ---- documents end in no first half of a pair

ends-paired : (half : Bool) (doc : Doc) → is_paired half (text_of doc) ≡ true → ends_well doc ≡ true
ends-paired half [] e = refl
ends-paired half (c ∷ []) e = second_true (cond half (is_low c.unit) (not (is_low c.unit))) _ e
ends-paired half (c ∷ (d ∷ doc)) e = ends-paired (is_high c.unit) (d ∷ doc) (second_true (cond half (is_low c.unit) (not (is_low c.unit))) _ e)

pub document-ends : (doc : Doc) → IsDocument doc → ends_well doc ≡ true
document-ends doc d = ends-paired false doc (first_true _ _ d.pairs)
