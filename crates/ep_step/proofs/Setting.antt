-- The length of the server's texts, and the first revision.
use Rattle.std.proofs.Common.{◌≡◌, ℕ, zero, suc, ◌+◌, ◌-◌, ◌≤◌, Bool, true, false, not, nat_lt, if◌then◌else◌, List, [], ◌∷◌, ◌++◌, length, take, drop, refl, sym, ap, ◌∙◌, subst, T, arith, append-nil}
use Rattle.std.proofs.lemmas.List.{drop_all, length-append}
use Rattle.ep_units.specs.Text.{Text, ends_in_newline, is_newline}
use Rattle.ep_units.specs.Clean.{clean}
use Rattle.ep_cs.specs.Doc.{Cell, Doc}
use Rattle.ep_cs.specs.Edit.{Edit, apply}
use Rattle.ep_cs.specs.Plain.{plain}
use Rattle.ep_cs.specs.Splice.{splice}
use Rattle.ep_cs.proofs.Plain.{length-plain}
use Rattle.ep_cs.proofs.Splices.{apply-splice}
use Rattle.ep_history.specs.History.{by_nobody, first_rev, head_doc, lacks_newline, newline, newline_rev, step_doc, step_revs}
use Rattle.ep_history.specs.Pad.{PadState, newest}
use Rattle.ep_history.specs.Refusals.{fault_if}
use Rattle.ep_history.specs.Server.{set_edit, set_fault, set_units}
use Rattle.ep_history.specs.declared.pad_bad.PadBad.TheVariants.{Gone, TooLong}
use Rattle.ep_history.proofs.Refused.{if-not}
use Rattle.ep_history.proofs.Births.{first-text, line-newline}
use Rattle.ep_step.specs.Texts.{first_edit, lacking}
use Rattle.ep_step.proofs.Faults.{one, skip}
use Rattle.ep_step.proofs.Lengths.{length-step}

lacks-last : (doc : Doc) (c : Cell) → lacks_newline (doc ++ c ∷ []) ≡ not (is_newline c.unit)
lacks-last [] c = refl
lacks-last (d ∷ []) c = refl
lacks-last (d ∷ (e ∷ doc)) c = lacks-last (e ∷ doc) c

-- the last cell of a document that ends in a newline
last-cell : (doc : Doc) (k : ℕ) → suc k ≡ length doc → lacks_newline doc ≡ false → (c : Cell) × (drop k doc ≡ c ∷ []) × (not (is_newline c.unit) ≡ false)
last-cell [] k h e = absurd (omega (arith, h))
last-cell (c ∷ []) zero h e = (c, refl, e)
last-cell (c ∷ []) (suc k) h e = absurd (omega (arith, h))
last-cell (c ∷ (d ∷ doc)) zero h e = absurd (omega (arith, h))
last-cell (c ∷ (d ∷ doc)) (suc k) h e = last-cell (d ∷ doc) k (omega (arith, h)) e

some-units : (doc : Doc) → lacks_newline doc ≡ false → 1 ≤ length doc
some-units [] e = absurd (subst T e tt)
some-units (c ∷ doc) e = omega arith

-- the length after an edit of this document
after-length : (e : Edit) (doc made : Doc) (b : Bool) → apply e doc ≡ made → lacks_newline made ≡ b → length (step_doc e doc) ≡ length made + (if b then 1 else 0)
after-length e doc made b a l =
    length-step e doc ∙ ap (λ (d : Doc). length d + (if lacks_newline d then 1 else 0)) a ∙ ap (λ t. length made + (if t then 1 else 0)) l

pub length-set : (text : Text) (doc : Doc) → lacks_newline doc ≡ false → length (step_doc (set_edit text doc) doc) ≡ length text + lacking text
length-set text doc e = go (lacks_newline (plain text)) refl
  where
    n : 1 ≤ length doc
    n = some-units doc e

    go : (b : Bool) → lacks_newline (plain text) ≡ b
        → length (step_doc (if b then splice (length doc) 0 (length doc - 1) (plain text) else splice (length doc) 0 (length doc) (plain text)) doc) ≡ length text + (if b then 1 else 0)
    go true h =
        let last = last-cell doc (0 + (length doc - 1)) (omega (arith, n)) e in
        let made : Doc = plain text ++ last.0 ∷ [] in
        let a : apply (splice (length doc) 0 (length doc - 1) (plain text)) doc ≡ made = apply-splice 0 (length doc - 1) (plain text) doc (omega (arith, n)) ∙ ap (λ ds. plain text ++ ds) last.1 in
        after-length _ doc made false a (lacks-last (plain text) last.0 ∙ last.2)
        ∙ (let l = length-append (plain text) (last.0 ∷ []) in let p = length-plain text in omega (arith, l, p))
    go false h =
        let a : apply (splice (length doc) 0 (length doc) (plain text)) doc ≡ plain text =
        apply-splice 0 (length doc) (plain text) doc (omega arith) ∙ ap (λ ds. plain text ++ ds) (drop_all (0 + length doc) doc (omega arith)) ∙ append-nil (plain text) in
        after-length _ doc (plain text) false a h ∙ (let p = length-plain text in omega (arith, p))

-- a text without attributes lacks a newline where the text does
pub lacks-plain : (us : Text) → lacks_newline (plain us) ≡ not (ends_in_newline us)
lacks-plain [] = refl
lacks-plain (u ∷ []) = refl
lacks-plain (u ∷ (v ∷ us)) = lacks-plain (v ∷ us)

-- the one that is counted for it
pub lacking-is : (us : Text) (b : Bool) → b ≡ ends_in_newline us → (if not b then 1 else 0) ≡ lacking us
lacking-is us b e = ap (λ t. if not t then 1 else 0) e ∙ ap (λ t. if t then 1 else 0) (sym (lacks-plain us))

pub first-step : (now : ℕ) (text : Text) → step_revs (by_nobody now) (first_edit text) newline ≡ first_rev now text ∷ []
first-step now text = ap (λ b. first_rev now text ∷ (if b then newline_rev now (apply (first_edit text) newline) ∷ [] else [])) (ap lacks_newline (first-text now text) ∙ line-newline (plain (clean text)))

-- a text is set by one splice
pub set-splice : (text : Text) (doc : Doc) → splice (length doc) 0 (length doc - lacking text) (plain text) ≡ set_edit text doc
set-splice text doc = go (lacks_newline (plain text))
  where
    go : (b : Bool) → splice (length doc) 0 (length doc - (if b then 1 else 0)) (plain text)
        ≡ (if b then splice (length doc) 0 (length doc - 1) (plain text) else splice (length doc) 0 (length doc) (plain text))
    go true = refl
    go false = ap (λ n. splice (length doc) 0 n (plain text)) (all (length doc))
      where
        all : (n : ℕ) → n - 0 ≡ n
        all n = omega arith

-- why a text is not set, as it is asked of the text that was cleaned
pub set-refusal : (pad : PadState) (limit : ℕ) (doc : Doc) (text cleaned : Text) (more : ℕ)
    → limit ≡ pad.limits.units → doc ≡ head_doc (newest pad) → pad.present ≡ true → lacks_newline doc ≡ false → cleaned ≡ clean text → more ≡ lacking cleaned
    → fault_if (nat_lt limit (length cleaned + more)) (TooLong (length cleaned + more)) ≡ set_fault pad text
set-refusal pad limit doc text cleaned more n d there l cl m =
    (λ i. fault_if (nat_lt (n i) (units i)) (TooLong (units i))) ∙ sym (one _) ∙ sym (skip (fault_if (not pad.present) Gone) _ (if-not (not pad.present) Gone (ap not there)))
  where
    units : length cleaned + more ≡ set_units pad text
    units =
        ap (λ k. length cleaned + k) m ∙ ap (λ (us : Text). length us + lacking us) cl
        ∙ sym (length-set (clean text) (head_doc (newest pad)) (ap lacks_newline (sym d) ∙ l))
