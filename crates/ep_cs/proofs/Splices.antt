-- What a splice makes of a document.
use Rattle.std.proofs.Common.{◌≡◌, ℕ, zero, suc, ◌+◌, ◌-◌, ◌≤◌, List, [], ◌∷◌, ◌++◌, length, take, drop, take_all, drop-drop, refl, sym, ap, ap₂, ◌∙◌, arith, append-nil, length-drop}
use Rattle.std.proofs.lemmas.List.{map-append, map-id, take-map, drop-map, replicate-append-replicate}
use Rattle.ep_units.specs.Text.{Text}
use Rattle.ep_attr.specs.AttrMap.{none}
use Rattle.ep_cs.specs.Doc.{Cell, Doc, painted}
use Rattle.ep_cs.specs.Edit.{Step, apply, identity, inserts, settle, with_place}
use Rattle.ep_cs.specs.Edit.Fate.{Keep}
use Rattle.ep_cs.specs.Edit.Step.{Pass}
use Rattle.ep_cs.specs.Steps.{passed, run}
use Rattle.ep_cs.specs.Splice.{kept, dropped, splice}
use Rattle.ep_cs.specs.Plain.{plain_cell, plain}
use Rattle.ep_cs.proofs.Composed.{cells_act, run_inserts, over-settle, passed_inserts}
use Rattle.ep_cs.proofs.Items.{length-settle}
use Rattle.ep_cs.proofs.Plain.{length-plain}

abbrev made : List Step → Doc → Doc
made steps doc = run painted (λ c. c) steps doc

made-kept : (n : ℕ) (steps : List Step) (doc : Doc) → n ≤ length doc → made (kept n ++ steps) doc ≡ take n doc ++ made steps (drop n doc)
made-kept zero steps doc h = refl
made-kept (suc n) steps [] h = absurd (omega arith)
made-kept (suc n) steps (c ∷ doc) h = ap₂ (λ (d : Cell) (ds : Doc). d ∷ ds) (cells_act.nothing c) (made-kept n steps doc (omega arith))

made-dropped : (n : ℕ) (steps : List Step) (doc : Doc) → n ≤ length doc → made (dropped n ++ steps) doc ≡ made steps (drop n doc)
made-dropped zero steps doc h = refl
made-dropped (suc n) steps [] h = absurd (omega arith)
made-dropped (suc n) steps (c ∷ doc) h = made-dropped n steps doc (omega arith)

made-rest : (n : ℕ) (doc : Doc) → length doc ≡ n → made (kept n) doc ≡ doc
made-rest n doc e =
    ap (λ (steps : List Step). made steps doc) (sym (append-nil (kept n))) ∙ made-kept n [] doc (omega arith) ∙ append-nil (take n doc) ∙ take_all n doc (omega arith)

pub apply-splice : (at count : ℕ) (piece : List Cell) (doc : Doc) → at + count ≤ length doc
    → apply (splice (length doc) at count piece) doc ≡ take at doc ++ (piece ++ drop (at + count) doc)
apply-splice at count piece doc h =
    let rest = kept (length doc - (at + count)) in
    let width : length (drop (at + count) doc) ≡ length doc - (at + count) = length-drop (at + count) doc in
    let behind : count ≤ length (drop at doc) = omega (arith, length-drop at doc) in
    over-settle painted (λ c. c) [] (kept at ++ (dropped count ++ (inserts piece ++ rest))) doc
    ∙ made-kept at (dropped count ++ (inserts piece ++ rest)) doc (omega arith)
    ∙ ap (λ (d : Doc). take at doc ++ d)
    (made-dropped count (inserts piece ++ rest) (drop at doc) behind
    ∙ ap (made (inserts piece ++ rest)) (drop-drop count at doc)
    ∙ run_inserts painted (λ c. c) piece rest (drop (at + count) doc)
    ∙ ap₂ (λ (a : Doc) (b : Doc). a ++ b) (map-id piece) (made-rest (length doc - (at + count)) (drop (at + count) doc) width))

pub apply-splice-plain : (at : ℕ) (piece text : Text) → at ≤ length text
    → apply (splice (length text) at 0 (plain piece)) (plain text) ≡ plain (take at text ++ (piece ++ drop at text))
apply-splice-plain at piece text h =
    let e : at + 0 ≡ at = omega arith in
    ap (λ (n : ℕ). apply (splice n at 0 (plain piece)) (plain text)) (sym (length-plain text))
    ∙ apply-splice at 0 (plain piece) (plain text) (omega (arith, length-plain text))
    ∙ ap₂ (λ (a : Doc) (b : Doc). a ++ (plain piece ++ b)) (take-map plain_cell at text) (ap (λ (n : ℕ). drop n (plain text)) e ∙ drop-map plain_cell at text)
    ∙ ap (λ (d : Doc). plain (take at text) ++ d) (sym (map-append plain_cell piece (drop at text)))
    ∙ sym (map-append plain_cell (take at text) (piece ++ drop at text))

passed-kept : (n : ℕ) (steps : List Step) → passed (kept n ++ steps) ≡ n + passed steps
passed-kept zero steps = omega arith
passed-kept (suc n) steps = omega (arith, passed-kept n steps)

passed-dropped : (n : ℕ) (steps : List Step) → passed (dropped n ++ steps) ≡ n + passed steps
passed-dropped zero steps = omega arith
passed-dropped (suc n) steps = omega (arith, passed-dropped n steps)

pub length-splice : (n at count : ℕ) (piece : List Cell) → at + count ≤ n → length (splice n at count piece).places ≡ n
length-splice n at count piece h =
    let k = n - (at + count) in
    let rest : passed (kept k) ≡ k = ap passed (sym (append-nil (kept k))) ∙ passed-kept k [] ∙ (let z : k + 0 ≡ k = omega arith in z) in
    let all : at + (count + k) ≡ n = omega arith in
    length-settle [] (kept at ++ (dropped count ++ (inserts piece ++ kept k)))
    ∙ passed-kept at (dropped count ++ (inserts piece ++ kept k))
    ∙ ap (λ (m : ℕ). at + m) (passed-dropped count (inserts piece ++ kept k) ∙ ap (λ (m : ℕ). count + m) (passed_inserts piece (kept k) ∙ rest))
    ∙ all

settle-kept : (n : ℕ) → settle [] (kept n) ≡ identity n
settle-kept zero = refl
settle-kept (suc n) = ap (with_place (record { before = []; fate = Keep none })) (settle-kept n)

-- nothing is put in
pub splice-nothing : (n at : ℕ) → at ≤ n → splice n at 0 [] ≡ identity n
splice-nothing n at h =
    let all : at + (n - (at + 0)) ≡ n = omega arith in
    ap (settle []) (replicate-append-replicate at (n - (at + 0)) (Pass (Keep none)) ∙ ap (λ (k : ℕ). kept k) all) ∙ settle-kept n
