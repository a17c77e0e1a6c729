-- Splices and paintings that are written.
use Rattle.std.proofs.Common.{◌≡◌, ℕ, zero, suc, ◌+◌, ◌-◌, ◌<◌, ◌≤◌, ◌^◌, Bool, true, false, not, ◌||◌, List, [], ◌∷◌, ◌++◌, length, take, drop, refl, sym, ap, ◌∙◌, subst, arith, append_assoc, append-nil, drop-drop, take-append-drop, length-take-le, length-drop, length-append}
use Rattle.ep_units.specs.Text.{Text, is_high, is_well_formed}
use Rattle.ep_attr.specs.AttrMap.{AttrMap, none}
use Rattle.ep_attr.proofs.SameMap.{both_true, same_map_itself}
use Rattle.ep_cs.specs.Doc.{Cell, Doc, text_of, has_equal_halves, is_document}
use Rattle.ep_cs.specs.Edit.{Fate, Edit, Step, inserts, edit_of}
use Rattle.ep_cs.specs.Edit.Fate.{Drop, Keep}
use Rattle.ep_cs.specs.Steps.{passed}
use Rattle.ep_cs.specs.Splice.{kept, dropped, splice}
use Rattle.ep_cs.specs.Runs.{cells, rest_kept}
use Rattle.ep_cs.specs.Change.{Change, stamped}
use Rattle.ep_cs.specs.Fits.{AreDocuments}
use Rattle.ep_cs.specs.Draft.{Draft, blank, drafted, dropped_by, inserted_by, new_length}
use Rattle.ep_cs.proofs.Canonical.{times}
use Rattle.ep_cs.proofs.Plain.{length-text_of}
use Rattle.ep_cs.proofs.Drafts.{dropped-append, inserted-append, dropped_times, kept_times, inserted_times, inserted_units}
use Rattle.ep_cs.proofs.Documents.{AreBlocks, blocks}
use Rattle.ep_cursor.proofs.Made.{passed-append, passed_times, passed_new}
use Rattle.ep_invert.specs.Paint.{paint_steps, paint}
use Rattle.ep_invert.specs.Writing.{GoesOn}
use Rattle.ep_invert.proofs.Writes.{both_written, written_whole}

-- ---- pieces

pub text_of-cells : (m : AttrMap) (us : Text) → text_of (cells m us) ≡ us
text_of-cells m [] = refl
text_of-cells m (u ∷ us) = ap (λ vs. u ∷ vs) (text_of-cells m us)

halves_of_cells : (m : AttrMap) (us : Text) → has_equal_halves (cells m us) ≡ true
halves_of_cells m [] = refl
halves_of_cells m (u ∷ []) = refl
halves_of_cells m (u ∷ (v ∷ us)) = both_true _ _ (ap (λ b. not (is_high u) || b) (same_map_itself m) ∙ either (not (is_high u))) (halves_of_cells m (v ∷ us))
  where
    either : (b : Bool) → (b || true) ≡ true
    either true = refl
    either false = refl

-- a text with one map is a document
pub document_of_cells : (m : AttrMap) (us : Text) → is_well_formed us ≡ true → is_document (cells m us) ≡ true
document_of_cells m us h = both_true _ _ (ap is_well_formed (text_of-cells m us) ∙ h) (halves_of_cells m us)

pub blocks_times : (k : ℕ) (f : Fate) (w : List Cell) (s : List Step) → is_document w ≡ true → AreBlocks [] s → AreBlocks w s → AreBlocks w (times k f ++ s)
blocks_times zero f w s h b c = c
blocks_times (suc k) f w s h b c = (h, blocks_times k f [] s refl b b)

blocks_inserts : (w piece : List Cell) (s : List Step) → AreBlocks (w ++ piece) s → AreBlocks w (inserts piece ++ s)
blocks_inserts w [] s b = subst (λ v. AreBlocks v s) (append-nil w) b
blocks_inserts w (c ∷ piece) s b = blocks_inserts (w ++ c ∷ []) piece s (subst (λ v. AreBlocks v s) (sym (append_assoc w (c ∷ []) piece)) b)

pub only_times : (k : ℕ) (f : Fate) (w : List Cell) → is_document w ≡ true → AreBlocks w (times k f)
only_times zero f w h = h
only_times (suc k) f w h = (h, only_times k f [] refl)

pub splice_pieces : (n at count : ℕ) (piece : List Cell) → is_document piece ≡ true → AreDocuments (splice n at count piece).places (splice n at count piece).last
splice_pieces n at count piece h =
    let rest = inserts piece ++ kept (n - (at + count)) in
    let end : AreBlocks [] rest = blocks_inserts [] piece (kept (n - (at + count))) (only_times (n - (at + count)) (Keep none) piece h) in
    let behind : AreBlocks [] (dropped count ++ rest) = blocks_times count Drop [] rest refl end end in
    blocks [] [] (kept at ++ (dropped count ++ rest)) refl (blocks_times at (Keep none) [] (dropped count ++ rest) refl behind behind)

pub paint_pieces : (n at count : ℕ) (m : AttrMap) → AreDocuments (paint n at count m).places (paint n at count m).last
paint_pieces n at count m =
    let rest = kept (n - (at + count)) in
    let end : AreBlocks [] rest = only_times (n - (at + count)) (Keep none) [] refl in
    let behind : AreBlocks [] (paint_steps count m ++ rest) = blocks_times count (Keep m) [] rest refl end end in
    blocks [] [] (kept at ++ (paint_steps count m ++ rest)) refl (blocks_times at (Keep none) [] (paint_steps count m ++ rest) refl behind behind)

-- ---- the stretch's text

pub front_long : (at : ℕ) (us : Text) → at ≤ length us → length (take at us) ≡ at
front_long at us h = length-take-le at us h

pub middle_long : (at end : ℕ) (us : Text) → at ≤ end → end ≤ length us → length (take (end - at) (drop at us)) ≡ end - at
middle_long at end us h k = length-take-le (end - at) (drop at us) (omega (arith, length-drop at us))

cut_up : (at end : ℕ) (us : Text) → at ≤ end → us ≡ (take at us ++ take (end - at) (drop at us)) ++ drop end us
cut_up at end us h =
    let e : at + (end - at) ≡ end = omega arith in
    sym (take-append-drop at us) ∙ ap (λ vs. take at us ++ vs) (sym (take-append-drop (end - at) (drop at us)) ∙ ap (λ vs. take (end - at) (drop at us) ++ vs) (drop-drop (end - at) at us ∙ ap (λ (k : ℕ). drop k us) e))
    ∙ sym (append_assoc (take at us) (take (end - at) (drop at us)) (drop end us))

-- ---- what is written

-- the units before a stretch are kept as they are, and the stretch has a fate
pub record IsFront (us : Text) (at end : ℕ) (f : Fate) (d0 d1 d2 : Draft) (m : AttrMap) : Type 0 where
  pub order : at ≤ end
  pub inside : end ≤ length us
  pub nothing : d0 ≡ blank (length us)
  pub bare : m ≡ none
  pub front : GoesOn d0 d1 (paint_steps at m) (take at us)
  pub stretch : GoesOn d1 d2 (times (end - at) f) (take (end - at) (drop at us))

-- the front and the stretch, as they are passed in a document
pub front_of : (doc : Doc) (at end n : ℕ) (f : Fate) (d0 d1 d2 : Draft) (m : AttrMap) (all rest : Text) → at ≤ end → end ≤ length doc → d0 ≡ blank n → n ≡ length doc → m ≡ none → all ≡ text_of doc → rest ≡ drop at all
    → GoesOn d0 d1 (paint_steps at m) (take at all) → GoesOn d1 d2 (times (end - at) f) (take (end - at) rest) → IsFront (text_of doc) at end f d0 d1 d2 m
front_of doc at end n f d0 d1 d2 m all rest h k e l b a r g w =
    let long : length (text_of doc) ≡ length doc = length-text_of doc in
    record {
      order = h;
      inside = omega (arith, long, k);
      nothing = e ∙ ap blank (l ∙ sym long);
      bare = b;
      front = subst (λ (us : Text). GoesOn d0 d1 (paint_steps at m) (take at us)) a g;
      stretch = subst (λ (us : Text). GoesOn d1 d2 (times (end - at) f) (take (end - at) us)) (r ∙ ap (drop at) a) w;
    }

-- the front is kept: there is room for the stretch
pub stretch_room : (doc : Doc) (at end n : ℕ) (d0 d1 : Draft) (m : AttrMap) (us : Text) → at ≤ end → end ≤ length doc → d0 ≡ blank n → n ≡ length doc → GoesOn d0 d1 (paint_steps at m) us → passed d1.steps + (end - at) ≤ d1.old
stretch_room doc at end n d0 d1 m us h k e l g =
    omega (arith, ap passed g.steps, passed-append d0.steps (paint_steps at m), passed_times at (Keep m), ap (λ (d : Draft). passed d.steps) e, ap (λ (d : Draft). d.old) e, l, g.old, h, k)

pub front_written : (us : Text) (at end : ℕ) (f : Fate) (d0 d1 d2 : Draft) (m : AttrMap) → IsFront us at end f d0 d1 d2 m
    → GoesOn (blank (length us)) d2 (kept at ++ times (end - at) f) (take at us ++ take (end - at) (drop at us))
front_written us at end f d0 d1 d2 m w =
    let a = take at us in
    let b = take (end - at) (drop at us) in
    let long : passed (paint_steps at m) ≡ length a = passed_times at (Keep m) ∙ sym (front_long at us (omega (arith, w.order, w.inside))) in
    let all : GoesOn d0 d2 (paint_steps at m ++ times (end - at) f) (a ++ b) = both_written d0 d1 d2 (paint_steps at m) (times (end - at) f) a b long w.front w.stretch in
    subst (λ (x : Draft × List Step). GoesOn x.0 d2 x.1 (a ++ b)) (λ i. (w.nothing i, (paint_steps at (w.bare i) ++ times (end - at) f))) all

passed_front : (at n : ℕ) (f : Fate) → passed (kept at ++ times n f) ≡ at + n
passed_front at n f = passed-append (kept at) (times n f) ∙ (λ i. passed_times at (Keep none) i + passed_times n f i)

pub insert_room : (us text : Text) (at end : ℕ) (d0 d1 d2 : Draft) (m : AttrMap) → IsFront us at end Drop d0 d1 d2 m → length us - (end - at) + length text < 2 ^ 32 → inserted_by d2.steps + length text < 2 ^ 32
insert_room us text at end d0 d1 d2 m w short =
    let g = front_written us at end Drop d0 d1 d2 m w in
    let none_in : inserted_by d2.steps ≡ 0 = ap inserted_by g.steps ∙ inserted-append (kept at) (dropped (end - at)) ∙ (λ i. (kept_times at none).1 i + inserted_times (end - at) i) in
    omega (arith, none_in, short)

-- the splice is written
pub record IsWritten (us : Text) (e : Edit) (d : Draft) : Type 0 where
  pub change : drafted d ≡ stamped e us
  pub edit : (drafted d).edit ≡ e

pub splice_written : (us text : Text) (at end : ℕ) (d0 d1 d2 d3 : Draft) (m c : AttrMap) → IsFront us at end Drop d0 d1 d2 m → GoesOn d2 d3 (inserts (cells c text)) []
    → IsWritten us (splice (length us) at (end - at) (cells c text)) d3
splice_written us text at end d0 d1 d2 d3 m c w g =
    let s = kept at ++ dropped (end - at) in
    let t = inserts (cells c text) in
    let a = take at us ++ take (end - at) (drop at us) in
    let long : passed s ≡ length a = passed_front at (end - at) Drop ∙ sym (length-append (take at us) (take (end - at) (drop at us)) ∙ (λ i. front_long at us (let h : at ≤ length us = omega (arith, w.order, w.inside) in h) i + middle_long at end us w.order w.inside i)) in
    let all : GoesOn (blank (length us)) d3 (s ++ t) (a ++ []) = both_written (blank (length us)) d2 d3 s t a [] long (front_written us at end Drop d0 d1 d2 m w) g in
    let whole : us ≡ (a ++ []) ++ drop end us = cut_up at end us w.order ∙ ap (λ vs. vs ++ drop end us) (sym (append-nil a)) in
    let gone : passed (s ++ t) ≡ at + (end - at) = passed-append s t ∙ (λ i. passed_front at (end - at) Drop i + passed_new (cells c text) i) ∙ (let z : at + (end - at) + 0 ≡ at + (end - at) = omega arith in z) in
    let steps : (s ++ t) ++ rest_kept (length us - passed (s ++ t)) ≡ kept at ++ (dropped (end - at) ++ (t ++ kept (length us - (at + (end - at))))) =
    ap (λ (k : ℕ). (s ++ t) ++ rest_kept (length us - k)) gone ∙ append_assoc s t _ ∙ append_assoc (kept at) (dropped (end - at)) _ in
    let is = written_whole d3 us (a ++ []) (drop end us) (s ++ t) all whole ∙ ap (λ (x : List Step). stamped (edit_of x) us) steps in
    record { change = is; edit = ap (λ (x : Change). x.edit) is }

pub splice_short : (us text : Text) (at end : ℕ) (d0 d1 d2 d3 : Draft) (m c : AttrMap) → IsFront us at end Drop d0 d1 d2 m → GoesOn d2 d3 (inserts (cells c text)) []
    → length us - (end - at) + length text < 2 ^ 32 → new_length d3 < 2 ^ 32
splice_short us text at end d0 d1 d2 d3 m c w g short =
    let f = front_written us at end Drop d0 d1 d2 m w in
    let t = inserts (cells c text) in
    let out : dropped_by d3.steps ≡ end - at = ap dropped_by (g.steps ∙ ap (λ x. x ++ t) f.steps) ∙ dropped-append (kept at ++ dropped (end - at)) t
    ∙ (λ i. (dropped-append (kept at) (dropped (end - at)) ∙ (λ j. (kept_times at none).0 j + dropped_times (end - at) j)) i + (inserted_units c text).0 i) ∙ omega arith in
    let in_ : inserted_by d3.steps ≡ length text = ap inserted_by (g.steps ∙ ap (λ x. x ++ t) f.steps) ∙ inserted-append (kept at ++ dropped (end - at)) t
    ∙ (λ i. (inserted-append (kept at) (dropped (end - at)) ∙ (λ j. (kept_times at none).1 j + inserted_times (end - at) j)) i + (inserted_units c text).1 i) ∙ omega arith in
    omega (arith, out, in_, short, g.old, f.old)

-- the painting is written
pub paint_written : (us : Text) (at end : ℕ) (d0 d1 d2 : Draft) (m c : AttrMap) → IsFront us at end (Keep c) d0 d1 d2 m → IsWritten us (paint (length us) at (end - at) c) d2
paint_written us at end d0 d1 d2 m c w =
    let s = kept at ++ paint_steps (end - at) c in
    let a = take at us ++ take (end - at) (drop at us) in
    let steps : s ++ rest_kept (length us - passed s) ≡ kept at ++ (paint_steps (end - at) c ++ kept (length us - (at + (end - at)))) =
    ap (λ (k : ℕ). s ++ rest_kept (length us - k)) (passed_front at (end - at) (Keep c)) ∙ append_assoc (kept at) (paint_steps (end - at) c) _ in
    let is = written_whole d2 us a (drop end us) s (front_written us at end (Keep c) d0 d1 d2 m w) (cut_up at end us w.order) ∙ ap (λ (x : List Step). stamped (edit_of x) us) steps in
    record { change = is; edit = ap (λ (x : Change). x.edit) is }

pub paint_short : (us : Text) (at end : ℕ) (d0 d1 d2 : Draft) (m c : AttrMap) → IsFront us at end (Keep c) d0 d1 d2 m → length us < 2 ^ 32 → new_length d2 < 2 ^ 32
paint_short us at end d0 d1 d2 m c w short =
    let f = front_written us at end (Keep c) d0 d1 d2 m w in
    let in_ : inserted_by d2.steps ≡ 0 = ap inserted_by f.steps ∙ inserted-append (kept at) (paint_steps (end - at) c) ∙ (λ i. (kept_times at none).1 i + (kept_times (end - at) c).1 i) in
    omega (arith, in_, short, f.old)
