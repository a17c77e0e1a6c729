-- What is written over a text, call by call.
use Rattle.std.proofs.Common.{◌≡◌, inl, inr, ℕ, ◌+◌, ◌-◌, ◌≤◌, List, [], ◌∷◌, ◌++◌, length, take, drop, refl, sym, ap, ◌∙◌, subst, arith, append_assoc, append-nil, drop-drop, take-append-drop, length-take-le, length-drop}
use Rattle.std.proofs.Math.Seq.{drop-append_seam}
use Rattle.std.proofs.lemmas.List.{replicate-append-replicate, length-append}
use Rattle.ep_units.specs.Text.{Text}
use Rattle.ep_attr.specs.AttrMap.{AttrMap, none, after}
use Rattle.ep_cs.specs.Edit.{Fate, Step, inserts, edit_of}
use Rattle.ep_cs.specs.Edit.Fate.{Drop, Keep}
use Rattle.ep_cs.specs.Edit.Step.{Pass}
use Rattle.ep_cs.specs.Steps.{passed}
use Rattle.ep_cs.specs.Splice.{dropped}
use Rattle.ep_cs.specs.Runs.{cells, rest_kept}
use Rattle.ep_cs.specs.Change.{stamped, newlines}
use Rattle.ep_cs.specs.NormalRuns.{IsLined}
use Rattle.ep_cs.specs.Draft.{Draft, blank, drafted, keeping, dropping, inserting}
use Rattle.ep_cs.specs.Lines.{count_lines, IsStretch}
use Rattle.ep_cs.proofs.Canonical.{times}
use Rattle.ep_cs.proofs.Stretches.{lined_stretch}
use Rattle.ep_cursor.specs.TrueDraft.{IsTrueDraft}
use Rattle.ep_cursor.proofs.Made.{passed-append, passed_times}
use Rattle.ep_cursor.proofs.TrueDrafts.{true_keep, true_drop, true_insert, true_blank, true_drafted}
use Rattle.ep_block_parts.specs.Seen.{Sees}
use Rattle.ep_block_parts.specs.declared.seen.Seen.{Seen}
use Rattle.ep_block_parts.proofs.Texts.{lines-append, lines_within}
use Rattle.ep_invert.specs.Paint.{paint_steps}
use Rattle.ep_invert.specs.Writing.{GoesOn}

no_more : (d : Draft) → record { old = d.old; steps = d.steps ++ []; marks = d.marks ++ [] } ≡ d
no_more d = λ i. record { old = d.old; steps = append-nil d.steps i; marks = append-nil d.marks i }

-- a text with so many newlines, the last of them at its end, is kept
pub lined_kept : (d : Draft) (text : Text) (n l : ℕ) (m : AttrMap) → length text ≡ n → 1 ≤ n → IsLined l (newlines text) → GoesOn d (keeping d n l m) (paint_steps n m) text
lined_kept d text n l m long some lined = record { old = refl; steps = refl; trues = λ us rest g t. true_keep d us text rest n l m t (record { is = g; long = long; some = some; lined = lined }) }

pub lined_dropped : (d : Draft) (text : Text) (n l : ℕ) → length text ≡ n → 1 ≤ n → IsLined l (newlines text) → GoesOn d (dropping d n l) (dropped n) text
lined_dropped d text n l long some lined = record { old = refl; steps = refl; trues = λ us rest g t. true_drop d us text rest n l t (record { is = g; long = long; some = some; lined = lined }) }

-- a text that is one run is kept
pub run_kept : (d : Draft) (text : Text) (l : ℕ) (m : AttrMap) → IsStretch text → l ≡ count_lines text → GoesOn d (keeping d (length text) l m) (paint_steps (length text) m) text
run_kept d [] l m s e = record { old = refl; steps = refl; trues = λ us rest g t. subst (λ (x : Draft). IsTrueDraft x us) (sym (no_more d)) t }
run_kept d (u ∷ text) l m s e =
    lined_kept d (u ∷ text) (length (u ∷ text)) l m refl (omega arith) (subst (λ (k : ℕ). IsLined k (newlines (u ∷ text))) (sym e) (lined_stretch (u ∷ text) (omega arith) s))

-- a text that is one run is dropped
pub run_dropped : (d : Draft) (text : Text) (l : ℕ) → IsStretch text → l ≡ count_lines text → GoesOn d (dropping d (length text) l) (dropped (length text)) text
run_dropped d [] l s e = record { old = refl; steps = refl; trues = λ us rest g t. subst (λ (x : Draft). IsTrueDraft x us) (sym (no_more d)) t }
run_dropped d (u ∷ text) l s e =
    lined_dropped d (u ∷ text) (length (u ∷ text)) l refl (omega arith) (subst (λ (k : ℕ). IsLined k (newlines (u ∷ text))) (sym e) (lined_stretch (u ∷ text) (omega arith) s))

-- a text is inserted
pub text_inserted : (d : Draft) (text : Text) (m : AttrMap) → GoesOn d (inserting d text m) (inserts (cells (after none m) text)) []
text_inserted d text m = record { old = refl; steps = refl; trues = λ us rest g t. true_insert d us text m t }

-- one thing is written and then another
pub both_written : (d d' d'' : Draft) (s t : List Step) (a b : Text) → passed s ≡ length a → GoesOn d d' s a → GoesOn d' d'' t b → GoesOn d d'' (s ++ t) (a ++ b)
both_written d d' d'' s t a b n g h = record {
  old = h.old ∙ g.old;
  steps = h.steps ∙ ap (λ x. x ++ t) g.steps ∙ append_assoc d.steps s t;
  trues = λ us rest e is. h.trues us rest (behind us rest e) (g.trues us (b ++ rest) (e ∙ append_assoc a b rest) is);
}
  where
    behind : (us rest : Text) → drop (passed d.steps) us ≡ (a ++ b) ++ rest → drop (passed d'.steps) us ≡ b ++ rest
    behind us rest e =
        let at : passed d'.steps ≡ passed d.steps + length a = ap passed g.steps ∙ passed-append d.steps s ∙ ap (λ (k : ℕ). passed d.steps + k) n in
        ap (λ (k : ℕ). drop k us) at ∙ sym (drop-drop (length a) (passed d.steps) us) ∙ ap (drop (length a)) (e ∙ append_assoc a b rest) ∙ drop-append_seam a (b ++ rest)

-- a text in two parts, each with the same fate
pub parts_written : (f : Fate) (d d' d'' : Draft) (text front rear : Text) → text ≡ front ++ rear
    → GoesOn d d' (times (length front) f) front → GoesOn d' d'' (times (length rear) f) rear → GoesOn d d'' (times (length text) f) text
parts_written f d d' d'' text front rear e g h =
    let all : GoesOn d d'' (times (length front) f ++ times (length rear) f) (front ++ rear) = both_written d d' d'' (times (length front) f) (times (length rear) f) front rear (passed_times (length front) f) g h in
    let many : length front + length rear ≡ length text = sym (length-append front rear) ∙ ap length (sym e) in
    subst (λ (x : List Step × Text). GoesOn d d'' x.0 x.1) (λ i. ((replicate-append-replicate (length front) (length rear) (Pass f) ∙ ap (λ (k : ℕ). times k f) many) i, sym e i)) all

-- the two parts of a text of which this is seen
record AreParts (s : Seen) (us : Text) : Type 0 where
  pub front : length (take (s.units - s.tail) us) ≡ s.units - s.tail
  pub rear : length (drop (s.units - s.tail) us) ≡ s.tail
  pub lines : s.lines ≡ count_lines (take (s.units - s.tail) us)

parts_seen : (s : Seen) (us : Text) → Sees s us → AreParts s us
parts_seen s us a =
    let k = s.units - s.tail in
    let whole : count_lines us ≡ count_lines (take k us) + count_lines (drop k us) = ap count_lines (sym (take-append-drop k us)) ∙ lines-append (take k us) (drop k us) in
    record {
      front = length-take-le k us (omega (arith, a.units));
      rear = omega (arith, length-drop k us, a.units, a.within);
      lines = omega (arith, a.lines, whole, a.behind);
    }

pub lined_seen : (s : Seen) (us : Text) → Sees s us → s.lines + s.tail ≤ s.units
lined_seen s us a =
    let p = parts_seen s us a in
    omega (arith, p.lines, p.front, lines_within (take (s.units - s.tail) us), a.within)

-- there is room for the rest
pub kept_room : (d d' : Draft) (n l k : ℕ) (m : AttrMap) → d' ≡ keeping d n l m → passed d.steps + (n + k) ≤ d.old → passed d'.steps + k ≤ d'.old
kept_room d d' n l k m e h = omega (arith, ap (λ (d : Draft). passed d.steps) e, ap (λ (d : Draft). d.old) e, passed-append d.steps (times n (Keep m)), passed_times n (Keep m), h)

pub dropped_room : (d d' : Draft) (n l k : ℕ) → d' ≡ dropping d n l → passed d.steps + (n + k) ≤ d.old → passed d'.steps + k ≤ d'.old
dropped_room d d' n l k e h = omega (arith, ap (λ (d : Draft). passed d.steps) e, ap (λ (d : Draft). d.old) e, passed-append d.steps (times n Drop), passed_times n Drop, h)

-- a text of which this is seen is kept: its whole lines and the rest
pub seen_kept : (d d' d'' : Draft) (s : Seen) (us : Text) (m : AttrMap) → Sees s us → d' ≡ keeping d (s.units - s.tail) s.lines m → d'' ≡ keeping d' s.tail 0 m → GoesOn d d'' (paint_steps s.units m) us
seen_kept d d' d'' s us m a e f =
    let k = s.units - s.tail in
    let front = take k us in
    let rear = drop k us in
    let p = parts_seen s us a in
    let g : GoesOn d d' (paint_steps (length front) m) front = subst (λ (x : Draft). GoesOn d x (paint_steps (length front) m) front) ((λ i. keeping d (p.front i) s.lines m) ∙ sym e) (run_kept d front s.lines m (inr a.before) p.lines) in
    let h : GoesOn d' d'' (paint_steps (length rear) m) rear = subst (λ (x : Draft). GoesOn d' x (paint_steps (length rear) m) rear) ((λ i. keeping d' (p.rear i) 0 m) ∙ sym f) (run_kept d' rear 0 m (inl a.behind) (sym a.behind)) in
    subst (λ (n : ℕ). GoesOn d d'' (paint_steps n m) us) (sym a.units) (parts_written (Keep m) d d' d'' us front rear (sym (take-append-drop k us)) g h)

-- it is dropped
pub seen_dropped : (d d' d'' : Draft) (s : Seen) (us : Text) → Sees s us → d' ≡ dropping d (s.units - s.tail) s.lines → d'' ≡ dropping d' s.tail 0 → GoesOn d d'' (dropped s.units) us
seen_dropped d d' d'' s us a e f =
    let k = s.units - s.tail in
    let front = take k us in
    let rear = drop k us in
    let p = parts_seen s us a in
    let g : GoesOn d d' (dropped (length front)) front = subst (λ (x : Draft). GoesOn d x (dropped (length front)) front) ((λ i. dropping d (p.front i) s.lines) ∙ sym e) (run_dropped d front s.lines (inr a.before) p.lines) in
    let h : GoesOn d' d'' (dropped (length rear)) rear = subst (λ (x : Draft). GoesOn d' x (dropped (length rear)) rear) ((λ i. dropping d' (p.rear i) 0) ∙ sym f) (run_dropped d' rear 0 (inl a.behind) (sym a.behind)) in
    subst (λ (n : ℕ). GoesOn d d'' (dropped n) us) (sym a.units) (parts_written Drop d d' d'' us front rear (sym (take-append-drop k us)) g h)

-- the change that is written over the front of a text
pub written_whole : (d : Draft) (us front rest : Text) (s : List Step) → GoesOn (blank (length us)) d s front → us ≡ front ++ rest
    → drafted d ≡ stamped (edit_of (s ++ rest_kept (length us - passed s))) us
written_whole d us front rest s g e =
    true_drafted d us (g.trues us rest e (true_blank (length us) us)) (sym g.old)
    ∙ ap (λ (x : ℕ × List Step). stamped (edit_of (x.1 ++ rest_kept (x.0 - passed x.1))) us) (λ i. (g.old i, g.steps i))
