-- Cells that are undone piece by piece.
use Rattle.std.proofs.Common.{◌≡◌, ℕ, zero, suc, ◌+◌, ◌-◌, ◌<◌, ◌≤◌, ◌^◌, true, ap₂, List, [], ◌∷◌, ◌++◌, length, take, drop, refl, sym, ap, ◌∙◌, subst, arith, append-nil, length-take-le}
use Rattle.std.proofs.lemmas.List.{map-append}
use Rattle.ep_units.specs.Text.{Text}
use Rattle.ep_attr.specs.AttrMap.{AttrMap, none, after, is_none}
use Rattle.ep_attr.proofs.SameMap.{exact_map}
use Rattle.ep_cs.specs.Doc.{Cell, text_of}
use Rattle.ep_cs.specs.Edit.{Step, inserts}
use Rattle.ep_cs.specs.Edit.Fate.{Keep}
use Rattle.ep_cs.specs.Edit.Step.{Insert, Pass}
use Rattle.ep_cs.specs.Steps.{passed}
use Rattle.ep_cs.specs.Runs.{cells}
use Rattle.ep_cs.specs.Runs.{passed as passed_by}
use Rattle.ep_cs.specs.declared.op.Kind.{Kind}
use Rattle.ep_cs.specs.declared.op.Kind.TheVariants as kind
use Rattle.ep_cs.specs.Draft.{Draft, inserted_by, keeping, dropping}
use Rattle.ep_cs.proofs.Plain.{length-text_of}
use Rattle.ep_cs.proofs.Drafts.{inserted-append}
use Rattle.ep_apply.specs.Documents.{HasNoEmpty}
use Rattle.ep_blocks.proofs.Pieces.{next_rest, next_taken, taken_front, dropped_front, length_cells}
use Rattle.ep_cursor.proofs.Lined.{lined_within}
use Rattle.ep_cursor.proofs.Made.{passed-append, passed_new}
use Rattle.ep_invert.specs.Inverse.{restoring}
use Rattle.ep_invert.specs.Paint.{paint_steps}
use Rattle.ep_invert.specs.Undoing.{restored, undone, left_by, CanUndo}
use Rattle.ep_invert.specs.Writing.{GoesOn}
use Rattle.ep_invert.proofs.Restored.{restoring-none}
use Rattle.ep_invert.proofs.Writes.{both_written, lined_kept, lined_dropped}
use Rattle.ep_invert.proofs.Made.{text_of-cells}

pub nothing_written : (d : Draft) → GoesOn d d [] []
nothing_written d = record { old = refl; steps = sym (append-nil d.steps); trues = λ us rest e t. t }

pub passed_restored : (m : AttrMap) (cs : List Cell) → passed (restored m cs) ≡ length cs
passed_restored m [] = refl
passed_restored m (c ∷ cs) = ap suc (passed_restored m cs)

restored_cells : (a m : AttrMap) (us : Text) → restored m (cells a us) ≡ paint_steps (length us) (restoring a m)
restored_cells a m [] = refl
restored_cells a m (u ∷ us) = ap (λ s. Pass (Keep (restoring a m)) ∷ s) (restored_cells a m us)

-- a piece of what is left
pub record IsPiece (units left : ℕ) (start rest rest' : List Cell) (a : AttrMap) (text : Text) : Type 0 where
  pub rest_is : rest ≡ drop (units - left) start
  pub piece : rest ≡ cells a text ++ rest'
  pub some : 1 ≤ length text
  pub most : length text ≤ left
  pub within : left ≤ units

piece_taken : (units left : ℕ) (start rest rest' : List Cell) (a : AttrMap) (text : Text) → IsPiece units left start rest rest' a text
    → take (units - (left - length text)) start ≡ take (units - left) start ++ cells a text
piece_taken units left start rest rest' a text p =
    next_taken units left (length text) start rest p.within p.most p.rest_is ∙ ap (λ cs. take (units - left) start ++ cs) (taken_front (length text) rest (cells a text) rest' p.piece (length_cells a text))

piece_dropped : (units left : ℕ) (start rest rest' : List Cell) (a : AttrMap) (text : Text) → IsPiece units left start rest rest' a text → rest' ≡ drop (units - (left - length text)) start
piece_dropped units left start rest rest' a text p =
    next_rest units left (length text) start rest rest' p.within p.most p.rest_is (dropped_front (length text) rest (cells a text) rest' p.piece (length_cells a text))

-- ---- kept

pub record AreRestored (m : AttrMap) (units left : ℕ) (start : List Cell) (d d' : Draft) (rest : List Cell) : Type 0 where
  pub written : GoesOn d d' (restored m (take (units - left) start)) (text_of (take (units - left) start))
  pub rest_is : rest ≡ drop (units - left) start
  pub within : left ≤ units

pub none_restored : (m : AttrMap) (units : ℕ) (start : List Cell) (d : Draft) → AreRestored m units units start d d start
none_restored m units start d =
    let z : 0 ≡ units - units = omega arith in
    record {
      written = subst (λ (k : ℕ). GoesOn d d (restored m (take k start)) (text_of (take k start))) z (nothing_written d);
      rest_is = ap (λ (k : ℕ). drop k start) z;
      within = omega arith;
    }

pub more_restored : (m b : AttrMap) (units left : ℕ) (start : List Cell) (d d' d'' : Draft) (rest rest' : List Cell) (a : AttrMap) (text : Text)
    → AreRestored m units left start d d' rest → IsPiece units left start rest rest' a text → b ≡ restoring a m → GoesOn d' d'' (paint_steps (length text) b) text
    → AreRestored m units (left - length text) start d d'' rest'
more_restored m b units left start d d' d'' rest rest' a text r p e g =
    let front = take (units - left) start in
    let here : GoesOn d' d'' (restored m (cells a text)) text = subst (λ (s : List Step). GoesOn d' d'' s text) (ap (paint_steps (length text)) e ∙ sym (restored_cells a m text)) g in
    let all : GoesOn d d'' (restored m front ++ restored m (cells a text)) (text_of front ++ text) = both_written d d' d'' (restored m front) (restored m (cells a text)) (text_of front) text (passed_restored m front ∙ sym (length-text_of front)) r.written here in
    let steps : restored m front ++ restored m (cells a text) ≡ restored m (front ++ cells a text) = sym (map-append (λ (c : Cell). Pass (Keep (restoring c.attrs m))) front (cells a text)) in
    let made : text_of front ++ text ≡ text_of (front ++ cells a text) = ap (λ us. text_of front ++ us) (sym (text_of-cells a text)) ∙ sym (map-append (λ (c : Cell). c.unit) front (cells a text)) in
    record {
      written = subst (λ cs. GoesOn d d'' (restored m cs) (text_of cs)) (sym (piece_taken units left start rest rest' a text p)) (subst (λ (x : List Step × Text). GoesOn d d'' x.0 x.1) (λ i. (steps i, made i)) all);
      rest_is = piece_dropped units left start rest rest' a text p;
      within = omega (arith, p.within);
    }

pub restored_room : (m : AttrMap) (units left : ℕ) (start : List Cell) (d d' : Draft) (rest : List Cell) (n : ℕ) → AreRestored m units left start d d' rest → units ≤ length start → passed d.steps + units ≤ d.old → n ≤ left → passed d'.steps + n ≤ d'.old
restored_room m units left start d d' rest n r inside room h =
    omega (arith, r.written.old, ap passed r.written.steps, passed-append d.steps (restored m (take (units - left) start)), passed_restored m (take (units - left) start), length-take-le (units - left) start (omega (arith, inside)), r.within, room, h)

pub all_restored : (m : AttrMap) (units left : ℕ) (start : List Cell) (d d' : Draft) (rest : List Cell) → AreRestored m units left start d d' rest → left ≤ 0
    → GoesOn d d' (restored m (take units start)) (text_of (take units start)) × (rest ≡ drop units start)
all_restored m units left start d d' rest r h =
    let e : units - left ≡ units = omega arith in
    (subst (λ (k : ℕ). GoesOn d d' (restored m (take k start)) (text_of (take k start))) e r.written, r.rest_is ∙ ap (λ (k : ℕ). drop k start) e)

-- ---- inserted

pub record AreInserted (units left : ℕ) (start : List Cell) (d d' : Draft) (rest : List Cell) : Type 0 where
  pub written : GoesOn d d' (inserts (take (units - left) start)) []
  pub rest_is : rest ≡ drop (units - left) start
  pub within : left ≤ units

pub none_inserted : (units : ℕ) (start : List Cell) (d : Draft) → AreInserted units units start d d start
none_inserted units start d =
    let z : 0 ≡ units - units = omega arith in
    record { written = subst (λ (k : ℕ). GoesOn d d (inserts (take k start)) []) z (nothing_written d); rest_is = ap (λ (k : ℕ). drop k start) z; within = omega arith }

pub maps_dropped : (k : ℕ) (cs : List Cell) → HasNoEmpty cs → HasNoEmpty (drop k cs)
maps_dropped zero cs h = h
maps_dropped (suc k) [] h = tt
maps_dropped (suc k) (c ∷ cs) h = maps_dropped k cs h.1

first_map : (a : AttrMap) (text : Text) (rest : List Cell) → 1 ≤ length text → HasNoEmpty (cells a text ++ rest) → a ≡ after none a
first_map a [] rest h maps = absurd (omega (arith, h))
first_map a (u ∷ text) rest h maps = maps.0

pub more_inserted : (units left : ℕ) (start : List Cell) (d d' d'' : Draft) (rest rest' : List Cell) (a : AttrMap) (text : Text)
    → AreInserted units left start d d' rest → IsPiece units left start rest rest' a text → HasNoEmpty start → GoesOn d' d'' (inserts (cells (after none a) text)) []
    → AreInserted units (left - length text) start d d'' rest'
more_inserted units left start d d' d'' rest rest' a text r p maps g =
    let front = take (units - left) start in
    let own : a ≡ after none a = first_map a text rest' p.some (subst HasNoEmpty (sym p.rest_is ∙ p.piece) (maps_dropped (units - left) start maps)) in
    let here : GoesOn d' d'' (inserts (cells a text)) [] = subst (λ (b : AttrMap). GoesOn d' d'' (inserts (cells b text)) []) (sym own) g in
    let all : GoesOn d d'' (inserts front ++ inserts (cells a text)) [] = both_written d d' d'' (inserts front) (inserts (cells a text)) [] [] (passed_new front) r.written here in
    record {
      written = subst (λ cs. GoesOn d d'' (inserts cs) []) (sym (piece_taken units left start rest rest' a text p)) (subst (λ (s : List Step). GoesOn d d'' s []) (sym (map-append Insert front (cells a text))) all);
      rest_is = piece_dropped units left start rest rest' a text p;
      within = omega (arith, p.within);
    }

inserted_new : (cs : List Cell) → inserted_by (inserts cs) ≡ length cs
inserted_new [] = refl
inserted_new (c ∷ cs) = omega (arith, inserted_new cs)

pub inserted_room : (units left : ℕ) (start : List Cell) (d d' : Draft) (rest : List Cell) (n : ℕ) → AreInserted units left start d d' rest → units ≤ length start → inserted_by d.steps + units < 2 ^ 32 → n ≤ left → inserted_by d'.steps + n < 2 ^ 32
inserted_room units left start d d' rest n r inside room h =
    omega (arith, ap inserted_by r.written.steps, inserted-append d.steps (inserts (take (units - left) start)), inserted_new (take (units - left) start), length-take-le (units - left) start (omega (arith, inside)), r.within, room, h)

pub all_inserted : (units left : ℕ) (start : List Cell) (d d' : Draft) (rest : List Cell) → AreInserted units left start d d' rest → left ≤ 0 → GoesOn d d' (inserts (take units start)) [] × (rest ≡ drop units start)
all_inserted units left start d d' rest r h =
    let e : units - left ≡ units = omega arith in
    (subst (λ (k : ℕ). GoesOn d d' (inserts (take k start)) []) e r.written, r.rest_is ∙ ap (λ (k : ℕ). drop k start) e)

-- ---- whole runs

pub as_kind : (k j : Kind) (n lines : ℕ) (text : Text) (cs : List Cell) (d : Draft) → k ≡ j → CanUndo k n lines text cs d → CanUndo j n lines text cs d
as_kind k j n lines text cs d e h = subst (λ (i : Kind). CanUndo i n lines text cs d) e h

taken_text : (n : ℕ) (cs : List Cell) → n ≤ length cs → length (text_of (take n cs)) ≡ n
taken_text n cs h = length-text_of (take n cs) ∙ length-take-le n cs h

pub lines_kept : (n lines : ℕ) (text : Text) (cs : List Cell) (d : Draft) → CanUndo kind.Keep n lines text cs d → lines ≤ n
lines_kept n lines text cs d h = omega (arith, lined_within lines (text_of (take n cs)) h.2, taken_text n cs h.1)

pub lines_new : (n lines : ℕ) (text : Text) (cs : List Cell) (d : Draft) → CanUndo kind.Insert n lines text cs d → lines ≤ n
lines_new n lines text cs d h = omega (arith, lined_within lines text h.2, h.1)

restored_bare : (cs : List Cell) → restored none cs ≡ paint_steps (length cs) none
restored_bare [] = refl
restored_bare (c ∷ cs) = ap₂ (λ (m : AttrMap) (s : List Step). Pass (Keep m) ∷ s) (restoring-none c.attrs) (restored_bare cs)

-- cells that are kept as they are
pub bare_kept : (n lines : ℕ) (m : AttrMap) (text : Text) (cs : List Cell) (d : Draft) → is_none m ≡ true → CanUndo kind.Keep n lines text cs d
    → GoesOn d (keeping d n lines m) (restored m (take n cs)) (text_of (take n cs))
bare_kept n lines m text cs d e h =
    let nothing : m ≡ none = exact_map m none e in
    let steps : paint_steps n none ≡ restored none (take n cs) = ap (λ (k : ℕ). paint_steps k none) (sym (length-take-le n cs h.1)) ∙ sym (restored_bare (take n cs)) in
    subst (λ (m : AttrMap). GoesOn d (keeping d n lines m) (restored m (take n cs)) (text_of (take n cs))) (sym nothing)
    (subst (λ (s : List Step). GoesOn d (keeping d n lines none) s (text_of (take n cs))) steps (lined_kept d (text_of (take n cs)) n lines none (taken_text n cs h.1) h.0 h.2))

-- new units are dropped
pub new_dropped : (k : Kind) (n lines : ℕ) (m : AttrMap) (text : Text) (cs : List Cell) (d : Draft) → k ≡ kind.Insert → CanUndo kind.Insert n lines text cs d
    → GoesOn d (dropping d n lines) (undone k n m (take (passed_by k n) cs)) (left_by k text (take (passed_by k n) cs))
new_dropped k n lines m text cs d e h =
    subst (λ (k : Kind). GoesOn d (dropping d n lines) (undone k n m (take (passed_by k n) cs)) (left_by k text (take (passed_by k n) cs))) (sym e) (lined_dropped d text n lines h.1 h.0 h.2)
