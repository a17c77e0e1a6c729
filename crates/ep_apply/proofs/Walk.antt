-- A walk over runs.
use Rattle.std.proofs.Common.{◌≡◌, ℕ, zero, suc, ◌+◌, ◌-◌, ◌<◌, ◌≤◌, ◌^◌, List, [], ◌∷◌, ◌++◌, map, length, take, drop, replicate, get_or, refl, sym, ap, ◌∙◌, arith, append_assoc, drop-drop, length-drop, length-append, take-append-drop}
use Rattle.std.proofs.lemmas.List.{drop_more, drop_all, length-map}
use Rattle.ep_units.specs.Text.{Text}
use Rattle.ep_attr.specs.AttrMap.{AttrMap, none}
use Rattle.ep_cs.specs.Doc.{Cell, painted}
use Rattle.ep_cs.specs.Edit.{Fate, Place, Step, Edit, edit_of, apply, over, at_place, painted_item, numbered}
use Rattle.ep_cs.specs.Edit.Item.{New}
use Rattle.ep_cs.specs.Edit.Fate.{Drop, Keep}
use Rattle.ep_cs.specs.Edit.Step.{Pass}
use Rattle.ep_cs.specs.Steps.{run}
use Rattle.ep_cs.proofs.Composed.{run_inserts, over-settle}
use Rattle.ep_cs.specs.declared.op.Kind.{Kind}
use Rattle.ep_cs.specs.declared.op.Kind.TheVariants as kind
use Rattle.ep_cs.specs.declared.op.Op.{Op}
use Rattle.ep_cs.specs.Runs.{cells, inserted, passed, run_steps, op_steps, steps_of, all_passed, all_inserted, rest_kept}
use Rattle.ep_cs.specs.Change.{Change, change_of, bank_of}
use Rattle.ep_cs.specs.Fits.{Fits}
use Rattle.ep_cs.specs.NormalRuns.{IsRun, AreNormal, IsNormal}
use Rattle.ep_cs.specs.Spelling.{new_len}
use Rattle.ep_cs.proofs.Items.{length-numbered}
use Rattle.ep_apply.specs.Makes.{run_makes}

-- runs over n units, with their bank
pub record AreRuns (n : ℕ) (ops : List Op) (bank : Text) : Type 0 where
  pub inside : all_passed ops ≤ n
  pub all_used : all_inserted ops ≡ length bank

same_cells : (cs : List Cell) → map (λ (c : Cell). c) cs ≡ cs
same_cells [] = refl
same_cells (c ∷ cs) = ap (λ ds. c ∷ ds) (same_cells cs)

-- what steps make of cells
abbrev pub made : List Step → List Cell → List Cell
made steps cs = run painted (λ c. c) steps cs

pub apply-made : (steps : List Step) (doc : List Cell) → apply (edit_of steps) doc ≡ made steps doc
apply-made steps doc = over-settle painted (λ c. c) [] steps doc

made_kept : (n : ℕ) (m : AttrMap) (steps : List Step) (cs : List Cell) → n ≤ length cs → made (replicate n (Pass (Keep m)) ++ steps) cs ≡ map (λ c. painted c m) (take n cs) ++ made steps (drop n cs)
made_kept zero m steps cs h = refl
made_kept (suc n) m steps [] h = absurd (omega arith)
made_kept (suc n) m steps (c ∷ cs) h = ap (λ ds. painted c m ∷ ds) (made_kept n m steps cs (omega arith))

made_dropped : (n : ℕ) (steps : List Step) (cs : List Cell) → n ≤ length cs → made (replicate n (Pass Drop) ++ steps) cs ≡ made steps (drop n cs)
made_dropped zero steps cs h = refl
made_dropped (suc n) steps [] h = absurd (omega arith)
made_dropped (suc n) steps (c ∷ cs) h = made_dropped n steps cs (omega arith)

-- one run, and what follows
pub made_run : (k : Kind) (n : ℕ) (m : AttrMap) (text : Text) (steps : List Step) (cs : List Cell) → passed k n ≤ length cs
    → made (run_steps k n m text ++ steps) cs ≡ run_makes k m text (take (passed k n) cs) ++ made steps (drop (passed k n) cs)
made_run kind.Keep n m text steps cs h = made_kept n m steps cs h
made_run kind.Drop n m text steps cs h = made_dropped n steps cs h
made_run kind.Insert n m text steps cs h = run_inserts painted (λ c. c) (cells m text) steps cs ∙ ap (λ ds. ds ++ made steps cs) (same_cells (cells m text))

pub all_passed_more : (ops : List Op) (i : ℕ) (o : Op) → i < length ops → o ≡ get_or ops i o → all_passed (drop i ops) ≡ passed o.kind o.units + all_passed (drop (i + 1) ops)
all_passed_more ops i o h e = ap all_passed (drop_more ops i o h) ∙ ap (λ (p : Op). passed p.kind p.units + all_passed (drop (i + 1) ops)) (sym e)

pub all_inserted_more : (ops : List Op) (i : ℕ) (o : Op) → i < length ops → o ≡ get_or ops i o → all_inserted (drop i ops) ≡ inserted o.kind o.units + all_inserted (drop (i + 1) ops)
all_inserted_more ops i o h e = ap all_inserted (drop_more ops i o h) ∙ ap (λ (p : Op). inserted p.kind p.units + all_inserted (drop (i + 1) ops)) (sym e)

-- where a walk over runs is: `at` old units and `used` units of the bank are behind it
pub record IsAt (ops : List Op) (bank : Text) (doc : List Cell) (out : List Cell) (i at used : ℕ) : Type 0 where
  pub inside : at + all_passed (drop i ops) ≡ all_passed ops
  pub all_used : used + all_inserted (drop i ops) ≡ length bank
  pub so_far : out ++ made (steps_of (drop i ops) (drop used bank) ++ rest_kept (length doc - all_passed ops)) (drop at doc) ≡ made (steps_of ops bank ++ rest_kept (length doc - all_passed ops)) doc

-- a step of the walk
walk_step : (ops : List Op) (bank : Text) (doc : List Cell) (out made_now : List Cell) (i at used next next_used : ℕ) (o : Op)
    → AreRuns (length doc) ops bank → IsAt ops bank doc out i at used → i < length ops → o ≡ get_or ops i o
    → next ≡ at + passed o.kind o.units → next_used ≡ used + inserted o.kind o.units
    → made_now ≡ run_makes o.kind o.attrs (take (inserted o.kind o.units) (drop used bank)) (take (passed o.kind o.units) (drop at doc))
    → IsAt ops bank doc (out ++ made_now) (i + 1) next next_used
walk_step ops bank doc out made_now i at used next next_used o runs is h e next_is next_used_is made_is =
    let a = all_passed_more ops i o h e in
    let b = all_inserted_more ops i o h e in
    let n = passed o.kind o.units in
    let k = inserted o.kind o.units in
    let tail = rest_kept (length doc - all_passed ops) in
    let room : n ≤ length (drop at doc) = omega (arith, length-drop at doc, runs.inside, is.inside, a) in
    record {
      inside = omega (arith, is.inside, a, next_is);
      all_used = omega (arith, is.all_used, b, next_used_is);
      so_far =
          append_assoc out made_now _
          ∙ ap (λ made_here. out ++ made_here)
          (ap (λ m. m ++ made (steps_of (drop (i + 1) ops) (drop next_used bank) ++ tail) (drop next doc)) made_is
          ∙ ap (λ (x : ℕ × ℕ). run_makes o.kind o.attrs (take k (drop used bank)) (take n (drop at doc)) ++ made (steps_of (drop (i + 1) ops) (drop x.0 bank) ++ tail) (drop x.1 doc)) (λ j. (next_used_is j, next_is j))
          ∙ ap (λ (x : List ℕ × List Cell). run_makes o.kind o.attrs (take k (drop used bank)) (take n (drop at doc)) ++ made (steps_of (drop (i + 1) ops) x.0 ++ tail) x.1)
          (λ j. (sym (drop-drop k used bank) j, sym (drop-drop n at doc) j))
          ∙ sym (made_run o.kind o.units o.attrs (take k (drop used bank)) (steps_of (drop (i + 1) ops) (drop k (drop used bank)) ++ tail) (drop at doc) room)
          ∙ ap (λ steps. made steps (drop at doc)) (sym (append_assoc (op_steps o (take k (drop used bank))) (steps_of (drop (i + 1) ops) (drop k (drop used bank))) tail))
          ∙ ap (λ os. made (steps_of os (drop used bank) ++ tail) (drop at doc)) (ap (λ p. p ∷ drop (i + 1) ops) e ∙ sym (drop_more ops i o h)))
          ∙ is.so_far;
    }

-- a step of the walk, as a loop takes it
pub walk_more : (ops : List Op) (bank : Text) (doc : List Cell) (out new_out : List Cell) (i at used p k : ℕ) (o : Op)
    → AreRuns (length doc) ops bank → IsAt ops bank doc out i at used → i < length ops → o ≡ get_or ops i o
    → p ≡ passed o.kind o.units → k ≡ inserted o.kind o.units
    → new_out ≡ out ++ run_makes o.kind o.attrs (take (used + k - used) (drop used bank)) (take (at + p - at) (drop at doc))
    → IsAt ops bank doc new_out (i + 1) (at + p) (used + k)
walk_more ops bank doc out new_out i at used p k o runs is h e p_is k_is out_is =
    let ks : used + k - used ≡ inserted o.kind o.units = omega (arith, k_is) in
    let ps : at + p - at ≡ passed o.kind o.units = omega (arith, p_is) in
    rw out_is
    (walk_step ops bank doc out _ i at used (at + p) (used + k) o runs is h e (ap (λ n. at + n) p_is) (ap (λ n. used + n) k_is)
    (λ j. run_makes o.kind o.attrs (take (ks j) (drop used bank)) (take (ps j) (drop at doc))))

pub made_rest : (n : ℕ) (cs : List Cell) → length cs ≤ n → made (rest_kept n) cs ≡ map (λ c. painted c none) cs
made_rest zero [] h = refl
made_rest zero (c ∷ cs) h = absurd (omega arith)
made_rest (suc n) [] h = made_rest n [] (omega arith)
made_rest (suc n) (c ∷ cs) h = ap (λ ds. painted c none ∷ ds) (made_rest n cs (omega arith))

-- the end of the walk
pub walk_all : (ops : List Op) (bank : Text) (doc : List Cell) (out new_out : List Cell) (i at used : ℕ)
    → AreRuns (length doc) ops bank → IsAt ops bank doc out i at used → length ops ≤ i
    → new_out ≡ out ++ map (λ c. painted c none) (drop at doc)
    → new_out ≡ apply (change_of (length doc) ops bank).edit doc
walk_all ops bank doc out new_out i at used runs is h out_is =
    let nothing : drop i ops ≡ [] = drop_all i ops h in
    let passed_all : all_passed (drop i ops) ≡ 0 = ap all_passed nothing in
    out_is ∙ ap (λ ds. out ++ ds) (sym (made_rest (length doc - all_passed ops) (drop at doc) (omega (arith, length-drop at doc, is.inside, passed_all))))
    ∙ ap (λ os. out ++ made (steps_of os (drop used bank) ++ rest_kept (length doc - all_passed ops)) (drop at doc)) (sym nothing)
    ∙ is.so_far
    ∙ sym (apply-made (steps_of ops bank ++ rest_kept (length doc - all_passed ops)) doc)

-- ---- a walk over the runs of a change, on a document that it fits

pub record IsOn (ops : List Op) (bank : Text) (doc out rest : List Cell) (i at used : ℕ) : Type 0 where
  pub place : IsAt ops bank doc out i at used
  pub rest_is : rest ≡ drop at doc

over_length : {X Y : Type 0} (kept : X → AttrMap → X) (new : Cell → X) (kept' : Y → AttrMap → Y) (new' : Cell → Y) (ps : List Place) (last : List Cell) (xs : List X) (ys : List Y)
    → length xs ≡ length ys → length (over kept new ps last xs) ≡ length (over kept' new' ps last ys)
over_length kept new kept' new' [] last xs ys e = length-map last new ∙ sym (length-map last new')
over_length kept new kept' new' (p ∷ ps) last [] [] e = omega (arith, length-append (map new p.before) (over kept new ps last []), length-append (map new' p.before) (over kept' new' ps last []), length-map p.before new, length-map p.before new', over_length kept new kept' new' ps last [] [] refl)
over_length kept new kept' new' (p ∷ ps) last [] (y ∷ ys) e = absurd (omega (arith, e))
over_length kept new kept' new' (p ∷ ps) last (x ∷ xs) [] e = absurd (omega (arith, e))
over_length kept new kept' new' (p ∷ ps) last (x ∷ xs) (y ∷ ys) e =
    omega (arith, length-append (map new p.before) (at_place kept new p.fate x ++ over kept new ps last xs), length-append (map new' p.before) (at_place kept' new' p.fate y ++ over kept' new' ps last ys), length-map p.before new, length-map p.before new', length-append (at_place kept new p.fate x) (over kept new ps last xs), length-append (at_place kept' new' p.fate y) (over kept' new' ps last ys), one p.fate, over_length kept new kept' new' ps last xs ys (omega (arith, e)))
  where
    one : (f : Fate) → length (at_place kept new f x) ≡ length (at_place kept' new' f y)
    one Drop = refl
    one (Keep m) = refl

pub length_after : (e : Edit) (doc : List Cell) → length doc ≡ length e.places → length (apply e doc) ≡ new_len e
length_after e doc h = over_length painted (λ c. c) painted_item New e.places e.last doc (numbered 0 (length e.places)) (h ∙ sym (length-numbered 0 (length e.places)))

bank_used : (os : List Op) (bank : Text) → AreNormal os bank → all_inserted os ≡ length bank
bank_used [] bank h = sym (ap length h)
bank_used (o ∷ os) bank h = go o.kind h.0 (λ b n. bank_used os b n) h.2
  where
    go : (k : Kind) → IsRun k o.units o.lines o.attrs (take (inserted k o.units) bank) → ((b : Text) → AreNormal os b → all_inserted os ≡ length b) → AreNormal os (drop (inserted k o.units) bank) → inserted k o.units + all_inserted os ≡ length bank
    go kind.Keep is again n = omega (arith, again bank n)
    go kind.Drop is again n = omega (arith, again bank n)
    go kind.Insert is again n =
        let parts : take o.units bank ++ drop o.units bank ≡ bank = take-append-drop o.units bank in
        omega (arith, again (drop o.units bank) n, is.0, length-append (take o.units bank) (drop o.units bank), ap length parts)

pub record IsWalk (c : Change) (doc : List Cell) (ops : List Op) (bank : Text) : Type 0 where
  pub runs : AreRuns (length doc) ops bank
  pub whole : apply (change_of (length doc) ops bank).edit doc ≡ apply c.edit doc
  pub short : length (apply c.edit doc) < 2 ^ 32

pub walk_of : (c : Change) (doc : List Cell) (ops : List Op) (bank : Text) → IsNormal c → Fits c doc → ops ≡ c.runs → bank ≡ bank_of c.edit → IsWalk c doc ops bank
walk_of c doc ops bank n f o b =
    let e : change_of (length doc) ops bank ≡ c = (λ i. change_of (f.length i) (o i) (b i)) ∙ sym n.is in
    record {
      runs = record { inside = omega (arith, ap all_passed o, n.inside, f.length); all_used = ap all_inserted o ∙ bank_used c.runs (bank_of c.edit) n.normal ∙ sym (ap length b) };
      whole = ap (λ (x : Change). apply x.edit doc) e;
      short = omega (arith, length_after c.edit doc f.length, n.new);
    }

-- room for the next run
pub record HasRun (bank : Text) (doc rest : List Cell) (at used : ℕ) (o : Op) : Type 0 where
  pub bank_left : used + inserted o.kind o.units ≤ length bank
  pub doc_left : at + passed o.kind o.units ≤ length doc
  pub inside : passed o.kind o.units ≤ length rest

pub next_run : (c : Change) (doc : List Cell) (ops : List Op) (bank : Text) (out rest : List Cell) (i at used : ℕ) (o : Op) → IsWalk c doc ops bank → IsOn ops bank doc out rest i at used → i < length ops → o ≡ get_or ops i o → HasRun bank doc rest at used o
next_run c doc ops bank out rest i at used o w on h e =
    let a = all_passed_more ops i o h e in
    let b = all_inserted_more ops i o h e in
    record {
      bank_left = omega (arith, on.place.all_used, b);
      doc_left = omega (arith, on.place.inside, a, w.runs.inside);
      inside = omega (arith, ap length on.rest_is, length-drop at doc, on.place.inside, a, w.runs.inside);
    }

fewer : (out made_now later whole : List Cell) → (out ++ made_now) ++ later ≡ whole → length out + length made_now ≤ length whole
fewer out made_now later whole e = omega (arith, ap length e, length-append (out ++ made_now) later, length-append out made_now)

-- the document stays short enough
pub run_short : (c : Change) (doc : List Cell) (ops : List Op) (bank : Text) (out rest : List Cell) (i at used : ℕ) (o : Op) → IsWalk c doc ops bank → IsOn ops bank doc out rest i at used → i < length ops → o ≡ get_or ops i o
    → length out + length (run_makes o.kind o.attrs (take (inserted o.kind o.units) (drop used bank)) (take (passed o.kind o.units) rest)) < 2 ^ 32
run_short c doc ops bank out rest i at used o w on h e =
    let now = run_makes o.kind o.attrs (take (inserted o.kind o.units) (drop used bank)) (take (passed o.kind o.units) rest) in
    let step = walk_step ops bank doc out now i at used _ _ o w.runs on.place h e refl refl (ap (λ cs. run_makes o.kind o.attrs (take (inserted o.kind o.units) (drop used bank)) (take (passed o.kind o.units) cs)) on.rest_is) in
    let all : length out + length now ≤ length (apply c.edit doc) = fewer out now _ (apply c.edit doc) (step.so_far ∙ sym (apply-made _ doc) ∙ w.whole) in
    omega (arith, all, w.short)

pub begin : (c : Change) (doc : List Cell) (ops : List Op) (bank : Text) (out rest : List Cell) → IsWalk c doc ops bank → out ≡ [] → rest ≡ doc → IsOn ops bank doc out rest 0 0 0
begin c doc ops bank out rest w o r = record {
  place = record {
    inside = omega arith;
    all_used = omega (arith, w.runs.all_used);
    so_far = ap (λ cs. cs ++ made (steps_of ops bank ++ rest_kept (length doc - all_passed ops)) doc) o;
  };
  rest_is = r;
}

pub go_on : (c : Change) (doc : List Cell) (ops : List Op) (bank : Text) (out rest new_out new_rest : List Cell) (i at used p k : ℕ) (o : Op)
    → IsWalk c doc ops bank → IsOn ops bank doc out rest i at used → i < length ops → o ≡ get_or ops i o → p ≡ passed o.kind o.units → k ≡ inserted o.kind o.units
    → new_out ≡ out ++ run_makes o.kind o.attrs (take (used + k - used) (drop used bank)) (take (passed o.kind o.units) rest)
    → new_rest ≡ drop (passed o.kind o.units) rest → IsOn ops bank doc new_out new_rest (i + 1) (at + p) (used + k)
go_on c doc ops bank out rest new_out new_rest i at used p k o w on h e p_is k_is out_is rest_is =
    let ps : passed o.kind o.units ≡ at + p - at = omega (arith, p_is) in
    record {
      place =
          walk_more ops bank doc out new_out i at used p k o w.runs on.place h e p_is k_is
          (out_is ∙ (λ j. out ++ run_makes o.kind o.attrs (take (used + k - used) (drop used bank)) (take (ps j) (on.rest_is j))));
      rest_is = rest_is ∙ ap (drop (passed o.kind o.units)) on.rest_is ∙ drop-drop (passed o.kind o.units) at doc ∙ ap (λ (n : ℕ). drop (at + n) doc) (sym p_is);
    }

pub over_all : (c : Change) (doc : List Cell) (ops : List Op) (bank : Text) (out rest new_out : List Cell) (i at used : ℕ) → IsWalk c doc ops bank → IsOn ops bank doc out rest i at used → length ops ≤ i
    → new_out ≡ out ++ map (λ c. painted c none) (drop at doc) → new_out ≡ apply c.edit doc
over_all c doc ops bank out rest new_out i at used w on h e = walk_all ops bank doc out new_out i at used w.runs on.place h e ∙ w.whole

pub end_short : (c : Change) (doc : List Cell) (ops : List Op) (bank : Text) (out rest : List Cell) (i at used : ℕ) → IsWalk c doc ops bank → IsOn ops bank doc out rest i at used → length ops ≤ i
    → length out + (length doc - at) < 2 ^ 32
end_short c doc ops bank out rest i at used w on h =
    let e = over_all c doc ops bank out rest (out ++ map (λ c. painted c none) (drop at doc)) i at used w on h refl in
    omega (arith, ap length e, length-append out (map (λ c. painted c none) (drop at doc)), length-map (drop at doc) (λ c. painted c none), length-drop at doc, w.short)
