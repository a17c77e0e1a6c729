-- What is printed is read as the same change.
use Rattle.std.proofs.Common.{◌≡◌, ℕ, ◌+◌, ◌-◌, ◌<◌, ◌≤◌, Bool, true, false, cond, List, [], ◌∷◌, ◌++◌, map, length, nat_lt, nat_le, take, drop, Result, Ok, refl, sym, ap, ap₂, ◌∙◌, subst, arith}
use Rattle.std.proofs.lemmas.Bool.Decides.{nat_tests}
use Rattle.ep_units.specs.Text.{Text}
use Rattle.ep_units.specs.Base36.{write36}
use Rattle.ep_attr.specs.AttrMap.{Pair}
use Rattle.ep_cs.specs.Edit.{Edit}
use Rattle.ep_cs.specs.declared.op.Kind.{Kind}
use Rattle.ep_cs.specs.declared.op.Kind.TheVariants as kinds
use Rattle.ep_cs.specs.declared.op.Op.{Op}
use Rattle.ep_cs.specs.Runs.{inserted, all_inserted, all_passed, run_steps, steps_of, marks_of}
use Rattle.ep_cs.specs.Change.{Change, change_of, bank_of}
use Rattle.ep_cs.specs.Draft.{Draft, dropped_by, inserted_by}
use Rattle.ep_cs.specs.Fits.{AreDocuments}
use Rattle.ep_cs.specs.NormalRuns.{IsRun, AreNormal, IsNormal}
use Rattle.ep_cs.specs.Spelling.{op_text, difference_text, new_len}
use Rattle.ep_cs.proofs.Drafts.{passed_are, drafted_is, new_length_is, dropped-append, inserted-append, dropped_times, inserted_times, kept_times, inserted_units}
use Rattle.ep_csread.specs.declared.bad.ReadBad.{ReadBad}
use Rattle.ep_csread.specs.Reading.{dropped, all_dropped, reading, reading_attribs}
use Rattle.ep_csread.specs.Spelling.{numbers_in, has_pairs, ops_text, printed}
use Rattle.ep_csread.proofs.Again.{sign_text, ops_text as numbered_text}
use Rattle.ep_csread.proofs.Maps.{numbered}
use Rattle.ep_csread.proofs.Round.{IsSpelled, spelled_runs, new_length, read_again, read_again_alone, all_inserts, all_there, all_maps, small_ops}
use Rattle.ep_csread.proofs.Halves.{halves_meet}

-- ---- the two ways in which the spelling is known

difference_is : (old new : ℕ) (rest : Text) → difference_text old new ++ rest ≡ sign_text (nat_lt new old) ∷ (write36 (cond (nat_lt new old) (old - new) (new - old)) ++ rest)
difference_is old new rest = go (nat_le old new) (nat_lt new old) refl refl
  where
    go : (b c : Bool) → nat_le old new ≡ b → nat_lt new old ≡ c → cond b (62 ∷ write36 (new - old)) (60 ∷ write36 (old - new)) ++ rest ≡ sign_text c ∷ (write36 (cond c (old - new) (new - old)) ++ rest)
    go true false e f = refl
    go false true e f = refl
    go true true e f = absurd (let l : old ≤ new = grind (arith, nat_tests) in let m : new < old = grind (arith, nat_tests) in omega arith)
    go false false e f = absurd (let l : new < old = grind (arith, nat_tests) in let m : old ≤ new = grind (arith, nat_tests) in omega arith)

pub ops_are : (pool : List Pair) (os : List Op) → ops_text pool os ≡ numbered_text (map (numbered pool) os)
ops_are pool [] = refl
ops_are pool (o ∷ os) = ap (λ (t : Text). op_text (numbers_in pool o.attrs) o ++ t) (ops_are pool os)

printed_is : (pool : List Pair) (c : Change) → new_len c.edit ≡ new_length (length c.edit.places) c.runs → printed pool c ≡ spelled_runs pool (length c.edit.places) c.runs (bank_of c.edit)
printed_is pool c new =
    ap (λ (n : ℕ). 90 ∷ 58 ∷ (write36 old ++ (difference_text old n ++ (ops_text pool c.runs ++ 36 ∷ bank_of c.edit)))) new
    ∙ ap (λ (t : Text). 90 ∷ 58 ∷ (write36 old ++ t)) (difference_is old (new_length old c.runs) (ops_text pool c.runs ++ 36 ∷ bank_of c.edit))
    ∙ ap (λ (t : Text). 90 ∷ 58 ∷ (write36 old ++ sign_text (nat_lt (new_length old c.runs) old) ∷ (write36 (cond (nat_lt (new_length old c.runs) old) (old - new_length old c.runs) (new_length old c.runs - old)) ++ (t ++ 36 ∷ bank_of c.edit)))) (ops_are pool c.runs)
  where
    old : ℕ
    old = length c.edit.places

-- ---- the new length, by the runs

record Totals (os : List Op) (bank : Text) : Type 0 where
  dropped : dropped_by (steps_of os bank) ≡ all_dropped os
  inserted : inserted_by (steps_of os bank) ≡ all_inserted os

totals : (os : List Op) (bank : Text) → AreNormal os bank → Totals os bank
totals [] bank h = record { dropped = refl; inserted = refl }
totals (o ∷ os) bank h = let both = go o.kind h.0 (λ b n. totals os b n) h.2 in record { dropped = both.0; inserted = both.1 }
  where
    go : (k : Kind) → IsRun k o.units o.lines o.attrs (take (inserted k o.units) bank) → ((b : Text) → AreNormal os b → Totals os b) → AreNormal os (drop (inserted k o.units) bank)
        → (dropped_by (run_steps k o.units o.attrs (take (inserted k o.units) bank) ++ steps_of os (drop (inserted k o.units) bank)) ≡ dropped k o.units + all_dropped os)
        × (inserted_by (run_steps k o.units o.attrs (take (inserted k o.units) bank) ++ steps_of os (drop (inserted k o.units) bank)) ≡ inserted k o.units + all_inserted os)
    go kinds.Keep is again n =
        let rest = again bank n in
        let one = kept_times o.units o.attrs in
        let s = run_steps kinds.Keep o.units o.attrs [] in
        (dropped-append s (steps_of os bank) ∙ ap₂ (λ (x y : ℕ). x + y) one.0 rest.dropped, inserted-append s (steps_of os bank) ∙ ap₂ (λ (x y : ℕ). x + y) one.1 rest.inserted)
    go kinds.Drop is again n =
        let rest = again bank n in
        let s = run_steps kinds.Drop o.units o.attrs [] in (
          dropped-append s (steps_of os bank) ∙ ap₂ (λ (x y : ℕ). x + y) (dropped_times o.units) rest.dropped,
          inserted-append s (steps_of os bank) ∙ ap₂ (λ (x y : ℕ). x + y) (inserted_times o.units) rest.inserted,
        )
    go kinds.Insert is again n =
        let left = drop o.units bank in
        let rest = again left n in
        let one = inserted_units o.attrs (take o.units bank) in
        let s = run_steps kinds.Insert o.units o.attrs (take o.units bank) in (
          dropped-append s (steps_of os left) ∙ ap₂ (λ (x y : ℕ). x + y) one.0 rest.dropped,
          inserted-append s (steps_of os left) ∙ ap₂ (λ (x y : ℕ). x + y) (one.1 ∙ is.0) rest.inserted,
        )

-- ---- the whole

abbrev okays : Change → Result Change ReadBad
okays c = Ok c

abbrev draft : ℕ → List Op → Text → Draft
draft n os bank = record { old = n; steps = steps_of os bank; marks = marks_of os }

new_is : (c : Change) → IsNormal c → new_len c.edit ≡ new_length (length c.edit.places) c.runs
new_is c is =
    let t = totals c.runs bank is.normal in
    let inside = is.inside in
    let passed = passed_are c.runs bank in
    ap (λ (x : Change). new_len x.edit) (is.is ∙ sym (drafted_is old c.runs bank))
    ∙ new_length_is (draft old c.runs bank) (omega arith)
    ∙ ap₂ (λ (d i : ℕ). old - d + i) t.dropped t.inserted
  where
    old : ℕ
    old = length c.edit.places

    bank : Text
    bank = bank_of c.edit

pub is_spelled : (pool : List Pair) (c : Change) → length pool < 4294967296 → has_pairs pool c.runs ≡ true → IsNormal c → IsSpelled pool (length c.edit.places) c.runs (bank_of c.edit)
is_spelled pool c few all is =
    let old_small = is.old in
    let new_small = is.new in
    let inside = is.inside in
    let new = new_is c is in
    record {
      normal = is.normal;
      lined = is.lined;
      inside = is.inside;
      old_small = is.old;
      new_small = omega arith;
      small = small_ops pool c.runs 4294967295 (omega arith) is.lined (omega arith) (omega arith) (omega arith);
      maps = all_maps pool c.runs (bank_of c.edit) all is.normal;
      pairs = halves_meet (steps_of c.runs (bank_of c.edit)) (length c.edit.places - all_passed c.runs) (subst (λ (e : Edit). AreDocuments e.places e.last) (ap (λ (x : Change). x.edit) is.is) is.pieces);
    }

pub printed_read : (pool : List Pair) (c : Change) → length pool < 4294967296 → has_pairs pool c.runs ≡ true → IsNormal c → reading pool (printed pool c) ≡ Ok c
printed_read pool c few all is =
    ap (reading pool) (printed_is pool c (new_is c is)) ∙ read_again pool (length c.edit.places) c.runs (bank_of c.edit) (is_spelled pool c few all is) ∙ ap okays (sym is.is)

-- a whole text is read again from its operations alone
pub attribs_read : (pool : List Pair) (c : Change) → length pool < 4294967296 → has_pairs pool c.runs ≡ true → IsNormal c → length c.edit.places ≡ 0 → reading_attribs pool (bank_of c.edit) (ops_text pool c.runs) ≡ Ok c
attribs_read pool c few all is empty =
    let spelled = subst (λ n. IsSpelled pool n c.runs (bank_of c.edit)) empty (is_spelled pool c few all is) in
    let inside = spelled.inside in
    let small = spelled.new_small in
    let whole = all_there c.runs (bank_of c.edit) is.normal in
    ap (reading_attribs pool (bank_of c.edit)) (ops_are pool c.runs)
    ∙ read_again_alone pool c.runs (bank_of c.edit) spelled (all_inserts pool c.runs (bank_of c.edit) is.normal inside) (omega arith)
    ∙ ap (λ (n : ℕ). okays (change_of n c.runs (bank_of c.edit))) (sym empty)
    ∙ ap okays (sym is.is)
