-- Runs that are one splice of a document.
use Rattle.std.proofs.Common.{◌≡◌, ℕ, ◌+◌, ◌-◌, ◌<◌, ◌≤◌, true, List, [], ◌∷◌, ◌++◌, length, take, drop, take_all, get_or, refl, sym, ap, ◌∙◌, subst, arith, append_assoc, append-nil, length-drop, drop-drop}
use Rattle.std.proofs.Math.Seq.{take-add}
use Rattle.ep_units.specs.Text.{Text}
use Rattle.ep_attr.specs.AttrMap.{AttrMap, is_none}
use Rattle.ep_cs.specs.Doc.{Cell}
use Rattle.ep_cs.specs.Edit.{Step}
use Rattle.ep_cs.specs.Runs.{cells, inserted, passed, run_steps, steps_of, all_passed, all_inserted, rest_kept}
use Rattle.ep_cs.specs.declared.op.Kind.{Kind}
use Rattle.ep_cs.specs.declared.op.Kind.TheVariants as kind
use Rattle.ep_cs.specs.declared.op.Op.{Op}
use Rattle.ep_apply.specs.Splices.{AreBare, BeginWith, AreSplice}
use Rattle.ep_apply.proofs.Painted.{bare, painted_bare}
use Rattle.ep_apply.proofs.Walk.{made, made_run, made_rest, apply-made}

-- ---- runs of one kind

pub bare_append : (k : Kind) (os ps : List Op) → AreBare k os → AreBare k ps → AreBare k (os ++ ps)
bare_append k [] ps h g = g
bare_append k (o ∷ os) ps h g = (h.0, h.1, bare_append k os ps h.2 g)

pub passed_append : (os ps : List Op) → all_passed (os ++ ps) ≡ all_passed os + all_passed ps
passed_append [] ps = omega arith
passed_append (o ∷ os) ps = ap (λ n. passed o.kind o.units + n) (passed_append os ps) ∙ omega arith

-- the next run of that kind
pub first_more : (k : Kind) (ops rest later : List Op) (units p : ℕ) (o : Op) → BeginWith k ops units rest → rest ≡ o ∷ later → p ≡ passed o.kind o.units → o.kind ≡ k → is_none o.attrs ≡ true → BeginWith k ops (units + p) later
first_more k ops rest later units p o b e n h m = record {
  first = b.first ++ (o ∷ []);
  all = b.all ∙ ap (λ os. b.first ++ os) e ∙ sym (append_assoc b.first (o ∷ []) later);
  bare = bare_append k b.first (o ∷ []) b.bare (h, m, tt);
  passed = omega (arith, b.passed, n, passed_append b.first (o ∷ []));
}

pub first_within : (k : Kind) (ops rest later : List Op) (units p : ℕ) (o : Op) → BeginWith k ops units rest → rest ≡ o ∷ later → p ≡ passed o.kind o.units → units + p ≤ all_passed ops
first_within k ops rest later units p o b e n = omega (arith, b.passed, n, ap all_passed b.all, passed_append b.first rest, ap all_passed e)

pub rest_within : (k : Kind) (ops rest : List Op) (units : ℕ) → BeginWith k ops units rest → all_passed rest ≤ all_passed ops
rest_within k ops rest units b = omega (arith, ap all_passed b.all, passed_append b.first rest)

bare_inserts : (k : Kind) (os : List Op) → inserted k 1 ≡ 0 → AreBare k os → all_inserted os ≡ 0
bare_inserts k [] n h = refl
bare_inserts k (o ∷ os) n h = go o.kind h.0 (bare_inserts k os n h.2)
  where
    go : (j : Kind) → j ≡ k → all_inserted os ≡ 0 → inserted j o.units + all_inserted os ≡ 0
    go kind.Keep e a = omega (arith, a)
    go kind.Drop e a = omega (arith, a)
    go kind.Insert e a = absurd (omega (arith, subst (λ (i : Kind). inserted i 1 ≡ 0) (sym e) n))

inserted_append : (os ps : List Op) → all_inserted (os ++ ps) ≡ all_inserted os + all_inserted ps
inserted_append [] ps = omega arith
inserted_append (o ∷ os) ps = ap (λ n. inserted o.kind o.units + n) (inserted_append os ps) ∙ omega arith

pub rest_inserts : (k : Kind) (ops rest : List Op) (units : ℕ) → inserted k 1 ≡ 0 → BeginWith k ops units rest → all_inserted rest ≡ all_inserted ops
rest_inserts k ops rest units n b = omega (arith, ap all_inserted b.all, inserted_append b.first rest, bare_inserts k b.first n b.bare)

keeps_made : (os rest : List Op) (bank : Text) (tail : List Step) (doc : List Cell) → AreBare kind.Keep os → all_passed os ≤ length doc
    → made (steps_of (os ++ rest) bank ++ tail) doc ≡ take (all_passed os) doc ++ made (steps_of rest bank ++ tail) (drop (all_passed os) doc)
keeps_made [] rest bank tail doc h l = refl
keeps_made (o ∷ os) rest bank tail doc h l = subst P (sym h.0) (one (λ room. keeps_made os rest bank tail (drop o.units doc) h.2 room)) l
  where
    P : Kind → Type 0
    P k =
        passed k o.units + all_passed os ≤ length doc
        → made ((run_steps k o.units o.attrs (take (inserted k o.units) bank) ++ steps_of (os ++ rest) (drop (inserted k o.units) bank)) ++ tail) doc
        ≡ take (passed k o.units + all_passed os) doc ++ made (steps_of rest bank ++ tail) (drop (passed k o.units + all_passed os) doc)

    one : (all_passed os ≤ length (drop o.units doc) → made (steps_of (os ++ rest) bank ++ tail) (drop o.units doc) ≡ take (all_passed os) (drop o.units doc) ++ made (steps_of rest bank ++ tail) (drop (all_passed os) (drop o.units doc))) → P kind.Keep
    one again room =
        let n = o.units in
        let later = steps_of (os ++ rest) bank in
        let left : all_passed os ≤ length (drop n doc) = omega (arith, room, length-drop n doc) in
        ap (λ (ss : List Step). made ss doc) (append_assoc (run_steps kind.Keep n o.attrs []) later tail)
        ∙ made_run kind.Keep n o.attrs [] (later ++ tail) doc (omega (arith, room))
        ∙ ap (λ cs. cs ++ made (later ++ tail) (drop n doc)) (bare o.attrs (take n doc) h.1)
        ∙ ap (λ cs. take n doc ++ cs) (again left)
        ∙ sym (append_assoc (take n doc) (take (all_passed os) (drop n doc)) (made (steps_of rest bank ++ tail) (drop (all_passed os) (drop n doc))))
        ∙ ap (λ cs. cs ++ made (steps_of rest bank ++ tail) (drop (all_passed os) (drop n doc))) (sym (take-add n (all_passed os) doc))
        ∙ ap (λ ds. take (n + all_passed os) doc ++ made (steps_of rest bank ++ tail) ds) (drop-drop (all_passed os) n doc)

drops_made : (os rest : List Op) (bank : Text) (tail : List Step) (doc : List Cell) → AreBare kind.Drop os → all_passed os ≤ length doc
    → made (steps_of (os ++ rest) bank ++ tail) doc ≡ made (steps_of rest bank ++ tail) (drop (all_passed os) doc)
drops_made [] rest bank tail doc h l = refl
drops_made (o ∷ os) rest bank tail doc h l = subst P (sym h.0) (one (λ room. drops_made os rest bank tail (drop o.units doc) h.2 room)) l
  where
    P : Kind → Type 0
    P k =
        passed k o.units + all_passed os ≤ length doc
        → made ((run_steps k o.units o.attrs (take (inserted k o.units) bank) ++ steps_of (os ++ rest) (drop (inserted k o.units) bank)) ++ tail) doc
        ≡ made (steps_of rest bank ++ tail) (drop (passed k o.units + all_passed os) doc)

    one : (all_passed os ≤ length (drop o.units doc) → made (steps_of (os ++ rest) bank ++ tail) (drop o.units doc) ≡ made (steps_of rest bank ++ tail) (drop (all_passed os) (drop o.units doc))) → P kind.Drop
    one again room =
        let n = o.units in
        let later = steps_of (os ++ rest) bank in
        let left : all_passed os ≤ length (drop n doc) = omega (arith, room, length-drop n doc) in
        ap (λ (ss : List Step). made ss doc) (append_assoc (run_steps kind.Drop n o.attrs []) later tail)
        ∙ made_run kind.Drop n o.attrs [] (later ++ tail) doc (omega (arith, room))
        ∙ again left
        ∙ ap (λ ds. made (steps_of rest bank ++ tail) ds) (drop-drop (all_passed os) n doc)

-- the last run inserts all of the bank, where there is one
pub record IsLast (rest : List Op) (bank : Text) (m : AttrMap) : Type 0 where
  pub passed : all_passed rest ≡ 0
  pub makes : (tail : List Step) (doc : List Cell) → made (steps_of rest bank ++ tail) doc ≡ cells m bank ++ made tail doc

pub no_last : (bank : Text) (m : AttrMap) → length bank ≡ 0 → IsLast [] bank m
no_last [] m h = record { passed = refl; makes = λ tail doc. refl }
no_last (u ∷ us) m h = absurd (omega (arith, h))

pub one_last : (o : Op) (bank : Text) → o.kind ≡ kind.Insert → all_inserted (o ∷ []) ≡ length bank → IsLast (o ∷ []) bank o.attrs
one_last o bank e l = subst P (sym e) one l
  where
    P : Kind → Type 0
    P k = inserted k o.units + 0 ≡ length bank → IsLast (record o { kind = k } ∷ []) bank o.attrs

    one : P kind.Insert
    one l = record {
      passed = refl;
      makes = λ tail doc.
          ap (λ (ss : List Step). made (ss ++ tail) doc) (append-nil (run_steps kind.Insert o.units o.attrs (take o.units bank)))
          ∙ made_run kind.Insert o.units o.attrs (take o.units bank) tail doc (omega arith)
          ∙ ap (λ us. cells o.attrs us ++ made tail doc) (take_all o.units bank (omega (arith, l)));
    }

pub last_none : (rest : List Op) (bank : Text) (m : AttrMap) → length rest < 1 → all_inserted rest ≡ length bank → IsLast rest bank m
last_none [] bank m h l = no_last bank m (sym l)
last_none (o ∷ os) bank m h l = absurd (omega (arith, h))

pub last_one : (rest : List Op) (bank : Text) (o : Op) → length rest ≡ 1 → o ≡ get_or rest 0 o → o.kind ≡ kind.Insert → all_inserted rest ≡ length bank → IsLast rest bank o.attrs
last_one [] bank o h e k l = absurd (omega (arith, h))
last_one (p ∷ []) bank o h e k l = subst (λ (q : Op). IsLast (q ∷ []) bank o.attrs) e (one_last o bank k (ap (λ (q : Op). all_inserted (q ∷ [])) e ∙ l))
last_one (p ∷ (q ∷ os)) bank o h e k l = absurd (omega (arith, h))

-- runs that keep, runs that drop, and a last one
pub are_splice : (ops later rest : List Op) (bank : Text) (at dropped : ℕ) (m : AttrMap)
    → BeginWith kind.Keep ops at later → BeginWith kind.Drop later dropped rest → IsLast rest bank m
    → AreSplice ops bank at dropped (cells m bank)
are_splice ops later rest bank at dropped m k d l =
    let keeps = k.first in
    let drops = d.first in
    let all : ops ≡ keeps ++ (drops ++ rest) = k.all ∙ ap (λ os. keeps ++ os) d.all in
    let count : all_passed ops ≡ at + dropped =
    ap all_passed all ∙ passed_append keeps (drops ++ rest) ∙ ap (λ n. all_passed keeps + n) (passed_append drops rest) ∙ omega (arith, k.passed, d.passed, l.passed) in
    record {
      inside = sym count;
      is = λ doc room.
          let tail = rest_kept (length doc - all_passed ops) in
          let left : all_passed drops ≤ length (drop (all_passed keeps) doc) = omega (arith, count, k.passed, d.passed, room, length-drop (all_passed keeps) doc) in
          let behind = drop (all_passed drops) (drop (all_passed keeps) doc) in
          let behind_is : behind ≡ drop (at + dropped) doc = drop-drop (all_passed drops) (all_passed keeps) doc ∙ ap (λ n. drop n doc) (omega (arith, k.passed, d.passed)) in
          let short : length behind ≤ length doc - all_passed ops = omega (arith, ap length behind_is, length-drop (at + dropped) doc, count) in
          apply-made (steps_of ops bank ++ tail) doc
          ∙ ap (λ os. made (steps_of os bank ++ tail) doc) all
          ∙ keeps_made keeps (drops ++ rest) bank tail doc k.bare (omega (arith, count, k.passed, room))
          ∙ ap (λ cs. take (all_passed keeps) doc ++ cs) (drops_made drops rest bank tail (drop (all_passed keeps) doc) d.bare left ∙ l.makes tail behind)
          ∙ (λ i. take (sym k.passed i) doc ++ (cells m bank ++ made tail (behind_is i)))
          ∙ ap (λ cs. take at doc ++ (cells m bank ++ cs)) (made_rest (length doc - all_passed ops) (drop (at + dropped) doc) (omega (arith, ap length behind_is, short)) ∙ painted_bare (drop (at + dropped) doc));
    }
