-- The laws of edits.
use Rattle.std.proofs.Common.{◌≡◌, suc, List, [], ◌∷◌, ◌++◌, map, length, refl, sym, ap, ◌∙◌, arith, append_assoc, append-nil}
use Rattle.std.proofs.lemmas.List.{map-append}
use Rattle.ep_attr.specs.AttrMap.{AttrMap, none, join}
use Rattle.ep_cs.specs.Doc.{Cell, Doc, painted}
use Rattle.ep_cs.specs.Edit.{Fate, Place, Edit, Step, at_place, over, apply, inserts, settle, steps_from, steps_of, pieces, step_over_new, fate_over, steps_over, compose}
use Rattle.ep_cs.specs.Edit.Fate.{Drop, Keep}
use Rattle.ep_cs.specs.Edit.Step.{Insert, Pass}
use Rattle.ep_cs.specs.Steps.{passed, run}
use Rattle.ep_attr.proofs.Maps.{after-after, after-none}

pub passed_inserts : (cells : List Cell) (steps : List Step) → passed (inserts cells ++ steps) ≡ passed steps
passed_inserts [] steps = refl
passed_inserts (c ∷ cells) steps = passed_inserts cells steps

pub passed-steps_from : (ps : List Place) (last : List Cell) → passed (steps_from ps last) ≡ length ps
passed-steps_from [] last = ap passed (sym (append-nil (inserts last))) ∙ passed_inserts last []
passed-steps_from (p ∷ ps) last = passed_inserts p.before _ ∙ ap suc (passed-steps_from ps last)

module _ {X : Type 0} (kept : X → AttrMap → X) (new : Cell → X) where
  pub record IsAction : Type 0 where
    pub twice : (x : X) (a b : AttrMap) → kept (kept x a) b ≡ kept x (join a b)
    pub at_new : (c : Cell) (m : AttrMap) → kept (new c) m ≡ new (painted c m)
    pub nothing : (x : X) → kept x none ≡ x

  pub run_inserts : (cells : List Cell) (steps : List Step) (xs : List X) → run kept new (inserts cells ++ steps) xs ≡ map new cells ++ run kept new steps xs
  run_inserts [] steps xs = refl
  run_inserts (c ∷ cells) steps xs = ap (λ ys. new c ∷ ys) (run_inserts cells steps xs)

  pub run_only_inserts : (cells : List Cell) (xs : List X) → run kept new (inserts cells) xs ≡ map new cells
  run_only_inserts [] xs = refl
  run_only_inserts (c ∷ cells) xs = ap (λ ys. new c ∷ ys) (run_only_inserts cells xs)

  -- what the settled edit makes is what the steps make
  pub over-settle : (waiting : List Cell) (steps : List Step) (xs : List X) → over kept new (settle waiting steps).places (settle waiting steps).last xs ≡ map new waiting ++ run kept new steps xs
  over-settle waiting [] xs = sym (append-nil (map new waiting))
  over-settle waiting (Insert c ∷ steps) xs =
      over-settle (waiting ++ c ∷ []) steps xs ∙ ap (λ ys. ys ++ run kept new steps xs) (map-append new waiting (c ∷ [])) ∙ append_assoc (map new waiting) (new c ∷ []) (run kept new steps xs)
  over-settle waiting (Pass Drop ∷ steps) [] = over-settle waiting steps []
  over-settle waiting (Pass Drop ∷ steps) (x ∷ xs) = over-settle waiting steps xs
  over-settle waiting (Pass (Keep m) ∷ steps) [] = ap (λ ys. map new waiting ++ ys) (over-settle [] steps [])
  over-settle waiting (Pass (Keep m) ∷ steps) (x ∷ xs) = ap (λ ys. map new waiting ++ (kept x m ∷ ys)) (over-settle [] steps xs)

  pub run-steps_from : (ps : List Place) (last : List Cell) (xs : List X) → run kept new (steps_from ps last) xs ≡ over kept new ps last xs
  run-steps_from [] last xs = run_only_inserts last xs
  run-steps_from (p ∷ ps) last [] = run_inserts p.before _ [] ∙ ap (λ ys. map new p.before ++ ys) (run-steps_from ps last [])
  run-steps_from (p ∷ ps) last (x ∷ xs) = run_inserts p.before _ (x ∷ xs) ∙ ap (λ ys. map new p.before ++ (at_place kept new p.fate x ++ ys)) (run-steps_from ps last xs)

  over_pieces : (qs : List Place) (last : List Cell) → map new (pieces qs last) ≡ over kept new qs last []
  over_pieces [] last = refl
  over_pieces (q ∷ qs) last = map-append new q.before (pieces qs last) ∙ ap (λ ys. map new q.before ++ ys) (over_pieces qs last)

  new_step : IsAction → (c : Cell) (f : Fate) (steps : List Step) (xs ys : List X) → run kept new steps xs ≡ ys → run kept new (step_over_new c f ++ steps) xs ≡ at_place kept new f (new c) ++ ys
  new_step act c Drop steps xs ys e = e
  new_step act c (Keep m) steps xs ys e = ap (λ y. y ∷ run kept new steps xs) (sym (act.at_new c m)) ∙ ap (λ ys. kept (new c) m ∷ ys) e

  fate_step : IsAction → (m : AttrMap) (f : Fate) (x : X) → at_place kept new (fate_over m f) x ≡ at_place kept new f (kept x m)
  fate_step act m Drop x = refl
  fate_step act m (Keep c) x = ap (λ y. y ∷ []) (sym (act.twice x m c))

  pub run-steps_over : IsAction → (steps : List Step) (qs : List Place) (last : List Cell) (xs : List X) → length xs ≡ passed steps → run kept new (steps_over steps qs last) xs ≡ over kept new qs last (run kept new steps xs)
  run-steps_over act [] qs last xs e = run_only_inserts (pieces qs last) xs ∙ over_pieces qs last
  run-steps_over act (Pass f ∷ steps) qs last [] e = absurd (omega arith)
  run-steps_over act (Pass Drop ∷ steps) qs last (x ∷ xs) e = run-steps_over act steps qs last xs (omega arith)
  run-steps_over act (Insert c ∷ steps) [] last xs e = run-steps_over act steps [] last xs e
  run-steps_over act (Insert c ∷ steps) (q ∷ qs) last xs e =
      run_inserts q.before _ xs ∙ ap (λ ys. map new q.before ++ ys) (new_step act c q.fate _ xs _ (run-steps_over act steps qs last xs e))
  run-steps_over act (Pass (Keep m) ∷ steps) [] last (x ∷ xs) e = run-steps_over act steps [] last xs (omega arith)
  run-steps_over act (Pass (Keep m) ∷ steps) (q ∷ qs) last (x ∷ xs) e =
      run_inserts q.before _ (x ∷ xs)
      ∙ ap (λ ys. map new q.before ++ ys)
      (ap (λ ys. ys ++ run kept new (steps_over steps qs last) xs) (fate_step act m q.fate x) ∙ ap (λ ys. at_place kept new q.fate (kept x m) ++ ys) (run-steps_over act steps qs last xs (omega arith)))

  -- one edit and then another
  pub over-compose : IsAction → (a b : Edit) (xs : List X) → length xs ≡ length a.places
      → over kept new (compose a b).places (compose a b).last xs ≡ over kept new b.places b.last (over kept new a.places a.last xs)
  over-compose act a b xs e =
      over-settle [] (steps_over (steps_of a) b.places b.last) xs
      ∙ run-steps_over act (steps_of a) b.places b.last xs (e ∙ sym (passed-steps_from a.places a.last))
      ∙ ap (over kept new b.places b.last) (run-steps_from a.places a.last xs)

-- a document after one edit and then another
pub cells_act : IsAction painted (λ c. c)
cells_act = record {
  twice = λ x a b. ap (λ m. record { unit = x.unit; attrs = m }) (after-after x.attrs a b);
  at_new = λ c m. refl;
  nothing = λ x. ap (λ m. record { unit = x.unit; attrs = m }) (after-none x.attrs);
}

pub apply-compose : (a b : Edit) (doc : Doc) → length doc ≡ length a.places → apply (compose a b) doc ≡ apply b (apply a doc)
apply-compose a b doc e = over-compose painted (λ c. c) cells_act a b doc e
