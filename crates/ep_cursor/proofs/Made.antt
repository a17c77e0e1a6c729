-- What steps make, part by part.
use Rattle.std.proofs.Common.{◌≡◌, ℕ, zero, suc, ◌+◌, ◌≤◌, List, [], ◌∷◌, ◌++◌, length, take, drop, replicate, refl, sym, ap, ◌∙◌, arith, append_assoc}
use Rattle.ep_units.specs.Text.{Text}
use Rattle.ep_attr.specs.AttrMap.{AttrMap}
use Rattle.ep_cs.specs.Doc.{Cell, Doc, text_of, painted}
use Rattle.ep_cs.specs.Edit.{Fate, Step, inserts, at_place}
use Rattle.ep_cs.specs.Edit.Fate.{Drop, Keep}
use Rattle.ep_cs.specs.Edit.Step.{Insert, Pass}
use Rattle.ep_cs.specs.Steps.{passed, run}
use Rattle.ep_cs.specs.Draft.{inserted_by}
use Rattle.ep_cs.specs.Runs.{cells}
use Rattle.ep_cursor.specs.Made.{text_made, given}

module _ {X : Type 0} (kept : X → AttrMap → X) (new : Cell → X) where
  -- steps and then more
  pub run-append : (s t : List Step) (xs : List X) → run kept new (s ++ t) xs ≡ run kept new s (take (passed s) xs) ++ run kept new t (drop (passed s) xs)
  run-append [] t xs = refl
  run-append (Insert c ∷ s) t xs = ap (λ ys. new c ∷ ys) (run-append s t xs)
  run-append (Pass f ∷ s) t [] = run-append s t [] ∙ ends (passed s)
    where
      ends : (n : ℕ) → run kept new s (take n []) ++ run kept new t (drop n []) ≡ run kept new s [] ++ run kept new t []
      ends zero = refl
      ends (suc n) = refl
  run-append (Pass f ∷ s) t (x ∷ xs) = ap (λ ys. at_place kept new f x ++ ys) (run-append s t xs) ∙ sym (append_assoc (at_place kept new f x) _ _)

pub passed-append : (s t : List Step) → passed (s ++ t) ≡ passed s + passed t
passed-append [] t = omega arith
passed-append (Insert c ∷ s) t = passed-append s t
passed-append (Pass f ∷ s) t = omega (arith, passed-append s t)

pub passed_times : (k : ℕ) (f : Fate) → passed (replicate k (Pass f)) ≡ k
passed_times zero f = refl
passed_times (suc k) f = ap suc (passed_times k f)

pub passed_new : (cs : List Cell) → passed (inserts cs) ≡ 0
passed_new [] = refl
passed_new (c ∷ cs) = passed_new cs

pub text_kept : (k : ℕ) (m : AttrMap) (us : Text) → length us ≡ k → text_made (replicate k (Pass (Keep m))) us ≡ us
text_kept zero m [] h = refl
text_kept zero m (u ∷ us) h = absurd (omega (arith, h))
text_kept (suc k) m [] h = absurd (omega (arith, h))
text_kept (suc k) m (u ∷ us) h = ap (λ vs. u ∷ vs) (text_kept k m us (omega (arith, h)))

pub text_dropped : (k : ℕ) (us : Text) → text_made (replicate k (Pass Drop)) us ≡ []
text_dropped zero us = refl
text_dropped (suc k) [] = text_dropped k []
text_dropped (suc k) (u ∷ us) = text_dropped k us

pub text_new : (m : AttrMap) (t us : Text) → text_made (inserts (cells m t)) us ≡ t
text_new m [] us = refl
text_new m (u ∷ t) us = ap (λ vs. u ∷ vs) (text_new m t us)

-- the text of what steps make of a document
pub text_run : (steps : List Step) (doc : Doc) → text_of (run painted (λ c. c) steps doc) ≡ text_made steps (text_of doc)
text_run [] doc = refl
text_run (Insert c ∷ steps) doc = ap (λ us. c.unit ∷ us) (text_run steps doc)
text_run (Pass Drop ∷ steps) [] = text_run steps []
text_run (Pass (Keep m) ∷ steps) [] = text_run steps []
text_run (Pass Drop ∷ steps) (c ∷ doc) = text_run steps doc
text_run (Pass (Keep m) ∷ steps) (c ∷ doc) = ap (λ us. c.unit ∷ us) (text_run steps doc)

pub given-append : (s t : List Step) → given (s ++ t) ≡ given s + given t
given-append [] t = omega arith
given-append (Insert c ∷ s) t = omega (arith, given-append s t)
given-append (Pass Drop ∷ s) t = given-append s t
given-append (Pass (Keep m) ∷ s) t = omega (arith, given-append s t)

pub given_kept : (k : ℕ) (m : AttrMap) → given (replicate k (Pass (Keep m))) ≡ k
given_kept zero m = refl
given_kept (suc k) m = ap suc (given_kept k m)

pub given_dropped : (k : ℕ) → given (replicate k (Pass Drop)) ≡ 0
given_dropped zero = refl
given_dropped (suc k) = given_dropped k

pub given_new : (cs : List Cell) → given (inserts cs) ≡ length cs
given_new [] = refl
given_new (c ∷ cs) = ap suc (given_new cs)

module _ {X : Type 0} (kept : X → AttrMap → X) (new : Cell → X) where
  pub length-run : (s : List Step) (xs : List X) → passed s ≤ length xs → length (run kept new s xs) ≡ given s
  length-run [] xs h = refl
  length-run (Insert c ∷ s) xs h = ap suc (length-run s xs h)
  length-run (Pass f ∷ s) [] h = absurd (omega (arith, h))
  length-run (Pass Drop ∷ s) (x ∷ xs) h = length-run s xs (omega (arith, h))
  length-run (Pass (Keep m) ∷ s) (x ∷ xs) h = ap suc (length-run s xs (omega (arith, h)))

pub inserted_within : (s : List Step) → inserted_by s ≤ given s
inserted_within [] = omega arith
inserted_within (Insert c ∷ s) = omega (arith, inserted_within s)
inserted_within (Pass Drop ∷ s) = inserted_within s
inserted_within (Pass (Keep m) ∷ s) = omega (arith, inserted_within s)
