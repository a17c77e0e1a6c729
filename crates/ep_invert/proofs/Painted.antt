-- What a painting makes of a document.
use Rattle.std.proofs.Common.{◌≡◌, ℕ, zero, suc, ◌+◌, ◌-◌, ◌≤◌, List, [], ◌∷◌, ◌++◌, map, length, take, drop, drop-drop, refl, ap, ap₂, ◌∙◌, arith, length-drop, length-take-le}
use Rattle.ep_attr.specs.AttrMap.{AttrMap, none}
use Rattle.ep_cs.specs.Doc.{Doc, painted}
use Rattle.ep_cs.specs.Edit.{Step, apply}
use Rattle.ep_cs.specs.Edit.Fate.{Keep}
use Rattle.ep_cs.specs.Steps.{run}
use Rattle.ep_cs.specs.Splice.{kept}
use Rattle.ep_cs.proofs.Canonical.{times}
use Rattle.ep_cs.proofs.Composed.{over-settle}
use Rattle.ep_apply.proofs.Painted.{painted_bare}
use Rattle.ep_cursor.proofs.Made.{run-append, passed_times}
use Rattle.ep_invert.specs.Paint.{paint_steps, paint}

abbrev made : List Step → Doc → Doc
made steps doc = run painted (λ c. c) steps doc

made_kept : (n : ℕ) (m : AttrMap) (doc : Doc) → length doc ≡ n → made (times n (Keep m)) doc ≡ map (λ c. painted c m) doc
made_kept zero m [] e = refl
made_kept zero m (c ∷ doc) e = absurd (omega (arith, e))
made_kept (suc n) m [] e = absurd (omega (arith, e))
made_kept (suc n) m (c ∷ doc) e = ap (λ ds. painted c m ∷ ds) (made_kept n m doc (omega (arith, e)))

made_front : (n : ℕ) (m : AttrMap) (steps : List Step) (doc : Doc) → n ≤ length doc → made (times n (Keep m) ++ steps) doc ≡ map (λ c. painted c m) (take n doc) ++ made steps (drop n doc)
made_front n m steps doc h =
    run-append painted (λ c. c) (times n (Keep m)) steps doc
    ∙ ap (λ (k : ℕ). made (times n (Keep m)) (take k doc) ++ made steps (drop k doc)) (passed_times n (Keep m))
    ∙ ap (λ ds. ds ++ made steps (drop n doc)) (made_kept n m (take n doc) (length-take-le n doc h))

pub apply-paint : (at count : ℕ) (m : AttrMap) (doc : Doc) → at + count ≤ length doc
    → apply (paint (length doc) at count m) doc ≡ take at doc ++ (map (λ c. painted c m) (take count (drop at doc)) ++ drop (at + count) doc)
apply-paint at count m doc h =
    let r = length doc - (at + count) in
    let behind : count ≤ length (drop at doc) = omega (arith, length-drop at doc) in
    let long : length (drop (at + count) doc) ≡ r = length-drop (at + count) doc in
    over-settle painted (λ c. c) [] (kept at ++ (paint_steps count m ++ kept r)) doc
    ∙ made_front at none (paint_steps count m ++ kept r) doc (omega arith)
    ∙ ap₂ (λ (a b : Doc). a ++ b) (painted_bare (take at doc))
    (made_front count m (kept r) (drop at doc) behind
    ∙ ap (λ (ds : Doc). map (λ c. painted c m) (take count (drop at doc)) ++ ds)
    (ap (made (kept r)) (drop-drop count at doc) ∙ made_kept r none (drop (at + count) doc) long ∙ painted_bare (drop (at + count) doc)))
