-- What an inverse does.
use Rattle.std.proofs.Common.{◌≡◌, ℕ, zero, suc, ◌+◌, List, [], ◌∷◌, ◌++◌, map, length, take, drop, replicate, refl, sym, ap, ap₂, ◌∙◌, arith, append-nil}
use Rattle.ep_attr.specs.AttrMap.{AttrMap, none, join}
use Rattle.ep_attr.proofs.Maps.{none-join}
use Rattle.ep_cs.specs.Doc.{Cell, Doc, painted}
use Rattle.ep_cs.specs.Edit.{Fate, Place, Edit, Step, Item, inserts, with_place, settle, edit_of, steps_from, steps_of, apply, items, painted_item, numbered, compose}
use Rattle.ep_cs.specs.Edit.Fate.{Drop, Keep}
use Rattle.ep_cs.specs.Edit.Step.{Insert, Pass}
use Rattle.ep_cs.specs.Edit.Item.{Kept, New}
use Rattle.ep_cs.specs.Steps.{passed, run}
use Rattle.ep_cs.specs.Splice.{dropped}
use Rattle.ep_cs.specs.Runs.{rest_kept}
use Rattle.ep_cs.proofs.Composed.{over-settle, run-steps_from, passed-steps_from}
use Rattle.ep_cs.proofs.Items.{items-compose, length-settle}
use Rattle.ep_apply.specs.Documents.{HasNoEmpty}
use Rattle.ep_cursor.specs.Made.{given}
use Rattle.ep_cursor.proofs.Made.{length-run}
use Rattle.ep_invert.specs.Inverse.{restoring, undoing, inverse, undone_item, undone_items}
use Rattle.ep_invert.proofs.Restored.{restored, restoring-none}

-- ---- steps and the edit that they are settled to

dropped-snoc : (n : ℕ) (s : List Step) → dropped n ++ (Pass Drop ∷ s) ≡ Pass Drop ∷ (dropped n ++ s)
dropped-snoc zero s = refl
dropped-snoc (suc n) s = ap (λ t. Pass Drop ∷ t) (dropped-snoc n s)

pub undoing_inserts : (w : List Cell) (s : List Step) (doc : Doc) → undoing (inserts w ++ s) doc ≡ dropped (length w) ++ undoing s doc
undoing_inserts [] s doc = refl
undoing_inserts (c ∷ w) s doc = ap (λ t. Pass Drop ∷ t) (undoing_inserts w s doc)

-- drops may stand before what waits or behind it
settle_dropped : (n : ℕ) (v : List Cell) (s t : List Step) → settle v s ≡ settle v t → settle v (dropped n ++ s) ≡ settle v (dropped n ++ t)
settle_dropped zero v s t e = e
settle_dropped (suc n) v s t e = ap (with_place (record { before = []; fate = Drop })) (settle_dropped n v s t e)

settle_later : (n : ℕ) (v : List Cell) (d : Cell) (s : List Step) → settle (v ++ d ∷ []) (dropped n ++ s) ≡ settle v (dropped n ++ (Insert d ∷ s))
settle_later zero v d s = refl
settle_later (suc n) v d s = ap (with_place (record { before = []; fate = Drop })) (settle_later n v d s)

more_dropped : (w : List Cell) (c : Cell) (s : List Step) → dropped (length (w ++ c ∷ [])) ++ s ≡ dropped (length w) ++ (Pass Drop ∷ s)
more_dropped [] c s = refl
more_dropped (d ∷ w) c s = ap (λ t. Pass Drop ∷ t) (more_dropped w c s)

-- whether steps or the settled edit is undone, the edit is one
pub settle_undoing : (v w : List Cell) (s : List Step) (doc : Doc) → length doc ≡ passed s
    → settle v (undoing (steps_of (settle w s)) doc) ≡ settle v (dropped (length w) ++ undoing s doc)
settle_undoing v w [] doc n = ap (λ t. settle v (undoing t doc)) (sym (append-nil (inserts w))) ∙ ap (settle v) (undoing_inserts w [] doc)
settle_undoing v w (Insert c ∷ s) doc n = settle_undoing v (w ++ c ∷ []) s doc n ∙ ap (settle v) (more_dropped w c (undoing s doc))
settle_undoing v w (Pass f ∷ s) [] n = absurd (omega (arith, n))
settle_undoing v w (Pass Drop ∷ s) (d ∷ doc) n = settle_undoing (v ++ d ∷ []) w s doc (omega (arith, n)) ∙ settle_later (length w) v d (undoing s doc)
settle_undoing v w (Pass (Keep m) ∷ s) (d ∷ doc) n =
    ap (settle v) (undoing_inserts w (Pass (Keep m) ∷ steps_of (settle [] s)) (d ∷ doc))
    ∙ settle_dropped (length w) v (Pass (Keep (restoring d.attrs m)) ∷ undoing (steps_of (settle [] s)) doc) (Pass (Keep (restoring d.attrs m)) ∷ undoing s doc)
    (ap (with_place (record { before = v; fate = Keep (restoring d.attrs m) })) (settle_undoing [] [] s doc (omega (arith, n))))

pub inverse_steps : (s : List Step) (doc : Doc) → length doc ≡ passed s → edit_of (undoing s doc) ≡ inverse (edit_of s) doc
inverse_steps s doc n = sym (settle_undoing [] [] s doc n)

-- ---- part by part

pub undoing-append : (s t : List Step) (doc : Doc) → undoing (s ++ t) doc ≡ undoing s (take (passed s) doc) ++ undoing t (drop (passed s) doc)
undoing-append [] t doc = refl
undoing-append (Insert c ∷ s) t doc = ap (λ x. Pass Drop ∷ x) (undoing-append s t doc)
undoing-append (Pass Drop ∷ s) t [] = undoing-append s t [] ∙ ends (passed s)
  where
    ends : (n : ℕ) → undoing s (take n []) ++ undoing t (drop n []) ≡ undoing s [] ++ undoing t []
    ends zero = refl
    ends (suc n) = refl
undoing-append (Pass (Keep m) ∷ s) t [] = undoing-append s t [] ∙ ends (passed s)
  where
    ends : (n : ℕ) → undoing s (take n []) ++ undoing t (drop n []) ≡ undoing s [] ++ undoing t []
    ends zero = refl
    ends (suc n) = refl
undoing-append (Pass Drop ∷ s) t (c ∷ doc) = ap (λ x. Insert c ∷ x) (undoing-append s t doc)
undoing-append (Pass (Keep m) ∷ s) t (c ∷ doc) = ap (λ x. Pass (Keep (restoring c.attrs m)) ∷ x) (undoing-append s t doc)

-- cells that are kept are kept with what restores them
pub undoing_kept : (m : AttrMap) (cs : List Cell) → undoing (replicate (length cs) (Pass (Keep m))) cs ≡ map (λ c. Pass (Keep (restoring c.attrs m))) cs
undoing_kept m [] = refl
undoing_kept m (c ∷ cs) = ap (λ x. Pass (Keep (restoring c.attrs m)) ∷ x) (undoing_kept m cs)

-- cells that are dropped are inserted
pub undoing_dropped : (cs : List Cell) → undoing (dropped (length cs)) cs ≡ inserts cs
undoing_dropped [] = refl
undoing_dropped (c ∷ cs) = ap (λ x. Insert c ∷ x) (undoing_dropped cs)

pub undoing_rest : (r : ℕ) (cs : List Cell) → length cs ≡ r → undoing (rest_kept r) cs ≡ rest_kept r
undoing_rest zero [] n = refl
undoing_rest zero (c ∷ cs) n = absurd (omega (arith, n))
undoing_rest (suc r) [] n = absurd (omega (arith, n))
undoing_rest (suc r) (c ∷ cs) n = ap₂ (λ (m : AttrMap) (s : List Step). Pass (Keep m) ∷ s) (restoring-none c.attrs) (undoing_rest r cs (omega (arith, n)))

-- ---- how much

pub passed_undoing : (s : List Step) (doc : Doc) → length doc ≡ passed s → passed (undoing s doc) ≡ given s
passed_undoing [] doc n = refl
passed_undoing (Insert c ∷ s) doc n = ap suc (passed_undoing s doc n)
passed_undoing (Pass f ∷ s) [] n = absurd (omega (arith, n))
passed_undoing (Pass Drop ∷ s) (c ∷ doc) n = passed_undoing s doc (omega (arith, n))
passed_undoing (Pass (Keep m) ∷ s) (c ∷ doc) n = ap suc (passed_undoing s doc (omega (arith, n)))

pub given_undoing : (s : List Step) (doc : Doc) → length doc ≡ passed s → given (undoing s doc) ≡ length doc
given_undoing [] doc n = sym n
given_undoing (Insert c ∷ s) doc n = given_undoing s doc n
given_undoing (Pass f ∷ s) [] n = absurd (omega (arith, n))
given_undoing (Pass Drop ∷ s) (c ∷ doc) n = ap suc (given_undoing s doc (omega (arith, n)))
given_undoing (Pass (Keep m) ∷ s) (c ∷ doc) n = ap suc (given_undoing s doc (omega (arith, n)))

-- ---- the laws

undone : (s : List Step) (doc : Doc) → length doc ≡ passed s → HasNoEmpty doc → run painted (λ c. c) (undoing s doc) (run painted (λ c. c) s doc) ≡ doc
undone [] [] n maps = refl
undone [] (c ∷ doc) n maps = absurd (omega (arith, n))
undone (Insert c ∷ s) doc n maps = undone s doc n maps
undone (Pass f ∷ s) [] n maps = absurd (omega (arith, n))
undone (Pass Drop ∷ s) (c ∷ doc) n maps = ap (λ ds. c ∷ ds) (undone s doc (omega (arith, n)) maps.1)
undone (Pass (Keep m) ∷ s) (c ∷ doc) n maps =
    ap₂ (λ (d : Cell) (ds : Doc). d ∷ ds) (ap (λ (m : AttrMap). record { unit = c.unit; attrs = m }) (restored c.attrs m maps.0)) (undone s doc (omega (arith, n)) maps.1)

-- an inverse gives the document back
pub inverse_undoes : (e : Edit) (doc : Doc) → length doc ≡ length e.places → HasNoEmpty doc → apply (inverse e doc) (apply e doc) ≡ doc
inverse_undoes e doc n maps =
    over-settle painted (λ c. c) [] (undoing (steps_of e) doc) (apply e doc)
    ∙ ap (run painted (λ c. c) (undoing (steps_of e) doc)) (sym (run-steps_from painted (λ c. c) e.places e.last doc))
    ∙ undone (steps_of e) doc (n ∙ sym (passed-steps_from e.places e.last)) maps

-- what steps and then what undoes them make of places
run_items : (i : ℕ) (before : List Cell) (s : List Step) (doc : Doc) (xs : List Item)
    → run painted_item New (undoing (inserts before ++ s) doc) (run painted_item New (inserts before ++ s) xs) ≡ run painted_item New (undoing s doc) (run painted_item New s xs)
run_items i [] s doc xs = refl
run_items i (c ∷ before) s doc xs = run_items i before s doc xs

place_items : (i : ℕ) (ps : List Place) (last : List Cell) (doc : Doc) → length doc ≡ length ps
    → run painted_item New (undoing (steps_from ps last) doc) (run painted_item New (steps_from ps last) (numbered i (length doc))) ≡ undone_items i ps doc
place_items i [] last [] n = ap (λ (s : List Step). run painted_item New (undoing s []) (run painted_item New s [])) (sym (append-nil (inserts last))) ∙ run_items i last [] [] []
place_items i [] last (c ∷ doc) n = absurd (omega (arith, n))
place_items i (p ∷ ps) last [] n = absurd (omega (arith, n))
place_items i (p ∷ ps) last (c ∷ doc) n =
    run_items i p.before (Pass p.fate ∷ steps_from ps last) (c ∷ doc) (Kept i none ∷ numbered (i + 1) (length doc))
    ∙ go p.fate (place_items (i + 1) ps last doc (omega (arith, n)))
  where
    go : (f : Fate) → run painted_item New (undoing (steps_from ps last) doc) (run painted_item New (steps_from ps last) (numbered (i + 1) (length doc))) ≡ undone_items (i + 1) ps doc
        → run painted_item New (undoing (Pass f ∷ steps_from ps last) (c ∷ doc)) (run painted_item New (Pass f ∷ steps_from ps last) (Kept i none ∷ numbered (i + 1) (length doc))) ≡ undone_item i f c ∷ undone_items (i + 1) ps doc
    go Drop e = ap (λ is. New c ∷ is) e
    go (Keep m) e = ap₂ (λ (m : AttrMap) (is : List Item). Kept i m ∷ is) (ap (λ (k : AttrMap). join k (restoring c.attrs m)) (none-join m)) e

-- an edit and its inverse together, place by place
pub inverse_items : (e : Edit) (doc : Doc) → length doc ≡ length e.places → items (compose e (inverse e doc)) ≡ undone_items 0 e.places doc
inverse_items e doc n =
    items-compose e (inverse e doc)
    ∙ over-settle painted_item New [] (undoing (steps_of e) doc) (items e)
    ∙ ap (run painted_item New (undoing (steps_of e) doc)) (sym (run-steps_from painted_item New e.places e.last (numbered 0 (length e.places))) ∙ ap (λ (k : ℕ). run painted_item New (steps_of e) (numbered 0 k)) (sym n))
    ∙ place_items 0 e.places e.last doc n

pub length-inverse : (e : Edit) (doc : Doc) → length doc ≡ length e.places → length (inverse e doc).places ≡ length (apply e doc)
length-inverse e doc n =
    let all : length doc ≡ passed (steps_of e) = n ∙ sym (passed-steps_from e.places e.last) in
    length-settle [] (undoing (steps_of e) doc) ∙ passed_undoing (steps_of e) doc all
    ∙ sym (length-run painted (λ c. c) (steps_of e) doc (omega (arith, all))) ∙ ap length (run-steps_from painted (λ c. c) e.places e.last doc)
