-- What follow gives: the merge of the two, from both sides.
use Rattle.std.proofs.Common.{◌≡◌, ℕ, suc, zero, ◌+◌, Bool, true, false, cond, not, List, [], ◌∷◌, ◌++◌, map, length, refl, sym, ap, ◌∙◌, arith, append_assoc, append-nil}
use Rattle.std.proofs.lemmas.List.{map-append}
use Rattle.ep_attr.specs.AttrMap.{AttrMap, rest}
use Rattle.ep_cs.specs.Doc.{Cell}
use Rattle.ep_cs.specs.Edit.{Fate, Place, Edit, Step, at_place, over, painted_item, numbered, items, inserts, edit_of, compose}
use Rattle.ep_cs.specs.Edit.Fate.{Drop, Keep}
use Rattle.ep_cs.specs.Edit.Step.{Pass}
use Rattle.ep_cs.specs.Edit.Item.{New}
use Rattle.ep_cs.specs.Follow.{has_first, begins_with_newline, decided, goes_first, in_order, merged_fate, merge_steps, merge, passes, follow_gap, follow_place, follow_steps, follow}
use Rattle.ep_attr.proofs.Maps.{join-rest, early_comm}
use Rattle.ep_cs.specs.Steps.{passed, run}
use Rattle.ep_cs.proofs.Composed.{IsAction, run_inserts, run_only_inserts, over-settle, passed_inserts}
use Rattle.ep_cs.proofs.Items.{items_act, same_edit, settle_settled, length-settle, length-compose, items-compose, settled-compose}

module _ {X : Type 0} (kept : X → AttrMap → X) (new : Cell → X) where
  run_passes : IsAction kept new → (cells : List Cell) (steps : List Step) (xs : List X) → run kept new (passes cells ++ steps) (map new cells ++ xs) ≡ map new cells ++ run kept new steps xs
  run_passes act [] steps xs = refl
  run_passes act (c ∷ cells) steps xs = ap (λ y. y ∷ run kept new (passes cells ++ steps) (map new cells ++ xs)) (act.nothing (new c)) ∙ ap (λ ys. new c ∷ ys) (run_passes act cells steps xs)

  -- both pieces in their order
  run_gap : IsAction kept new → (side : Bool) (a b : List Cell) (steps : List Step) (xs : List X)
      → run kept new (follow_gap side a b ++ steps) (map new a ++ xs) ≡ map new (in_order side a b) ++ run kept new steps xs
  run_gap act side a b steps xs = go (goes_first side a b)
    where
      go : (t : Bool) → run kept new (cond t (passes a ++ inserts b) (inserts b ++ passes a) ++ steps) (map new a ++ xs) ≡ map new (cond t (a ++ b) (b ++ a)) ++ run kept new steps xs
      go true =
          ap (λ s. run kept new s (map new a ++ xs)) (append_assoc (passes a) (inserts b) steps)
          ∙ run_passes act a (inserts b ++ steps) xs ∙ ap (λ ys. map new a ++ ys) (run_inserts kept new b steps xs)
          ∙ sym (ap (λ ys. ys ++ run kept new steps xs) (map-append new a b) ∙ append_assoc (map new a) (map new b) _)
      go false =
          ap (λ s. run kept new s (map new a ++ xs)) (append_assoc (inserts b) (passes a) steps)
          ∙ run_inserts kept new b (passes a ++ steps) (map new a ++ xs) ∙ ap (λ ys. map new b ++ ys) (run_passes act a steps xs)
          ∙ sym (ap (λ ys. ys ++ run kept new steps xs) (map-append new b a) ∙ append_assoc (map new b) (map new a) _)

  run_place : IsAction kept new → (f g : Fate) (x : X) (steps : List Step) (xs : List X)
      → run kept new (follow_place f g ++ steps) (at_place kept new f x ++ xs) ≡ at_place kept new (merged_fate f g) x ++ run kept new steps xs
  run_place act Drop g x steps xs = refl
  run_place act (Keep a) Drop x steps xs = refl
  run_place act (Keep a) (Keep b) x steps xs = ap (λ y. y ∷ run kept new steps xs) (act.twice x a (rest a b) ∙ ap (kept x) (join-rest a b))

  -- after a's result, the follower gives the merge
  pub run-follow_steps : IsAction kept new → (side : Bool) (ps qs : List Place) (la lb : List Cell) (xs : List X) → length ps ≡ length qs → length xs ≡ length ps
      → run kept new (follow_steps side ps qs la lb) (over kept new ps la xs) ≡ run kept new (merge_steps side ps qs la lb) xs
  run-follow_steps act side [] qs la lb xs n l =
      ap (λ s. run kept new s (map new la)) (sym (append-nil (follow_gap side la lb))) ∙ ap (run kept new (follow_gap side la lb ++ [])) (sym (append-nil (map new la)))
      ∙ run_gap act side la lb [] [] ∙ append-nil (map new (in_order side la lb)) ∙ sym (run_only_inserts kept new (in_order side la lb) xs)
  run-follow_steps act side (p ∷ ps) [] la lb xs n l = absurd (omega arith)
  run-follow_steps act side (p ∷ ps) (q ∷ qs) la lb [] n l = absurd (omega arith)
  run-follow_steps act side (p ∷ ps) (q ∷ qs) la lb (x ∷ xs) n l =
      run_gap act side p.before q.before _ _
      ∙ ap (λ ys. map new (in_order side p.before q.before) ++ ys)
      (run_place act p.fate q.fate x _ _ ∙ ap (λ ys. at_place kept new (merged_fate p.fate q.fate) x ++ ys) (run-follow_steps act side ps qs la lb xs (omega arith) (omega arith)))
      ∙ sym (run_inserts kept new (in_order side p.before q.before) _ (x ∷ xs))

only_inserted : (cells : List Cell) → passed (inserts cells) ≡ 0
only_inserted [] = refl
only_inserted (c ∷ cells) = only_inserted cells

passed-merge_steps : (side : Bool) (ps qs : List Place) (la lb : List Cell) → length ps ≡ length qs → passed (merge_steps side ps qs la lb) ≡ length ps
passed-merge_steps side [] qs la lb n = only_inserted (in_order side la lb)
passed-merge_steps side (p ∷ ps) [] la lb n = absurd (omega arith)
passed-merge_steps side (p ∷ ps) (q ∷ qs) la lb n = passed_inserts (in_order side p.before q.before) _ ∙ ap suc (passed-merge_steps side ps qs la lb (omega arith))

length-numbered : (i n : ℕ) → length (numbered i n) ≡ n
length-numbered i zero = refl
length-numbered i (suc n) = ap suc (length-numbered (i + 1) n)

-- a, and what follows it, is the merge
pub compose-follow : (side : Bool) (a b : Edit) → length a.places ≡ length b.places → compose a (follow side a b) ≡ merge side a b
compose-follow side a b n =
    let ms = merge_steps side a.places b.places a.last b.last in
    let l : length (merge side a b).places ≡ length a.places = length-settle [] ms ∙ passed-merge_steps side a.places b.places a.last b.last n in
    same_edit _ _ (settled-compose a (follow side a b)) (settle_settled [] ms)
    (length-compose a (follow side a b) ∙ sym l)
    (items-compose a (follow side a b)
    ∙ over-settle painted_item New [] (follow_steps side a.places b.places a.last b.last) (items a)
    ∙ run-follow_steps painted_item New items_act side a.places b.places a.last b.last (numbered 0 (length a.places)) n (length-numbered 0 (length a.places))
    ∙ ap (λ k. run painted_item New ms (numbered 0 k)) (sym l)
    ∙ sym (over-settle painted_item New [] ms (numbered 0 (length (merge side a b).places))))

decided_turned : (x y t u : Bool) → t ≡ not u → decided x y t ≡ not (decided y x u)
decided_turned true true t u e = e
decided_turned true false t u e = refl
decided_turned false true t u e = refl
decided_turned false false t u e = e

twice : (t : Bool) → t ≡ not (not t)
twice true = refl
twice false = refl

in_order_turned : (side : Bool) (a b : List Cell) → in_order side a b ≡ in_order (not side) b a
in_order_turned side a b = go _ _ (decided_turned (has_first a) (has_first b) _ _ (decided_turned (not (begins_with_newline a)) (not (begins_with_newline b)) side (not side) (twice side)))
  where
    go : (t u : Bool) → t ≡ not u → cond t (a ++ b) (b ++ a) ≡ cond u (b ++ a) (a ++ b)
    go t true e = ap (λ t. cond t (a ++ b) (b ++ a)) e
    go t false e = ap (λ t. cond t (a ++ b) (b ++ a)) e

merged_turned : (f g : Fate) → merged_fate f g ≡ merged_fate g f
merged_turned Drop Drop = refl
merged_turned Drop (Keep b) = refl
merged_turned (Keep a) Drop = refl
merged_turned (Keep a) (Keep b) = ap Keep (early_comm a b)

merge_steps_turned : (side : Bool) (ps qs : List Place) (la lb : List Cell) → length ps ≡ length qs → merge_steps side ps qs la lb ≡ merge_steps (not side) qs ps lb la
merge_steps_turned side [] [] la lb n = ap inserts (in_order_turned side la lb)
merge_steps_turned side [] (q ∷ qs) la lb n = absurd (omega arith)
merge_steps_turned side (p ∷ ps) [] la lb n = absurd (omega arith)
merge_steps_turned side (p ∷ ps) (q ∷ qs) la lb n =
    let g = in_order_turned side p.before q.before in
    let f = merged_turned p.fate q.fate in
    let r = merge_steps_turned side ps qs la lb (omega arith) in
    λ i. inserts (g i) ++ (Pass (f i) ∷ r i)

pub merge_turned : (side : Bool) (a b : Edit) → length a.places ≡ length b.places → merge side a b ≡ merge (not side) b a
merge_turned side a b n = ap edit_of (merge_steps_turned side a.places b.places a.last b.last n)

-- both ways round give the same
pub diamond : (side : Bool) (a b : Edit) → length a.places ≡ length b.places → compose a (follow side a b) ≡ compose b (follow (not side) b a)
diamond side a b n = compose-follow side a b n ∙ merge_turned side a b n ∙ sym (compose-follow (not side) b a (sym n))
