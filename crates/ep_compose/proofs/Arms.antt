-- A piece of two changes as a piece of their composition.
use Rattle.std.proofs.Common.{◌≡◌, ℕ, zero, suc, ◌≤◌, List, [], ◌∷◌, ◌++◌, map, length, take, drop, replicate, refl, sym, ap, ◌∙◌, arith}
use Rattle.std.proofs.lemmas.List.{length-map}
use Rattle.ep_attr.specs.AttrMap.{AttrMap, join}
use Rattle.ep_cs.specs.Doc.{Cell, painted}
use Rattle.ep_cs.specs.Edit.{Fate, Step, Item, painted_item, inserts}
use Rattle.ep_cs.specs.Edit.Fate.{Drop, Keep}
use Rattle.ep_cs.specs.Edit.Step.{Pass}
use Rattle.ep_cs.specs.Edit.Item.{New}
use Rattle.ep_cs.specs.Steps.{passed, run}
use Rattle.ep_cs.proofs.Composed.{run_inserts, run_only_inserts}
use Rattle.ep_cs.proofs.Items.{items_act}
use Rattle.ep_cursor.specs.Made.{given}
use Rattle.ep_cursor.proofs.Made.{passed_times, passed_new, given_kept, given_dropped, given_new}

-- k steps of one kind
abbrev pub times : ℕ → Fate → List Step
times k f = replicate k (Pass f)

-- s of the first change and then t of the second do what n does
pub record IsArm (s t n : List Step) : Type 0 where
  pub same : (a b : List Step) (xs : List Item) → passed s ≤ length xs
      → run painted_item New (t ++ b) (run painted_item New (s ++ a) xs) ≡ run painted_item New n (take (passed s) xs) ++ run painted_item New b (run painted_item New a (drop (passed s) xs))
  pub places : passed n ≡ passed s
  pub fits : given s ≡ passed t
  pub made : given n ≡ given t

both_keep : (k : ℕ) (m c : AttrMap) (a b : List Step) (xs : List Item) → k ≤ length xs
    → run painted_item New (times k (Keep c) ++ b) (run painted_item New (times k (Keep m) ++ a) xs) ≡ run painted_item New (times k (Keep (join m c))) (take k xs) ++ run painted_item New b (run painted_item New a (drop k xs))
both_keep zero m c a b xs h = refl
both_keep (suc k) m c a b [] h = absurd (omega (arith, h))
both_keep (suc k) m c a b (x ∷ xs) h = λ i. items_act.twice x m c i ∷ both_keep k m c a b xs (omega (arith, h)) i

keep_drop : (k : ℕ) (m : AttrMap) (a b : List Step) (xs : List Item) → k ≤ length xs
    → run painted_item New (times k Drop ++ b) (run painted_item New (times k (Keep m) ++ a) xs) ≡ run painted_item New (times k Drop) (take k xs) ++ run painted_item New b (run painted_item New a (drop k xs))
keep_drop zero m a b xs h = refl
keep_drop (suc k) m a b [] h = absurd (omega (arith, h))
keep_drop (suc k) m a b (x ∷ xs) h = keep_drop k m a b xs (omega (arith, h))

drop_first : (k : ℕ) (a b : List Step) (xs : List Item) → k ≤ length xs
    → run painted_item New b (run painted_item New (times k Drop ++ a) xs) ≡ run painted_item New (times k Drop) (take k xs) ++ run painted_item New b (run painted_item New a (drop k xs))
drop_first zero a b xs h = refl
drop_first (suc k) a b [] h = absurd (omega (arith, h))
drop_first (suc k) a b (x ∷ xs) h = drop_first k a b xs (omega (arith, h))

insert_keep : (cs : List Cell) (c : AttrMap) (a b : List Step) (xs : List Item)
    → run painted_item New (times (length cs) (Keep c) ++ b) (run painted_item New (inserts cs ++ a) xs) ≡ run painted_item New (inserts (map (λ d. painted d c) cs)) [] ++ run painted_item New b (run painted_item New a xs)
insert_keep [] c a b xs = refl
insert_keep (d ∷ cs) c a b xs = λ i. items_act.at_new d c i ∷ insert_keep cs c a b xs i

insert_drop : (cs : List Cell) (a b : List Step) (xs : List Item) → run painted_item New (times (length cs) Drop ++ b) (run painted_item New (inserts cs ++ a) xs) ≡ run painted_item New b (run painted_item New a xs)
insert_drop [] a b xs = refl
insert_drop (d ∷ cs) a b xs = insert_drop cs a b xs

insert_second : (cs : List Cell) (a b : List Step) (xs : List Item)
    → run painted_item New (inserts cs ++ b) (run painted_item New a xs) ≡ run painted_item New (inserts cs) [] ++ run painted_item New b (run painted_item New a xs)
insert_second cs a b xs =
    run_inserts painted_item New cs b (run painted_item New a xs)
    ∙ ap (λ ys. ys ++ run painted_item New b (run painted_item New a xs)) (sym (run_only_inserts painted_item New cs []))

-- at any number of places that is the right one
at_places : (n : List Step) (a b : List Step) (xs : List Item) (l r : ℕ) (whole : List Item) → l ≡ r
    → whole ≡ run painted_item New n (take l xs) ++ run painted_item New b (run painted_item New a (drop l xs)) → whole ≡ run painted_item New n (take r xs) ++ run painted_item New b (run painted_item New a (drop r xs))
at_places n a b xs l r whole e h = h ∙ ap (λ (j : ℕ). run painted_item New n (take j xs) ++ run painted_item New b (run painted_item New a (drop j xs))) e

pub arm_keep_keep : (k : ℕ) (m c : AttrMap) → IsArm (times k (Keep m)) (times k (Keep c)) (times k (Keep (join m c)))
arm_keep_keep k m c =
    let s = passed_times k (Keep m) in
    record {
      same = λ a b xs h. at_places (times k (Keep (join m c))) a b xs k (passed (times k (Keep m))) _ (sym s) (both_keep k m c a b xs (omega (arith, h, s)));
      places = passed_times k (Keep (join m c)) ∙ sym s;
      fits = given_kept k m ∙ sym (passed_times k (Keep c));
      made = given_kept k (join m c) ∙ sym (given_kept k c);
    }

pub arm_keep_drop : (k : ℕ) (m : AttrMap) → IsArm (times k (Keep m)) (times k Drop) (times k Drop)
arm_keep_drop k m =
    let s = passed_times k (Keep m) in
    record {
      same = λ a b xs h. at_places (times k Drop) a b xs k (passed (times k (Keep m))) _ (sym s) (keep_drop k m a b xs (omega (arith, h, s)));
      places = passed_times k Drop ∙ sym s;
      fits = given_kept k m ∙ sym (passed_times k Drop);
      made = refl;
    }

pub arm_drop : (k : ℕ) → IsArm (times k Drop) [] (times k Drop)
arm_drop k =
    let s = passed_times k Drop in
    record {
      same = λ a b xs h. at_places (times k Drop) a b xs k (passed (times k Drop)) _ (sym s) (drop_first k a b xs (omega (arith, h, s)));
      places = refl;
      fits = given_dropped k;
      made = given_dropped k;
    }

pub arm_insert_keep : (cs : List Cell) (k : ℕ) (c : AttrMap) → length cs ≡ k → IsArm (inserts cs) (times k (Keep c)) (inserts (map (λ d. painted d c) cs))
arm_insert_keep cs k c e =
    let n = inserts (map (λ d. painted d c) cs) in
    record {
      same = λ a b xs h. at_places n a b xs 0 (passed (inserts cs)) _ (sym (passed_new cs)) (ap (λ (j : ℕ). run painted_item New (times j (Keep c) ++ b) (run painted_item New (inserts cs ++ a) xs)) (sym e) ∙ insert_keep cs c a b xs);
      places = passed_new (map (λ d. painted d c) cs) ∙ sym (passed_new cs);
      fits = given_new cs ∙ e ∙ sym (passed_times k (Keep c));
      made = given_new (map (λ d. painted d c) cs) ∙ length-map cs (λ d. painted d c) ∙ e ∙ sym (given_kept k c);
    }

pub arm_insert_drop : (cs : List Cell) (k : ℕ) → length cs ≡ k → IsArm (inserts cs) (times k Drop) []
arm_insert_drop cs k e = record {
  same = λ a b xs h. at_places [] a b xs 0 (passed (inserts cs)) _ (sym (passed_new cs)) (ap (λ (j : ℕ). run painted_item New (times j Drop ++ b) (run painted_item New (inserts cs ++ a) xs)) (sym e) ∙ insert_drop cs a b xs);
  places = sym (passed_new cs);
  fits = given_new cs ∙ e ∙ sym (passed_times k Drop);
  made = sym (given_dropped k);
}

pub arm_insert : (cs : List Cell) → IsArm [] (inserts cs) (inserts cs)
arm_insert cs = record { same = λ a b xs h. insert_second cs a b xs; places = passed_new cs; fits = sym (passed_new cs); made = refl }
