-- What a hall has seen, and which cell a pass is of.
use Rattle.std.proofs.Common.{◌≡◌, ℕ, ◌<◌, ◌≤◌, ◌==◌, true, false, List, [], ◌∷◌, ◌++◌, All, length, refl, sym, ap, ◌∙◌, subst, suc, arith, append_assoc, length-append, Option, Some, None, Result, Ok, Err}
use Rattle.std.specs.Prelude.{if◌then◌else◌, nat_lt}
use Rattle.std.proofs.lemmas.Bool.Decides.{nat_tests}
use Rattle.std.proofs.lemmas.List.{map-append}
use Rattle.std.proofs.lemmas.List.Elements.{All-head, All-tail}
use Rattle.atomic_table.specs.Seated.{TableId}
use Rattle.ep_outside.specs.Disk.{Contents}
use Rattle.ep_cell.specs.declared.view.Call.{Call}
use Rattle.ep_cell.specs.History.{StartsWith, call, calls_by, longer, pairs}
use Rattle.ep_cell.specs.Passes.{IsFresh, Known, Makes}
use Rattle.ep_pad.specs.declared.wanted.Wanted.{Wanted}
use Rattle.ep_pad.specs.declared.pass_bad.PassBad.{PassBad}
use Rattle.ep_pad.specs.declared.pass_bad.PassBad.TheVariants as bad
use Rattle.ep_house.specs.Register.{Register, IsLegalFrom, all_told}
use Rattle.ep_house.specs.Told.{told_call, told_log}
use Rattle.ep_pad.specs.Halls.{Answer, Notes, cell_in, told_of}
use Rattle.ep_house.proofs.Opened.{one_cell, none_yet, cell_stays}

some_or : TableId → Option TableId → TableId
some_or d None = d
some_or d (Some x) = x

some_same : (x y : TableId) → Some x ≡ Some y → x ≡ y
unfolding some_or
some_same x y p = ap (some_or x) p

all_last : {X : Type 0} (P : X → Type 0) (xs : List X) (x : X) → All P (xs ++ x ∷ []) → P x
all_last P [] x all = All-head P x [] all
all_last P (y ∷ ys) x all = all_last P ys x (All-tail P y (ys ++ x ∷ []) all)

-- a call of the registry
abbrev It : Type 0 → Type 0
It C = Call Wanted (Result C PassBad)

-- what holds of each call that a pass has seen holds of the one that it has made
pub holds_last : {C : Type 0} (P : Wanted × Result C PassBad → Type 0) (v w : Known Wanted (Result C PassBad)) (name : Wanted) (r : Result C PassBad) → Makes v name r w → All P (pairs w.seen) → P (name, r)
holds_last {C} P v w name r makes all =
    let x = makes.extends in
    let whole : pairs w.seen ≡ pairs (v.seen ++ x.0) ++ (name, r) ∷ [] = ap pairs x.1 ∙ map-append (λ (c : It C). (c.entry, c.reply)) (v.seen ++ x.0) (call v.number name r ∷ []) in
    all_last P (pairs (v.seen ++ x.0)) (name, r) (subst (All P) whole all)

module _ {C : Type 0} (id : C → TableId) where
  -- what a hall knows, told
  abbrev pub told : Known Wanted (Result C PassBad) → Known Wanted Answer
  told v = record { number = v.number; seen = told_log id v.seen; floor = v.floor }

  length_told : (log : List (It C)) → length (told_log id log) ≡ length log
  length_told [] = refl
  length_told (c ∷ cs) = ap suc (length_told cs)

  calls_told : (q : ℕ) (log : List (It C)) → calls_by q (told_log id log) ≡ told_log id (calls_by q log)
  calls_told q [] = refl
  calls_told q (c ∷ cs) = elim (c.by == q) as (λ b. (if b then told_call id c ∷ calls_by q (told_log id cs) else calls_by q (told_log id cs)) ≡ told_log id (if b then c ∷ calls_by q cs else calls_by q cs)) [
    | true ↦ ap (λ l. told_call id c ∷ l) (calls_told q cs)
    | false ↦ calls_told q cs
  ]

  pub answers_told : (log : List (It C)) → pairs (told_log id log) ≡ all_told id (pairs log)
  answers_told [] = refl
  answers_told (c ∷ cs) = ap (λ l. (c.entry, told_of id c.reply) ∷ l) (answers_told cs)

  pub fresh_told : (v : Known Wanted (Result C PassBad)) → IsFresh v → IsFresh (told v)
  fresh_told v f = record {
    numbered = f.numbered;
    none = calls_told v.number v.seen ∙ ap (told_log id) f.none;
    floor = f.floor ∙ sym (length_told v.seen);
  }

  told_pairs-append : (xs ys : List (It C)) → all_told id (pairs (xs ++ ys)) ≡ all_told id (pairs xs) ++ all_told id (pairs ys)
  told_pairs-append xs ys = ap (all_told id) (map-append (λ (c : It C). (c.entry, c.reply)) xs ys) ∙ map-append (λ c. (c.0, told_of id c.1)) (pairs xs) (pairs ys)

  -- what is known of a name's cell stays
  pub found_on : (log seen : List (It C)) (name : List ℕ) (t : TableId) → StartsWith log seen → cell_in (all_told id (pairs seen)) name ≡ Some t → cell_in (all_told id (pairs log)) name ≡ Some t
  found_on log seen name t p e = ap (λ l. cell_in (all_told id (pairs l)) name) p.1
      ∙ (ap (λ l. cell_in l name) (told_pairs-append seen p.0) ∙ cell_stays (all_told id (pairs seen)) (all_told id (pairs p.0)) name t e)

  -- passes that have seen one history, and know the cell of one name, are of one cell
  pub one_table : (log one two : List (It C)) (name other : List ℕ) (s t : TableId) → name ≡ other → StartsWith log one → StartsWith log two
      → cell_in (all_told id (pairs one)) name ≡ Some s → cell_in (all_told id (pairs two)) other ≡ Some t → s ≡ t
  one_table log one two name other s t same p q d e =
      some_same s t (sym (found_on log one name s p d) ∙ (ap (cell_in (all_told id (pairs log))) same ∙ found_on log two other t q e))

  -- a hall's call: what it knew first, before its call and behind it
  module _ (u v w : Known Wanted (Result C PassBad)) (e : Wanted) (r : Result C PassBad) (makes : Makes v e r w) where
    -- who has seen no more than the hall before its call has seen less behind it
    pub hall_leads : (second : List (It C)) → second ≡ v.seen → longer second w.seen ≡ w.seen
    hall_leads second is =
        let x = makes.extends in
        let lt : length second < length w.seen = omega (arith, ap length is, ap length x.1, length-append (v.seen ++ x.0) (call v.number e r ∷ []), length-append v.seen x.0) in
        let t : nat_lt (length second) (length w.seen) ≡ true = grind (arith, nat_tests) in
        ap (λ b. if b then w.seen else second) t

    -- a hall's call is told, also where the hall has seen the same history again
    pub notes : (Legal : List (Wanted × Answer) → Type 0) (z : Known Wanted (Result C PassBad)) → z.seen ≡ w.seen → z.number ≡ w.number
        → StartsWith v.seen u.seen → v.number ≡ u.number → calls_by u.number v.seen ≡ calls_by u.number u.seen → u.floor ≤ v.floor → Legal (all_told id (pairs w.seen)) → Notes Legal (told u) e (told_of id r) (told z)
    notes Legal z same number p is own floor lawful =
        let q = u.number in
        let old = u.seen in
        let b = makes.extends.0 in
        let it : List (It C) = call q e r ∷ [] in
        let whole : z.seen ≡ (old ++ (p.0 ++ b)) ++ it = same ∙ (makes.extends.1 ∙ ((λ j. (p.1 j ++ b) ++ call (is j) e r ∷ []) ∙ ap (λ (l : List (It C)). l ++ it) (append_assoc old p.0 b))) in
        let mine : calls_by q z.seen ≡ calls_by q old ++ it = ap (calls_by q) same ∙ ((λ j. calls_by (sym is j) w.seen) ∙ (makes.own ∙ ((λ j. calls_by (is j) v.seen ++ call (is j) e r ∷ []) ∙ ap (λ (l : List (It C)). l ++ it) own))) in
        record {
          extends = (told_log id (p.0 ++ b), ap (told_log id) whole ∙ (map-append (told_call id) (old ++ (p.0 ++ b)) it ∙ ap (λ l. l ++ told_log id it) (map-append (told_call id) old (p.0 ++ b))));
          own = calls_told q z.seen ∙ (ap (told_log id) mine ∙ (map-append (told_call id) (calls_by q old) it ∙ ap (λ l. l ++ told_log id it) (sym (calls_told q old))));
          behind = omega (arith, floor, makes.behind, length_told z.seen, ap length same);
          number = number ∙ (makes.number ∙ is);
          legal = subst Legal (sym (answers_told z.seen ∙ ap (λ l. all_told id (pairs l)) same)) lawful;
        }

  -- the cell that was answered is the one of the name
  module _ {H D : Type 0} (failed : H → ℕ) (shelf_names : H → Option (List (List ℕ))) (shelf_told : H → List ℕ → Option Contents) (disk_failed : D → ℕ) (disk_told : D → Option Contents) where
    pub answered : (first : Register H D) (v w : Known Wanted (Result C PassBad)) (e : Wanted) (c : C) → Makes v e (Ok c) w → IsLegalFrom failed shelf_names shelf_told disk_failed disk_told first (all_told id (pairs w.seen)) → cell_in (all_told id (pairs w.seen)) e.name ≡ Some (id c)
    answered first v w e c makes legal =
        let x = makes.extends in
        let whole : all_told id (pairs w.seen) ≡ all_told id (pairs (v.seen ++ x.0)) ++ (e, Ok (id c)) ∷ [] = ap (λ l. all_told id (pairs l)) x.1 ∙ told_pairs-append (v.seen ++ x.0) (call v.number e (Ok c) ∷ []) in
        ap (λ l. cell_in l e.name) whole ∙ one_cell failed shelf_names shelf_told disk_failed disk_told first (all_told id (pairs (v.seen ++ x.0))) e (id c) (subst (IsLegalFrom failed shelf_names shelf_told disk_failed disk_told first) whole legal)

    -- a name that was told to be absent has none so far
    pub unmade : (first : Register H D) (v w : Known Wanted (Result C PassBad)) (e : Wanted) (r : Result C PassBad) → Makes v e r w → IsLegalFrom failed shelf_names shelf_told disk_failed disk_told first (all_told id (pairs w.seen)) → r ≡ Err bad.Absent → cell_in (all_told id (pairs w.seen)) e.name ≡ None
    unmade first v w e r makes legal is =
        let x = makes.extends in
        let whole : all_told id (pairs w.seen) ≡ all_told id (pairs (v.seen ++ x.0)) ++ (e, Err bad.Absent) ∷ [] = ap (λ l. all_told id (pairs l)) x.1 ∙ (told_pairs-append (v.seen ++ x.0) (call v.number e r ∷ []) ∙ ap (λ (a : Result C PassBad). all_told id (pairs (v.seen ++ x.0)) ++ (e, told_of id a) ∷ []) is) in
        ap (λ l. cell_in l e.name) whole ∙ none_yet failed shelf_names shelf_told disk_failed disk_told first (all_told id (pairs (v.seen ++ x.0))) e (subst (IsLegalFrom failed shelf_names shelf_told disk_failed disk_told first) whole legal)
