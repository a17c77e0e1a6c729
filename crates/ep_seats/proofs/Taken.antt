-- The indices of the places where somebody sits.
use Rattle.std.proofs.Common.{◌≡◌, ℕ, zero, suc, ◌+◌, ◌<◌, Bool, true, false, cond, not, ◌||◌, ◌==◌, List, [], ◌∷◌, ◌++◌, map, length, set, Option, Some, MatchOption, refl, sym, ap, ◌∙◌, subst, arith}
use Rattle.std.specs.List.{find, filter, list_any}
use Rattle.std.proofs.lemmas.Bool.Decides.{nat_tests}
use Rattle.ep_units.specs.Text.{Text, text_eq}
use Rattle.ep_history.specs.Lists.{at}
use Rattle.ep_history.specs.declared.seat.Why.{Why}
use Rattle.ep_seats.specs.Places.{sits, sits_at, ended_place, taken_from}
use Rattle.ep_seats.specs.declared.place.Place.{Place}
use Rattle.ep_seats.specs.declared.place.Place.TheVariants.{Sits, Ended}

-- what is found of an author there is the author's place, and where nothing is found the author sits nowhere
pub find-taken : (author : Text) (ps : List Place) (n : ℕ) (f : ℕ → Option Place) → ((k i : ℕ) → i ≡ k + n → f i ≡ at ps k)
    → MatchOption (find (λ i. sits_at author (f i)) (taken_from n ps)) (list_any (sits author) ps ≡ false) (λ i. sits_at author (f i) ≡ true)
find-taken author [] n f h = refl
find-taken author (Ended why ∷ ps) n f h = find-taken author ps (suc n) f (λ k i e. h (suc k) i (omega arith))
find-taken author (Sits other read_only ∷ ps) n f h = subst Holds here (go (find-taken author ps (suc n) f (λ k i e. h (suc k) i (omega arith))) (sits_at author (f n)) refl)
  where
    rest : Option ℕ
    rest = find (λ i. sits_at author (f i)) (taken_from (suc n) ps)

    here : sits_at author (f n) ≡ text_eq other author
    here = ap (sits_at author) (h 0 n (omega arith))

    Holds : Bool → Type 0
    Holds b = MatchOption (cond (sits_at author (f n)) (Some n) rest) ((b || list_any (sits author) ps) ≡ false) (λ i. sits_at author (f i) ≡ true)

    Later : Type 0
    Later = MatchOption rest (list_any (sits author) ps ≡ false) (λ i. sits_at author (f i) ≡ true)

    go : Later → (b : Bool) → sits_at author (f n) ≡ b → MatchOption (cond b (Some n) rest) ((b || list_any (sits author) ps) ≡ false) (λ i. sits_at author (f i) ≡ true)
    go later true e = e
    go later false e = later

-- ---- a place ends

above : (n j : ℕ) (ps : List Place) → j < n → filter (λ k. not (k == j)) (taken_from n ps) ≡ taken_from n ps
above n j [] h = refl
above n j (Ended why ∷ ps) h = above (suc n) j ps (omega arith)
above n j (Sits author read_only ∷ ps) h =
    let other : (n == j) ≡ false = grind (arith, nat_tests) in
    λ i. cond (not (other i)) (n ∷ above (suc n) j ps (omega (arith, h)) i) (above (suc n) j ps (omega (arith, h)) i)

pub taken-ended : (why : Why) (ps : List Place) (n i j : ℕ) → j ≡ i + n → taken_from n (set ps i (Ended why)) ≡ filter (λ k. not (k == j)) (taken_from n ps)
taken-ended why [] n i j e = refl
taken-ended why (Ended old ∷ ps) n zero j e = sym (above (suc n) j ps (omega arith))
taken-ended why (Sits author read_only ∷ ps) n zero j e =
    let here : (n == j) ≡ true = grind (arith, nat_tests) in
    sym (ap (λ t. cond (not t) (n ∷ filter (λ k. not (k == j)) (taken_from (suc n) ps)) (filter (λ k. not (k == j)) (taken_from (suc n) ps))) here ∙ above (suc n) j ps (omega (arith, e)))
taken-ended why (Ended old ∷ ps) n (suc i) j e = taken-ended why ps (suc n) i j (omega arith)
taken-ended why (Sits author read_only ∷ ps) n (suc i) j e =
    let other : (n == j) ≡ false = grind (arith, nat_tests) in
    ap (λ ks. n ∷ ks) (taken-ended why ps (suc n) i j (omega (arith, e)))
    ∙ sym (ap (λ t. cond (not t) (n ∷ filter (λ k. not (k == j)) (taken_from (suc n) ps)) (filter (λ k. not (k == j)) (taken_from (suc n) ps))) other)

-- ---- the last one ends

-- the last index is that of a place where somebody sits, and without it the others are those when that has ended
record IsLast (why : Why) (ps : List Place) (n : ℕ) (ks : List ℕ) (j : ℕ) : Type 0 where
  pub index : ℕ
  pub is : j ≡ index + n
  pub inside : index < length ps
  pub others : taken_from n (set ps index (Ended why)) ≡ ks
  pub same : map (ended_place why) (set ps index (Ended why)) ≡ map (ended_place why) ps

later : {why : Why} {ps : List Place} {n : ℕ} {ks : List ℕ} {j : ℕ} (old : Why) → IsLast why ps (suc n) ks j → IsLast why (Ended old ∷ ps) n ks j
later old l = record {
  index = suc l.index;
  is = omega (arith, l.is);
  inside = omega (arith, l.inside);
  others = l.others;
  same = ap (λ qs. Ended old ∷ qs) l.same;
}

later-taken : {why : Why} {ps : List Place} {n : ℕ} {ks : List ℕ} {j : ℕ} (author : Text) (read_only : Bool) → IsLast why ps (suc n) ks j → IsLast why (Sits author read_only ∷ ps) n (n ∷ ks) j
later-taken {why} {n = n} author read_only l = record {
  index = suc l.index;
  is = omega (arith, l.is);
  inside = omega (arith, l.inside);
  others = ap (λ ks. n ∷ ks) l.others;
  same = ap (λ qs. Ended why ∷ qs) l.same;
}

no-snoc : (j : ℕ) (ks : List ℕ) → [] ≡ ks ++ j ∷ [] → ⊥
no-snoc j [] e = cc
no-snoc j (k ∷ ks) e = cc

last-taken : (why : Why) (ps : List Place) (n : ℕ) (ks : List ℕ) (j : ℕ) → taken_from n ps ≡ ks ++ j ∷ [] → IsLast why ps n ks j
last-taken why [] n ks j e = absurd (no-snoc j ks e)
last-taken why (Ended old ∷ ps) n ks j e = later old (last-taken why ps (suc n) ks j e)
last-taken why (Sits author read_only ∷ ps) n [] j e =
    let first : n ≡ j = cc in
    let rest : taken_from (suc n) ps ≡ [] = cc in
    record {
      index = 0;
      is = omega (arith, first);
      inside = omega arith;
      others = rest;
      same = refl;
    }
last-taken why (Sits author read_only ∷ ps) n (k ∷ ks) j e =
    let first : n ≡ k = cc in
    let rest : taken_from (suc n) ps ≡ ks ++ j ∷ [] = cc in
    subst (λ m. IsLast why (Sits author read_only ∷ ps) n (m ∷ ks) j) first (later-taken author read_only (last-taken why ps (suc n) ks j rest))

-- the same, of all places
pub record EndsLast (why : Why) (ps : List Place) (ks : List ℕ) (i : ℕ) : Type 0 where
  pub inside : i < length ps
  pub others : taken_from 0 (set ps i (Ended why)) ≡ ks
  pub same : map (ended_place why) (set ps i (Ended why)) ≡ map (ended_place why) ps

pub ends-last : (why : Why) (ps : List Place) (ks : List ℕ) (i : ℕ) → taken_from 0 ps ≡ ks ++ i ∷ [] → EndsLast why ps ks i
ends-last why ps ks i e =
    let l = last-taken why ps 0 ks i e in
    let is : l.index ≡ i = omega (arith, l.is) in
    subst (EndsLast why ps ks) is (record { inside = l.inside; others = l.others; same = l.same })

-- where nobody sits, nothing ends
pub none-taken : (why : Why) (ps : List Place) (n : ℕ) → taken_from n ps ≡ [] → map (ended_place why) ps ≡ ps
none-taken why [] n e = refl
none-taken why (Ended old ∷ ps) n e = ap (λ qs. Ended old ∷ qs) (none-taken why ps (suc n) e)
none-taken why (Sits author read_only ∷ ps) n e = absurd (cc e)

-- ---- somebody sits behind them

pub taken-sits : (author : Text) (read_only : Bool) (ps : List Place) (n j : ℕ) → j ≡ length ps + n → taken_from n (ps ++ Sits author read_only ∷ []) ≡ taken_from n ps ++ j ∷ []
taken-sits author read_only [] n j e = let same : n ≡ j = omega arith in ap (λ k. k ∷ []) same
taken-sits author read_only (Ended why ∷ ps) n j e = taken-sits author read_only ps (suc n) j (omega arith)
taken-sits author read_only (Sits other leave ∷ ps) n j e = ap (λ ks. n ∷ ks) (taken-sits author read_only ps (suc n) j (omega arith))

pub no-items : (ks : List ℕ) → length ks ≡ 0 → ks ≡ []
no-items [] e = refl
no-items (k ∷ ks) e = absurd (omega (arith, e))
