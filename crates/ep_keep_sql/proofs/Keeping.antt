-- What a keeper tells after a call, from what it told before.
use Rattle.std.proofs.Common.{◌≡◌, ◌≤◌, ◌∙◌, ◌⊎◌, inl, inr, ℕ, List, [], Bool, true, false, cond, refl, sym, ap, ap₂, subst, subst₂, Option, Some, None, Ok, Err, Result, IfOk, IfSome, IsSome, OnOk, OnErr, is_some, true≢false, arith}
use Rattle.std.specs.Prelude.{IsTrue, ◌==◌, ◌&&◌}
use Rattle.std.proofs.lemmas.Bool.{and_parts, and_from}
use Rattle.std.proofs.lemmas.Bool.Decides.{nat_tests}
use base.Stored.{Gv, gnil, gnum, gcons}
use Rattle.sqlite.specs.Disk.{MoreFaults}
use Rattle.sqlite_trees.proofs.Doubt.{clean_of, no_doubt}
use Rattle.sqlite.specs.Order.{Row}
use Rattle.sqlite.specs.State.{State, HasCleanDisk, IsUnchanged}
use Rattle.sqlite.specs.declared.error.Error.{Error}
use Rattle.sqlite.specs.Held.{Held, state}
use Rattle.sqlite.specs.Schema.{Schema}
use Rattle.sqlite.specs.Store.{Ghosts}
use Rattle.sqlite.specs.Steps.{over_memory}
use Rattle.sqlite.proofs.Callers.{memory_is_clean}
use Rattle.sqlite_trees.specs.declared.memory.MemStore.{MemStore}
use Rattle.sqlite_schema.specs.contracts.schema.Schema.{the_row}
use Rattle.ep_outside.proofs.Rising.{and_left, and_right, and_both}
use Rattle.ep_outside.specs.declared.keeper.Pair.{Pair}
use Rattle.ep_outside.specs.declared.keeper.Put.{Put}
use Rattle.ep_outside.specs.Kept.{after, listed, value_at, Gets, IsTold, Lists, Puts, Rises, Stays}
use Rattle.ep_keep_sql.specs.Inside.{Rests}
use Rattle.ep_keep_sql.specs.KeptTable.{kept_schema}
use Rattle.ep_keep_sql.specs.Keeps.{Answers, GoesOn, NeverFails, tells_where, began_well, is_ours, map_of, same_code, serves, told_of, Goes, is_kept, is_kept_at, rises_if, rises_told}
use Rattle.ep_keep_sql.specs.Told.{map_in, Holds}
use Rattle.ep_keep_sql.proofs.Removes.{tells}
use Rattle.ep_keep_sql.proofs.Without.{told_rises}

-- ---- whose schema it is

same_number : (m n : ℕ) → (m == n) ≡ true → m ≡ n
same_number m n h = grind (arith, nat_tests)

same_is : (x y : Gv) → same_code x y ≡ true → x ≡ y
same_is gnil gnil h = refl
same_is gnil (gnum n) h = absurd (true≢false (sym h))
same_is gnil (gcons c d) h = absurd (true≢false (sym h))
same_is (gnum m) gnil h = absurd (true≢false (sym h))
same_is (gnum m) (gnum n) h = ap gnum (same_number m n h)
same_is (gnum m) (gcons c d) h = absurd (true≢false (sym h))
same_is (gcons a b) gnil h = absurd (true≢false (sym h))
same_is (gcons a b) (gnum n) h = absurd (true≢false (sym h))
same_is (gcons a b) (gcons c d) h = let parts = and_parts _ _ h in ap₂ gcons (same_is a c parts.0) (same_is b d parts.1)

own_number : (n : ℕ) → (n == n) ≡ true
own_number n = grind (arith, nat_tests)

same_own : (x : Gv) → same_code x x ≡ true
same_own gnil = refl
same_own (gnum n) = own_number n
same_own (gcons a b) = and_from _ _ (same_own a) (same_own b)

ours_is : (schema : Schema) → is_ours schema ≡ true → schema ≡ kept_schema
unfolding is_ours
ours_is schema h = the_row.coded.inj schema kept_schema (same_is _ _ h)

ours_own : (schema : Schema) → schema ≡ kept_schema → is_ours schema ≡ true
unfolding is_ours
ours_own schema e = subst (λ s. same_code (the_row.coded.code s) (the_row.coded.code kept_schema) ≡ true) (sym e) (same_own (the_row.coded.code kept_schema))

-- ---- a map that is told

some_is : {A : Type 0} (o : Option A) → IsTrue (is_some o) → (a : A) × (o ≡ Some a)
some_is None h = absurd (true≢false (sym h))
some_is (Some a) h = (a, refl)

-- a map is told where the connection serves and the database holds it
pub record Shows (s : State) (m : List Pair) : Type 0 where
  pub serving : IsTrue (serves s)
  pub holds : Holds s.now m

pub shows : (s : State) (m : List Pair) → map_of s ≡ Some m → Shows s m
shows s m e = go (serves s && is_ours s.now.schema) refl e
  where
    go : (b : Bool) → (serves s && is_ours s.now.schema) ≡ b → cond b (map_in (s.now.trees 0)) None ≡ Some m → Shows s m
    go true is e = let parts = and_parts (serves s) (is_ours s.now.schema) is in record { serving = parts.0; holds = record { schema = ours_is s.now.schema parts.1; rows = e } }
    go false is e = absurd (let bad : None ≡ Some m = e in cc)

pub shows_from : (s : State) (m : List Pair) → IsTrue (serves s) → Holds s.now m → map_of s ≡ Some m
shows_from s m h holds =
    let both : (serves s && is_ours s.now.schema) ≡ true = and_from (serves s) (is_ours s.now.schema) h (ours_own s.now.schema holds.schema) in
    ap (λ b. cond b (map_in (s.now.trees 0)) None) both ∙ holds.rows

served : (old new : State) → Goes old new → IsTrue (serves new) → IsTrue (serves old)
served old new goes h =
    let clean : HasCleanDisk new = no_doubt new.is_clean (and_right new.is_open new.is_clean h) in
    let was : HasCleanDisk old = omega (arith, goes.clean) in
    and_both old.is_open old.is_clean (goes.was_open clean (and_left new.is_open new.is_clean h)) (clean_of old.is_clean was)

abbrev pub IsKept : Bool → State → Type 0
IsKept well s = IsTrue well → IsTrue (serves s) → IsTrue (is_some (map_of s))

kept_is : (well : Bool) (s : State) → is_kept well s ≡ true → IsKept well s
kept_is well s h = λ yes_it serving. let both : (well && serves s) ≡ true = and_from well (serves s) yes_it serving in sym (ap (λ b. cond b (is_some (map_of s)) true) both) ∙ h

kept_from : (well : Bool) (s : State) → IsKept well s → is_kept well s ≡ true
kept_from well s kept = go (well && serves s) refl
  where
    go : (b : Bool) → (well && serves s) ≡ b → cond b (is_some (map_of s)) true ≡ true
    go true is = let parts = and_parts well (serves s) is in kept parts.0 parts.1
    go false is = refl

-- what a kept table holds
held : (well : Bool) (s : State) → IsTrue well → IsKept well s → IsTrue (serves s) → (m : List Pair) × Holds s.now m
held well s yes_it kept serving = let m = some_is (map_of s) (kept yes_it serving) in (m.0, (shows s m.0 m.1).holds)

-- ---- one call

-- each map that the old state held is changed so, where the new state is open and clean
abbrev pub Turns : State → State → (List Pair → List Pair) → Type 0
Turns old new change = HasCleanDisk new → IsTrue new.is_open → (m : List Pair) → Holds old.now m → Holds new.now (change m)

pub rests_turns : (old new : State) → ((m : List Pair) → Holds old.now m → Rests old new) → Turns old new (λ m. m)
rests_turns old new rests clean is_open m holds = subst (λ d. Holds d m) (sym (rests m holds clean is_open).0) holds

turned : (well : Bool) (old new : State) (change : List Pair → List Pair) → Goes old new → Turns old new change → IsKept well old → IsTrue well → IsTrue (serves new)
    → (m : List Pair) × Holds old.now m × Holds new.now (change m)
turned well old new change goes turns kept yes_it serving =
    let was = held well old yes_it kept (served old new goes serving) in
    (was.0, was.1, turns (no_doubt new.is_clean (and_right new.is_open new.is_clean serving)) (and_left new.is_open new.is_clean serving) was.0 was.1)

pub still_kept : (well : Bool) (old new : State) (change : List Pair → List Pair) → Goes old new → Turns old new change → IsKept well old → IsKept well new
still_kept well old new change goes turns kept = λ yes_it serving.
    let now = turned well old new change goes turns kept yes_it serving in
    ap is_some (shows_from new (change now.0) serving now.2)

-- read back: where a map is told now, one was told before, which the call changed into it
came_from : (well : Bool) (old new : State) (change : List Pair → List Pair) (n : List Pair) → IsTrue well → Goes old new → Turns old new change → IsKept well old → map_of new ≡ Some n
    → (m : List Pair) × Holds old.now m × (map_of old ≡ Some m) × (n ≡ change m)
came_from well old new change n yes_it goes turns kept e =
    let h = shows new n e in
    let now = turned well old new change goes turns kept yes_it h.serving in
    let same : Some n ≡ Some (change now.0) = sym h.holds.rows ∙ now.2.rows in
    (now.0, now.1, shows_from old now.0 (served old new goes h.serving) now.1, (let is : n ≡ change now.0 = cc in is))

-- a relation of what is told before and now
pub back : {S : Type 0} (g : Ghosts S) (first : Option (Held S)) (h k : Held S) (change : List Pair → List Pair) (P : Option (List Pair) → Option (List Pair) → Type 0)
    → Goes (state g h) (state g k) → Turns (state g h) (state g k) change → IsKept (began_well g first) (state g h)
    → ((o : Option (List Pair)) → P o None) → ((m : List Pair) → HasCleanDisk (state g k) → Holds (state g h).now m → P (Some m) (Some (change m))) → P (told_of g first (Some h)) (told_of g first (Some k))
back g first h k change P goes turns kept none some = go (began_well g first) refl (map_of (state g k)) refl
  where
    go : (b : Bool) → began_well g first ≡ b → (o : Option (List Pair)) → map_of (state g k) ≡ o → P (cond b (map_of (state g h)) None) (cond b o None)
    go false is o e = none None
    go true is None e = none (map_of (state g h))
    go true is (Some n) e =
        let c = came_from (began_well g first) (state g h) (state g k) change n is goes turns kept e in
        let serving = (shows (state g k) n e).serving in
        subst₂ P (sym c.2) (ap Some (sym c.3)) (some c.0 (no_doubt (state g k).is_clean (and_right (state g k).is_open (state g k).is_clean serving)) c.1)

-- ---- what told goes on telling

told_is : (o : Option (List Pair)) → IsTold o → (m : List Pair) × (o ≡ Some m)
told_is None h = absurd h
told_is (Some m) h = (m, refl)

is_told : (o : Option (List Pair)) (m : List Pair) → o ≡ Some m → IsTold o
is_told o m e = subst IsTold (sym e) tt

tells_on : {S : Type 0} (g : Ghosts S) (first : Option (Held S)) (h k : Held S) (change : List Pair → List Pair) → Goes (state g h) (state g k) → Turns (state g h) (state g k) change
    → GoesOn g (Some h) (Some k) (told_of g first (Some h)) (told_of g first (Some k))
tells_on g first h k change goes turns clean told = go (began_well g first) told
  where
    go : (b : Bool) → IsTold (cond b (map_of (state g h)) None) → IsTold (cond b (map_of (state g k)) None) ⊎ MoreFaults (state g h).faults (state g k).faults
    go false t = absurd t
    go true t =
        let m = told_is (map_of (state g h)) t in
        let was = shows (state g h) m.0 m.1 in
        elim (goes.closes clean (and_left (state g h).is_open (state g h).is_clean was.serving)) [
          | inl is_open ↦
              let serving = and_both (state g k).is_open (state g k).is_clean is_open (clean_of (state g k).is_clean clean) in
              inl (is_told (map_of (state g k)) (change m.0) (shows_from (state g k) (change m.0) serving (turns clean is_open m.0 was.holds)))
          | inr more ↦ inr more
        ]

told_where : (o : Option (List Pair)) → IsTrue (is_some o) → IsTold o
told_where None h = absurd (true≢false (sym h))
told_where (Some m) h = tt

-- where no fault is ever counted
no_more : (x y : ℕ) → x ≡ 0 → y ≡ 0 → MoreFaults x y → ⊥
no_more x y none still more = omega arith

some_told : (o : Option (List Pair)) → IsTold o → IsTrue (is_some o)
some_told None told = absurd told
some_told (Some m) told = refl

-- what always tells goes on to
pub still_telling : {S : Type 0} (g : Ghosts S) (first old : Option (Held S)) (k : Held S) (always : Bool) → (IsTrue always → NeverFails g) → GoesOn g old (Some k) (told_of g first old) (told_of g first (Some k))
    → IsTrue (tells_where always (told_of g first old)) → IsTrue (tells_where always (told_of g first (Some k)))
still_telling g first old k false never goes was = refl
still_telling g first None k true never goes was = absurd (true≢false (sym was))
still_telling g first (Some h) k true never goes was =
    let store = never refl in
    elim (goes (store k).0 (told_where (told_of g first (Some h)) was)) [ inl told ↦ some_told (told_of g first (Some k)) told | inr more ↦ absurd (no_more (state g h).faults (state g k).faults (store h).1 (store k).1 more) ]

-- one that isn't marked so may fall silent
pub no_mark : {S : Type 0} (g : Ghosts S) (always : Bool) → always ≡ false → IsTrue always → NeverFails g
no_mark g always e is = absurd (true≢false (sym is ∙ e))

pub no_telling : (always : Bool) (told : Option (List Pair)) → always ≡ false → IsTrue (tells_where always told)
no_telling always told e = subst (λ b. IsTrue (tells_where b told)) (sym e) refl

pub memory_never_fails : NeverFails over_memory
memory_never_fails h = (memory_is_clean h, refl)

pub telling_now : (told : Option (List Pair)) (m : List Pair) → told ≡ Some m → IsTrue (tells_where true told)
telling_now told m e = ap is_some e

-- ---- what a keeper always tells

rises_in : (rows : List Row) (o : Option (List Pair)) → map_in rows ≡ o → rises_if o ≡ true
rises_in rows None e = refl
rises_in rows (Some m) e = told_rises rows m (tells rows m e).told

rises_of : (s : State) → rises_if (map_of s) ≡ true
rises_of s =
    elim (serves s && is_ours s.now.schema) as (λ b. rises_if (cond b (map_in (s.now.trees 0)) None) ≡ true) [ true ↦ rises_in (s.now.trees 0) (map_in (s.now.trees 0)) refl | false ↦ refl ]

told_rising : {S : Type 0} (g : Ghosts S) (first conn : Option (Held S)) → rises_if (told_of g first conn) ≡ true
told_rising g first None = refl
told_rising g first (Some h) = elim (began_well g first) as (λ b. rises_if (cond b (map_of (state g h)) None) ≡ true) [ true ↦ rises_of (state g h) | false ↦ refl ]

pub told_in_order : {S : Type 0} (g : Ghosts S) (first conn : Option (Held S)) → Rises (told_of g first conn)
told_in_order g first conn = rises_told (told_of g first conn) (told_rising g first conn)

-- a new keeper
pub kept_first : {S : Type 0} (g : Ghosts S) (conn : Option (Held S)) → is_kept_at g (began_well g conn) conn ≡ true
kept_first g None = refl
kept_first g (Some h) = kept_from (began_well g (Some h)) (state g h) (λ well serving. well)

-- ---- a keeper's call, by its connection before and after

module _ {S : Type 0} (g : Ghosts S) (first conn : Option (Held S)) (h k : Held S) (is : conn ≡ Some h) (goes : Goes (state g h) (state g k)) (kept : is_kept_at g (began_well g first) conn ≡ true) where
  kept_here : IsKept (began_well g first) (state g h)
  kept_here = kept_is (began_well g first) (state g h) (subst (λ c. is_kept_at g (began_well g first) c ≡ true) is kept)

  pub kept_on : (change : List Pair → List Pair) → Turns (state g h) (state g k) change → is_kept_at g (began_well g first) (Some k) ≡ true
  kept_on change turns = kept_from (began_well g first) (state g k) (still_kept (began_well g first) (state g h) (state g k) change goes turns kept_here)

  pub told_back : (change : List Pair → List Pair) (P : Option (List Pair) → Option (List Pair) → Type 0) → Turns (state g h) (state g k) change → ((o : Option (List Pair)) → P o None)
      → ((m : List Pair) → HasCleanDisk (state g k) → Holds (state g h).now m → P (Some m) (Some (change m))) → P (told_of g first conn) (told_of g first (Some k))
  told_back change P turns none some = subst (λ c. P (told_of g first c) (told_of g first (Some k))) (sym is) (back g first h k change P goes turns kept_here none some)

  pub tells_still : (change : List Pair → List Pair) → Turns (state g h) (state g k) change → GoesOn g conn (Some k) (told_of g first conn) (told_of g first (Some k))
  tells_still change turns = subst (λ c. GoesOn g c (Some k) (told_of g first c) (told_of g first (Some k))) (sym is) (tells_on g first h k change goes turns)

  tells_open : (change : List Pair → List Pair) → Turns (state g h) (state g k) change → IsTrue (state g k).is_open → Answers g first (Some k) (told_of g first (Some k))
  tells_open change turns is_open clean well =
      let serving = and_both (state g k).is_open (state g k).is_clean is_open (clean_of (state g k).is_clean clean) in
      let told : IsTold (map_of (state g k)) = told_where (map_of (state g k)) (still_kept (began_well g first) (state g h) (state g k) change goes turns kept_here well serving) in
      subst (λ b. IsTold (cond b (map_of (state g k)) None)) (sym well) told

  -- what is answered is answered by an open connection
  pub answers : {X : Type 0} (r : Result X Error) → Turns (state g h) (state g k) (λ m. m) → (HasCleanDisk (state g k) → OnOk r (IsTrue (state g k).is_open)) → OnOk r (Answers g first (Some k) (told_of g first (Some k)))
  answers (Ok x) turns opens = λ clean well. tells_open (λ m. m) turns (opens clean) clean well
  answers (Err e) turns opens = tt

  pub stays : Turns (state g h) (state g k) (λ m. m) → Stays (told_of g first conn) (told_of g first (Some k))
  stays turns = told_back (λ m. m) Stays turns (λ o. tt) (λ m clean holds. refl)

  pub gets : (key : List ℕ) (value : Option (List ℕ)) → Turns (state g h) (state g k) (λ m. m) → (HasCleanDisk (state g k) → (m : List Pair) → Holds (state g h).now m → value ≡ value_at m key)
      → Gets (told_of g first conn) (told_of g first (Some k)) key value
  gets key value turns is_it = told_back (λ m. m) (λ o n. Gets o n key value) turns (λ o. tt) (λ m clean holds. (refl, is_it clean m holds))

  pub lists : (prefix : List ℕ) (pairs : List Pair) → Turns (state g h) (state g k) (λ m. m) → (HasCleanDisk (state g k) → (m : List Pair) → Holds (state g h).now m → pairs ≡ listed m prefix)
      → Lists (told_of g first conn) (told_of g first (Some k)) prefix pairs
  lists prefix pairs turns are_they = told_back (λ m. m) (λ o n. Lists o n prefix pairs) turns (λ o. tt) (λ m clean holds. (refl, are_they clean m holds))

  pub puts_all : (puts : List Put) → Turns (state g h) (state g k) (λ m. after m puts) → Puts (told_of g first conn) (told_of g first (Some k)) puts
  puts_all puts turns = told_back (λ m. after m puts) (λ o n. Puts o n puts) turns (λ o. tt) (λ m clean holds. (m, refl, refl))

  -- by what the call answered
  pub ok_gets : (r : Result (Option (List ℕ)) Error) (key : List ℕ) → Turns (state g h) (state g k) (λ m. m)
      → (HasCleanDisk (state g k) → (m : List Pair) → Holds (state g h).now m → IfOk r (λ value. value ≡ value_at m key)) → IfOk r (λ value. Gets (told_of g first conn) (told_of g first (Some k)) key value)
  ok_gets (Ok value) key turns is_it = gets key value turns is_it
  ok_gets (Err e) key turns is_it = tt

  pub ok_lists : (r : Result (List Pair) Error) (prefix : List ℕ) → Turns (state g h) (state g k) (λ m. m)
      → (HasCleanDisk (state g k) → (m : List Pair) → Holds (state g h).now m → IfOk r (λ pairs. pairs ≡ listed m prefix)) → IfOk r (λ pairs. Lists (told_of g first conn) (told_of g first (Some k)) prefix pairs)
  ok_lists (Ok pairs) prefix turns are_they = lists prefix pairs turns are_they
  ok_lists (Err e) prefix turns are_they = tt

  pub err_stays : {X : Type 0} (r : Result X Error) → Turns (state g h) (state g k) (λ m. m) → OnErr r (Stays (told_of g first conn) (told_of g first (Some k)))
  err_stays (Ok x) turns = tt
  err_stays (Err e) turns = stays turns

  module _ (puts : List Put) where
    -- all puts, or none
    abbrev pub AllPut : {X : Type 0} → Result X Error → Type 0
    AllPut r = HasCleanDisk (state g k) → (m : List Pair) → Holds (state g h).now m → OnOk r (Holds (state g k).now (after m puts))

    abbrev pub NonePut : {X : Type 0} → Result X Error → Type 0
    NonePut r = HasCleanDisk (state g k) → IsTrue (state g k).is_open → OnErr r (((state g k).now ≡ (state g h).now) × ((state g k).committed ≡ (state g h).committed))

    none_turns : HasCleanDisk (state g k) → IsTrue (state g k).is_open → (((state g k).now ≡ (state g h).now) × ((state g k).committed ≡ (state g h).committed)) → (m : List Pair) → Holds (state g h).now m → Holds (state g k).now m
    none_turns clean is_open same m holds = subst (λ d. Holds d m) (sym same.0) holds

    pub put_kept : {X : Type 0} (r : Result X Error) → AllPut r → NonePut r → is_kept_at g (began_well g first) (Some k) ≡ true
    put_kept (Ok x) all none = kept_on (λ m. after m puts) (λ clean is_open m holds. all clean m holds)
    put_kept (Err e) all none = kept_on (λ m. m) (λ clean is_open m holds. none_turns clean is_open (none clean is_open) m holds)

    pub put_tells : {X : Type 0} (r : Result X Error) → AllPut r → NonePut r → GoesOn g conn (Some k) (told_of g first conn) (told_of g first (Some k))
    put_tells (Ok x) all none = tells_still (λ m. after m puts) (λ clean is_open m holds. all clean m holds)
    put_tells (Err e) all none = tells_still (λ m. m) (λ clean is_open m holds. none_turns clean is_open (none clean is_open) m holds)

    pub put_answers : {X : Type 0} (r : Result X Error) → AllPut r → (HasCleanDisk (state g k) → OnOk r (IsTrue (state g k).is_open)) → OnOk r (Answers g first (Some k) (told_of g first (Some k)))
    put_answers (Ok x) all opens = λ clean well. tells_open (λ m. after m puts) (λ clean is_open m holds. all clean m holds) (opens clean) clean well
    put_answers (Err e) all opens = tt

    pub ok_puts : {X : Type 0} (r : Result X Error) → AllPut r → OnOk r (Puts (told_of g first conn) (told_of g first (Some k)) puts)
    ok_puts (Ok x) all = puts_all puts (λ clean is_open m holds. all clean m holds)
    ok_puts (Err e) all = tt

    pub err_none : {X : Type 0} (r : Result X Error) → NonePut r → OnErr r (Stays (told_of g first conn) (told_of g first (Some k)))
    err_none (Ok x) none = tt
    err_none (Err e) none = stays (λ clean is_open m holds. none_turns clean is_open (none clean is_open) m holds)

-- ---- a keeper as it is made

pub kept_new : {S : Type 0} (g : Ghosts S) (first conn : Option (Held S)) → first ≡ conn → is_kept_at g (began_well g first) conn ≡ true
kept_new g first conn is = subst (λ f. is_kept_at g (began_well g f) conn ≡ true) (sym is) (kept_first g conn)

pub new_told : {S : Type 0} (g : Ghosts S) (first : Option (Held S)) (h : Held S) (m : List Pair) → first ≡ Some h → HasCleanDisk (state g h) → IsTrue (state g h).is_open → Holds (state g h).now m
    → told_of g first (Some h) ≡ Some m
new_told g first h m is clean is_open holds =
    let here : map_of (state g h) ≡ Some m = shows_from (state g h) m (and_both (state g h).is_open (state g h).is_clean is_open (clean_of (state g h).is_clean clean)) holds in
    subst (λ f. told_of g f (Some h) ≡ Some m) (sym is) (ap (λ b. cond b (map_of (state g h)) None) (ap is_some here) ∙ here)

pub same_told : {S : Type 0} (g : Ghosts S) (first : Option (Held S)) (old : State) (h : Held S) (m : List Pair) → first ≡ Some h → HasCleanDisk (state g h) → IsUnchanged old (state g h) → Holds old.now m
    → told_of g first (Some h) ≡ Some m
same_told g first old h m is clean same holds = new_told g first h m is clean same.0.is_open (subst (λ d. Holds d m) (sym same.0.now_is) holds)

-- memory is always clean
pub told_in_memory : (first conn : Option (Held MemStore)) → IsSome conn → IfSome conn (λ h. HasCleanDisk (state over_memory h) → told_of over_memory first conn ≡ Some []) → told_of over_memory first conn ≡ Some []
told_in_memory first None has told = absurd (true≢false (sym has))
told_in_memory first (Some h) has told = told (memory_is_clean h)
