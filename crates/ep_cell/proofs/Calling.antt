-- A whole call, and the end of a cell.
use Rattle.std.proofs.Common.{◌≡◌, ◌≢◌, ℕ, ◌+◌, ◌==◌, true, List, [], ◌∷◌, ◌++◌, length, sym, refl, ap, ◌∙◌, subst, arith, length-append, Option, Some, None}
use Rattle.std.specs.Option.{ForSome}
use mathlib.Core.Option as m
use prog.Atomic.{either}
use Rattle.std.proofs.lemmas.List.{map-append}
use Rattle.std.proofs.lemmas.List.Elements.{filter-append}
use Rattle.atomic_table.specs.Table.{Me, Step, step, rest, Allows}
use Rattle.std.specs.declared.snapshot.Snapshot.{Snapshot}
use Rattle.ep_cell.specs.declared.view.Call.{Call}
use Rattle.ep_cell.specs.declared.view.View.{View}
use Rattle.ep_cell.specs.declared.view.Held.{Held}
use Rattle.ep_cell.specs.History.{StartsWith, call, calls_by, pairs}
use Rattle.ep_cell.specs.Passes.{Known, Makes}
use Rattle.ep_cell.specs.Rule.{IsCounted, joined}
use Rattle.ep_cell.specs.Steps.{IsHeld, Takes, Appends, Puts, Learns, HasMade, call_of, call_in}
use Rattle.ep_cell.proofs.Histories.{own_calls}
use Rattle.ep_cell.proofs.Keeping.{append_allows, put_allows}

module _ {S : Type 0} where
  pub kept_head : (l t : List (ℕ × S)) (x : S) → l ≡ (0, x) ∷ t → l ≡ (0, x) ∷ rest l
  kept_head l t x p = p ∙ ap (λ (u : List (ℕ × S)). (0, x) ∷ u) (sym (ap rest p))

  first_or : S → List (ℕ × S) → S
  first_or d [] = d
  first_or d (x ∷ xs) = x.1

  pub same_head : (l t u : List (ℕ × S)) (x y : S) → l ≡ (0, x) ∷ t → l ≡ (0, y) ∷ u → x ≡ y
  unfolding first_or
  same_head l t u x y p q = ap (first_or x) (sym p ∙ q)

-- two seats that were put together began with one machine
pub of_one : {M E R : Type 0} (v u : View M E R) (b w : Me (Held M E R) (View M E R)) (rest : List (ℕ × Held M E R)) (s : Step (Held M E R)) (n : ℕ) → b ≡ (joined v u, rest) → Learns s b n w
    → ForSome v.begun (λ ours. ForSome u.begun (λ theirs. ours ≡ theirs))
of_one v u b w rest s n is learned ours e theirs o = learned.7 ours (ap (λ t. t.0.begun) is ∙ e) theirs (ap (λ t. t.0.theirs) is ∙ o)

-- what contracts see of a view
abbrev pub knows : {M E R : Type 0} → View M E R → Known E R
knows v = record { number = v.number; seen = v.seen; floor = v.floor }

-- a whole call, by the seat at its start, with the machine, after the call of the machine, after the append and at its end
module _ {M E R : Type 0} (stands : M → M → List (E × R) → Type 0) (legal : M → List (E × R) → Type 0) (first known : M) (slots id : ℕ) (v w x u : Me (Held M E R) (View M E R)) (n : ℕ) (e : E) (r : R)
    (named : v.0.number ≢ 0) (begun : v.0.begun ≡ Some known) (taken : Takes stands legal (step 1 2 0 1 m.none) v 0 w) (counts : x ≡ w) (calls : u.0 ≡ x.0) (is : n ≡ length w.0.seen)
    (made : (h : Held M E R) × (u.1 ≡ (0, h) ∷ []) × HasMade stands legal x.0.begun h x.0.seen e r) where
  view_is : u.0 ≡ w.0
  view_is = calls ∙ ap (λ (t : Me (Held M E R) (View M E R)). t.0) counts

  call_begun : x.0.begun ≡ Some known
  call_begun = ap (λ (t : Me (Held M E R) (View M E R)). t.0.begun) counts ∙ ((taken.0 refl).9 ∙ begun)

  machine_begun : u.0.begun ≡ Some known
  machine_begun = ap (λ (t : View M E R). t.begun) calls ∙ call_begun

  with_machine : u.0.has_machine ≡ true
  with_machine = ap (λ (t : View M E R). t.has_machine) view_is ∙ (taken.0 refl).3

  number_is : u.0.number ≡ v.0.number
  number_is = ap (λ (t : View M E R). t.number) view_is ∙ (taken.0 refl).4

  call_is : call_in u.0.number u.1 ≡ call u.0.number e r ∷ []
  call_is =
      let k = made.2 in
      ap (call_in u.0.number) made.1 ∙ (ap (call_of u.0.number) k.last ∙ (λ j. call u.0.number (k.entry_is j) (k.reply_is j) ∷ []))

  abbrev log_is : x.0.seen ≡ u.0.seen
  log_is = ap (λ (t : View M E R). t.seen) (sym calls)

  pub call_appends : Allows (IsCounted first (stands first) (legal first)) slots id u 0 (λ k. either (k == n) (n + 1) k) (Appends (step slots 0 n (n + 1) m.none) u)
  call_appends = append_allows stands legal first slots id n u e r with_machine (λ z. named (sym number_is ∙ z)) (is ∙ ap (λ (t : View M E R). length t.seen) (sym view_is)) call_is known machine_begun
      (subst (λ (l : List (Call E R)). legal known (pairs l ++ (e, r) ∷ [])) log_is (made.2.told known call_begun))

  module _ (found : ℕ) (z : Me (Held M E R) (View M E R)) (app : Appends (step slots 0 n (n + 1) m.none) u found z) (one : slots ≡ 1) where
    append_begun : z.0.begun ≡ Some known
    append_begun = app.6 ∙ machine_begun

    back_begun : x.0.begun ≡ z.0.begun
    back_begun = call_begun ∙ sym append_begun

    seen_is : z.0.seen ≡ u.0.seen ++ call u.0.number e r ∷ []
    seen_is = app.4 ∙ ap (λ (l : List (Call E R)). u.0.seen ++ l) call_is

    pairs_are : pairs z.0.seen ≡ pairs x.0.seen ++ (e, r) ∷ []
    pairs_are = ap pairs seen_is ∙ (map-append (λ (c : Call E R). (c.entry, c.reply)) u.0.seen (call u.0.number e r ∷ []) ∙ ap (λ (l : List (Call E R)). pairs l ++ (e, r) ∷ []) (sym log_is))

    pub call_puts : Allows (IsCounted first (stands first) (legal first)) slots id z 2 (λ _. 0) (λ _. Puts (step slots 2 0 0 m.none) z 0)
    call_puts =
        let back : (z.0, (0, made.0) ∷ []) ≡ z = λ j. (z.0, sym (app.1 ∙ made.1) j) in
        subst (λ (t : Me (Held M E R) (View M E R)). Allows (IsCounted first (stands first) (legal first)) slots id t 2 (λ _. 0) (λ _. Puts (step slots 2 0 0 m.none) t 0)) back
        (put_allows stands legal first slots id z.0 made.0 one app.3 known append_begun
        (made.2.machine, made.2.is, λ f is. subst (stands f made.2.machine) (sym pairs_are) (made.2.stood f (back_begun ∙ is))))

    module _ (y : Me (Held M E R) (View M E R)) (rested : Puts (step slots 2 0 0 m.none) z 0 y) where
      last_is : y.0.seen ≡ w.0.seen ++ call v.0.number e r ∷ []
      last_is = ap (λ (t : View M E R). t.seen) rested.1 ∙ (seen_is ∙ (λ j. (view_is j).seen ++ call (number_is j) e r ∷ []))

      pub call_makes : Makes (knows v.0) e r (knows y.0)
      call_makes =
          let t = taken.0 refl in
          record {
            extends = (t.5.0, last_is ∙ ap (λ (l : List (Call E R)). l ++ call v.0.number e r ∷ []) t.5.1);
            own = ap (calls_by v.0.number) last_is ∙ (filter-append (λ c. c.by == v.0.number) w.0.seen (call v.0.number e r ∷ []) ∙ (λ j. t.6 named j ++ own_calls v.0.number e r j));
            behind = omega (arith, ap length last_is, length-append w.0.seen (call v.0.number e r ∷ []), t.7);
            number = ap (λ (t : View M E R). t.number) rested.1 ∙ (app.2 ∙ number_is);
            floor = ap (λ (t : View M E R). t.floor) rested.1 ∙ (app.5 ∙ (ap (λ (t : View M E R). t.floor) view_is ∙ t.8));
          }

      pub call_legal : legal known (pairs y.0.seen)
      call_legal = subst (legal known) (sym (ap (λ (t : View M E R). pairs t.seen) rested.1 ∙ pairs_are)) (made.2.told known call_begun)

module _ {T : Type 0} where
  abbrev or_else : T → Option T → T
  or_else d None = d
  or_else d (Some x) = x

  some_same : (x y : T) → Some x ≡ Some y → x ≡ y
  some_same x y p = ap (or_else x) p

-- the machine's call in the slot
module _ {M E R : Type 0} (stands : M → M → List (E × R) → Type 0) (legal : M → List (E × R) → Type 0) (stands_legal : (first a : M) (h : List (E × R)) → stands first a h → legal first h) where
  pub made_it : (v u z : Me (Held M E R) (View M E R)) (held blank : Held M E R) (a b : M) (e : E) (r : R) (asked : Snapshot E) (told : Snapshot R)
      → ((h : Held M E R) × (v.1 ≡ (0, h) ∷ []) × IsHeld stands legal v.0.begun h v.0.seen)
      → v.1 ≡ (0, held) ∷ rest v.1
      → u ≡ (v.0, (0, blank) ∷ rest v.1)
      → z ≡ (u.0, (0, record { machine = Some b; last = Some record { entry = asked; reply = told } }) ∷ rest u.1)
      → held.machine ≡ Some a
      → ((first : M) (h : List (E × R)) → stands first a h → stands first b (h ++ (e, r) ∷ []))
      → asked.value ≡ e → told.value ≡ r
      → (h : Held M E R) × (z.1 ≡ (0, h) ∷ []) × HasMade stands legal v.0.begun h v.0.seen e r
  made_it v u z held blank a b e r asked told has here out back is goes ea rr =
      let same : has.0 ≡ held = same_head v.1 [] (rest v.1) has.0 held has.1 here in
      let mach : Some has.2.0 ≡ Some a = sym has.2.1 ∙ (ap (λ (h : Held M E R). h.machine) same ∙ is) in
      let stood : (first : M) → v.0.begun ≡ Some first → stands first a (pairs v.0.seen) = λ first known. subst (λ (t : M). stands first t (pairs v.0.seen)) (some_same has.2.0 a mach) (has.2.2 first known) in
      let none : rest u.1 ≡ [] = ap (λ (t : Me (Held M E R) (View M E R)). rest t.1) out ∙ ap rest has.1 in (
        record { machine = Some b; last = Some record { entry = asked; reply = told } },
        ap (λ (t : Me (Held M E R) (View M E R)). t.1) back ∙ ap (λ (l : List (ℕ × Held M E R)). (0, record { machine = Some b; last = Some record { entry = asked; reply = told } }) ∷ l) none,
        record {
          machine = b;
          is = refl;
          stood = λ first known. goes first _ (stood first known);
          told = λ first known. stands_legal first b _ (goes first _ (stood first known));
          entry = record { entry = asked; reply = told };
          last = refl;
          entry_is = ea;
          reply_is = rr;
        },
      )

-- the machine at the end
module _ {M E R : Type 0} (stands : M → M → List (E × R) → Type 0) (legal : M → List (E × R) → Type 0) where
  pub closes : (v w : Me (Held M E R) (View M E R)) (held : Held M E R) (a first : M) → v.0.begun ≡ Some first
      → Takes stands legal (step 1 2 0 1 m.none) v 0 w → w.1 ≡ (0, held) ∷ rest w.1 → held.machine ≡ Some a
      → stands first a (pairs w.0.seen) × StartsWith w.0.seen v.0.seen
  closes v w held a first known taken here is =
      let t = taken.0 refl in
      let same : t.0 ≡ held = same_head w.1 v.1 (rest w.1) t.0 held t.1 here in
      let mach : Some t.2.0 ≡ Some a = sym t.2.1 ∙ (ap (λ (h : Held M E R). h.machine) same ∙ is) in
      (subst (λ (x : M). stands first x (pairs w.0.seen)) (some_same t.2.0 a mach) (t.2.2 first known), t.5)
