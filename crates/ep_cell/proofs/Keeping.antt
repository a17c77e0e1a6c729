-- Each kind of step keeps the rule of a cell.
use Rattle.std.proofs.Common.{◌≡◌, ◌≢◌, ℕ, ◌+◌, ◌<◌, ◌≤◌, ◌==◌, Bool, true, false, List, [], ◌∷◌, ◌++◌, length, set, sym, refl, ap, ◌∙◌, subst, ⊎_elim, arith, append_assoc, append-nil, length-append, Option, Some, None}
use Rattle.std.specs.Prelude.{slice_index, nat_lt, if◌then◌else◌}
use Rattle.std.specs.Option.{ForSome}
use mathlib.Core.Option as m
use mathlib.Core.Option.{some-ne-none}
use lib.ListN.{get_elem?}
use lib.Seq.{set-get_or}
use prog.Atomic.{either}
use Rattle.std.proofs.lemmas.List.{map-append}
use Rattle.std.proofs.lemmas.List.Elements.{filter-append}
use Rattle.atomic_table.specs.Table.{State, Me, Step, step, Act, keeps, takes, gives, stepped, homes_after, carried_after, rest, Valid, Allows}
use Rattle.atomic_table.specs.Table as table
use Rattle.atomic_table.proofs.Lists.{at_snoc, at_set, set_here, set_else, set_again, exchanged}
use Rattle.ep_cell.specs.declared.view.Call.{Call}
use Rattle.ep_cell.specs.declared.view.View.{View}
use Rattle.ep_cell.specs.declared.view.Held.{Held}
use Rattle.ep_cell.specs.History.{StartsWith, call, calls_by, longer, pairs}
use Rattle.ep_cell.specs.Rule.{Fits, IsBegun, IsCounted, IsReady, greater, joined, viewing}
use Rattle.ep_cell.specs.Steps.{Enters, IsHeld, Numbers, Takes, Counts, Appends, Puts, Learns, call_in}
use Rattle.ep_cell.proofs.Histories.{between_calls, longer_begins, none_before, other_calls}

module _ {T : Type 0} where
  value_or : T → Option T → T
  value_or d None = d
  value_or d (Some x) = x

  some_is : (x y : T) → Some x ≡ Some y → y ≡ x
  unfolding value_or
  some_is x y e = ap (value_or x) (sym e)

module _ {M E R : Type 0} (stands : M → M → List (E × R) → Type 0) (legal : M → List (E × R) → Type 0) (first : M) where
  abbrev V : Type 0
  V = View M E R

  abbrev H : Type 0
  H = Held M E R

  abbrev St : Type 0
  St = State H V

  abbrev Rule : St → Type 0
  Rule = IsCounted first (stands first) (legal first)

  -- what holds of each view after one was changed
  each_view : (K : ℕ → V → Type 0) (vs : List V) (me : ℕ) (w : V) → K me w → ((j : ℕ) (d : V) → j ≢ me → get_elem? vs j ≡ m.some d → K j d) → (j : ℕ) (d : V) → get_elem? (set vs me w) j ≡ m.some d → K j d
  each_view K vs me w mine others j d e = ⊎_elim (λ (t : (j ≡ me) × (w ≡ d)). subst (λ (x : ℕ × V). K x.0 x.1) (λ i. (sym t.0 i, t.1 i)) mine)
      (λ (t : (j ≢ me) × (get_elem? vs j ≡ m.some d)). others j d t.0 t.1) (at_set vs me j w d e)

  -- nothing changes
  stays : (s : St) (k : Rule s) (i id : ℕ) (v : V) → get_elem? s.views id ≡ m.some v → Rule record { words = set s.words i (slice_index s.words i); homes = s.homes; views = set s.views id v }
  stays s k i id v at = subst Rule (λ j. record { words = sym (set-get_or s.words i 0) j; homes = s.homes; views = sym (set_again s.views id v at) j }) k

  lock_is : (s : St) (k : Rule s) → slice_index s.words 2 ≡ k.lock
  lock_is s k = ap (λ (ws : List ℕ). slice_index ws 2) k.words

  count_is : (s : St) (k : Rule s) → slice_index s.words 0 ≡ length k.log
  count_is s k = ap (λ (ws : List ℕ). slice_index ws 0) k.words

  not_both : (b : Bool) → b ≡ false → b ≡ true → ⊥
  not_both b x y = let c : false ≡ true = sym x ∙ y in cc

  -- a changed view knows of no other machine either
  begun_stay : (s : St) (k : Rule s) (id : ℕ) (w : V) → IsBegun first w → (j : ℕ) (d : V) → get_elem? (set s.views id w) j ≡ m.some d → IsBegun first d
  begun_stay s k id w known = each_view (λ j d. IsBegun first d) s.views id w known (λ j d other e. k.begun j d e)

  module _ (s : St) (k : Rule s) (id : ℕ) (v : V) (at : get_elem? s.views id ≡ m.some v) (here : k.lock ≡ 0) where
    abbrev knows : V
    knows = viewing v.begun v.number v.floor true k.log

    -- the machine is taken
    takes_keeps : Rule record { words = set s.words 2 1; homes = set s.homes 0 m.none; views = set s.views id knows }
    takes_keeps = record {
      log = k.log;
      next = k.next;
      lock = 1;
      words = ap (λ (ws : List ℕ). set ws 2 1) k.words;
      is_legal = k.is_legal;
      views = each_view (λ j d. Fits k.log k.next d) s.views id knows
          (record { prefix = ([], sym (append-nil k.log)); own = λ n. refl; number = (k.views id v at).number; floor = (k.views id v at).floor; whole = λ e. refl; one = ([], sym (append-nil k.log)); two = ([], sym (append-nil k.log)); first = λ n. refl })
          (λ j d other e. k.views j d e);
      begun = begun_stay s k id knows ((k.begun id v at).0, (k.begun id v at).0);
      numbers = λ i j a b ia jb n e. each_view (λ i a. a.number ≢ 0 → a.number ≡ b.number → i ≡ j) s.views id knows
          (λ n e. each_view (λ j b. v.number ≡ b.number → id ≡ j) s.views id knows (λ e. refl) (λ j b other jb e. k.numbers id j v b at jb n e) j b jb e)
          (λ i a other ia n e. each_view (λ j b. a.number ≡ b.number → i ≡ j) s.views id knows (λ e. k.numbers i id a v ia at n e) (λ j b other jb e. k.numbers i j a b ia jb n e) j b jb e)
          i a ia n e;
      holders = λ i j a b ia jb x y. each_view (λ i a. a.has_machine ≡ true → i ≡ j) s.views id knows
          (λ x. each_view (λ j b. b.has_machine ≡ true → id ≡ j) s.views id knows (λ y. refl) (λ j b other jb y. absurd (not_both b.has_machine (k.free here j b jb) y)) j b jb y)
          (λ i a other ia x. absurd (not_both a.has_machine (k.free here i a ia) x))
          i a ia x;
      fresh = k.fresh;
      nobody = k.nobody;
      positive = k.positive;
      home = λ e. absurd (omega arith);
      free = λ e. absurd (omega arith);
    }

  pub take_allows : (slots id : ℕ) (me : Me H V) → Allows Rule slots id me 2 (λ n. either (n == 0) 1 n) (Takes stands legal (step slots 2 0 1 m.none) me)
  take_allows slots id me s k len at fit = exchanged (slice_index s.words 2) 0 1
      (λ x. (w : V) × (a : Act H) × Valid s.homes me.1 a × Rule (stepped s 2 x id me.1 w a) × Takes stands legal (step slots 2 0 1 m.none) me (slice_index s.words 2) (w, carried_after me.1 a))
      (λ hit.
      let here : k.lock ≡ 0 = sym (lock_is s k) ∙ hit in
      let h = k.home here in
      let f = k.views id me.0 at in (
        viewing me.0.begun me.0.number me.0.floor true k.log,
        takes 0 h.0,
        h.1,
        takes_keeps s k id me.0 at here,
        ((λ e. (h.0, refl, (h.2.0, h.2.1, λ x e. subst (λ (y : M). stands y h.2.0 (pairs k.log)) (sym ((k.begun id me.0 at).0 x e)) h.2.2), refl, refl, f.prefix, f.own, f.floor, refl, refl)), (λ ne. absurd (ne hit))),
      ))
      (λ miss. (me.0, keeps, tt, stays s k 2 id me.0 at, ((λ e. absurd (miss e)), (λ ne. refl))))

  pub count_allows : (slots id : ℕ) (me : Me H V) → Allows Rule slots id me 0 (λ n. n) (Counts (step slots 0 0 0 m.none) me)
  count_allows slots id me s k len at fit =
      let f = k.views id me.0 at in
      (me.0, keeps, tt, stays s k 0 id me.0 at, (refl, (λ b. count_is s k ∙ ap length (sym (f.whole b)))))

  false_unless : (b : Bool) → (b ≡ true → ⊥) → b ≡ false
  false_unless true x = absurd (x refl)
  false_unless false x = refl

  module _ (s : St) (k : Rule s) (id : ℕ) (v : V) (at : get_elem? s.views id ≡ m.some v) where
    -- a change of a view that keeps its number and whether it has the machine
    numbers_stay : (w : V) → w.number ≡ v.number → (i j : ℕ) (a b : V) → get_elem? (set s.views id w) i ≡ m.some a → get_elem? (set s.views id w) j ≡ m.some b → a.number ≢ 0 → a.number ≡ b.number → i ≡ j
    numbers_stay w same i j a b ia jb n e = each_view (λ i a. a.number ≢ 0 → a.number ≡ b.number → i ≡ j) s.views id w
        (λ n e. each_view (λ j b. w.number ≡ b.number → id ≡ j) s.views id w (λ e. refl) (λ j b other jb e. k.numbers id j v b at jb (λ z. n (same ∙ z)) (sym same ∙ e)) j b jb e)
        (λ i a other ia n e. each_view (λ j b. a.number ≡ b.number → i ≡ j) s.views id w (λ e. k.numbers i id a v ia at n (e ∙ same)) (λ j b other jb e. k.numbers i j a b ia jb n e) j b jb e)
        i a ia n e

    holders_stay : (w : V) → (w.has_machine ≡ true → v.has_machine ≡ true) → (i j : ℕ) (a b : V) → get_elem? (set s.views id w) i ≡ m.some a → get_elem? (set s.views id w) j ≡ m.some b → a.has_machine ≡ true → b.has_machine ≡ true → i ≡ j
    holders_stay w same i j a b ia jb x y = each_view (λ i a. a.has_machine ≡ true → i ≡ j) s.views id w
        (λ x. each_view (λ j b. b.has_machine ≡ true → id ≡ j) s.views id w (λ y. refl) (λ j b other jb y. k.holders id j v b at jb (same x) y) j b jb y)
        (λ i a other ia x. each_view (λ j b. b.has_machine ≡ true → i ≡ j) s.views id w (λ y. k.holders i id a v ia at x (same y)) (λ j b other jb y. k.holders i j a b ia jb x y) j b jb y)
        i a ia x

    module _ (has : v.has_machine ≡ true) where
      all_seen : v.seen ≡ k.log
      all_seen = (k.views id v at).whole has

      locked : k.lock ≡ 0 → ⊥
      locked z = not_both v.has_machine (k.free z id v at) has

      abbrev grown : E → R → V
      grown e r = viewing v.begun v.number v.floor v.has_machine (v.seen ++ call v.number e r ∷ [])

      -- the call that was made is in the history
      append_keeps : (e : E) (r : R) → v.number ≢ 0 → legal first (pairs v.seen ++ (e, r) ∷ []) → Rule record { words = set s.words 0 (length v.seen + 1); homes = s.homes; views = set s.views id (grown e r) }
      append_keeps e r named told = record {
        log = v.seen ++ call v.number e r ∷ [];
        next = k.next;
        lock = k.lock;
        words = ap (λ (ws : List ℕ). set ws 0 (length v.seen + 1)) k.words ∙ ap (λ (n : ℕ). n ∷ k.next ∷ k.lock ∷ []) (sym (length-append v.seen (call v.number e r ∷ [])));
        is_legal = subst (legal first) (sym (map-append (λ (c : Call E R). (c.entry, c.reply)) v.seen (call v.number e r ∷ []))) told;
        views = each_view (λ j d. Fits (v.seen ++ call v.number e r ∷ []) k.next d) s.views id (grown e r)
            (record { prefix = ([], sym (append-nil (v.seen ++ call v.number e r ∷ []))); own = λ n. refl; number = (k.views id v at).number; floor = (let n = (k.views id v at).floor in omega (arith, ap length all_seen, length-append v.seen (call v.number e r ∷ []))); whole = λ b. refl; one = ([], sym (append-nil (v.seen ++ call v.number e r ∷ []))); two = ([], sym (append-nil (v.seen ++ call v.number e r ∷ []))); first = λ n. refl })
            (λ j d other jd.
            let f = k.views j d jd in
            record {
              prefix = (f.prefix.0 ++ call v.number e r ∷ [], ap (λ (l : List (Call E R)). l ++ call v.number e r ∷ []) (all_seen ∙ f.prefix.1) ∙ append_assoc d.seen f.prefix.0 (call v.number e r ∷ []));
              own = λ n. filter-append (λ c. c.by == d.number) v.seen (call v.number e r ∷ [])
                  ∙ (ap (λ (l : List (Call E R)). calls_by d.number v.seen ++ l) (other_calls d.number v.number e r (λ same. other (sym (k.numbers id j v d at jd named same))))
                  ∙ (append-nil (calls_by d.number v.seen) ∙ (ap (calls_by d.number) all_seen ∙ f.own n)));
              number = f.number;
              floor = let n = f.floor in omega (arith, ap length all_seen, length-append v.seen (call v.number e r ∷ []));
              whole = λ b. absurd (other (k.holders j id d v jd at b has));
              one = f.one;
              two = f.two;
              first = f.first;
            });
        begun = begun_stay s k id (grown e r) ((k.begun id v at).0, (k.begun id v at).0);
        numbers = numbers_stay (grown e r) refl;
        holders = holders_stay (grown e r) (λ b. b);
        fresh = λ q le. filter-append (λ c. c.by == q) v.seen (call v.number e r ∷ [])
            ∙ (ap (λ (l : List (Call E R)). calls_by q v.seen ++ l) (other_calls q v.number e r (λ same. let n = (k.views id v at).number in absurd (omega arith)))
            ∙ (append-nil (calls_by q v.seen) ∙ (ap (calls_by q) all_seen ∙ k.fresh q le)));
        nobody = filter-append (λ c. c.by == 0) v.seen (call v.number e r ∷ [])
            ∙ (ap (λ (l : List (Call E R)). calls_by 0 v.seen ++ l) (other_calls 0 v.number e r named) ∙ (append-nil (calls_by 0 v.seen) ∙ (ap (calls_by 0) all_seen ∙ k.nobody)));
        positive = k.positive;
        home = λ z. absurd (locked z);
        free = λ z. absurd (locked z);
      }

      abbrev rests : V
      rests = record { begun = v.begun; theirs = v.theirs; number = v.number; seen = v.seen; floor = v.floor; has_machine = false; one = v.one; two = v.two }

      -- the machine is at home again
      put_keeps : (h : H) → 0 < length s.homes → IsReady (stands first) h v.seen → Rule record { words = set s.words 2 0; homes = set s.homes 0 (m.some h); views = set s.views id rests }
      put_keeps h room ready = record {
        log = k.log;
        next = k.next;
        lock = 0;
        words = ap (λ (ws : List ℕ). set ws 2 0) k.words;
        is_legal = k.is_legal;
        views = each_view (λ j d. Fits k.log k.next d) s.views id rests
            (let f = k.views id v at in record { prefix = f.prefix; own = f.own; number = f.number; floor = f.floor; whole = λ b. (let c : false ≡ true = b in cc); one = f.one; two = f.two; first = f.first })
            (λ j d other jd. k.views j d jd);
        begun = begun_stay s k id rests (k.begun id v at);
        numbers = numbers_stay rests refl;
        holders = holders_stay rests (λ b. has);
        fresh = k.fresh;
        nobody = k.nobody;
        positive = k.positive;
        home = λ z. (h, set_here s.homes 0 (m.some h) room, (ready.0, ready.1, subst (λ (l : List (Call E R)). stands first ready.0 (pairs l)) all_seen ready.2));
        free = λ z. each_view (λ j d. d.has_machine ≡ false) s.views id rests refl (λ j d other jd. false_unless d.has_machine (λ b. other (k.holders j id d v jd at b has)));
      }

  pub append_allows : (slots id old : ℕ) (me : Me H V) (e : E) (r : R) → me.0.has_machine ≡ true → me.0.number ≢ 0 → old ≡ length me.0.seen → call_in me.0.number me.1 ≡ call me.0.number e r ∷ [] → (known : M) → me.0.begun ≡ Some known → legal known (pairs me.0.seen ++ (e, r) ∷ [])
      → Allows Rule slots id me 0 (λ n. either (n == old) (old + 1) n) (Appends (step slots 0 old (old + 1) m.none) me)
  append_allows slots id old me e r has named is call_is known begun told s k len at fit = exchanged (slice_index s.words 0) old (old + 1)
      (λ x. (w : V) × (a : Act H) × Valid s.homes me.1 a × Rule (stepped s 0 x id me.1 w a) × Appends (step slots 0 old (old + 1) m.none) me (slice_index s.words 0) (w, carried_after me.1 a))
      (λ hit. (
        grown s k id me.0 at has e r,
        keeps,
        tt,
        subst (λ (n : ℕ). Rule record { words = set s.words 0 (n + 1); homes = s.homes; views = set s.views id (grown s k id me.0 at has e r) }) (sym is) (append_keeps s k id me.0 at has e r named (subst (λ (y : M). legal y (pairs me.0.seen ++ (e, r) ∷ [])) ((k.begun id me.0 at).0 known begun) told)),
        (hit, refl, refl, has, ap (λ (l : List (Call E R)). me.0.seen ++ l) (sym call_is), refl, refl),
      ))
      (λ miss. absurd (miss (count_is s k ∙ (ap length (sym (all_seen s k id me.0 at has)) ∙ sym is))))

  pub put_allows : (slots id : ℕ) (v : V) (h : H) → slots ≡ 1 → v.has_machine ≡ true → (known : M) → v.begun ≡ Some known → IsHeld stands legal v.begun h v.seen
      → Allows Rule slots id (v, (0, h) ∷ []) 2 (λ _. 0) (λ _. Puts (step slots 2 0 0 m.none) (v, (0, h) ∷ []) 0)
  put_allows slots id v h one has known begun ready s k len at fit = (
    rests s k id v at has,
    gives,
    tt,
    put_keeps s k id v at has h (omega (arith, len, one)) (ready.0, ready.1, subst (λ (y : M). stands y ready.0 (pairs v.seen)) ((k.begun id v at).0 known begun) (ready.2 known begun)),
    (refl, refl),
  )

module _ {M E R : Type 0} (stands : M → M → List (E × R) → Type 0) (legal : M → List (E × R) → Type 0) (first : M) where
  -- a seat is told the length
  learn_keeps : (s : State (Held M E R) (View M E R)) (k : IsCounted first (stands first) (legal first) s) (id : ℕ) (v : View M E R) → get_elem? s.views id ≡ m.some v
      → IsCounted first (stands first) (legal first) record { words = set s.words 0 (slice_index s.words 0); homes = s.homes; views = set s.views id (record v { floor = slice_index s.words 0 }) }
  learn_keeps s k id v at =
      let f = k.views id v at in
      record {
        log = k.log;
        next = k.next;
        lock = k.lock;
        words = set-get_or s.words 0 0 ∙ k.words;
        is_legal = k.is_legal;
        views = each_view stands legal first (λ j d. Fits k.log k.next d) s.views id (record v { floor = slice_index s.words 0 })
            (record { prefix = f.prefix; own = f.own; number = f.number; floor = omega (arith, count_is stands legal first s k); whole = f.whole; one = f.one; two = f.two; first = f.first })
            (λ j d other jd. k.views j d jd);
        begun = begun_stay stands legal first s k id (record v { floor = slice_index s.words 0 }) (k.begun id v at);
        numbers = numbers_stay stands legal first s k id v at (record v { floor = slice_index s.words 0 }) refl;
        holders = holders_stay stands legal first s k id v at (record v { floor = slice_index s.words 0 }) (λ b. b);
        fresh = k.fresh;
        nobody = k.nobody;
        positive = k.positive;
        home = k.home;
        free = λ z. each_view stands legal first (λ j d. d.has_machine ≡ false) s.views id (record v { floor = slice_index s.words 0 }) (k.free z id v at) (λ j d other jd. k.free z j d jd);
      }

  pub learn_allows : (slots id : ℕ) (me : Me (Held M E R) (View M E R)) → Allows (IsCounted first (stands first) (legal first)) slots id me 0 (λ n. n) (Learns (step slots 0 0 0 m.none) me)
  learn_allows slots id me s k len at fit =
      let f = k.views id me.0 at in
      let least : length me.0.seen ≤ slice_index s.words 0 = omega (arith, count_is stands legal first s k, ap length f.prefix.1, length-append me.0.seen f.prefix.0) in
      let found = slice_index s.words 0 in
      (record me.0 { floor = found }, keeps, tt, learn_keeps s k id me.0 at, (refl, refl, least, omega (arith, count_is stands legal first s k, f.floor), f.one, f.two, f.first, (λ x e y o. (k.begun id me.0 at).0 x e ∙ sym ((k.begun id me.0 at).1 y o))))

  -- a seat that has no number gets the next one
  number_keeps : (s : State (Held M E R) (View M E R)) (k : IsCounted first (stands first) (legal first) s) (id : ℕ) (v : View M E R) → get_elem? s.views id ≡ m.some v → v.has_machine ≡ false
      → IsCounted first (stands first) (legal first) record { words = set s.words 1 (k.next + 1); homes = s.homes; views = set s.views id (viewing v.begun k.next v.floor false v.seen) }
  number_keeps s k id v at idle =
      let f = k.views id v at in
      let none = none_before k.next k.log v.seen f.prefix.0 f.prefix.1 (k.fresh k.next (omega arith)) in
      record {
        log = k.log;
        next = k.next + 1;
        lock = k.lock;
        words = ap (λ (ws : List ℕ). set ws 1 (k.next + 1)) k.words;
        is_legal = k.is_legal;
        views = each_view stands legal first (λ j d. Fits k.log (k.next + 1) d) s.views id (viewing v.begun k.next v.floor false v.seen)
            (record { prefix = f.prefix; own = λ n. k.fresh k.next (omega arith) ∙ sym none; number = omega arith; floor = f.floor; whole = (λ b. let c : false ≡ true = b in cc); one = ([], sym (append-nil v.seen)); two = ([], sym (append-nil v.seen)); first = λ n. refl })
            (λ j d other jd. let g = k.views j d jd in record { prefix = g.prefix; own = g.own; number = (let n = g.number in omega arith); floor = g.floor; whole = g.whole; one = g.one; two = g.two; first = g.first });
        begun = begun_stay stands legal first s k id (viewing v.begun k.next v.floor false v.seen) ((k.begun id v at).0, (k.begun id v at).0);
        numbers = λ i j a b ia jb n e. each_view stands legal first (λ i a. a.number ≢ 0 → a.number ≡ b.number → i ≡ j) s.views id (viewing v.begun k.next v.floor false v.seen)
            (λ n e. each_view stands legal first (λ j b. k.next ≡ b.number → id ≡ j) s.views id (viewing v.begun k.next v.floor false v.seen) (λ e. refl) (λ j b other jb e. let below = (k.views j b jb).number in absurd (omega arith)) j b jb e)
            (λ i a other ia n e. each_view stands legal first (λ j b. a.number ≡ b.number → i ≡ j) s.views id (viewing v.begun k.next v.floor false v.seen) (λ e. let below = (k.views i a ia).number in absurd (omega arith)) (λ j b other jb e. k.numbers i j a b ia jb n e) j b jb e)
            i a ia n e;
        holders = holders_stay stands legal first s k id v at (viewing v.begun k.next v.floor false v.seen) (λ b. let c : false ≡ true = b in cc);
        fresh = λ q le. k.fresh q (omega arith);
        nobody = k.nobody;
        positive = omega arith;
        home = k.home;
        free = λ z. each_view stands legal first (λ j d. d.has_machine ≡ false) s.views id (viewing v.begun k.next v.floor false v.seen) refl (λ j d other jd. k.free z j d jd);
      }

  next_is : (s : State (Held M E R) (View M E R)) (k : IsCounted first (stands first) (legal first) s) → slice_index s.words 1 ≡ k.next
  next_is s k = ap (λ (ws : List ℕ). slice_index ws 1) k.words

  pub number_allows : (slots id old : ℕ) (me : Me (Held M E R) (View M E R)) → me.0.has_machine ≡ false
      → Allows (IsCounted first (stands first) (legal first)) slots id me 1 (λ n. either (n == old) (old + 1) n) (Numbers (step slots 1 old (old + 1) m.none) me)
  number_allows slots id old me idle s k len at fit = exchanged (slice_index s.words 1) old (old + 1)
      (λ x. (w : View M E R) × (a : Act (Held M E R)) × Valid s.homes me.1 a × IsCounted first (stands first) (legal first) (stepped s 1 x id me.1 w a) × Numbers (step slots 1 old (old + 1) m.none) me (slice_index s.words 1) (w, carried_after me.1 a))
      (λ hit.
      let is : k.next ≡ old = sym (next_is s k) ∙ hit in
      let f = k.views id me.0 at in (
        viewing me.0.begun old me.0.floor false me.0.seen,
        keeps,
        tt,
        subst (λ (n : ℕ). IsCounted first (stands first) (legal first) record { words = set s.words 1 (n + 1); homes = s.homes; views = set s.views id (viewing me.0.begun n me.0.floor false me.0.seen) }) is (number_keeps s k id me.0 at idle),
        (refl, refl, refl, sym idle, refl, (λ e. (sym hit, (λ z. let p = k.positive in absurd (omega (arith, next_is s k))), none_before _ k.log me.0.seen f.prefix.0 f.prefix.1 (k.fresh _ (omega (arith, next_is s k))))), (λ ne. absurd (ne hit))),
      ))
      (λ miss. (me.0, keeps, tt, stays stands legal first s k 1 id me.0 at, (refl, refl, refl, refl, refl, (λ e. absurd (miss e)), (λ ne. refl))))

  module _ (s : State (Held M E R) (View M E R)) (k : IsCounted first (stands first) (legal first) s) (b : Option M) (known : ForSome b (λ x. x ≡ first)) (n : ℕ) (low : n ≤ length k.log) (l : List (Call E R)) (begins : StartsWith k.log l) where
    abbrev new_view : View M E R
    new_view = viewing b 0 n false l

    -- a new seat that has no number
    add_keeps : IsCounted first (stands first) (legal first) record { words = s.words; homes = s.homes; views = s.views ++ new_view ∷ [] }
    add_keeps = record {
      log = k.log;
      next = k.next;
      lock = k.lock;
      words = k.words;
      is_legal = k.is_legal;
      views = λ j d e. ⊎_elim (λ (e : get_elem? s.views j ≡ m.some d). k.views j d e)
          (λ (e : new_view ≡ d). subst (Fits k.log k.next) e (record { prefix = begins; own = λ z. absurd (z refl); number = k.positive; floor = low; whole = (λ b. let c : false ≡ true = b in cc); one = ([], sym (append-nil l)); two = ([], sym (append-nil l)); first = λ n. refl }))
          (at_snoc s.views new_view d j e);
      begun = λ j d e. ⊎_elim (λ (e : get_elem? s.views j ≡ m.some d). k.begun j d e) (λ (e : new_view ≡ d). subst (IsBegun first) e (known, known)) (at_snoc s.views new_view d j e);
      numbers = λ i j a b ia jb q e. ⊎_elim
          (λ (ia : get_elem? s.views i ≡ m.some a). ⊎_elim (λ (jb : get_elem? s.views j ≡ m.some b). k.numbers i j a b ia jb q e) (λ (z : new_view ≡ b). absurd (q (e ∙ ap (λ (v : View M E R). v.number) (sym z)))) (at_snoc s.views new_view b j jb))
          (λ (z : new_view ≡ a). absurd (q (ap (λ (v : View M E R). v.number) (sym z)))) (at_snoc s.views new_view a i ia);
      holders = λ i j a b ia jb x y. ⊎_elim
          (λ (ia : get_elem? s.views i ≡ m.some a). ⊎_elim (λ (jb : get_elem? s.views j ≡ m.some b). k.holders i j a b ia jb x y) (λ (z : new_view ≡ b). absurd (not_both stands legal first b.has_machine (ap (λ (v : View M E R). v.has_machine) (sym z)) y)) (at_snoc s.views new_view b j jb))
          (λ (z : new_view ≡ a). absurd (not_both stands legal first a.has_machine (ap (λ (v : View M E R). v.has_machine) (sym z)) x)) (at_snoc s.views new_view a i ia);
      fresh = k.fresh;
      nobody = k.nobody;
      positive = k.positive;
      home = k.home;
      free = λ z j d e. ⊎_elim (λ (e : get_elem? s.views j ≡ m.some d). k.free z j d e) (λ (e : new_view ≡ d). ap (λ (v : View M E R). v.has_machine) (sym e)) (at_snoc s.views new_view d j e);
    }

  pub enter_allows : (slots : ℕ) → table.Enters (IsCounted first (stands first) (legal first)) slots 0 (λ n w. Enters stands legal (step slots 0 0 0 m.none) (viewing (Some first) 0 0 false [], []) n (w, []))
  enter_allows slots s k len fit =
      let found = slice_index s.words 0 in (
        viewing (Some first) 0 found false k.log,
        add_keeps s k (Some first) (λ x e. some_is first x e) found (omega (arith, count_is stands legal first s k)) k.log ([], sym (append-nil k.log)),
        (refl, refl, refl, sym (count_is stands legal first s k), refl, λ x e. subst (λ (y : M). legal y (pairs k.log)) (sym (some_is first x e)) k.is_legal),
      )

  pub split_splits : (id : ℕ) (v : View M E R) → table.Splits (IsCounted first (stands first) (legal first)) id v v (viewing v.begun 0 v.floor false v.seen)
  split_splits id v s k at = subst (λ (vs : List (View M E R)). IsCounted first (stands first) (legal first) record { words = s.words; homes = s.homes; views = vs ++ viewing v.begun 0 v.floor false v.seen ∷ [] }) (sym (set_again s.views id v at)) (add_keeps s k v.begun (k.begun id v at).0 v.floor (k.views id v at).floor v.seen (k.views id v at).prefix)

  greater_low : (a b n : ℕ) → a ≤ n → b ≤ n → greater a b ≤ n
  greater_low a b n p q = elim (nat_lt a b) as (λ c. (if c then b else a) ≤ n) [ true ↦ q | false ↦ p ]

  pub join_joins : (id other : ℕ) (v w : View M E R) → v.has_machine ≡ false → table.Joins (IsCounted first (stands first) (legal first)) id v other w (joined v w) (viewing None 0 0 false [])
  join_joins id other v w idle s k at apart there =
      let there' : get_elem? s.views other ≡ m.some w = sym (set_else s.views id other (joined v w) apart) ∙ there in
      let f = k.views id v at in
      let g = k.views other w there' in
      let l = longer_begins k.log v.seen w.seen f.prefix g.prefix in
      let mid : IsCounted first (stands first) (legal first) record { words = s.words; homes = s.homes; views = set s.views id (joined v w) } = record {
        log = k.log;
        next = k.next;
        lock = k.lock;
        words = k.words;
        is_legal = k.is_legal;
        views = each_view stands legal first (λ j d. Fits k.log k.next d) s.views id (joined v w)
            (record { prefix = l.0; own = λ n. f.own n ∙ sym (between_calls v.number k.log (longer v.seen w.seen) v.seen l.0 l.1 (f.own n)); number = f.number; floor = greater_low v.floor w.floor (length k.log) f.floor g.floor; whole = λ b. absurd (not_both stands legal first v.has_machine idle b); one = l.1; two = l.2; first = λ n. between_calls v.number k.log (longer v.seen w.seen) v.seen l.0 l.1 (f.own n) })
            (λ j d other jd. k.views j d jd);
        begun = begun_stay stands legal first s k id (joined v w) ((k.begun id v at).0, (k.begun other w there').0);
        numbers = numbers_stay stands legal first s k id v at (joined v w) refl;
        holders = holders_stay stands legal first s k id v at (joined v w) (λ b. b);
        fresh = k.fresh;
        nobody = k.nobody;
        positive = k.positive;
        home = k.home;
        free = λ z. each_view stands legal first (λ j d. d.has_machine ≡ false) s.views id (joined v w) idle (λ j d other jd. k.free z j d jd);
      } in
      record {
        log = k.log;
        next = k.next;
        lock = k.lock;
        words = k.words;
        is_legal = k.is_legal;
        views = each_view stands legal first (λ j d. Fits k.log k.next d) (set s.views id (joined v w)) other (viewing None 0 0 false [])
            (record { prefix = (k.log, refl); own = λ n. absurd (n refl); number = k.positive; floor = omega arith; whole = (λ b. let c : false ≡ true = b in cc); one = ([], refl); two = ([], refl); first = λ n. refl })
            (λ j d o jd. mid.views j d jd);
        begun = each_view stands legal first (λ j d. IsBegun first d) (set s.views id (joined v w)) other (viewing None 0 0 false []) ((λ known e. let c : None ≡ Some known = e in cc), (λ known e. let c : None ≡ Some known = e in cc)) (λ j d o jd. mid.begun j d jd);
        numbers = λ i j a b ia jb n e. each_view stands legal first (λ i a. a.number ≢ 0 → a.number ≡ b.number → i ≡ j) (set s.views id (joined v w)) other (viewing None 0 0 false [])
            (λ n e. absurd (n refl))
            (λ i a o ia n e. each_view stands legal first (λ j b. a.number ≡ b.number → i ≡ j) (set s.views id (joined v w)) other (viewing None 0 0 false []) (λ e. absurd (n e)) (λ j b o jb e. mid.numbers i j a b ia jb n e) j b jb e)
            i a ia n e;
        holders = λ i j a b ia jb x y. each_view stands legal first (λ i a. a.has_machine ≡ true → i ≡ j) (set s.views id (joined v w)) other (viewing None 0 0 false [])
            (λ x. let c : false ≡ true = x in cc)
            (λ i a o ia x. each_view stands legal first (λ j b. b.has_machine ≡ true → i ≡ j) (set s.views id (joined v w)) other (viewing None 0 0 false []) (λ y. let c : false ≡ true = y in cc) (λ j b o jb y. mid.holders i j a b ia jb x y) j b jb y)
            i a ia x;
        fresh = k.fresh;
        nobody = k.nobody;
        positive = k.positive;
        home = k.home;
        free = λ z. each_view stands legal first (λ j d. d.has_machine ≡ false) (set s.views id (joined v w)) other (viewing None 0 0 false []) refl (λ j d o jd. mid.free z j d jd);
      }

  -- the first table
  pub opens : (items : List (Held M E R)) → items ≡ record { machine = Some first; last = None } ∷ [] → stands first first [] → legal first []
      → IsCounted first (stands first) (legal first) (table.opening (0 ∷ 1 ∷ 0 ∷ []) items (viewing (Some first) 0 0 false []))
  opens items are stood told = subst (λ (l : List (Held M E R)). IsCounted first (stands first) (legal first) (table.opening (0 ∷ 1 ∷ 0 ∷ []) l (viewing (Some first) 0 0 false []))) (sym are) (record {
    log = [];
    next = 1;
    lock = 0;
    words = refl;
    is_legal = told;
    views = λ j d e. subst (Fits [] 1) (only d j e) (record { prefix = ([], refl); own = λ n. absurd (n refl); number = omega arith; floor = omega arith; whole = (λ b. refl); one = ([], refl); two = ([], refl); first = λ n. refl });
    begun = λ j d e. subst (IsBegun first) (only d j e) ((λ x e. some_is first x e), (λ x e. some_is first x e));
    numbers = λ i j a b ia jb n e. absurd (n (ap (λ (v : View M E R). v.number) (sym (only a i ia))));
    holders = λ i j a b ia jb x y. absurd (not_both stands legal first a.has_machine (ap (λ (v : View M E R). v.has_machine) (sym (only a i ia))) x);
    fresh = λ q le. refl;
    nobody = refl;
    positive = omega arith;
    home = λ z. (record { machine = Some first; last = None }, refl, (first, refl, stood));
    free = λ z j d e. ap (λ (v : View M E R). v.has_machine) (sym (only d j e));
  }) where
    none_there : (j : ℕ) (d : View M E R) → get_elem? [] j ≡ m.some d → ⊥
    none_there j d e = some-ne-none d (sym e)

    only : (d : View M E R) (j : ℕ) → get_elem? (viewing (Some first) 0 0 false [] ∷ []) j ≡ m.some d → viewing (Some first) 0 0 false [] ≡ d
    only d j e = ⊎_elim (λ (e : get_elem? [] j ≡ m.some d). absurd (none_there j d e)) (λ (e : viewing (Some first) 0 0 false [] ≡ d). e) (at_snoc [] (viewing (Some first) 0 0 false []) d j e)
