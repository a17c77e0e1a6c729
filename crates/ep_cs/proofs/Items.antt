-- An edit is known by its items; composition is associative, with the identity as its unit.
use Rattle.std.proofs.Common.{◌≡◌, ℕ, suc, zero, ◌+◌, ◌<◌, Bool, true, false, not, ◌&&◌, ◌||◌, nat_le, List, [], ◌∷◌, ◌++◌, map, length, refl, sym, ap, ◌∙◌, subst, T, arith, append-nil, true≢false}
use Rattle.std.proofs.lemmas.Bool.Decides.{nat_tests}
use Rattle.ep_attr.specs.AttrMap.{AttrMap, none, join}
use Rattle.ep_cs.specs.Doc.{Cell}
use Rattle.ep_cs.specs.Edit.{Fate, Place, Edit, Step, Item, IsSettled, are_settled, is_drop, is_empty, at_place, over, painted_item, numbered, apply_items, items, inserts, settle, steps_of, pieces, step_over_new, steps_over, compose, identity}
use Rattle.ep_cs.specs.Edit.Fate.{Drop, Keep}
use Rattle.ep_cs.specs.Edit.Step.{Insert, Pass}
use Rattle.ep_cs.specs.Edit.Item.{Kept, New}
use Rattle.ep_attr.proofs.Maps.{after-after, join-join, after-none, join-none, none-join}
use Rattle.ep_cs.specs.Steps.{passed}
use Rattle.ep_cs.proofs.Composed.{IsAction, over-compose, passed-steps_from, passed_inserts}

pub items_act : IsAction painted_item New
items_act = record { twice = twice; at_new = λ c m. refl; nothing = nothing }
  where
    twice : (x : Item) (a b : AttrMap) → painted_item (painted_item x a) b ≡ painted_item x (join a b)
    twice (Kept k m) a b = ap (Kept k) (join-join m a b)
    twice (New c) a b = ap (λ m. New (record { unit = c.unit; attrs = m })) (after-after c.attrs a b)

    nothing : (x : Item) → painted_item x none ≡ x
    nothing (Kept k m) = ap (Kept k) (join-none m)
    nothing (New c) = ap (λ m. New (record { unit = c.unit; attrs = m })) (after-none c.attrs)

-- the cells before the first place
abbrev front : List Item → List Cell
front [] = []
front (New c ∷ is) = c ∷ front is
front (Kept k m ∷ is) = []

-- what is left from the first place on
abbrev back : List Item → List Item
back [] = []
back (New c ∷ is) = back is
back (Kept k m ∷ is) = Kept k m ∷ is

front_last : (cells : List Cell) → front (map New cells) ≡ cells
front_last [] = refl
front_last (c ∷ cells) = ap (λ cs. c ∷ cs) (front_last cells)

front_at : (cells : List Cell) (k : ℕ) (m : AttrMap) (is : List Item) → front (map New cells ++ Kept k m ∷ is) ≡ cells
front_at [] k m is = refl
front_at (c ∷ cells) k m is = ap (λ cs. c ∷ cs) (front_at cells k m is)

back_at : (cells : List Cell) (k : ℕ) (m : AttrMap) (is : List Item) → back (map New cells ++ Kept k m ∷ is) ≡ Kept k m ∷ is
back_at [] k m is = refl
back_at (c ∷ cells) k m is = back_at cells k m is

-- whether a place up to i is kept
abbrev keeps_by : ℕ → List Item → Bool
keeps_by i [] = false
keeps_by i (New c ∷ is) = keeps_by i is
keeps_by i (Kept k m ∷ is) = nat_le k i || keeps_by i is

keeps_by_new : (i : ℕ) (cells : List Cell) (is : List Item) → keeps_by i (map New cells ++ is) ≡ keeps_by i is
keeps_by_new i [] is = refl
keeps_by_new i (c ∷ cells) is = keeps_by_new i cells is

past : (i k : ℕ) → i < k → nat_le k i ≡ false
past i k h = grind (arith, nat_tests)

self : (i : ℕ) → nat_le i i ≡ true
self i = grind (arith, nat_tests)

keeps_by_place : (i j : ℕ) (f : Fate) (is : List Item) → i < j → keeps_by i is ≡ false → keeps_by i (at_place painted_item New f (Kept j none) ++ is) ≡ false
keeps_by_place i j Drop is h e = e
keeps_by_place i j (Keep m) is h e = ap (λ b. b || keeps_by i is) (past i j h) ∙ e

-- an edit of the places from j on keeps none before
keeps_by_past : (i j : ℕ) (ps : List Place) (last : List Cell) → i < j → keeps_by i (over painted_item New ps last (numbered j (length ps))) ≡ false
keeps_by_past i j [] last h = ap (keeps_by i) (sym (append-nil (map New last))) ∙ keeps_by_new i last []
keeps_by_past i j (p ∷ ps) last h = keeps_by_new i p.before _ ∙ keeps_by_place i j p.fate _ h (keeps_by_past i (j + 1) ps last (omega arith))

settled_rest : (p : Place) (ps : List Place) → are_settled (p ∷ ps) ≡ true → are_settled ps ≡ true
settled_rest p ps h = second (not (is_drop p.fate) || is_empty p.before) (are_settled ps) h
  where
    second : (a b : Bool) → (a && b) ≡ true → b ≡ true
    second true b h = h
    second false b h = absurd (subst T (sym h) tt)

no_piece : (before : List Cell) (ps : List Place) → are_settled (record { before = before; fate = Drop } ∷ ps) ≡ true → before ≡ []
no_piece [] ps h = refl
no_piece (c ∷ cs) ps h = absurd (subst T (sym h) tt)

abbrev Told : ℕ → List Place → List Place → List Cell → List Cell → Type 0
Told i ps qs la lb = over painted_item New ps la (numbered i (length ps)) ≡ over painted_item New qs lb (numbered i (length qs))

dropped_first : (i : ℕ) (ps : List Place) (la : List Cell) (cells : List Cell) (m : AttrMap) (is : List Item)
    → over painted_item New ps la (numbered (i + 1) (length ps)) ≡ map New cells ++ (Kept i m ∷ is) → ⊥
dropped_first i ps la cells m is e = true≢false
    (sym (keeps_by_new i cells (Kept i m ∷ is) ∙ ap (λ b. b || keeps_by i is) (self i))
    ∙ sym (ap (keeps_by i) e) ∙ keeps_by_past i (i + 1) ps la (omega arith))

same_head : (i : ℕ) (a b : AttrMap) (is js : List Item) → Kept i (join none a) ∷ is ≡ Kept i (join none b) ∷ js → (a ≡ b) × (is ≡ js)
same_head i a b is js e =
    let h : join none a ≡ join none b = cc in
    (sym (none-join a) ∙ (h ∙ none-join b), cc)

-- settled edits of as many places that have the same items are equal
same_parts : (i : ℕ) (ps qs : List Place) (la lb : List Cell) → are_settled ps ≡ true → are_settled qs ≡ true → length ps ≡ length qs → Told i ps qs la lb → (ps ≡ qs) × (la ≡ lb)
same_parts i [] [] la lb s t n e = (refl, sym (front_last la) ∙ ap front e ∙ front_last lb)
same_parts i [] (q ∷ qs) la lb s t n e = absurd (omega arith)
same_parts i (p ∷ ps) [] la lb s t n e = absurd (omega arith)
same_parts i (p ∷ ps) (q ∷ qs) la lb s t n e =
    go p.before q.before p.fate q.fate s t e
    (λ told. same_parts (i + 1) ps qs la lb (settled_rest p ps s) (settled_rest q qs t) (omega arith) told)
  where
    go : (b c : List Cell) (f g : Fate) → are_settled (record { before = b; fate = f } ∷ ps) ≡ true → are_settled (record { before = c; fate = g } ∷ qs) ≡ true
        → Told i (record { before = b; fate = f } ∷ ps) (record { before = c; fate = g } ∷ qs) la lb
        → (Told (i + 1) ps qs la lb → (ps ≡ qs) × (la ≡ lb))
        → (◌≡◌ {A = List Place} (record { before = b; fate = f } ∷ ps) (record { before = c; fate = g } ∷ qs)) × (la ≡ lb)
    go b c Drop Drop s t e ih =
        let u : b ≡ [] = no_piece b ps s in
        let v : c ≡ [] = no_piece c qs t in
        let told : Told (i + 1) ps qs la lb = ap (λ b. map New b ++ over painted_item New ps la (numbered (i + 1) (length ps))) (sym u) ∙ e ∙ ap (λ c. map New c ++ over painted_item New qs lb (numbered (i + 1) (length qs))) v in
        (cc (u, v, (ih told).0), (ih told).1)
    go b c Drop (Keep m) s t e ih =
        absurd (dropped_first i ps la c _ _ (ap (λ b. map New b ++ over painted_item New ps la (numbered (i + 1) (length ps))) (sym (no_piece b ps s)) ∙ e))
    go b c (Keep m) Drop s t e ih =
        absurd (dropped_first i qs lb b _ _ (ap (λ c. map New c ++ over painted_item New qs lb (numbered (i + 1) (length qs))) (sym (no_piece c qs t)) ∙ sym e))
    go b c (Keep m) (Keep l) s t e ih =
        let u : b ≡ c = sym (front_at b i (join none m) _) ∙ ap front e ∙ front_at c i (join none l) _ in
        let h = same_head i m l _ _ (sym (back_at b i (join none m) _) ∙ ap back e ∙ back_at c i (join none l) _) in
        (cc (u, h.0, (ih h.1).0), (ih h.1).1)

pub same_edit : (a b : Edit) → IsSettled a → IsSettled b → length a.places ≡ length b.places → items a ≡ items b → a ≡ b
same_edit a b s t n e =
    let parts = same_parts 0 a.places b.places a.last b.last s t n e in
    λ i. record { places = parts.0 i; last = parts.1 i }

-- what `settle` makes is settled
pub settle_settled : (waiting : List Cell) (steps : List Step) → are_settled (settle waiting steps).places ≡ true
settle_settled waiting [] = refl
settle_settled waiting (Insert c ∷ steps) = settle_settled (waiting ++ c ∷ []) steps
settle_settled waiting (Pass Drop ∷ steps) = settle_settled waiting steps
settle_settled waiting (Pass (Keep m) ∷ steps) = settle_settled [] steps

pub length-settle : (waiting : List Cell) (steps : List Step) → length (settle waiting steps).places ≡ passed steps
length-settle waiting [] = refl
length-settle waiting (Insert c ∷ steps) = length-settle (waiting ++ c ∷ []) steps
length-settle waiting (Pass Drop ∷ steps) = ap suc (length-settle waiting steps)
length-settle waiting (Pass (Keep m) ∷ steps) = ap suc (length-settle [] steps)

passed-steps_over : (steps : List Step) (qs : List Place) (last : List Cell) → passed (steps_over steps qs last) ≡ passed steps
passed-steps_over [] qs last = passed_only (pieces qs last)
  where
    passed_only : (cells : List Cell) → passed (inserts cells) ≡ 0
    passed_only [] = refl
    passed_only (c ∷ cells) = passed_only cells
passed-steps_over (Pass Drop ∷ steps) qs last = ap suc (passed-steps_over steps qs last)
passed-steps_over (Insert c ∷ steps) [] last = passed-steps_over steps [] last
passed-steps_over (Pass (Keep m) ∷ steps) [] last = ap suc (passed-steps_over steps [] last)
passed-steps_over (Insert c ∷ steps) (q ∷ qs) last = passed_inserts q.before _ ∙ passed_new c q.fate _ ∙ passed-steps_over steps qs last
  where
    passed_new : (c : Cell) (f : Fate) (steps : List Step) → passed (step_over_new c f ++ steps) ≡ passed steps
    passed_new c Drop steps = refl
    passed_new c (Keep m) steps = refl
passed-steps_over (Pass (Keep m) ∷ steps) (q ∷ qs) last = passed_inserts q.before _ ∙ ap suc (passed-steps_over steps qs last)

pub length-compose : (a b : Edit) → length (compose a b).places ≡ length a.places
length-compose a b = length-settle [] (steps_over (steps_of a) b.places b.last) ∙ passed-steps_over (steps_of a) b.places b.last ∙ passed-steps_from a.places a.last

pub settled-compose : (a b : Edit) → IsSettled (compose a b)
settled-compose a b = settle_settled [] (steps_over (steps_of a) b.places b.last)

pub length-numbered : (i n : ℕ) → length (numbered i n) ≡ n
length-numbered i zero = refl
length-numbered i (suc n) = ap suc (length-numbered (i + 1) n)

-- the items of a composition are those of b in which each place of a's result stands for a's item there
pub items-compose : (a b : Edit) → items (compose a b) ≡ apply_items b (items a)
items-compose a b =
    ap (λ n. apply_items (compose a b) (numbered 0 n)) (length-compose a b)
    ∙ over-compose painted_item New items_act a b (numbered 0 (length a.places)) (length-numbered 0 (length a.places))

pub compose_assoc : (a b c : Edit) → length (items a) ≡ length b.places → compose (compose a b) c ≡ compose a (compose b c)
compose_assoc a b c n = same_edit _ _ (settled-compose (compose a b) c) (settled-compose a (compose b c))
    (length-compose (compose a b) c ∙ length-compose a b ∙ sym (length-compose a (compose b c)))
    (items-compose (compose a b) c ∙ ap (apply_items c) (items-compose a b)
    ∙ sym (items-compose a (compose b c) ∙ over-compose painted_item New items_act b c (items a) n))

identity_settled : (n : ℕ) → are_settled (identity n).places ≡ true
identity_settled zero = refl
identity_settled (suc n) = identity_settled n

pub length-identity : (n : ℕ) → length (identity n).places ≡ n
length-identity zero = refl
length-identity (suc n) = ap suc (length-identity n)

module _ {X : Type 0} (kept : X → AttrMap → X) (new : Cell → X) where
  pub over-identity : IsAction kept new → (xs : List X) → over kept new (identity (length xs)).places (identity (length xs)).last xs ≡ xs
  over-identity act [] = refl
  over-identity act (x ∷ xs) = ap (λ y. y ∷ over kept new (identity (length xs)).places (identity (length xs)).last xs) (act.nothing x) ∙ ap (λ ys. x ∷ ys) (over-identity act xs)

items-identity : (n : ℕ) → items (identity n) ≡ numbered 0 n
items-identity n =
    ap (λ k. apply_items (identity n) (numbered 0 k)) (length-identity n)
    ∙ ap (λ k. apply_items (identity k) (numbered 0 n)) (sym (length-numbered 0 n))
    ∙ over-identity painted_item New items_act (numbered 0 n)

pub identity-compose : (b : Edit) → IsSettled b → compose (identity (length b.places)) b ≡ b
identity-compose b s = same_edit _ _ (settled-compose (identity (length b.places)) b) s
    (length-compose (identity (length b.places)) b ∙ length-identity (length b.places))
    (items-compose (identity (length b.places)) b ∙ ap (apply_items b) (items-identity (length b.places)))

pub compose-identity : (a : Edit) → IsSettled a → compose a (identity (length (items a))) ≡ a
compose-identity a s = same_edit _ _ (settled-compose a (identity (length (items a)))) s (length-compose a (identity (length (items a))))
    (items-compose a (identity (length (items a))) ∙ over-identity painted_item New items_act (items a))
