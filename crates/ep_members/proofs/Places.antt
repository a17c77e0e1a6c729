-- Whom a name stands for, where its place changes.
use Rattle.std.proofs.Common.{◌≡◌, ℕ, zero, suc, ◌<◌, Bool, true, false, if◌then◌else◌, List, [], ◌∷◌, ◌++◌, ◌⊎◌, inl, inr, length, get_or, set, Option, Some, None, refl, sym, ap, ◌∙◌, subst, arith}
use Rattle.std.specs.Prelude.{position}
use Rattle.std.specs.Option.{OnSome, option_map}
use Rattle.std.proofs.lemmas.List.Quantifiers.{position-Some}
use Rattle.std.proofs.lemmas.Bool.{false≢true}
use Rattle.std.proofs.lemmas.Bool.Decides.{nat_tests}
use Rattle.ep_units.specs.Text.{Text, text_eq}
use Rattle.ep_history.proofs.Births.{decide-name}
use Rattle.ep_members.specs.declared.actors.Actor.{Actor}
use Rattle.ep_members.specs.declared.actors.Slot.{Slot}
use Rattle.ep_members.specs.Actors.{IsWithout, found, kept_cut_off}

-- a name that is found to be another
same-name : (a b : Text) → text_eq a b ≡ true → a ≡ b
same-name a b e = go (decide-name a b)
  where
    go : ((text_eq a b ≡ true) × (a ≡ b)) ⊎ ((text_eq a b ≡ false) × (a ≡ b → ⊥)) → a ≡ b
    go (inl z) = z.1
    go (inr z) = absurd (false≢true (sym z.0 ∙ e))

-- a name that is another
pub other-name : (a b : Text) → (a ≡ b → ⊥) → text_eq a b ≡ false
other-name a b h = go (decide-name a b)
  where
    go : ((text_eq a b ≡ true) × (a ≡ b)) ⊎ ((text_eq a b ≡ false) × (a ≡ b → ⊥)) → text_eq a b ≡ false
    go (inl z) = absurd (h z.1)
    go (inr z) = z.0

-- a name that is the same
pub named-so : (a b : Text) → a ≡ b → text_eq a b ≡ true
named-so a b e = go (decide-name a b)
  where
    go : ((text_eq a b ≡ true) × (a ≡ b)) ⊎ ((text_eq a b ≡ false) × (a ≡ b → ⊥)) → text_eq a b ≡ true
    go (inl z) = z.0
    go (inr z) = absurd (z.1 e)

-- the first of two places decides, and only one of them has the name
apart : (a n q : Text) → text_eq n a ≡ false → text_eq q a ≡ true → text_eq q n ≡ false
apart a n q e h = go (decide-name q n)
  where
    go : ((text_eq q n ≡ true) × (q ≡ n)) ⊎ ((text_eq q n ≡ false) × (q ≡ n → ⊥)) → text_eq q n ≡ false
    go (inl z) = absurd (false≢true (sym e ∙ subst (λ x. text_eq x a ≡ true) z.1 h))
    go (inr z) = z.0

-- a place that comes before is another name's
swap : (a n q : Text) (x y : Option Actor) (rest : Option Actor) → text_eq n a ≡ false
    → (if text_eq q a then x else (if text_eq q n then y else rest)) ≡ (if text_eq q n then y else (if text_eq q a then x else rest))
swap a n q x y rest e = go (text_eq q a) refl
  where
    go : (t : Bool) → text_eq q a ≡ t → (if text_eq q a then x else (if text_eq q n then y else rest)) ≡ (if text_eq q n then y else (if text_eq q a then x else rest))
    go true h =
        ap (λ t. if t then x else (if text_eq q n then y else rest)) h
        ∙ sym (ap (λ t. if t then y else (if text_eq q a then x else rest)) (apart a n q e h) ∙ ap (λ t. if t then x else rest) h)
    go false h =
        ap (λ t. if t then x else (if text_eq q n then y else rest)) h
        ∙ sym (ap (λ t. if text_eq q n then y else (if t then x else rest)) h)

-- ---- a place is found

-- the first place of a name
pub record IsFirst (xs : List Slot) (n : Text) (i : ℕ) (d : Slot) : Type 0 where
  pub within : i < length xs
  pub named : text_eq n (get_or xs i d).name ≡ true
  pub before : (k : ℕ) → k < i → text_eq n (get_or xs k d).name ≡ false

pub first-place : (xs : List Slot) (n : Text) (i : ℕ) (d : Slot) → position (λ (s : Slot). text_eq n s.name) xs ≡ Some i → IsFirst xs n i d
first-place xs n i d e =
    let p = position-Some (λ (s : Slot). text_eq n s.name) xs i d e in
    record { within = p.0; named = p.1; before = p.2 }

later : (x : Slot) (xs : List Slot) (n : Text) (i : ℕ) (d : Slot) → IsFirst (x ∷ xs) n (suc i) d → IsFirst xs n i d
later x xs n i d f = record {
  within = omega (arith, f.within);
  named = f.named;
  before = λ k h. f.before (suc k) (omega arith);
}

pub found-first : (xs : List Slot) (n : Text) (i : ℕ) (d : Slot) → IsFirst xs n i d → found xs n ≡ (get_or xs i d).actor
found-first [] n i d f = absurd (omega (arith, f.within))
found-first (x ∷ xs) n zero d f = ap (λ t. if t then x.actor else found xs n) f.named
found-first (x ∷ xs) n (suc i) d f =
    ap (λ t. if t then x.actor else found xs n) (f.before zero (omega arith)) ∙ found-first xs n i d (later x xs n i d f)

-- what is put at the place of a name
pub found-set : (xs : List Slot) (n : Text) (i : ℕ) (d s : Slot) → IsFirst xs n i d → s.name ≡ (get_or xs i d).name → (q : Text)
    → found (set xs i s) q ≡ (if text_eq q n then s.actor else found xs q)
found-set [] n i d s f e q = absurd (omega (arith, f.within))
found-set (x ∷ xs) n zero d s f e q =
    ap (λ m. if text_eq q m then s.actor else found xs q) (e ∙ sym (same-name n x.name f.named)) ∙ go (text_eq q n) refl
  where
    go : (t : Bool) → text_eq q n ≡ t → (if text_eq q n then s.actor else found xs q) ≡ (if text_eq q n then s.actor else (if text_eq q x.name then x.actor else found xs q))
    go true h =
        ap (λ t. if t then s.actor else found xs q) h
        ∙ sym (ap (λ t. if t then s.actor else (if text_eq q x.name then x.actor else found xs q)) h)
    go false h =
        let o : text_eq q x.name ≡ false = subst (λ m. text_eq q m ≡ false) (same-name n x.name f.named) h in
        ap (λ t. if t then s.actor else found xs q) h
        ∙ sym (ap (λ t. if t then s.actor else (if text_eq q x.name then x.actor else found xs q)) h ∙ ap (λ t. if t then x.actor else found xs q) o)
found-set (x ∷ xs) n (suc i) d s f e q =
    ap (λ r. if text_eq q x.name then x.actor else r) (found-set xs n i d s (later x xs n i d f) e q)
    ∙ swap x.name n q x.actor s.actor (found xs q) (f.before zero (omega arith))

-- ---- no place is found

head-none : (p : Slot → Bool) (x : Slot) (xs : List Slot) → position p (x ∷ xs) ≡ None → (p x ≡ false) × (position p xs ≡ None)
head-none p x xs e = (go (p x) refl, grind (arith, nat_tests))
  where
    go : (t : Bool) → p x ≡ t → p x ≡ false
    go true h = grind (arith, nat_tests)
    go false h = h

pub found-none : (xs : List Slot) (n : Text) → position (λ (s : Slot). text_eq n s.name) xs ≡ None → found xs n ≡ None
found-none [] n e = refl
found-none (x ∷ xs) n e =
    let h = head-none (λ (s : Slot). text_eq n s.name) x xs e in
    ap (λ t. if t then x.actor else found xs n) h.0 ∙ found-none xs n h.1

-- what is put behind all places
pub found-push : (xs : List Slot) (n : Text) (s : Slot) → position (λ (t : Slot). text_eq n t.name) xs ≡ None → s.name ≡ n → (q : Text)
    → found (xs ++ s ∷ []) q ≡ (if text_eq q n then s.actor else found xs q)
found-push [] n s e h q = ap (λ m. if text_eq q m then s.actor else None) h
found-push (x ∷ xs) n s e h q =
    let o = head-none (λ (t : Slot). text_eq n t.name) x xs e in
    ap (λ r. if text_eq q x.name then x.actor else r) (found-push xs n s o.1 h q) ∙ swap x.name n q x.actor s.actor (found xs q) o.0

-- a name of no place stands for nobody, and so is taken out
pub without-none : (xs : List Slot) (n : Text) → position (λ (s : Slot). text_eq n s.name) xs ≡ None → IsWithout xs n xs
without-none xs n e q = go (decide-name q n)
  where
    go : ((text_eq q n ≡ true) × (q ≡ n)) ⊎ ((text_eq q n ≡ false) × (q ≡ n → ⊥)) → found xs q ≡ (if text_eq q n then None else found xs q)
    go (inl z) = ap (found xs) z.1 ∙ found-none xs n e ∙ sym (ap (λ t. if t then None else found xs q) z.0)
    go (inr z) = sym (ap (λ t. if t then None else found xs q) z.0)

-- ---- each place changes

pub found-each : (xs ys : List Slot) → length xs ≡ length ys
    → ((i : ℕ) (d : Slot) → i < length xs → get_or ys i d ≡ record (get_or xs i d) { actor = option_map kept_cut_off (get_or xs i d).actor })
    → (q : Text) → found ys q ≡ option_map kept_cut_off (found xs q)
found-each [] [] e h q = refl
found-each [] (y ∷ ys) e h q = absurd (omega (arith, e))
found-each (x ∷ xs) [] e h q = absurd (omega (arith, e))
found-each (x ∷ xs) (y ∷ ys) e h q =
    let first : y ≡ record x { actor = option_map kept_cut_off x.actor } = h zero x (omega arith) in
    ap (λ (s : Slot). if text_eq q s.name then s.actor else found ys q) first
    ∙ ap (λ r. if text_eq q x.name then option_map kept_cut_off x.actor else r)
    (found-each xs ys (omega (arith, e)) (λ i d l. h (suc i) d (omega arith)) q)
    ∙ go (text_eq q x.name)
  where
    go : (t : Bool) → (if t then option_map kept_cut_off x.actor else option_map kept_cut_off (found xs q)) ≡ option_map kept_cut_off (if t then x.actor else found xs q)
    go true = refl
    go false = refl

-- ---- in code, where the list is another's

-- who stands at the first place of a name
pub at-place : (xs items : List Slot) (n : Text) (i : ℕ) (x : Slot) → position (λ (s : Slot). text_eq n s.name) xs ≡ Some i → items ≡ xs → x ≡ get_or items i x
    → x.actor ≡ found xs n
at-place xs items n i x e same is =
    ap (λ (s : Slot). s.actor) (is ∙ ap (λ ys. get_or ys i x) same) ∙ sym (found-first xs n i x (first-place xs n i x e))

-- another is put there
pub set-place : (xs items : List Slot) (n : Text) (i : ℕ) (x : Slot) (o : Option Actor) → position (λ (s : Slot). text_eq n s.name) xs ≡ Some i → items ≡ xs → x ≡ get_or items i x
    → (q : Text) → found (set items i (record { name = x.name; actor = o })) q ≡ (if text_eq q n then o else found xs q)
set-place xs items n i x o e same is q =
    ap (λ ys. found (set ys i (record { name = x.name; actor = o })) q) same
    ∙ found-set xs n i x (record { name = x.name; actor = o }) (first-place xs n i x e) (ap (λ (s : Slot). s.name) (is ∙ ap (λ ys. get_or ys i x) same)) q

-- who stands there is put there
pub set-back : (xs items : List Slot) (i : ℕ) (x : Slot) → items ≡ xs → x ≡ get_or items i x → set items i x ≡ xs
set-back xs items i x same is = go items i is ∙ same
  where
    go : (ys : List Slot) (k : ℕ) → x ≡ get_or ys k x → set ys k x ≡ ys
    go [] zero e = refl
    go [] (suc k) e = refl
    go (y ∷ ys) zero e = ap (λ z. z ∷ ys) e
    go (y ∷ ys) (suc k) e = ap (λ zs. y ∷ zs) (go ys k e)

-- ---- a client that is lent

-- the place of a name in a list that is the same
pub place-in : (xs items : List Slot) (n : Text) (o : Option ℕ) → items ≡ xs → o ≡ position (λ (s : Slot). text_eq n s.name) items → position (λ (s : Slot). text_eq n s.name) xs ≡ o
place-in xs items n o same e = ap (position (λ (s : Slot). text_eq n s.name)) (sym same) ∙ sym e

-- what holds in any case
pub on-some : {A : Type 0} {P : Type 0} (r : Option A) → P → OnSome r P
on-some (Some x) p = p
on-some None p = tt
