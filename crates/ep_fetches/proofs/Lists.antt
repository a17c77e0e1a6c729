-- Stretches of a list, and those that follow one another in what a session was told.
use Rattle.std.proofs.Common.{◌≡◌, ℕ, zero, suc, ◌+◌, ◌-◌, ◌≤◌, Bool, true, false, ◌&&◌, ◌==◌, if◌then◌else◌, List, [], ◌∷◌, ◌++◌, ◌⊎◌, inl, inr, length, take, drop, Some, None, Ok, refl, sym, ap, ◌∙◌, subst, arith}
use Rattle.std.specs.Prelude.{is_ok, is_some}
use Rattle.std.proofs.lemmas.Bool.Decides.{nat_tests}
use Rattle.std.proofs.lemmas.List.{drop-drop, drop-take, length-append, length-drop, length-take, take-append-drop, take-append-le, take_min}
use Rattle.std.proofs.Math.Seq.{take-add}
use Rattle.ep_units.specs.declared.session.Session.{Session}
use Rattle.ep_history.specs.History.{Birth, is_session}
use Rattle.ep_history.specs.Readings.{fetch_size, nop_heads}
use Rattle.ep_history.specs.Entries.{Entry, Reply}
use Rattle.ep_history.specs.Entries.Answer.{FetchAnswer}
use Rattle.ep_history.specs.Entries.Entry.{Fetch}
use Rattle.ep_history.specs.Machine.{Call}
use Rattle.ep_history.specs.Fetches.{GoOn, TellOn, all_given, all_told, fetch_start, fetch_told, given, told_nops}
use Rattle.ep_history.proofs.Births.{decide}
use Rattle.ep_fetches.specs.Told.{AreTold, IsTold}

-- ---- stretches

-- these are the elements of a list from a place on, as many as they are
abbrev pub AreNext : {A : Type 0} → List A → ℕ → List A → Type 0
AreNext xs i ys = ys ≡ take (length ys) (drop i xs)

next-nothing : {A : Type 0} (xs : List A) (i : ℕ) → AreNext xs i []
next-nothing xs i = refl

pub next-take : {A : Type 0} (xs : List A) (i n : ℕ) → AreNext xs i (take n (drop i xs))
next-take xs i n = sym (ap (λ m. take m (drop i xs)) (length-take n (drop i xs)) ∙ take_min n (drop i xs))

next-more : {A : Type 0} (xs : List A) (i : ℕ) (us vs : List A) → AreNext xs i us → AreNext xs (i + length us) vs → AreNext xs i (us ++ vs)
next-more xs i us vs f g =
    (λ j. f j ++ g j)
    ∙ ap (λ ys. take (length us) (drop i xs) ++ take (length vs) ys) (sym (drop-drop (length us) i xs))
    ∙ sym (take-add (length us) (length vs) (drop i xs))
    ∙ ap (λ k. take k (drop i xs)) (sym (length-append us vs))

-- the first elements of a list are no more than it has
at-most : {A : Type 0} (n : ℕ) (xs ys : List A) → ys ≡ take n xs → length ys ≤ length xs
at-most {A = A} n xs ys e = let l : length ys ≡ length (take n xs) = ap (λ (zs : List A). length zs) e in let t = length-take n xs in omega (arith, l, t)

-- the first elements of a list are those of the list with more behind it
first-grown : {A : Type 0} (xs more ys : List A) → ys ≡ take (length ys) xs → ys ≡ take (length ys) (xs ++ more)
first-grown xs more ys e = e ∙ sym (take-append-le (length ys) xs more (at-most (length ys) xs ys e))

-- what is cut short at a place behind the start
next-cut : {A : Type 0} (xs : List A) (i h n : ℕ) → i ≤ h → AreNext xs i (take n (drop i (take h xs)))
next-cut {A = A} xs i h n l =
    let m = h - i in
    let zs = drop i xs in
    let e : drop i (take h xs) ≡ take m zs = let k : h ≡ i + (h - i) = omega (arith, l) in ap (λ j. drop i (take j xs)) k ∙ drop-take i m xs in
    subst (λ (ws : List A). take n ws ≡ take (length (take n ws)) zs) (sym e)
    (first-grown (take m zs) (drop m zs) (take n (take m zs)) (next-take (take m zs) 0 n) ∙ ap (take (length (take n (take m zs)))) (take-append-drop m zs))

-- a stretch of a list is one of the list with more behind it
pub next-grown : {A : Type 0} (xs more : List A) (i : ℕ) (ys : List A) → AreNext xs i ys → AreNext (xs ++ more) i ys
next-grown {A = A} [] more i ys e = nothing ys (at-most (length ys) (drop i []) ys e) (drop i more)
  where
    nil : List A
    nil = []

    nothing : (ys : List A) → length ys ≤ length (drop i nil) → (zs : List A) → ys ≡ take (length ys) zs
    nothing [] h zs = refl
    nothing (y ∷ ys) h zs = let d = length-drop {A = A} i [] in absurd (omega (arith, h, d))
next-grown (x ∷ xs) more zero ys e = first-grown (x ∷ xs) more ys e
next-grown (x ∷ xs) more (suc i) ys e = next-grown xs more i ys e

-- ---- sessions

both : (a b : Bool) → (a && b) ≡ true → (a ≡ true) × (b ≡ true)
both true b e = (refl, e)
both false b e = absurd cc

pub same-session : (s t : Session) → is_session s t ≡ true → s ≡ t
same-session s t e =
    let h = both (s.epoch == t.epoch) (s.count == t.count) e in
    let a : s.epoch ≡ t.epoch = grind (arith, nat_tests, h.0) in
    let b : s.count ≡ t.count = grind (arith, nat_tests, h.1) in
    λ j. record { epoch = a j; count = b j }

pub decide-session : (s t : Session) → (s ≡ t) ⊎ (s ≡ t → ⊥)
decide-session s t = go (decide s.epoch t.epoch) (decide s.count t.count)
  where
    go : (((s.epoch == t.epoch) ≡ true) × (s.epoch ≡ t.epoch)) ⊎ (((s.epoch == t.epoch) ≡ false) × (s.epoch ≡ t.epoch → ⊥))
        → (((s.count == t.count) ≡ true) × (s.count ≡ t.count)) ⊎ (((s.count == t.count) ≡ false) × (s.count ≡ t.count → ⊥))
        → (s ≡ t) ⊎ (s ≡ t → ⊥)
    go (inl a) (inl b) = inl (λ j. record { epoch = a.1 j; count = b.1 j })
    go (inl a) (inr b) = inr (λ e. b.1 (ap (λ (x : Session). x.count) e))
    go (inr a) b = inr (λ e. a.1 (ap (λ (x : Session). x.epoch) e))

-- ---- a whole history

given-next : (k : ℕ) (b : Birth) (me : Session) (e : Entry) (reply : Reply) (r : ℕ) → IsTold k b me e reply
    → ((from : ℕ) → fetch_start me e ≡ Some from → is_ok reply ≡ true → from ≡ r) → AreNext b.later r (given me (record { entry = e; reply = reply }))
given-next k b me (Fetch t from told) (Ok (FetchAnswer x)) r h on = go (is_session t me) refl on
  where
    go : (c : Bool) → is_session t me ≡ c → ((at : ℕ) → (if c then Some from else None) ≡ Some at → true ≡ true → at ≡ r)
        → AreNext b.later r (if is_some (if c then Some from else None) then x.revs else [])
    go false same on = next-nothing b.later r
    go true same on =
        let f = h (same-session t me same) in
        subst (λ i. AreNext b.later i x.revs) (on from refl refl)
        (subst (λ vs. AreNext b.later from vs) (sym f.revs) (next-cut b.later from x.head fetch_size f.start))
given-next k b me e reply r h on = go (is_some (fetch_start me e))
  where
    go : (c : Bool) → AreNext b.later r (if c then [] else [])
    go true = next-nothing b.later r
    go false = next-nothing b.later r

pub revs-follow : (k : ℕ) (b : Birth) (me : Session) (calls : List Call) (start : ℕ) → AreTold k b me calls → GoOn me start calls
    → AreNext b.later start (all_given me calls)
revs-follow k b me [] start a on = next-nothing b.later start
revs-follow k b me (c ∷ cs) start a on =
    next-more b.later start (given me c) (all_given me cs) (given-next k b me c.entry c.reply start a.0 on.0)
    (revs-follow k b me cs (start + length (given me c)) a.1 on.1)

told-next : (k : ℕ) (b : Birth) (me : Session) (e : Entry) (reply : Reply) (r : ℕ) → IsTold k b me e reply
    → ((told : ℕ) → fetch_told me e ≡ Some told → is_ok reply ≡ true → told ≡ r) → AreNext (nop_heads me b) r (told_nops me (record { entry = e; reply = reply }))
told-next k b me (Fetch t from told) (Ok (FetchAnswer x)) r h on = go (is_session t me) refl on
  where
    go : (c : Bool) → is_session t me ≡ c → ((at : ℕ) → (if c then Some told else None) ≡ Some at → true ≡ true → at ≡ r)
        → AreNext (nop_heads me b) r (if is_some (if c then Some told else None) then x.nops else [])
    go false same on = next-nothing (nop_heads me b) r
    go true same on = subst (λ i. AreNext (nop_heads me b) i x.nops) (on told refl refl) (h (same-session t me same)).nops
told-next k b me e reply r h on = go (is_some (fetch_told me e))
  where
    go : (c : Bool) → AreNext (nop_heads me b) r (if c then [] else [])
    go true = next-nothing (nop_heads me b) r
    go false = next-nothing (nop_heads me b) r

pub nops-follow : (k : ℕ) (b : Birth) (me : Session) (calls : List Call) (start : ℕ) → AreTold k b me calls → TellOn me start calls
    → AreNext (nop_heads me b) start (all_told me calls)
nops-follow k b me [] start a on = next-nothing (nop_heads me b) start
nops-follow k b me (c ∷ cs) start a on =
    next-more (nop_heads me b) start (told_nops me c) (all_told me cs) (told-next k b me c.entry c.reply start a.0 on.0)
    (nops-follow k b me cs (start + length (told_nops me c)) a.1 on.1)
