-- Places by author: where one sits, and what ends there.
use Rattle.std.proofs.Common.{◌≡◌, ℕ, zero, suc, Bool, true, false, ◌||◌, if◌then◌else◌, List, [], ◌∷◌, ◌++◌, ◌⊎◌, inl, inr, map, length, set, Option, Some, None, is_some, MatchOption, refl, sym, ap, ◌∙◌, subst, T}
use Rattle.std.specs.List.{list_any}
use Rattle.ep_units.specs.Text.{Text, text_eq}
use Rattle.ep_history.specs.Lists.{at}
use Rattle.ep_history.specs.declared.seat.Why.{Why}
use Rattle.ep_history.proofs.Births.{decide-name}
use Rattle.ep_history.proofs.Lists.{at-past}
use Rattle.ep_seats.specs.Places.{sits, sits_at, replaced_place, IsSingle}
use Rattle.ep_seats.specs.declared.place.Place.{Place}
use Rattle.ep_seats.specs.declared.place.Place.TheVariants.{Sits, Ended}

pub not-true : {Z : Type 0} → false ≡ true → Z
not-true e = absurd (subst T (sym e) tt)

neither : (a b : Bool) → (a || b) ≡ false → (a ≡ false) × (b ≡ false)
neither true b e = not-true (sym e)
neither false b e = (refl, e)

-- ---- where an author sits

pub sitting : (author : Text) (o : Option Place) → sits_at author o ≡ true → (read_only : Bool) × (o ≡ Some (Sits author read_only))
sitting author None e = not-true e
sitting author (Some (Ended why)) e = not-true e
sitting author (Some (Sits other read_only)) e = go (decide-name other author)
  where
    go : ((text_eq other author ≡ true) × (other ≡ author)) ⊎ ((text_eq other author ≡ false) × (other ≡ author → ⊥)) → (r : Bool) × (Some (Sits other read_only) ≡ Some (Sits author r))
    go (inl h) = (read_only, ap (λ a. Some (Sits a read_only)) h.1)
    go (inr h) = not-true (sym h.0 ∙ e)

pub itself-sits : (author : Text) (read_only : Bool) → sits author (Sits author read_only) ≡ true
itself-sits author read_only = go (decide-name author author)
  where
    go : ((text_eq author author ≡ true) × (author ≡ author)) ⊎ ((text_eq author author ≡ false) × (author ≡ author → ⊥)) → text_eq author author ≡ true
    go (inl h) = h.0
    go (inr h) = absurd (h.1 refl)

any-at : (author : Text) (ps : List Place) → list_any (sits author) ps ≡ true → (i : ℕ) × (sits_at author (at ps i) ≡ true)
any-at author [] e = not-true e
any-at author (p ∷ ps) e = go (any-at author ps) (sits author p) refl
  where
    go : (list_any (sits author) ps ≡ true → (i : ℕ) × (sits_at author (at ps i) ≡ true)) → (b : Bool) → sits author p ≡ b → (i : ℕ) × (sits_at author (at (p ∷ ps) i) ≡ true)
    go later true h = (0, h)
    go later false h = let r = later (sym (ap (λ b. b || list_any (sits author) ps) h) ∙ e) in (suc r.0, r.1)

none-at : (author : Text) (ps : List Place) (i : ℕ) → list_any (sits author) ps ≡ false → sits_at author (at ps i) ≡ false
none-at author [] i e = refl
none-at author (p ∷ ps) zero e = (neither (sits author p) _ e).0
none-at author (p ∷ ps) (suc i) e = none-at author ps i (neither (sits author p) _ e).1

-- something is found exactly where the author sits
pub found-any : (author : Text) (ps : List Place) (o : Option ℕ) → MatchOption o (list_any (sits author) ps ≡ false) (λ i. sits_at author (at ps i) ≡ true) → is_some o ≡ list_any (sits author) ps
found-any author ps None h = sym h
found-any author ps (Some i) h = go (list_any (sits author) ps) refl
  where
    go : (b : Bool) → list_any (sits author) ps ≡ b → true ≡ list_any (sits author) ps
    go true e = sym e
    go false e = not-true (sym (none-at author ps i e) ∙ h)

single-tail : (p : Place) (ps : List Place) → IsSingle (p ∷ ps) → IsSingle ps
single-tail p ps s i j author one other h k = suc-same (s (suc i) (suc j) author one other h k)
  where
    suc-same : {i j : ℕ} → suc i ≡ suc j → i ≡ j
    suc-same e = cc

-- where the first place is an author's, no later one is
alone : (author : Text) (p : Place) (ps : List Place) → IsSingle (p ∷ ps) → sits author p ≡ true → list_any (sits author) ps ≡ false
alone author p ps s e = go (list_any (sits author) ps) refl
  where
    none-suc : {i : ℕ} → 0 ≡ suc i → ⊥
    none-suc e = cc

    go : (b : Bool) → list_any (sits author) ps ≡ b → list_any (sits author) ps ≡ false
    go false h = h
    go true h =
        let r = any-at author ps h in
        let one = sitting author (Some p) e in
        let other = sitting author (at ps r.0) r.1 in
        absurd (none-suc (s 0 (suc r.0) author one.0 other.0 one.1 other.1))

-- ---- an author's place ends

pub replaced-none : (author : Text) (why : Why) (ps : List Place) → list_any (sits author) ps ≡ false → map (replaced_place author why) ps ≡ ps
replaced-none author why [] e = refl
replaced-none author why (Ended old ∷ ps) e = ap (λ qs. Ended old ∷ qs) (replaced-none author why ps e)
replaced-none author why (Sits other read_only ∷ ps) e =
    let h = neither (text_eq other author) _ e in
    λ i. (if h.0 i then Ended why else Sits other read_only) ∷ replaced-none author why ps h.1 i

pub replaced-at : (author : Text) (why : Why) (ps : List Place) (i : ℕ) → IsSingle ps → sits_at author (at ps i) ≡ true → map (replaced_place author why) ps ≡ set ps i (Ended why)
replaced-at author why [] i s e = not-true e
replaced-at author why (Ended old ∷ ps) zero s e = not-true e
replaced-at author why (Sits other read_only ∷ ps) zero s e =
    λ i. (if e i then Ended why else Sits other read_only) ∷ replaced-none author why ps (alone author (Sits other read_only) ps s e) i
replaced-at author why (Ended old ∷ ps) (suc i) s e = ap (λ qs. Ended old ∷ qs) (replaced-at author why ps i (single-tail _ ps s) e)
replaced-at author why (Sits other read_only ∷ ps) (suc i) s e = go (replaced-at author why ps i (single-tail _ ps s) e) (text_eq other author) refl
  where
    go : map (replaced_place author why) ps ≡ set ps i (Ended why) → (b : Bool) → text_eq other author ≡ b → map (replaced_place author why) (Sits other read_only ∷ ps) ≡ Sits other read_only ∷ set ps i (Ended why)
    go later true h = not-true (sym (none-at author ps i (alone author (Sits other read_only) ps s h)) ∙ e)
    go later false h = λ k. (if h k then Ended why else Sits other read_only) ∷ later k

pub nobody-replaced : (author : Text) (why : Why) (ps : List Place) → list_any (sits author) (map (replaced_place author why) ps) ≡ false
nobody-replaced author why [] = refl
nobody-replaced author why (Ended old ∷ ps) = nobody-replaced author why ps
nobody-replaced author why (Sits other read_only ∷ ps) = go (nobody-replaced author why ps) (text_eq other author) refl
  where
    rest : Bool
    rest = list_any (sits author) (map (replaced_place author why) ps)

    go : rest ≡ false → (b : Bool) → text_eq other author ≡ b → (sits author (if text_eq other author then Ended why else Sits other read_only) || rest) ≡ false
    go later true h = ap (λ t. sits author (if t then Ended why else Sits other read_only) || rest) h ∙ later
    go later false h = ap (λ t. sits author (if t then Ended why else Sits other read_only) || rest) h ∙ ap (λ t. t || rest) h ∙ later

-- ---- an author sits at one place

at-ended : (why : Why) (ps : List Place) (i j : ℕ) (author : Text) (read_only : Bool) → at (set ps i (Ended why)) j ≡ Some (Sits author read_only) → at ps j ≡ Some (Sits author read_only)
at-ended why [] i j author read_only e = e
at-ended why (p ∷ ps) zero zero author read_only e = absurd (cc e)
at-ended why (p ∷ ps) zero (suc j) author read_only e = e
at-ended why (p ∷ ps) (suc i) zero author read_only e = e
at-ended why (p ∷ ps) (suc i) (suc j) author read_only e = at-ended why ps i j author read_only e

pub single-ended : (why : Why) (ps : List Place) (i : ℕ) → IsSingle ps → IsSingle (set ps i (Ended why))
single-ended why ps i s j k author one other e h = s j k author one other (at-ended why ps i j author one e) (at-ended why ps i k author other h)

pub single-sits : (author : Text) (read_only : Bool) (ps : List Place) → IsSingle ps → list_any (sits author) ps ≡ false → IsSingle (ps ++ Sits author read_only ∷ [])
single-sits author read_only ps s none i j name one other e h = go (at-past ps new [] i (Sits name one) e) (at-past ps new [] j (Sits name other) h)
  where
    new : Place
    new = Sits author read_only

    Where : ℕ → Place → Type 0
    Where i p = (at ps i ≡ Some p) ⊎ (((i ≡ length ps) × (p ≡ new)) ⊎ ⊥)

    name-of : Place → Text
    name-of (Sits a r) = a
    name-of (Ended why) = []

    -- an older place is another author's
    apart : (i : ℕ) (r r' : Bool) → at ps i ≡ Some (Sits name r) → Sits name r' ≡ new → ⊥
    apart i r r' e h =
        let same : name ≡ author = ap name-of h in
        not-true (sym (none-at author ps i none) ∙ ap (sits_at author) e ∙ ap (λ a. sits author (Sits a r)) same ∙ itself-sits author r)

    go : Where i (Sits name one) → Where j (Sits name other) → i ≡ j
    go (inl a) (inl b) = s i j name one other a b
    go (inl a) (inr (inl b)) = absurd (apart i one other a b.1)
    go (inr (inl a)) (inl b) = absurd (apart j other one b a.1)
    go (inr (inl a)) (inr (inl b)) = a.0 ∙ sym b.0
    go (inr (inr a)) b = absurd a
    go (inl a) (inr (inr b)) = absurd b
    go (inr (inl a)) (inr (inr b)) = absurd b
