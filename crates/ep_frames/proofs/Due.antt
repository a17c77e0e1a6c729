-- Which document is the last that is due.
use Rattle.std.proofs.Common.{◌≡◌, ℕ, zero, suc, ◌+◌, ◌%◌, ◌<◌, ◌==◌, ◌⊎◌, inl, inr, List, [], ◌∷◌, length, take, Option, Some, None, refl, sym, ap, ◌∙◌, arith}
use Rattle.std.specs.Prelude.{if◌then◌else◌, Bool, true, false}
use Rattle.std.proofs.lemmas.Bool.{cases_order, eqb-true}
use Rattle.ep_cs.specs.Doc.{Doc}
use Rattle.ep_cs.specs.Edit.{apply}
use Rattle.ep_cs.specs.Change.{Change}
use Rattle.ep_cs.specs.Made.{after_all}
use Rattle.ep_frames.specs.Frames.{or_before, due_at, last_due, IsLastDue}

none_some : {x : Doc} {Z : Type 0} → ◌≡◌ {A = Option Doc} None (Some x) → Z
none_some e = absurd (cc e)

some_same : {x y : Doc} → ◌≡◌ {A = Option Doc} (Some x) (Some y) → x ≡ y
some_same e = cc e

-- ---- one change: none is due at it, or one is

step_none : (spacing r : ℕ) (after : Doc) (rest : Option Doc) → or_before rest (due_at spacing r after) ≡ None → (rest ≡ None) × (r % spacing ≡ 0 → ⊥)
step_none spacing r after (Some x) h = none_some (sym h)
step_none spacing r after None h = (refl, λ m. none_some (sym h ∙ ap (λ n. if n == 0 then Some after else None) m))

due_split : (n : ℕ) (after d : Doc) (b : Bool) → (n == 0) ≡ b → (if n == 0 then Some after else None) ≡ Some d → (n ≡ 0) × (after ≡ d)
due_split n after d true p h = (eqb-true n 0 p, some_same (sym (ap (λ c. if c then Some after else None) p) ∙ h))
due_split n after d false p h = none_some (sym (ap (λ c. if c then Some after else None) p) ∙ h)

due_cases : (n : ℕ) (after d : Doc) → (if n == 0 then Some after else None) ≡ Some d → (n ≡ 0) × (after ≡ d)
due_cases n after d h = due_split n after d (n == 0) refl h

step_some : (spacing r : ℕ) (after : Doc) (rest : Option Doc) (d : Doc) → or_before rest (due_at spacing r after) ≡ Some d
    → (rest ≡ Some d) ⊎ ((rest ≡ None) × (r % spacing ≡ 0) × (after ≡ d))
step_some spacing r after (Some x) d h = inl h
step_some spacing r after None d h = let c = due_cases (r % spacing) after d h in inr (refl, c.0, c.1)

-- ---- where none is due, no number is divisible

pub none_due : (spacing r : ℕ) (doc : Doc) (cs : List Change) → last_due spacing r doc cs ≡ None → (i : ℕ) → i < length cs → (r + i) % spacing ≡ 0 → ⊥
none_due spacing r doc [] h i l z = omega (arith, l)
none_due spacing r doc (c ∷ cs) h zero l z =
    let after = apply c.edit doc in
    (step_none spacing r after (last_due spacing (suc r) after cs) h).1 (ap (λ n. n % spacing) (omega arith) ∙ z)
none_due spacing r doc (c ∷ cs) h (suc i) l z =
    let after = apply c.edit doc in
    none_due spacing (suc r) after cs (step_none spacing r after (last_due spacing (suc r) after cs) h).0 i (omega (arith, l)) (ap (λ n. n % spacing) (omega arith) ∙ z)

-- ---- where one is due, it is the last

-- no later one than this, seen from one revision before
beyond : (spacing r n place : ℕ) → ((i : ℕ) → place < i → i < n → (suc r + i) % spacing ≡ 0 → ⊥) → (i : ℕ) → suc place < i → i < suc n → (r + i) % spacing ≡ 0 → ⊥
beyond spacing r n place last zero a b z = omega (arith, a)
beyond spacing r n place last (suc i) a b z = last i (omega (arith, a)) (omega (arith, b)) (ap (λ n. n % spacing) (omega arith) ∙ z)

after_first : (spacing r n : ℕ) → ((i : ℕ) → i < n → (suc r + i) % spacing ≡ 0 → ⊥) → (i : ℕ) → 0 < i → i < suc n → (r + i) % spacing ≡ 0 → ⊥
after_first spacing r n none zero a b z = omega (arith, a)
after_first spacing r n none (suc i) a b z = none i (omega (arith, b)) (ap (λ n. n % spacing) (omega arith) ∙ z)

later : (spacing r : ℕ) (doc : Doc) (c : Change) (cs : List Change) (d : Doc) → IsLastDue spacing (suc r) (apply c.edit doc) cs d → IsLastDue spacing r doc (c ∷ cs) d
later spacing r doc c cs d k = record {
  place = suc k.place;
  there = let b = k.there in omega (arith, b);
  due = ap (λ n. n % spacing) (omega arith) ∙ k.due;
  is = k.is;
  last = beyond spacing r (length cs) k.place k.last;
}

first : (spacing r : ℕ) (doc : Doc) (c : Change) (cs : List Change) (d : Doc) → last_due spacing (suc r) (apply c.edit doc) cs ≡ None → r % spacing ≡ 0 → apply c.edit doc ≡ d
    → IsLastDue spacing r doc (c ∷ cs) d
first spacing r doc c cs d e z s = record {
  place = 0;
  there = omega arith;
  due = ap (λ n. n % spacing) (omega arith) ∙ z;
  is = sym s;
  last = after_first spacing r (length cs) (none_due spacing (suc r) (apply c.edit doc) cs e);
}

joined : (spacing r : ℕ) (doc : Doc) (c : Change) (cs : List Change) (d : Doc)
    → (last_due spacing (suc r) (apply c.edit doc) cs ≡ Some d) ⊎ ((last_due spacing (suc r) (apply c.edit doc) cs ≡ None) × (r % spacing ≡ 0) × (apply c.edit doc ≡ d))
    → (last_due spacing (suc r) (apply c.edit doc) cs ≡ Some d → IsLastDue spacing (suc r) (apply c.edit doc) cs d) → IsLastDue spacing r doc (c ∷ cs) d
joined spacing r doc c cs d (inl e) ih = later spacing r doc c cs d (ih e)
joined spacing r doc c cs d (inr h) ih = first spacing r doc c cs d h.0 h.1 h.2

pub due_is : (spacing r : ℕ) (doc : Doc) (cs : List Change) (d : Doc) → last_due spacing r doc cs ≡ Some d → IsLastDue spacing r doc cs d
due_is spacing r doc [] d h = none_some h
due_is spacing r doc (c ∷ cs) d h =
    let after = apply c.edit doc in
    joined spacing r doc c cs d (step_some spacing r after (last_due spacing (suc r) after cs) d h) (λ e. due_is spacing (suc r) after cs d e)

-- ---- and no other document is

same_place : (spacing r : ℕ) (doc : Doc) (cs : List Change) (d e : Doc) (a : IsLastDue spacing r doc cs d) (b : IsLastDue spacing r doc cs e) → a.place ≡ b.place
same_place spacing r doc cs d e a b = by (cases_order a.place b.place)
  where
    by : (a.place ≡ b.place) ⊎ ((a.place < b.place) ⊎ (b.place < a.place)) → a.place ≡ b.place
    by (inl h) = h
    by (inr (inl h)) = absurd (a.last b.place h b.there b.due)
    by (inr (inr h)) = absurd (b.last a.place h a.there a.due)

same_due : (spacing r : ℕ) (doc : Doc) (cs : List Change) (d e : Doc) → IsLastDue spacing r doc cs d → IsLastDue spacing r doc cs e → d ≡ e
same_due spacing r doc cs d e a b =
    a.is ∙ ap (λ (n : ℕ). after_all doc (take (suc n) cs)) (same_place spacing r doc cs d e a b) ∙ sym b.is

pub is_due : (spacing r : ℕ) (doc : Doc) (cs : List Change) (d : Doc) → IsLastDue spacing r doc cs d → last_due spacing r doc cs ≡ Some d
is_due spacing r doc cs d is = by (last_due spacing r doc cs) refl
  where
    by : (o : Option Doc) → last_due spacing r doc cs ≡ o → o ≡ Some d
    by None e = absurd (none_due spacing r doc cs e is.place is.there is.due)
    by (Some x) e = ap Some (same_due spacing r doc cs x d (due_is spacing r doc cs x e) is)

pub not_due : (spacing r : ℕ) (doc : Doc) (cs : List Change) → ((i : ℕ) → i < length cs → (r + i) % spacing ≡ 0 → ⊥) → last_due spacing r doc cs ≡ None
not_due spacing r doc cs none = by (last_due spacing r doc cs) refl
  where
    by : (o : Option Doc) → last_due spacing r doc cs ≡ o → o ≡ None
    by None e = refl
    by (Some x) e = let is = due_is spacing r doc cs x e in absurd (none is.place is.there is.due)
