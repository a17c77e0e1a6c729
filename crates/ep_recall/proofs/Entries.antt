-- What is kept under a number, after a look-up and after a put.
use Rattle.std.proofs.Common.{◌≡◌, ℕ, Bool, true, false, nat_eq, ◌⊎◌, inl, inr, List, [], ◌∷◌, Contains, Option, Some, None, Result, Ok, Err, Bor, refl, sym, ap, subst, ◌∙◌, true≢false}
use Rattle.std.specs.Prelude.{is_some, is_ok, OnOk, OnErr, IfSome, IfNone}
use Rattle.std.specs.Bool.{OnTrue}
use Rattle.std.specs.Option.{option_map_or, option_copied}
use Rattle.std.specs.Map.{lookup, lookup_entry, remove_entry}
use Rattle.std.specs.Cmp.{nat_eq_equiv}
use Rattle.std.proofs.lemmas.Bool.{eqb-true}
use Rattle.lru.specs.LruCache.{LruCache, lru_cache, promoted, put_entries}
use Rattle.lru.proofs.Splits.{Contains-head, Contains-tail, Contains-cons, Contains-nil}
use Rattle.lru.proofs.CallerLemmas.{Contains-lookup, Contains-promoted, Contains-put_entries, lookup-put_entries}
use Rattle.ep_recall.specs.Recall.{Kept}

module _ {T : Type 0} where
  pub entries_same : {a b : Kept T} → a ≡ b → a.entries ≡ b.entries
  entries_same e = ap (λ (k : Kept T). k.entries) e

  -- ---- a look-up

  -- what is found is there
  pub found : (es : List (ℕ × T)) (n : ℕ) (v : T) → lookup (nat_eq n) es ≡ Some v → Contains es (n, v)
  found es n v e =
      let is = Contains-lookup (nat_eq n) es v e in
      subst (λ (k : ℕ). Contains es (k, v)) (sym (eqb-true n is.0 is.2)) is.1

  same_number : (e : ℕ × T) (n : ℕ) (v : T) → e ≡ (n, v) → nat_eq n e.0 ≡ true
  same_number e n v same = ap (nat_eq n) (ap (λ (p : ℕ × T). p.0) same) ∙ nat_eq_equiv.refl n

  -- what is there is found
  finds : (es : List (ℕ × T)) (n : ℕ) (v : T) → Contains es (n, v) → is_some (lookup (nat_eq n) es) ≡ true
  finds [] n v c = absurd (Contains-nil (n, v) c)
  finds (e ∷ es) n v c = by (nat_eq n e.0) refl (Contains-cons e es (n, v) c) (λ rest. finds es n v rest)
    where
      by : (b : Bool) → nat_eq n e.0 ≡ b → (e ≡ (n, v)) ⊎ Contains es (n, v) → (Contains es (n, v) → is_some (lookup (nat_eq n) es) ≡ true) → is_some (lookup (nat_eq n) (e ∷ es)) ≡ true
      by true t at on = rw t refl
      by false t (inl same) on = absurd (true≢false (sym (same_number e n v same) ∙ t))
      by false t (inr rest) on = rw t (on rest)

  some_there : (es : List (ℕ × T)) (n : ℕ) (o : Option T) → lookup (nat_eq n) es ≡ o → is_some o ≡ true → (v : T) × Contains es (n, v)
  some_there es n None e s = absurd (true≢false (sym s))
  some_there es n (Some v) e s = (v, found es n v e)

  pub is_there : (es : List (ℕ × T)) (n : ℕ) → is_some (lookup (nat_eq n) es) ≡ true → (v : T) × Contains es (n, v)
  is_there es n s = some_there es n (lookup (nat_eq n) es) refl s

  pub is_found : (es : List (ℕ × T)) (n : ℕ) → ((v : T) × Contains es (n, v)) → is_some (lookup (nat_eq n) es) ≡ true
  is_found es n x = finds es n x.0 x.1

  pub not_there : (es : List (ℕ × T)) (n : ℕ) → lookup (nat_eq n) es ≡ None → (v : T) → Contains es (n, v) → ⊥
  not_there es n e v c = true≢false (sym (finds es n v c) ∙ ap is_some e)

  -- ---- what was asked for goes first

  removed : (es : List (ℕ × T)) (n : ℕ) (e f : ℕ × T) → lookup_entry (nat_eq n) es ≡ Some f → Contains es e → (f ≡ e) ⊎ Contains (remove_entry (nat_eq n) es) e
  removed [] n e f h c = absurd (Contains-nil e c)
  removed (x ∷ es) n e f h c = by (nat_eq n x.0) refl (Contains-cons x es e c) (λ later rest. removed es n e f later rest)
    where
      by : (b : Bool) → nat_eq n x.0 ≡ b → (x ≡ e) ⊎ Contains es e → (lookup_entry (nat_eq n) es ≡ Some f → Contains es e → (f ≡ e) ⊎ Contains (remove_entry (nat_eq n) es) e)
          → (f ≡ e) ⊎ Contains (remove_entry (nat_eq n) (x ∷ es)) e
      by true t (inl same) on = let first : ◌≡◌ {A = Option (ℕ × T)} (Some x) (Some f) = rw t at h in inl (cc (first, same))
      by true t (inr rest) on = inr (rw t rest)
      by false t (inl same) on = inr (rw t (subst (Contains (x ∷ remove_entry (nat_eq n) es)) same (Contains-head x (remove_entry (nat_eq n) es))))
      by false t (inr rest) on =
          elim (on (rw t at h) rest) [
            | inl same ↦ inl same
            | inr still ↦ inr (rw t (Contains-tail x (remove_entry (nat_eq n) es) e still))
          ]

  still_there : (es : List (ℕ × T)) (n : ℕ) (e : ℕ × T) (o : Option (ℕ × T)) → lookup_entry (nat_eq n) es ≡ o → Contains es e → Contains (option_map_or (λ f. f ∷ remove_entry (nat_eq n) es) o es) e
  still_there es n e None h c = c
  still_there es n e (Some f) h c =
      elim (removed es n e f h c) [
        | inl same ↦ subst (Contains (f ∷ remove_entry (nat_eq n) es)) same (Contains-head f (remove_entry (nat_eq n) es))
        | inr rest ↦ Contains-tail f (remove_entry (nat_eq n) es) e rest
      ]

  pub asked_keeps : (es : List (ℕ × T)) (n : ℕ) (e : ℕ × T) → Contains es e → Contains (promoted (nat_eq n) es) e
  asked_keeps es n e c = still_there es n e (lookup_entry (nat_eq n) es) refl c

  -- ---- a put

  pub put_there : (c : LruCache ℕ T) (n : ℕ) (v : T) → Contains (put_entries nat_eq c n v) (n, v)
  put_there c n v = found (put_entries nat_eq c n v) n v (lookup-put_entries nat_eq c n v nat_eq_equiv)

  put_key : (c : LruCache ℕ T) (k n : ℕ) → (n ≡ k) ⊎ ((u : T) × Contains c.entries (n, u) × (nat_eq k n ≡ true)) → n ≡ k
  put_key c k n (inl e) = e
  put_key c k n (inr p) = sym (eqb-true k n p.2)

  pub put_only : (c : LruCache ℕ T) (k : ℕ) (v : T) (n : ℕ) (w : T) → Contains (put_entries nat_eq c k v) (n, w) → ((n ≡ k) × (w ≡ v)) ⊎ Contains c.entries (n, w)
  put_only c k v n w d =
      elim (Contains-put_entries nat_eq c k v (n, w) d) [
        | inl was ↦ inr was
        | inr is ↦ inl (put_key c k n is.1, is.0)
      ]

  -- ---- what the calls tell, of a cache that these entries are

  pub put_tells : {E : Type 0} (r : Result (Option T) E) (b : Bool) (old new : LruCache ℕ T) (n : ℕ) (v : T) → b ≡ is_ok r → OnOk r (new ≡ lru_cache (put_entries nat_eq old n v) old.cap) → OnTrue b (Contains new.entries (n, v))
  put_tells (Ok x) b old new n v e put =
      subst (λ (y : Bool). OnTrue y (Contains new.entries (n, v))) (sym e) (subst (λ (k : LruCache ℕ T). Contains k.entries (n, v)) (sym put) (put_there old n v))
  put_tells (Err x) b old new n v e put = subst (λ (y : Bool). OnTrue y (Contains new.entries (n, v))) (sym e) tt

  pub put_adds : {E : Type 0} (r : Result (Option T) E) (old new : LruCache ℕ T) (es : List (ℕ × T)) (k : ℕ) (v : T) → OnOk r (new ≡ lru_cache (put_entries nat_eq old k v) old.cap) → OnErr r (new ≡ old) → old.entries ≡ es
      → (n : ℕ) (w : T) → Contains new.entries (n, w) → ((n ≡ k) × (w ≡ v)) ⊎ Contains es (n, w)
  put_adds (Ok x) old new es k v put err same n w d =
      elim (put_only old k v n w (subst (λ (c : LruCache ℕ T). Contains c.entries (n, w)) put d)) [
        | inl is ↦ inl is
        | inr was ↦ inr (subst (λ (l : List (ℕ × T)). Contains l (n, w)) same was)
      ]
  put_adds (Err x) old new es k v put err same n w d =
      inr (subst (λ (l : List (ℕ × T)). Contains l (n, w)) (ap (λ (c : LruCache ℕ T). c.entries) err ∙ same) d)

  pub ask_finds : (l es : List (ℕ × T)) (n : ℕ) (b : Bool) → b ≡ is_some (lookup (nat_eq n) l) → l ≡ es → (b ≡ true → (v : T) × Contains es (n, v)) × (((v : T) × Contains es (n, v)) → b ≡ true)
  ask_finds l es n b e same = (
    λ t. is_there es n (ap (λ (k : List (ℕ × T)). is_some (lookup (nat_eq n) k)) (sym same) ∙ sym e ∙ t),
    λ x. e ∙ ap (λ (k : List (ℕ × T)). is_some (lookup (nat_eq n) k)) same ∙ is_found es n x,
  )

  pub ask_keeps : (old new : LruCache ℕ T) (es : List (ℕ × T)) (k : ℕ) → new ≡ lru_cache (promoted (nat_eq k) old.entries) old.cap → old.entries ≡ es
      → (n : ℕ) (v : T) → (Contains new.entries (n, v) → Contains es (n, v)) × (Contains es (n, v) → Contains new.entries (n, v))
  ask_keeps old new es k made same n v = (
    λ d. subst (λ (l : List (ℕ × T)). Contains l (n, v)) same (Contains-promoted (nat_eq k) old.entries (n, v) (subst (λ (c : LruCache ℕ T). Contains c.entries (n, v)) made d)),
    λ d. subst (λ (c : LruCache ℕ T). Contains c.entries (n, v)) (sym made) (asked_keeps old.entries k (n, v) (subst (λ (l : List (ℕ × T)). Contains l (n, v)) (sym same) d)),
  )

  pub get_there : (r : Option (Bor T)) (l es : List (ℕ × T)) (n : ℕ) → option_copied r ≡ lookup (nat_eq n) l → l ≡ es → IfSome r (λ v. Contains es (n, v.now))
  get_there None l es n e same = tt
  get_there (Some x) l es n e same = subst (λ (k : List (ℕ × T)). Contains k (n, x.now)) same (found l n x.now (sym e))

  pub get_none : (r : Option (Bor T)) (l es : List (ℕ × T)) (n : ℕ) → option_copied r ≡ lookup (nat_eq n) l → l ≡ es → IfNone r ((v : T) → Contains es (n, v) → ⊥)
  get_none None l es n e same = λ v d. not_there l n (sym e) v (subst (λ (k : List (ℕ × T)). Contains k (n, v)) (sym same) d)
  get_none (Some x) l es n e same = tt
