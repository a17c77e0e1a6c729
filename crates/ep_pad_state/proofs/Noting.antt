-- The edits that became nothing, as they are kept under sessions.
use Rattle.std.proofs.Common.{◌≡◌, ℕ, Bool, true, false, ◌==◌, cond, if◌then◌else◌, List, [], ◌∷◌, ◌++◌, map, Option, Some, None, Vec, vec_len, vec_capacity, Global, ◌+◌, ◌-◌, ◌<◌, ◌≤◌, min, length, take, drop, refl, sym, ap, subst, ◌∙◌, arith}
use Rattle.std.specs.Prelude.{IsSome}
use Rattle.std.specs.BTreeMap.{BTreeMap, get, is_at, Updates, WritesThrough}
use Rattle.std.specs.Cmp.{both_tied, unsigned_ties}
use Rattle.std.specs.Map.{lookup}
use Rattle.std.specs.Option.{option_map, option_map_or, IsSomeAnd}
use Rattle.std.proofs.lemmas.Map.Made.{lookup-map_values}
use Rattle.std.specs.Ordering.{nat_cmp}
use Rattle.std.proofs.lemmas.Bool.{eqb-true}
use Rattle.std.proofs.lemmas.List.{append-nil, drop_min, length-drop, take_all}
use Rattle.ep_units.specs.declared.session.Session.{Session}
use Rattle.ep_attr.proofs.SameMap.{first_true, second_true}
use Rattle.ep_history.specs.declared.nop.Nop.{Nop}
use Rattle.ep_history.specs.History.{is_session, nops_of}
use Rattle.ep_pad_state.specs.Nops.{Heads, KeptNops, key_of, key_cmp, seen, found, heads_of, heads_in, HasRoom, SameHeads}

-- of some edits and of more behind them
pub heads_in-append : (s : Session) (xs ys : List Nop) → heads_in s (xs ++ ys) ≡ heads_in s xs ++ heads_in s ys
heads_in-append s [] ys = refl
heads_in-append s (x ∷ xs) ys = go (is_session x.session s) (heads_in-append s xs ys)
  where
    go : (b : Bool) → heads_in s (xs ++ ys) ≡ heads_in s xs ++ heads_in s ys
        → map (λ (z : Nop). z.rev) (if b then x ∷ nops_of s (xs ++ ys) else nops_of s (xs ++ ys)) ≡ map (λ (z : Nop). z.rev) (if b then x ∷ nops_of s xs else nops_of s xs) ++ heads_in s ys
    go true e = ap (λ hs. x.rev ∷ hs) e
    go false e = e

-- ---- keys

-- keys are equal where the sessions are one
key-test : (s t : Session) → is_at (key_cmp (key_of s)) (key_of t) ≡ is_session s t
key-test s t = sym (both_tied (s.epoch == t.epoch) (s.count == t.count) (nat_cmp s.epoch t.epoch) (nat_cmp s.count t.count) (unsigned_ties s.epoch t.epoch) (unsigned_ties s.count t.count))

one-key : (s t : Session) → is_session s t ≡ true → key_of s ≡ key_of t
one-key s t e =
    let a = eqb-true s.epoch t.epoch (first_true (s.epoch == t.epoch) (s.count == t.count) e) in
    let b = eqb-true s.count t.count (second_true (s.epoch == t.epoch) (s.count == t.count) e) in
    λ i. (a i, b i)

one-session : (k : KeptNops) (s t : Session) → is_session s t ≡ true → heads_of s k ≡ heads_of t k
one-session k s t e = ap (λ q. option_map_or (λ (h : Heads). h.heads) (lookup (is_at (key_cmp q)) k) []) (one-key s t e)

pub unchanged : (old new : KeptNops) → new ≡ old → SameHeads old new
unchanged old new e s = ap (heads_of s) e

-- ---- the map

abbrev HeadsMap : Type 0
HeadsMap = BTreeMap (ℕ × ℕ) (Vec ℕ Global)

-- what it shows
abbrev shown : HeadsMap → KeptNops
shown m = map (λ e. (e.0, seen e.1)) m.entries

-- the heads that a look-up gives
abbrev items : Option (Vec ℕ Global) → List ℕ
items o = option_map_or (λ v. v.items) o []

looked-up : (m : HeadsMap) (s : Session) → found s (shown m) ≡ option_map seen (get key_cmp m (key_of s))
looked-up m s = lookup-map_values seen (is_at (key_cmp (key_of s))) m.entries

heads-shown : (m : HeadsMap) (s : Session) → heads_of s (shown m) ≡ items (get key_cmp m (key_of s))
heads-shown m s = ap (λ o. option_map_or (λ (h : Heads). h.heads) o []) (looked-up m s) ∙ go (get key_cmp m (key_of s))
  where
    go : (o : Option (Vec ℕ Global)) → option_map_or (λ (h : Heads). h.heads) (option_map seen o) [] ≡ items o
    go None = refl
    go (Some v) = refl

pub found-heads : (m : HeadsMap) (s : Session) (q : ℕ × ℕ) (v : Vec ℕ Global) → q ≡ key_of s → Some v ≡ get key_cmp m q → v.items ≡ heads_of s (shown m)
found-heads m s q v i e = ap items (e ∙ ap (get key_cmp m) i) ∙ sym (heads-shown m s)

pub found-none : (m : HeadsMap) (s : Session) (q : ℕ × ℕ) → q ≡ key_of s → None ≡ get key_cmp m q → [] ≡ heads_of s (shown m)
found-none m s q i e = ap items (e ∙ ap (get key_cmp m) i) ∙ sym (heads-shown m s)

pub found-room : (m : HeadsMap) (s : Session) (q : ℕ × ℕ) (v : Vec ℕ Global) → q ≡ key_of s → Some v ≡ get key_cmp m q → HasRoom s (shown m) → vec_len v < vec_capacity v
found-room m s q v i e h =
    let room : 0 < vec_capacity v - vec_len v =
    subst (λ o. IsSomeAnd o (λ (x : Heads). 0 < x.room)) (looked-up m s ∙ ap (option_map seen) (sym (e ∙ ap (get key_cmp m) i))) h in
    omega arith

pub has-none : (m : HeadsMap) (s : Session) (q : ℕ × ℕ) → q ≡ key_of s → None ≡ get key_cmp m q → HasRoom s (shown m) → ⊥
has-none m s q i e h = subst (λ o. IsSomeAnd o (λ (x : Heads). 0 < x.room)) (looked-up m s ∙ ap (option_map seen) (sym (e ∙ ap (get key_cmp m) i))) h

-- those behind the first ones
pub behind : (xs : List ℕ) (told m : ℕ) → m ≡ min told (length xs) → take (length xs - m) (drop m xs) ≡ drop told xs
behind xs told m e = take_all (length xs - m) (drop m xs) (omega (arith, length-drop m xs)) ∙ ap (λ k. drop k xs) e ∙ drop_min told xs

-- ---- one session's heads are written

-- what was written through a loan of the heads that were found
pub through : (m n : HeadsMap) (q : ℕ × ℕ) (v w : Vec ℕ Global) → Some v ≡ get key_cmp m q → WritesThrough key_cmp (key_cmp q) m w n → Updates key_cmp m n q (Some w)
through m n q v w e h = h.3 (subst (λ (o : Option (Vec ℕ Global)). IsSome o) e refl)

module _ (m n : HeadsMap) (x : Session) (q : ℕ × ℕ) (w : Vec ℕ Global) (i : q ≡ key_of x) (h : Updates key_cmp m n q (Some w)) where
  -- the others stay
  written : (s : Session) → heads_of s (shown n) ≡ (if is_session x s then w.items else heads_of s (shown m))
  written s =
      heads-shown n s
      ∙ ap items (h.0 (key_of s) ∙ ap (λ b. cond b (Some w) (get key_cmp m (key_of s))) (ap (λ p. is_at (key_cmp p) (key_of s)) i ∙ key-test x s)) ∙ go (is_session x s)
    where
      go : (b : Bool) → items (cond b (Some w) (get key_cmp m (key_of s))) ≡ (if b then w.items else heads_of s (shown m))
      go true = refl
      go false = sym (heads-shown m s)

  -- nothing is altered
  pub written-same : w.items ≡ heads_of x (shown m) → SameHeads (shown m) (shown n)
  written-same e s = written s ∙ go (is_session x s) refl
    where
      go : (b : Bool) → is_session x s ≡ b → (if b then w.items else heads_of s (shown m)) ≡ heads_of s (shown m)
      go true is = e ∙ one-session (shown m) x s is
      go false is = refl

  -- one edit more
  pub written-more : (time r : ℕ) → w.items ≡ heads_of x (shown m) ++ r ∷ []
      → (s : Session) → heads_of s (shown n) ≡ heads_of s (shown m) ++ heads_in s (record { session = x; time = time; rev = r } ∷ [])
  written-more time r e s = written s ∙ go (is_session x s) refl
    where
      nop : Nop
      nop = record { session = x; time = time; rev = r }

      go : (b : Bool) → is_session x s ≡ b → (if b then w.items else heads_of s (shown m)) ≡ heads_of s (shown m) ++ map (λ (z : Nop). z.rev) (if b then nop ∷ [] else [])
      go true is = e ∙ ap (λ hs. hs ++ r ∷ []) (one-session (shown m) x s is)
      go false is = sym (append-nil (heads_of s (shown m)))

  pub written-room : vec_len w + 1 ≤ vec_capacity w → HasRoom x (shown n)
  written-room room =
      subst (λ o. IsSomeAnd o (λ (y : Heads). 0 < y.room)) (sym (looked-up n x ∙ ap (option_map seen) (ap (get key_cmp n) (sym i) ∙ h.1))) some
    where
      some : 0 < vec_capacity w - vec_len w
      some = omega (arith, room)
