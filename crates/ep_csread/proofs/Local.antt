-- Where reading stops is known by the units up to there alone.
use Rattle.std.proofs.Common.{◌≡◌, ℕ, zero, suc, ◌+◌, ◌-◌, ◌<◌, Bool, true, false, cond, not, eqb, ◌||◌, Option, Some, None, List, [], ◌∷◌, ◌++◌, length, take, min, Result, Ok, Err, refl, sym, ap, ap₂, ◌∙◌, arith, append_assoc, length-append}
use Rattle.ep_units.specs.Text.{Text}
use Rattle.ep_units.specs.Base36.{is_digit, digits_of, behind}
use Rattle.ep_attr.specs.AttrMap.{Pair}
use Rattle.ep_cs.specs.declared.op.Kind.{Kind}
use Rattle.ep_cs.specs.declared.op.Kind.TheVariants as kinds
use Rattle.ep_csread.specs.declared.bad.ReadBad.{ReadBad}
use Rattle.ep_csread.specs.declared.bad.ReadBad.TheVariants as bad
use Rattle.ep_csread.specs.declared.written.Number.{Number}
use Rattle.ep_csread.specs.Syntax.{◌>>=◌, Operation, Parts, number_in, number_at, begins_with, begins_star, goes_on, star_at, stars_at, lines_at, kind_at, sign_at, unit_at, op_at, ops_at, parts_of, many, with_first}
use Rattle.ep_csread.specs.Grammar.{Writing, IsWritten}
use Rattle.ep_cs.specs.Runs.{all_inserted, steps_of}
use Rattle.ep_cs.specs.Change.{change_of}
use Rattle.ep_csread.specs.Reading.{first_some, first_such, mapped, unless, is_big, is_missing, all_numbers, all_stars, all_resolved, first_unlined, first_half, has_lengths, largest, number_refused, star_refused, bank_refused, lines_refused, length_refused, pair_refused, refusals, counted, reading}
use Rattle.ep_csread.proofs.Many.{Shortens, many_more, many_err, many_none}
use Rattle.ep_csread.proofs.Shorter.{star_shortens, op_shortens}
use Rattle.ep_csread.proofs.Takes.{only_digits, split_digits}
use Rattle.ep_csread.proofs.Follows.{begins_digit, digits_end, text_follows}
use Rattle.std.specs.List.{list_all}

abbrev pub Reader : Type 0
Reader = Text → Result Text ℕ

abbrev pub okay : Text → Result Text ℕ
okay t = Ok t

abbrev pub stop : ℕ → Result Text ℕ
stop left = Err left

-- ---- readers that stop at a unit, or leave a rest, whatever stands behind

record Stops (f : Reader) (t : Text) (left : ℕ) : Type 0 where
  front : Text
  unit : ℕ
  rest : Text
  whole : t ≡ front ++ unit ∷ rest
  width : length rest ≡ left
  so : (other : Text) → f (front ++ unit ∷ other) ≡ stop (suc (length other))

record Leaves (f : Reader) (t : Text) (unit : ℕ) (rest : Text) : Type 0 where
  front : Text
  whole : t ≡ front ++ unit ∷ rest
  so : (other : Text) → f (front ++ unit ∷ other) ≡ okay (unit ∷ other)

record IsLocalAt (f : Reader) (t : Text) : Type 0 where
  err : (left : ℕ) → f t ≡ stop (suc left) → Stops f t left
  ok : (unit : ℕ) (rest : Text) → f t ≡ okay (unit ∷ rest) → Leaves f t unit rest

abbrev IsLocal : Reader → Type 0
IsLocal f = (t : Text) → IsLocalAt f t

-- what leaves a text that begins so, before another such text
behind_that : (f : Reader) (t front : Text) (unit : ℕ) (rest : Text) → IsLocalAt f t → f t ≡ okay (front ++ unit ∷ rest)
    → (before : Text) × (t ≡ before ++ unit ∷ rest) × ((other : Text) → f (before ++ unit ∷ other) ≡ okay (front ++ unit ∷ other))
behind_that f t [] unit rest l e = let k = l.ok unit rest e in (k.front, k.whole, k.so)
behind_that f t (v ∷ front) unit rest l e =
    let k = l.ok v (front ++ unit ∷ rest) e in (
      k.front ++ v ∷ front,
      k.whole ∙ sym (append_assoc k.front (v ∷ front) (unit ∷ rest)),
      λ other. ap f (append_assoc k.front (v ∷ front) (unit ∷ other)) ∙ k.so (front ++ unit ∷ other),
    )

abbrev pub then : Reader → Reader → Reader
then f g t = f t >>= g

one_then : (f g : Reader) (t : Text) → IsLocalAt f t → ((s : Text) → f t ≡ okay s → IsLocalAt g s) → IsLocalAt (then f g) t
one_then f g t l m = go (f t) refl
  where
    go : (r : Result Text ℕ) → f t ≡ r → IsLocalAt (then f g) t
    go (Err f') i = record {
      err = λ left e. let k = l.err left (i ∙ sym (ap (λ (r : Result Text ℕ). r >>= g) i) ∙ e) in record { front = k.front; unit = k.unit; rest = k.rest; whole = k.whole; width = k.width; so = λ other. ap (λ (r : Result Text ℕ). r >>= g) (k.so other) };
      ok = λ unit rest e. let bad : stop f' ≡ okay (unit ∷ rest) = sym (ap (λ (r : Result Text ℕ). r >>= g) i) ∙ e in absurd cc;
    }
    go (Ok s) i = record {
      err = λ left e.
          let k = (m s i).err left (sym (ap (λ (r : Result Text ℕ). r >>= g) i) ∙ e) in
          let b = behind_that f t k.front k.unit k.rest l (i ∙ ap okay k.whole) in
          record { front = b.0; unit = k.unit; rest = k.rest; whole = b.1; width = k.width; so = λ other. ap (λ (r : Result Text ℕ). r >>= g) (b.2 other) ∙ k.so other };
      ok = λ unit rest e.
          let k = (m s i).ok unit rest (sym (ap (λ (r : Result Text ℕ). r >>= g) i) ∙ e) in
          let b = behind_that f t k.front unit rest l (i ∙ ap okay k.whole) in
          record { front = b.0; whole = b.1; so = λ other. ap (λ (r : Result Text ℕ). r >>= g) (b.2 other) ∙ k.so other };
    }

both_local : (f g : Reader) → IsLocal f → IsLocal g → IsLocal (then f g)
both_local f g l m t = one_then f g t (l t) (λ s i. m s)

-- equal readers
same_local : (f g : Reader) → ((t : Text) → f t ≡ g t) → IsLocal f → IsLocal g
same_local f g e l t = record {
  err = λ left i. let k = (l t).err left (e t ∙ i) in record { front = k.front; unit = k.unit; rest = k.rest; whole = k.whole; width = k.width; so = λ other. sym (e (k.front ++ k.unit ∷ other)) ∙ k.so other };
  ok = λ unit rest i. let k = (l t).ok unit rest (e t ∙ i) in record { front = k.front; whole = k.whole; so = λ other. sym (e (k.front ++ unit ∷ other)) ∙ k.so other };
}

-- ---- one unit

abbrev pub head : (ℕ → Bool) → Reader
head test [] = Err 0
head test (u ∷ us) = cond (test u) (Ok us) (Err (suc (length us)))

abbrev pub got : Text → Result Text ℕ → Text
got d (Ok x) = x
got d (Err f) = d

abbrev pub left_of : ℕ → Result Text ℕ → ℕ
left_of d (Ok x) = d
left_of d (Err f) = f

head_local : (test : ℕ → Bool) → IsLocal (head test)
head_local test [] = record {
  err = λ left e. let z : 0 ≡ suc left = ap (left_of 0) e in absurd (omega (arith, z));
  ok = λ unit rest e. absurd cc;
}
head_local test (u ∷ us) = go (test u) refl
  where
    go : (b : Bool) → test u ≡ b → IsLocalAt (head test) (u ∷ us)
    go true b = record {
      err = λ left e. let bad : okay us ≡ stop (suc left) = sym (ap (λ (c : Bool). cond c (okay us) (stop (suc (length us)))) b) ∙ e in absurd cc;
      ok = λ unit rest e.
          let is : us ≡ unit ∷ rest = ap (got us) (sym (ap (λ (c : Bool). cond c (okay us) (stop (suc (length us)))) b) ∙ e) in
          record { front = u ∷ []; whole = ap (λ (us : Text). u ∷ us) is; so = λ other. ap (λ (c : Bool). cond c (okay (unit ∷ other)) (stop (suc (suc (length other))))) b };
    }
    go false b = record {
      err = λ left e.
          let is : suc (length us) ≡ suc left = ap (left_of 0) (sym (ap (λ (c : Bool). cond c (okay us) (stop (suc (length us)))) b) ∙ e) in
          record { front = []; unit = u; rest = us; whole = refl; width = omega (arith, is); so = λ other. ap (λ (c : Bool). cond c (okay other) (stop (suc (length other)))) b };
      ok = λ unit rest e. let bad : stop (suc (length us)) ≡ okay (unit ∷ rest) = sym (ap (λ (c : Bool). cond c (okay us) (stop (suc (length us)))) b) ∙ e in absurd cc;
    }

-- ---- numbers

pub behind_stops : (t : Text) → begins_digit (behind t) ≡ false
behind_stops [] = refl
behind_stops (u ∷ us) = go (is_digit u) refl (behind_stops us)
  where
    go : (b : Bool) → is_digit u ≡ b → begins_digit (behind us) ≡ false → begins_digit (cond b (behind us) (u ∷ us)) ≡ false
    go true b e = e
    go false b e = b

digits_only : (t : Text) → list_all is_digit (digits_of t) ≡ true
digits_only t = only_digits t

behind_local : IsLocal (λ t. okay (behind t))
behind_local t = record {
  err = λ left e. absurd cc;
  ok = λ unit rest e.
      let is : behind t ≡ unit ∷ rest = ap (got []) e in
      let no : is_digit unit ≡ false = ap begins_digit (sym is) ∙ behind_stops t in
      record {
        front = digits_of t;
        whole = split_digits t ∙ ap (λ (us : Text). digits_of t ++ us) is;
        so = λ other. ap okay (digits_end (digits_of t) (unit ∷ other) (digits_only t) no).1;
      };
}

abbrev pub rest_of : {A : Type 0} → Result (A × Text) ℕ → Result Text ℕ
rest_of (Ok x) = Ok x.1
rest_of (Err f) = Err f

abbrev pub number : Reader
number t = rest_of (number_at t)

number_is : (t : Text) → then (head is_digit) (λ t. okay (behind t)) t ≡ rest_of (number_at t)
number_is [] = refl
number_is (u ∷ us) = go (is_digit u) refl
  where
    go : (b : Bool) → is_digit u ≡ b → (cond b (okay us) (stop (suc (length us))) >>= (λ t. okay (behind t))) ≡ rest_of (number_in (cond b (u ∷ digits_of us) []) (u ∷ us))
    go true e = ap okay (sym (ap (λ (c : Bool). cond c (behind us) (u ∷ us)) e))
    go false e = refl

number_local : IsLocal number
number_local = same_local (then (head is_digit) (λ t. okay (behind t))) number number_is (both_local (head is_digit) (λ t. okay (behind t)) (head_local is_digit) behind_local)

-- ---- items

module _ {A : Type 0} (more : Text → Bool) (item : Text → Result (A × Text) ℕ) where
  abbrev pub one : Reader
  one t = rest_of (item t)

  abbrev pub all : Reader
  all t = rest_of (many more item t)

  with_first_rest : (a : A) (r : Result (List A × Text) ℕ) → rest_of (with_first a r) ≡ rest_of r
  with_first_rest a (Ok x) = refl
  with_first_rest a (Err f) = refl

  -- what reading items does next
  pub unfolded : Shortens more item → (t : Text) → all t ≡ cond (more t) (then one all t) (okay t)
  unfolded s t = go (more t) refl (item t) refl
    where
      go : (b : Bool) → more t ≡ b → (r : Result (A × Text) ℕ) → item t ≡ r → rest_of (many more item t) ≡ cond b (rest_of (item t) >>= (λ u. rest_of (many more item u))) (okay t)
      go false b r i = ap (λ (r : Result (List A × Text) ℕ). rest_of r) (many_none more item t b)
      go true b (Err f) i = ap (λ (r : Result (List A × Text) ℕ). rest_of r) (many_err more item t f b i) ∙ sym (ap (λ (r : Result (A × Text) ℕ). rest_of r >>= (λ u. rest_of (many more item u))) i)
      go true b (Ok (a, after)) i =
          ap (λ (r : Result (List A × Text) ℕ). rest_of r) (many_more more item s t a after b i) ∙ with_first_rest a (many more item after)
          ∙ sym (ap (λ (r : Result (A × Text) ℕ). rest_of r >>= (λ u. rest_of (many more item u))) i)

  -- whether there are more is known by the first unit
  abbrev ByHead : Type 0
  ByHead = (front : Text) (unit : ℕ) (rest other : Text) → more (front ++ unit ∷ rest) ≡ more (front ++ unit ∷ other)

  pub shorter_one : Shortens more item → (t s : Text) → more t ≡ true → one t ≡ okay s → length s < length t
  shorter_one h t s b e = go (item t) refl e
    where
      go : (r : Result (A × Text) ℕ) → item t ≡ r → rest_of r ≡ okay s → length s < length t
      go (Ok x) i e = omega (arith, h.shorter t x b i, ap length (ap (got s) e))
      go (Err f) i e = absurd cc

  items_local : Shortens more item → ByHead → IsLocal one → (k : ℕ) (t : Text) → length t < k → IsLocalAt all t
  items_local s h l zero t k = absurd (omega (arith, k))
  items_local s h l (suc n) t k = go (more t) refl (λ u j. items_local s h l n u j)
    where
      step : (b : Bool) (u : Text) → more u ≡ b → all u ≡ cond b (then one all u) (okay u)
      step b u e = unfolded s u ∙ ap (λ (c : Bool). cond c (then one all u) (okay u)) e

      go : (b : Bool) → more t ≡ b → ((u : Text) → length u < n → IsLocalAt all u) → IsLocalAt all t
      go true b again =
          let m = one_then one all t (l t) (λ u e. again u (omega (arith, shorter_one s t u b e))) in
          record {
            err = λ left e.
                let j = m.err left (sym (step true t b) ∙ e) in
                record { front = j.front; unit = j.unit; rest = j.rest; whole = j.whole; width = j.width; so = λ other. step true (j.front ++ j.unit ∷ other) (sym (h j.front j.unit j.rest other) ∙ ap more (sym j.whole) ∙ b) ∙ j.so other };
            ok = λ unit rest e.
                let j = m.ok unit rest (sym (step true t b) ∙ e) in
                record { front = j.front; whole = j.whole; so = λ other. step true (j.front ++ unit ∷ other) (sym (h j.front unit rest other) ∙ ap more (sym j.whole) ∙ b) ∙ j.so other };
          }
      go false b again = record {
        err = λ left e. let bad : okay t ≡ stop (suc left) = sym (step false t b) ∙ e in absurd cc;
        ok = λ unit rest e.
            let is : t ≡ unit ∷ rest = ap (got t) (sym (step false t b) ∙ e) in
            record { front = []; whole = is; so = λ other. step false (unit ∷ other) (sym (h [] unit rest other) ∙ ap more (sym is) ∙ b) };
      }

  many_local : Shortens more item → ByHead → IsLocal one → IsLocal all
  many_local s h l t = items_local s h l (suc (length t)) t (omega arith)

-- ---- an operation

kept_rest : {A B : Type 0} (r : Result (A × Text) ℕ) (k : A × Text → Result (B × Text) ℕ) (g : Reader) → ((x : A × Text) → rest_of (k x) ≡ g x.1) → rest_of (r >>= k) ≡ (rest_of r >>= g)
kept_rest (Ok x) k g h = h x
kept_rest (Err f) k g h = refl

abbrev star : Reader
star t = rest_of (star_at t)

begins_by_head : (c : ℕ) (front : Text) (unit : ℕ) (rest other : Text) → begins_with c (front ++ unit ∷ rest) ≡ begins_with c (front ++ unit ∷ other)
begins_by_head c [] unit rest other = refl
begins_by_head c (u ∷ us) unit rest other = refl

-- a star behind the unit that was seen
star_local : IsLocal star
star_local [] = record {
  err = λ left e. let z : 0 ≡ suc left = ap (left_of 0) e in absurd (omega (arith, z));
  ok = λ unit rest e. absurd cc;
}
star_local (u ∷ us) = record {
  err = λ left e. let k = (number_local us).err left e in record { front = u ∷ k.front; unit = k.unit; rest = k.rest; whole = ap (λ (us : Text). u ∷ us) k.whole; width = k.width; so = k.so };
  ok = λ unit rest e. let k = (number_local us).ok unit rest e in record { front = u ∷ k.front; whole = ap (λ (us : Text). u ∷ us) k.whole; so = k.so };
}

stars_local : IsLocal (λ t. rest_of (stars_at t))
stars_local = many_local begins_star star_at star_shortens (begins_by_head 42) star_local

lines_local : IsLocal (λ t. rest_of (lines_at t))
lines_local [] = record { err = λ left e. absurd cc; ok = λ unit rest e. let bad : [] ≡ unit ∷ rest = ap (got []) e in absurd cc }
lines_local (u ∷ us) = go (eqb u 124) refl
  where
    lines : Bool → Text → Result Text ℕ
    lines b us = rest_of (cond b (number_at us) (Ok (record { value = 0; left = 0 }, u ∷ us)))

    at : (b : Bool) (us : Text) → eqb u 124 ≡ b → rest_of (lines_at (u ∷ us)) ≡ rest_of (cond b (number_at us) (Ok (record { value = 0; left = 0 }, u ∷ us)))
    at b us e = ap (λ (c : Bool). rest_of (cond c (number_at us) (Ok (record { value = 0; left = 0 }, u ∷ us)))) e

    go : (b : Bool) → eqb u 124 ≡ b → IsLocalAt (λ t. rest_of (lines_at t)) (u ∷ us)
    go true b = record {
      err = λ left e. let k = (number_local us).err left (sym (at true us b) ∙ e) in record { front = u ∷ k.front; unit = k.unit; rest = k.rest; whole = ap (λ (us : Text). u ∷ us) k.whole; width = k.width; so = λ other. at true (k.front ++ k.unit ∷ other) b ∙ k.so other };
      ok = λ unit rest e. let k = (number_local us).ok unit rest (sym (at true us b) ∙ e) in record { front = u ∷ k.front; whole = ap (λ (us : Text). u ∷ us) k.whole; so = λ other. at true (k.front ++ unit ∷ other) b ∙ k.so other };
    }
    go false b = record {
      err = λ left e. let bad : okay (u ∷ us) ≡ stop (suc left) = sym (at false us b) ∙ e in absurd cc;
      ok = λ unit rest e.
          let is : u ∷ us ≡ unit ∷ rest = ap (got (u ∷ us)) (sym (at false us b) ∙ e) in
          let first : u ≡ unit = cc in
          record { front = []; whole = is; so = λ other. ap (λ (v : ℕ). rest_of (lines_at (v ∷ other))) (sym first) ∙ at false other b ∙ ap (λ (v : ℕ). okay (v ∷ other)) first };
    }

abbrev pub is_kind : ℕ → Bool
is_kind u = eqb u 61 || (eqb u 45 || eqb u 43)

pub kind_is : (t : Text) → head is_kind t ≡ rest_of (kind_at t)
kind_is [] = refl
kind_is (u ∷ us) = go (eqb u 61) (eqb u 45) (eqb u 43)
  where
    go : (a b c : Bool) → cond (a || (b || c)) (okay us) (stop (suc (length us)))
        ≡ rest_of (cond a (Ok (kinds.Keep, us)) (cond b (Ok (kinds.Drop, us)) (cond c (Ok (kinds.Insert, us)) (Err (suc (length us))))))
    go true b c = refl
    go false true c = refl
    go false false true = refl
    go false false false = refl

kind_local : IsLocal (λ t. rest_of (kind_at t))
kind_local = same_local (head is_kind) (λ t. rest_of (kind_at t)) kind_is (head_local is_kind)

abbrev pub op_parts : Reader
op_parts = then (then (then (λ t. rest_of (stars_at t)) (λ t. rest_of (lines_at t))) (λ t. rest_of (kind_at t))) number

pub op_is : (t : Text) → op_parts t ≡ rest_of (op_at t)
unfolding op_at
op_is t = go (stars_at t)
  where
    go : (r : Result (List Number × Text) ℕ) → (((rest_of r >>= (λ t. rest_of (lines_at t))) >>= (λ t. rest_of (kind_at t))) >>= (λ t. rest_of (number_at t)))
        ≡ rest_of {A = Operation} (r >>= λ stars. lines_at stars.1 >>= λ lines. kind_at lines.1 >>= λ kind. number_at kind.1 >>= λ units. Ok (record { stars = stars.0; lines = lines.0; kind = kind.0; units = units.0 }, units.1))
    go (Err f) = refl
    go (Ok a) = by_lines (lines_at a.1)
      where
        by_lines : (r : Result (Number × Text) ℕ) → ((rest_of r >>= (λ t. rest_of (kind_at t))) >>= (λ t. rest_of (number_at t)))
            ≡ rest_of {A = Operation} (r >>= λ lines. kind_at lines.1 >>= λ kind. number_at kind.1 >>= λ units. Ok (record { stars = a.0; lines = lines.0; kind = kind.0; units = units.0 }, units.1))
        by_lines (Err f) = refl
        by_lines (Ok b) = by_kind (kind_at b.1)
          where
            by_kind : (r : Result (Kind × Text) ℕ) → (rest_of r >>= (λ t. rest_of (number_at t)))
                ≡ rest_of {A = Operation} (r >>= λ kind. number_at kind.1 >>= λ units. Ok (record { stars = a.0; lines = b.0; kind = kind.0; units = units.0 }, units.1))
            by_kind (Err f) = refl
            by_kind (Ok c) = by_units (number_at c.1)
              where
                by_units : (r : Result (Number × Text) ℕ) → rest_of r ≡ rest_of {A = Operation} (r >>= λ units. Ok (record { stars = a.0; lines = b.0; kind = c.0; units = units.0 }, units.1))
                by_units (Err f) = refl
                by_units (Ok d) = refl

op_local : IsLocal (λ t. rest_of (op_at t))
op_local =
    same_local op_parts (λ t. rest_of (op_at t)) op_is
    (both_local (then (then (λ t. rest_of (stars_at t)) (λ t. rest_of (lines_at t))) (λ t. rest_of (kind_at t))) number
    (both_local (then (λ t. rest_of (stars_at t)) (λ t. rest_of (lines_at t))) (λ t. rest_of (kind_at t))
    (both_local (λ t. rest_of (stars_at t)) (λ t. rest_of (lines_at t)) stars_local lines_local) kind_local) number_local)

ops_local : IsLocal (λ t. rest_of (ops_at t))
ops_local = many_local goes_on op_at op_shortens (λ front unit rest other. ap not (begins_by_head 36 front unit rest other)) op_local

-- ---- whole texts

abbrev pub fault_of : {A : Type 0} → Result A ℕ → Option ℕ
fault_of (Ok x) = None
fault_of (Err f) = Some f

abbrev pub is_sign : ℕ → Bool
is_sign u = eqb u 62 || eqb u 60

pub sign_is : (t : Text) → head is_sign t ≡ rest_of (sign_at t)
sign_is [] = refl
sign_is (u ∷ us) = go (eqb u 62) (eqb u 60)
  where
    go : (a b : Bool) → cond (a || b) (okay us) (stop (suc (length us))) ≡ rest_of (cond a (Ok (false, us)) (cond b (Ok (true, us)) (Err (suc (length us)))))
    go true b = refl
    go false true = refl
    go false false = refl

sign_local : IsLocal (λ t. rest_of (sign_at t))
sign_local = same_local (head is_sign) (λ t. rest_of (sign_at t)) sign_is (head_local is_sign)

pub unit_is : (c : ℕ) (t : Text) → head (λ u. eqb u c) t ≡ unit_at c t
unit_is c [] = refl
unit_is c (u ∷ us) = refl

unit_local : (c : ℕ) → IsLocal (unit_at c)
unit_local c = same_local (head (λ u. eqb u c)) (unit_at c) (unit_is c) (head_local (λ u. eqb u c))

abbrev pub sign : Reader
sign t = rest_of (sign_at t)

abbrev pub ops : Reader
ops t = rest_of (ops_at t)

abbrev pub text_parts : Reader
text_parts = then (then (then (then (then (then (unit_at 90) (unit_at 58)) number) sign) number) ops) (unit_at 36)

text_local : IsLocal text_parts
text_local =
    both_local (then (then (then (then (then (unit_at 90) (unit_at 58)) number) sign) number) ops) (unit_at 36)
    (both_local (then (then (then (then (unit_at 90) (unit_at 58)) number) sign) number) ops
    (both_local (then (then (then (unit_at 90) (unit_at 58)) number) sign) number
    (both_local (then (then (unit_at 90) (unit_at 58)) number) sign
    (both_local (then (unit_at 90) (unit_at 58)) number
    (both_local (unit_at 90) (unit_at 58) (unit_local 90) (unit_local 58)) number_local) sign_local) number_local) ops_local) (unit_local 36)

pub text_fault : (t : Text) → fault_of (text_parts t) ≡ fault_of (parts_of t)
unfolding parts_of
text_fault t = by_z (unit_at 90 t)
  where
    by_bank : (old : Number × Text) (sign : Bool × Text) (difference : Number × Text) (ops : List Operation × Text) (r : Result Text ℕ)
        → fault_of r ≡ fault_of {A = Parts} (r >>= λ bank. Ok (record { old = old.0; shrinks = sign.0; difference = difference.0; ops = ops.0; bank = bank }))
    by_bank old sign difference ops (Err f) = refl
    by_bank old sign difference ops (Ok b) = refl

    by_ops : (old : Number × Text) (sign : Bool × Text) (difference : Number × Text) (r : Result (List Operation × Text) ℕ)
        → fault_of (rest_of r >>= unit_at 36) ≡ fault_of {A = Parts} (r >>= λ ops. unit_at 36 ops.1 >>= λ bank. Ok (record { old = old.0; shrinks = sign.0; difference = difference.0; ops = ops.0; bank = bank }))
    by_ops old sign difference (Err f) = refl
    by_ops old sign difference (Ok o) = by_bank old sign difference o (unit_at 36 o.1)

    by_difference : (old : Number × Text) (sign : Bool × Text) (r : Result (Number × Text) ℕ)
        → fault_of ((rest_of r >>= ops) >>= unit_at 36) ≡ fault_of {A = Parts} (r >>= λ difference. ops_at difference.1 >>= λ ops. unit_at 36 ops.1 >>= λ bank. Ok (record { old = old.0; shrinks = sign.0; difference = difference.0; ops = ops.0; bank = bank }))
    by_difference old sign (Err f) = refl
    by_difference old sign (Ok d) = by_ops old sign d (ops_at d.1)

    by_sign : (old : Number × Text) (r : Result (Bool × Text) ℕ)
        → fault_of (((rest_of r >>= number) >>= ops) >>= unit_at 36) ≡ fault_of {A = Parts} (r >>= λ sign. number_at sign.1 >>= λ difference. ops_at difference.1 >>= λ ops. unit_at 36 ops.1 >>= λ bank. Ok (record { old = old.0; shrinks = sign.0; difference = difference.0; ops = ops.0; bank = bank }))
    by_sign old (Err f) = refl
    by_sign old (Ok s) = by_difference old s (number_at s.1)

    by_old : (r : Result (Number × Text) ℕ)
        → fault_of ((((rest_of r >>= sign) >>= number) >>= ops) >>= unit_at 36) ≡ fault_of {A = Parts} (r >>= λ old. sign_at old.1 >>= λ sign. number_at sign.1 >>= λ difference. ops_at difference.1 >>= λ ops. unit_at 36 ops.1 >>= λ bank. Ok (record { old = old.0; shrinks = sign.0; difference = difference.0; ops = ops.0; bank = bank }))
    by_old (Err f) = refl
    by_old (Ok o) = by_sign o (sign_at o.1)

    by_colon : (r : Result Text ℕ)
        → fault_of (((((r >>= number) >>= sign) >>= number) >>= ops) >>= unit_at 36) ≡ fault_of {A = Parts} (r >>= λ colon. number_at colon >>= λ old. sign_at old.1 >>= λ sign. number_at sign.1 >>= λ difference. ops_at difference.1 >>= λ ops. unit_at 36 ops.1 >>= λ bank. Ok (record { old = old.0; shrinks = sign.0; difference = difference.0; ops = ops.0; bank = bank }))
    by_colon (Err f) = refl
    by_colon (Ok c) = by_old (number_at c)

    by_z : (r : Result Text ℕ)
        → fault_of ((((((r >>= unit_at 58) >>= number) >>= sign) >>= number) >>= ops) >>= unit_at 36) ≡ fault_of {A = Parts} (r >>= λ z. unit_at 58 z >>= λ colon. number_at colon >>= λ old. sign_at old.1 >>= λ sign. number_at sign.1 >>= λ difference. ops_at difference.1 >>= λ ops. unit_at 36 ops.1 >>= λ bank. Ok (record { old = old.0; shrinks = sign.0; difference = difference.0; ops = ops.0; bank = bank }))
    by_z (Err f) = refl
    by_z (Ok z) = by_colon (unit_at 58 z)

pub fault_is : (r : Result Text ℕ) (left : ℕ) → fault_of r ≡ Some left → r ≡ stop left
fault_is (Ok x) left e = absurd cc
fault_is (Err f) left e = ap stop (ap (λ (o : Option ℕ). or_zero o) e)
  where
    or_zero : Option ℕ → ℕ
    or_zero None = 0
    or_zero (Some f) = f

-- where the syntax stops before the end, it stops whatever stands behind that unit
stopped : (text other : Text) (left at : ℕ) (w : Writing) → parts_of text ≡ Err left → at ≡ length text - left → at < length text → IsWritten w (take (at + 1) text ++ other) → ⊥
stopped text other zero at w e place before is = omega (arith, place, before)
stopped text other (suc left) at w e place before is =
    let s = (text_local text).err left (fault_is (text_parts text) (suc left) (text_fault text ∙ ap fault_of e)) in
    let width : at + 1 ≡ length (s.front ++ s.unit ∷ []) = omega (arith, place, ap length s.whole, length-append s.front (s.unit ∷ s.rest), length-append s.front (s.unit ∷ []), s.width) in
    let begun : take (at + 1) text ≡ s.front ++ s.unit ∷ [] =
    ap₂ (λ (n : ℕ) (t : Text). take n t) width (s.whole ∙ sym (append_assoc s.front (s.unit ∷ []) s.rest)) ∙ taken (s.front ++ s.unit ∷ []) s.rest in
    let same : take (at + 1) text ++ other ≡ s.front ++ s.unit ∷ other = ap (λ (t : Text). t ++ other) begun ∙ append_assoc s.front (s.unit ∷ []) other in
    let f = text_follows w (take (at + 1) text ++ other) is in
    let bad : Some (suc (length other)) ≡ None = sym (ap fault_of (ap text_parts same ∙ s.so other)) ∙ text_fault (take (at + 1) text ++ other) ∙ ap fault_of f.1 in
    absurd cc
  where
    taken : (us vs : Text) → take (length us) (us ++ vs) ≡ us
    taken [] vs = refl
    taken (u ∷ us) vs = ap (λ (t : Text). u ∷ t) (taken us vs)

-- ---- which refusal it is

abbrev place_of : ReadBad → Option ℕ
place_of (bad.Syntax at) = Some at
place_of why = None

abbrev IsOther : Option ReadBad → Type 0
IsOther None = Unit {0}
IsOther (Some why) = place_of why ≡ None

mapped_other : {A : Type 0} (f : A → ReadBad) (o : Option A) → ((x : A) → place_of (f x) ≡ None) → IsOther (mapped f o)
mapped_other f None h = tt
mapped_other f (Some x) h = h x

chosen_other : (b : Bool) (why : ReadBad) → place_of why ≡ None → IsOther (cond b None (Some why))
chosen_other true why h = tt
chosen_other false why h = h

first_other : (o : Option ReadBad) (others : List (Option ReadBad)) → IsOther o → IsOther (first_some others) → IsOther (first_some (o ∷ others))
first_other None others a b = b
first_other (Some why) others a b = a

none_syntax : (pool : List Pair) (text : Text) (p : Parts) → IsOther (first_some (refusals pool text p))
none_syntax pool text p =
    let os = all_resolved pool p.ops in
    first_other (number_refused text p) (star_refused pool p ∷ (bank_refused os p.bank ∷ (lines_refused os p.bank ∷ (length_refused p os ∷ (pair_refused os p.bank ∷ []))))) (mapped_other (λ (n : Number). bad.Number (length text - n.left)) (first_such is_big (all_numbers p)) (λ x. refl))
    (first_other (star_refused pool p) (bank_refused os p.bank ∷ (lines_refused os p.bank ∷ (length_refused p os ∷ (pair_refused os p.bank ∷ [])))) (mapped_other (λ (n : Number). bad.NoAttr n.value) (first_such (is_missing (length pool)) (all_stars p.ops)) (λ x. refl))
    (first_other (bank_refused os p.bank) (lines_refused os p.bank ∷ (length_refused p os ∷ (pair_refused os p.bank ∷ []))) (chosen_other (eqb (all_inserted os) (length p.bank)) (bad.Bank (min (all_inserted os) largest) (length p.bank)) refl)
    (first_other (lines_refused os p.bank) (length_refused p os ∷ (pair_refused os p.bank ∷ [])) (mapped_other (λ (i : ℕ). bad.Lines i) (first_unlined 0 os p.bank) (λ x. refl))
    (first_other (length_refused p os) (pair_refused os p.bank ∷ []) (chosen_other (has_lengths p.old.value p.shrinks p.difference.value os) bad.Length refl)
    (first_other (pair_refused os p.bank) [] (mapped_other (λ (i : ℕ). bad.Pair i) (first_half 0 None (steps_of os p.bank)) (λ x. refl)) tt)))))

abbrev why_place : {A : Type 0} → Result A ReadBad → Option ℕ
why_place (Ok x) = None
why_place (Err why) = place_of why

unless_other : {A : Type 0} (o : Option ReadBad) (x : A) → IsOther o → why_place (unless o x) ≡ None
unless_other None x h = refl
unless_other (Some why) x h = h

abbrev or_zero : Option ℕ → ℕ
or_zero None = 0
or_zero (Some n) = n

-- a text that is refused so ends in its syntax there
pub syntax_left : (pool : List Pair) (text : Text) (at : ℕ) → reading pool text ≡ Err (bad.Syntax at) → (left : ℕ) × (parts_of text ≡ Err left) × (at ≡ length text - left)
syntax_left pool text at e = go (parts_of text) refl e
  where
    go : (r : Result Parts ℕ) → parts_of text ≡ r → counted pool text r ≡ Err (bad.Syntax at) → (left : ℕ) × (parts_of text ≡ Err left) × (at ≡ length text - left)
    go (Err left) i e = (left, i, ap or_zero (ap why_place (sym e)))
    go (Ok p) i e =
        let bad : None ≡ Some at = sym (unless_other (first_some (refusals pool text p)) (change_of p.old.value (all_resolved pool p.ops) p.bank) (none_syntax pool text p)) ∙ ap why_place e in
        absurd cc

pub syntax_stops : (pool : List Pair) (text other : Text) (at : ℕ) (w : Writing) → reading pool text ≡ Err (bad.Syntax at) → at < length text → IsWritten w (take (at + 1) text ++ other) → ⊥
syntax_stops pool text other at w e before is =
    let s = syntax_left pool text at e in
    stopped text other s.0 at w s.1 s.2 before is

-- a text that is refused so is no changeset text
pub syntax_none : (pool : List Pair) (text : Text) (at : ℕ) (w : Writing) → reading pool text ≡ Err (bad.Syntax at) → IsWritten w text → ⊥
syntax_none pool text at w e is =
    let f = text_follows w text is in
    let p : Parts = f.0 in
    let bad : None ≡ Some at = sym (unless_other (first_some (refusals pool text p)) (change_of p.old.value (all_resolved pool p.ops) p.bank) (none_syntax pool text p)) ∙ ap why_place (sym (ap (counted pool text) f.1) ∙ e) in
    absurd cc
