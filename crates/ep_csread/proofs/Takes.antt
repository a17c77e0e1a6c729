-- What is read is written so.
use Rattle.std.proofs.Common.{◌≡◌, ℕ, zero, suc, Bool, true, false, cond, eqb, ◌&&◌, List, [], ◌∷◌, ◌++◌, map, length, min, Result, Ok, Err, refl, sym, ap, ap₂, subst, ◌∙◌, arith, inl, inr, append_assoc, append-nil}
use Rattle.std.specs.List.{list_all}
use Rattle.std.proofs.lemmas.Bool.Decides.{nat_tests}
use Rattle.ep_units.specs.Text.{Text}
use Rattle.ep_units.specs.Base36.{is_digit, value36, digits_of, behind}
use Rattle.ep_cs.specs.declared.op.Kind.{Kind}
use Rattle.ep_cs.specs.declared.op.Kind.TheVariants as kinds
use Rattle.ep_cs.specs.Spelling.{kind_text}
use Rattle.ep_csread.specs.declared.written.Number.{Number}
use Rattle.ep_csread.specs.Spelling.{said}
use Rattle.ep_csread.specs.Reading.{values}
use Rattle.ep_csread.specs.Syntax.{◌>>=◌, Operation, Parts, number_in, number_at, begins_with, begins_star, goes_on, star_at, stars_at, lines_at, kind_at, sign_at, unit_at, op_at, ops_at, attrib_at, attribs_at, is_some_text, parts_of, many, many_in, with_first, too_large}
use Rattle.ep_csread.specs.Grammar.{IsNumeral, AreItems, IsStar, IsLines, IsOp, Writing, sign, IsWritten}
use Rattle.ep_csread.proofs.Shorter.{bind_ok}

-- the text begins with something written so, and goes on
pub record Takes {A : Type 0} (P : A → Text → Type 0) (t : Text) (x : A × Text) : Type 0 where
  pub front : Text
  pub whole : t ≡ front ++ x.1
  pub is : P x.0 front

abbrev pub okay : {A : Type 0} → A → Result A ℕ
okay x = Ok x

inside : {A : Type 0} → A → Result A ℕ → A
inside d (Ok x) = x
inside d (Err f) = d

-- what two equal answers give is equal
pub given : {A : Type 0} (x y : A) → okay x ≡ okay y → x ≡ y
unfolding inside
given x y e = ap (inside x) e

-- ---- numbers

pub split_digits : (t : Text) → t ≡ digits_of t ++ behind t
split_digits [] = refl
split_digits (u ∷ us) = go (is_digit u) (split_digits us)
  where
    go : (b : Bool) → us ≡ digits_of us ++ behind us → u ∷ us ≡ cond b (u ∷ digits_of us) [] ++ cond b (behind us) (u ∷ us)
    go true e = ap (λ (t : Text). u ∷ t) e
    go false e = refl

pub only_digits : (t : Text) → list_all is_digit (digits_of t) ≡ true
only_digits [] = refl
only_digits (u ∷ us) = go (is_digit u) refl (only_digits us)
  where
    go : (b : Bool) → is_digit u ≡ b → list_all is_digit (digits_of us) ≡ true → list_all is_digit (cond b (u ∷ digits_of us) []) ≡ true
    go true b e = ap (λ (c : Bool). c && list_all is_digit (digits_of us)) b ∙ e
    go false b e = refl

abbrev IsValue : Number → Text → Type 0
IsValue n us = IsNumeral n.value us

pub number_takes : (t : Text) (x : Number × Text) → number_at t ≡ Ok x → Takes IsValue t x
number_takes t x e = go (digits_of t) refl e
  where
    go : (ds : Text) → digits_of t ≡ ds → number_in ds t ≡ Ok x → Takes IsValue t x
    go [] d e = absurd cc
    go (u ∷ us) d e =
        let n : Number = record { value = min (value36 (u ∷ us)) too_large; left = length t } in
        let is = given (n, behind t) x e in
        let rest : behind t ≡ x.1 = ap (λ (y : Number × Text). y.1) is in
        let value : min (value36 (u ∷ us)) too_large ≡ x.0.value = ap (λ (y : Number × Text). y.0.value) is in
        record {
          front = u ∷ us;
          whole = split_digits t ∙ ap₂ (λ (a b : Text). a ++ b) d rest;
          is = record {
            some = omega arith;
            only = ap (list_all is_digit) (sym d) ∙ only_digits t;
            value = sym value;
          };
        }

-- ---- items

module _ {A : Type 0} (P : A → Text → Type 0) (more : Text → Bool) (item : Text → Result (A × Text) ℕ) where
  first_parts : (a : A) (r : Result (List A × Text) ℕ) (x : List A × Text) → with_first a r ≡ Ok x → (y : List A × Text) × (r ≡ Ok y) × (x.0 ≡ a ∷ y.0) × (x.1 ≡ y.1)
  first_parts a (Ok y) x e = (y, refl, cc, cc)
  first_parts a (Err f) x e = absurd cc

  items_in : ((t : Text) (y : A × Text) → more t ≡ true → item t ≡ Ok y → Takes P t y)
      → (n : ℕ) (t : Text) (x : List A × Text) → many_in more item n t ≡ Ok x → Takes (AreItems P) t x × (more x.1 ≡ false)
  items_in takes zero t x e = absurd cc
  items_in takes (suc n) t x e = by_cases (λ u y. items_in takes n u y) (more t) (item t) refl refl e
    where
      by_cases : ((u : Text) (y : List A × Text) → many_in more item n u ≡ Ok y → Takes (AreItems P) u y × (more y.1 ≡ false)) → (b : Bool) (r : Result (A × Text) ℕ) → more t ≡ b → item t ≡ r
          → cond b (r >>= λ x. with_first x.0 (many_in more item n x.1)) (Ok ([], t)) ≡ Ok x → Takes (AreItems P) t x × (more x.1 ≡ false)
      by_cases again false r b i e =
          let items : [] ≡ x.0 = cc in
          let rest : t ≡ x.1 = cc in
          (record { front = []; whole = rest; is = subst (λ (xs : List A). AreItems P xs []) items refl }, ap more (sym rest) ∙ b)
      by_cases again true (Err f) b i e = absurd cc
      by_cases again true (Ok y) b i e =
          let first = takes t y b i in
          let f = first_parts y.0 (many_in more item n y.1) x e in
          let rest = again y.1 f.0 f.1 in (
            record {
              front = first.front ++ rest.0.front;
              whole =
                  first.whole ∙ ap (λ (us : Text). first.front ++ us) (rest.0.whole ∙ ap (λ (us : Text). rest.0.front ++ us) (sym f.3))
                  ∙ sym (append_assoc first.front rest.0.front x.1);
              is = subst (λ (xs : List A). AreItems P xs (first.front ++ rest.0.front)) (sym f.2) (first.front, rest.0.front, refl, first.is, rest.0.is);
            },
            ap more f.3 ∙ rest.1,
          )

  pub items_take : ((t : Text) (y : A × Text) → more t ≡ true → item t ≡ Ok y → Takes P t y)
      → (t : Text) (x : List A × Text) → many more item t ≡ Ok x → Takes (AreItems P) t x × (more x.1 ≡ false)
  unfolding many
  items_take takes t x e = items_in takes (suc (length t)) t x e

pub items_seen : {A B : Type 0} (P : B → Text → Type 0) (view : A → B) (xs : List A) (t : Text) → AreItems (λ (a : A). P (view a)) xs t → AreItems P (map view xs) t
items_seen P view [] t e = e
items_seen P view (x ∷ xs) t (first, rest, whole, is, others) = (first, rest, whole, is, items_seen P view xs rest others)

-- ---- operations

begins : (c : ℕ) (t : Text) → begins_with c t ≡ true → (us : Text) × (t ≡ c ∷ us)
begins c [] e = absurd cc
begins c (u ∷ us) e = (us, ap (λ (v : ℕ). v ∷ us) (same u c e))
  where
    same : (u c : ℕ) → eqb u c ≡ true → u ≡ c
    same u c e = grind (arith, nat_tests)

abbrev IsStarValue : Number → Text → Type 0
IsStarValue n us = IsStar n.value us

star_takes : (t : Text) (y : Number × Text) → begins_star t ≡ true → star_at t ≡ Ok y → Takes IsStarValue t y
star_takes [] y b e = absurd cc
star_takes (u ∷ us) y b e =
    let n = number_takes us y e in
    let star : u ≡ 42 = ap (λ (t : Text). head t) (begins 42 (u ∷ us) b).1 in
    record {
      front = 42 ∷ n.front;
      whole = ap₂ (λ (v : ℕ) (vs : Text). v ∷ vs) star n.whole;
      is = (n.front, refl, n.is);
    }
  where
    head : Text → ℕ
    head [] = 0
    head (u ∷ us) = u

pub record TakesStars (t : Text) (x : List Number × Text) : Type 0 where
  pub front : Text
  pub whole : t ≡ front ++ x.1
  pub is : AreItems IsStar (values x.0) front

stars_take : (t : Text) (x : List Number × Text) → stars_at t ≡ Ok x → TakesStars t x
stars_take t x e =
    let s = (items_take IsStarValue begins_star star_at star_takes t x e).0 in
    record { front = s.front; whole = s.whole; is = items_seen IsStar (λ (n : Number). n.value) x.0 s.front s.is }

abbrev IsLinesValue : Number → Text → Type 0
IsLinesValue n us = IsLines n.value us

lines_take : (t : Text) (x : Number × Text) → lines_at t ≡ Ok x → Takes IsLinesValue t x
lines_take [] x e =
    let is = given (record { value = 0; left = 0 }, []) x e in
    record { front = []; whole = ap (λ (y : Number × Text). y.1) is; is = inl (refl, sym (ap (λ (y : Number × Text). y.0.value) is)) }
lines_take (u ∷ us) x e = go (eqb u 124) refl e
  where
    same : (u : ℕ) → eqb u 124 ≡ true → u ≡ 124
    same u e = grind (arith, nat_tests)

    go : (b : Bool) → eqb u 124 ≡ b → cond b (number_at us) (Ok (record { value = 0; left = 0 }, u ∷ us)) ≡ Ok x → Takes IsLinesValue (u ∷ us) x
    go true b e =
        let n = number_takes us x e in
        record { front = 124 ∷ n.front; whole = ap₂ (λ (v : ℕ) (vs : Text). v ∷ vs) (same u b) n.whole; is = inr (n.front, refl, n.is) }
    go false b e =
        let is = given (record { value = 0; left = 0 }, u ∷ us) x e in
        record { front = []; whole = ap (λ (y : Number × Text). y.1) is; is = inl (refl, sym (ap (λ (y : Number × Text). y.0.value) is)) }

kind_takes : (t : Text) (x : Kind × Text) → kind_at t ≡ Ok x → t ≡ kind_text x.0 ∷ x.1
kind_takes [] x e = absurd cc
kind_takes (u ∷ us) x e = go (eqb u 61) (eqb u 45) (eqb u 43) refl refl refl e
  where
    same : (u c : ℕ) → eqb u c ≡ true → u ≡ c
    same u c e = grind (arith, nat_tests)

    is : (c : ℕ) (k : Kind) → u ≡ c → kind_text k ≡ c → okay (k, us) ≡ okay x → u ∷ us ≡ kind_text x.0 ∷ x.1
    is c k e f g =
        let same = given (k, us) x g in
        ap₂ (λ (v : ℕ) (vs : Text). v ∷ vs) (e ∙ sym f ∙ ap (λ (y : Kind × Text). kind_text y.0) same) (ap (λ (y : Kind × Text). y.1) same)

    go : (a b c : Bool) → eqb u 61 ≡ a → eqb u 45 ≡ b → eqb u 43 ≡ c
        → cond a (Ok (kinds.Keep, us)) (cond b (Ok (kinds.Drop, us)) (cond c (Ok (kinds.Insert, us)) (Err (suc (length us))))) ≡ Ok x → u ∷ us ≡ kind_text x.0 ∷ x.1
    go true b c p q r e = is 61 kinds.Keep (same u 61 p) refl e
    go false true c p q r e = is 45 kinds.Drop (same u 45 q) refl e
    go false false true p q r e = is 43 kinds.Insert (same u 43 r) refl e
    go false false false p q r e = absurd cc

unit_takes : (c : ℕ) (t x : Text) → unit_at c t ≡ Ok x → t ≡ c ∷ x
unit_takes c [] x e = absurd cc
unit_takes c (u ∷ us) x e = go (eqb u c) refl e
  where
    same : (u c : ℕ) → eqb u c ≡ true → u ≡ c
    same u c e = grind (arith, nat_tests)

    go : (b : Bool) → eqb u c ≡ b → cond b (Ok us) (Err (suc (length us))) ≡ Ok x → u ∷ us ≡ c ∷ x
    go true b e = let r : us ≡ x = cc in ap₂ (λ (v : ℕ) (vs : Text). v ∷ vs) (same u c b) r
    go false b e = absurd cc

abbrev IsSaid : Operation → Text → Type 0
IsSaid o us = IsOp (said o) us

op_of : (t : Text) (k : Kind) (after : Text) (a : List Number × Text) (b d : Number × Text) (x : Operation × Text) → TakesStars t a → Takes IsLinesValue a.1 b → b.1 ≡ kind_text k ∷ after → Takes IsValue after d
    → record { stars = a.0; lines = b.0; kind = k; units = d.0 } ≡ x.0 → d.1 ≡ x.1 → Takes IsSaid t x
op_of t k after a b d x stars lines plus units o r =
    let front = stars.front ++ (lines.front ++ (kind_text k ∷ units.front)) in
    let tail : kind_text k ∷ after ≡ (kind_text k ∷ units.front) ++ x.1 = ap (λ (us : Text). kind_text k ∷ us) (units.whole ∙ ap (λ (us : Text). units.front ++ us) r) in
    record {
      front = front;
      whole =
          stars.whole ∙ ap (λ (us : Text). stars.front ++ us) (lines.whole ∙ ap (λ (us : Text). lines.front ++ us) (plus ∙ tail) ∙ sym (append_assoc lines.front (kind_text k ∷ units.front) x.1))
          ∙ sym (append_assoc stars.front (lines.front ++ (kind_text k ∷ units.front)) x.1);
      is = subst (λ (o : Operation). IsOp (said o) front) o (record {
        stars = stars.front;
        lines = lines.front;
        units = units.front;
        whole = refl;
        are_stars = stars.is;
        is_lines = lines.is;
        is_units = units.is;
      });
    }

pub op_takes : (t : Text) (x : Operation × Text) → op_at t ≡ Ok x → Takes IsSaid t x
unfolding op_at
op_takes t x e =
    let a = bind_ok (stars_at t) (λ stars. lines_at stars.1 >>= λ lines. kind_at lines.1 >>= λ kind. number_at kind.1 >>= λ units. Ok (record { stars = stars.0; lines = lines.0; kind = kind.0; units = units.0 }, units.1)) x e in
    let b = bind_ok (lines_at a.0.1) (λ lines. kind_at lines.1 >>= λ kind. number_at kind.1 >>= λ units. Ok (record { stars = a.0.0; lines = lines.0; kind = kind.0; units = units.0 }, units.1)) x a.2 in
    let c = bind_ok (kind_at b.0.1) (λ kind. number_at kind.1 >>= λ units. Ok (record { stars = a.0.0; lines = b.0.0; kind = kind.0; units = units.0 }, units.1)) x b.2 in
    let d = bind_ok (number_at c.0.1) (λ units. Ok (record { stars = a.0.0; lines = b.0.0; kind = c.0.0; units = units.0 }, units.1)) x c.2 in
    op_of t c.0.0 c.0.1 a.0 b.0 d.0 x (stars_take t a.0 a.1) (lines_take a.0.1 b.0 b.1) (kind_takes b.0.1 c.0 c.1) (number_takes c.0.1 d.0 d.1) (let q = d.2 in cc) (let q = d.2 in cc)

pub attrib_takes : (t : Text) (x : Operation × Text) → attrib_at t ≡ Ok x → Takes IsSaid t x
unfolding attrib_at
attrib_takes t x e =
    let a = bind_ok (stars_at t) (λ stars. lines_at stars.1 >>= λ lines. unit_at 43 lines.1 >>= λ plus. number_at plus >>= λ units. Ok (record { stars = stars.0; lines = lines.0; kind = kinds.Insert; units = units.0 }, units.1)) x e in
    let b = bind_ok (lines_at a.0.1) (λ lines. unit_at 43 lines.1 >>= λ plus. number_at plus >>= λ units. Ok (record { stars = a.0.0; lines = lines.0; kind = kinds.Insert; units = units.0 }, units.1)) x a.2 in
    let c = bind_ok (unit_at 43 b.0.1) (λ plus. number_at plus >>= λ units. Ok (record { stars = a.0.0; lines = b.0.0; kind = kinds.Insert; units = units.0 }, units.1)) x b.2 in
    let d = bind_ok (number_at c.0) (λ units. Ok (record { stars = a.0.0; lines = b.0.0; kind = kinds.Insert; units = units.0 }, units.1)) x c.2 in
    op_of t kinds.Insert c.0 a.0 b.0 d.0 x (stars_take t a.0 a.1) (lines_take a.0.1 b.0 b.1) (unit_takes 43 b.0.1 c.0 c.1) (number_takes c.0 d.0 d.1) (let q = d.2 in cc) (let q = d.2 in cc)

pub attrib_inserts : (t : Text) (x : Operation × Text) → attrib_at t ≡ Ok x → x.0.kind ≡ kinds.Insert
unfolding attrib_at
attrib_inserts t x e =
    let a = bind_ok (stars_at t) (λ stars. lines_at stars.1 >>= λ lines. unit_at 43 lines.1 >>= λ plus. number_at plus >>= λ units. Ok (record { stars = stars.0; lines = lines.0; kind = kinds.Insert; units = units.0 }, units.1)) x e in
    let b = bind_ok (lines_at a.0.1) (λ lines. unit_at 43 lines.1 >>= λ plus. number_at plus >>= λ units. Ok (record { stars = a.0.0; lines = lines.0; kind = kinds.Insert; units = units.0 }, units.1)) x a.2 in
    let c = bind_ok (unit_at 43 b.0.1) (λ plus. number_at plus >>= λ units. Ok (record { stars = a.0.0; lines = b.0.0; kind = kinds.Insert; units = units.0 }, units.1)) x b.2 in
    let d = bind_ok (number_at c.0) (λ units. Ok (record { stars = a.0.0; lines = b.0.0; kind = kinds.Insert; units = units.0 }, units.1)) x c.2 in
    let made : Operation = record { stars = a.0.0; lines = b.0.0; kind = kinds.Insert; units = d.0.0 } in
    sym (ap (λ (y : Operation × Text). y.0.kind) (given (made, d.0.1) x d.2))

-- ---- whole texts

sign_takes : (t : Text) (x : Bool × Text) → sign_at t ≡ Ok x → t ≡ sign x.0 ∷ x.1
sign_takes [] x e = absurd cc
sign_takes (u ∷ us) x e = go (eqb u 62) (eqb u 60) refl refl e
  where
    same : (u c : ℕ) → eqb u c ≡ true → u ≡ c
    same u c e = grind (arith, nat_tests)

    is : (c : ℕ) (b : Bool) → u ≡ c → sign b ≡ c → okay (b, us) ≡ okay x → u ∷ us ≡ sign x.0 ∷ x.1
    is c b e f g =
        let same = given (b, us) x g in
        ap₂ (λ (v : ℕ) (vs : Text). v ∷ vs) (e ∙ sym f ∙ ap (λ (y : Bool × Text). sign y.0) same) (ap (λ (y : Bool × Text). y.1) same)

    go : (a b : Bool) → eqb u 62 ≡ a → eqb u 60 ≡ b → cond a (Ok (false, us)) (cond b (Ok (true, us)) (Err (suc (length us)))) ≡ Ok x → u ∷ us ≡ sign x.0 ∷ x.1
    go true b p q e = is 62 false (same u 62 p) refl e
    go false true p q e = is 60 true (same u 60 q) refl e
    go false false p q e = absurd cc

-- what a text writes down, without places
abbrev pub writing_of : Parts → Writing
writing_of p = record { old = p.old.value; shrinks = p.shrinks; difference = p.difference.value; ops = map said p.ops; bank = p.bank }

pub text_takes : (t : Text) (p : Parts) → parts_of t ≡ Ok p → IsWritten (writing_of p) t
unfolding parts_of
text_takes t p e =
    let a = bind_ok (unit_at 90 t) (λ z. unit_at 58 z >>= λ colon. number_at colon >>= λ old. sign_at old.1 >>= λ sign. number_at sign.1 >>= λ difference. ops_at difference.1 >>= λ ops. unit_at 36 ops.1 >>= λ bank. Ok (record { old = old.0; shrinks = sign.0; difference = difference.0; ops = ops.0; bank = bank })) p e in
    let b = bind_ok (unit_at 58 a.0) (λ colon. number_at colon >>= λ old. sign_at old.1 >>= λ sign. number_at sign.1 >>= λ difference. ops_at difference.1 >>= λ ops. unit_at 36 ops.1 >>= λ bank. Ok (record { old = old.0; shrinks = sign.0; difference = difference.0; ops = ops.0; bank = bank })) p a.2 in
    let c = bind_ok (number_at b.0) (λ old. sign_at old.1 >>= λ sign. number_at sign.1 >>= λ difference. ops_at difference.1 >>= λ ops. unit_at 36 ops.1 >>= λ bank. Ok (record { old = old.0; shrinks = sign.0; difference = difference.0; ops = ops.0; bank = bank })) p b.2 in
    let d = bind_ok (sign_at c.0.1) (λ sign. number_at sign.1 >>= λ difference. ops_at difference.1 >>= λ ops. unit_at 36 ops.1 >>= λ bank. Ok (record { old = c.0.0; shrinks = sign.0; difference = difference.0; ops = ops.0; bank = bank })) p c.2 in
    let f = bind_ok (number_at d.0.1) (λ difference. ops_at difference.1 >>= λ ops. unit_at 36 ops.1 >>= λ bank. Ok (record { old = c.0.0; shrinks = d.0.0; difference = difference.0; ops = ops.0; bank = bank })) p d.2 in
    let g = bind_ok (ops_at f.0.1) (λ ops. unit_at 36 ops.1 >>= λ bank. Ok (record { old = c.0.0; shrinks = d.0.0; difference = f.0.0; ops = ops.0; bank = bank })) p f.2 in
    let h = bind_ok (unit_at 36 g.0.1) (λ bank. Ok (record { old = c.0.0; shrinks = d.0.0; difference = f.0.0; ops = g.0.0; bank = bank })) p g.2 in
    let old = number_takes b.0 c.0 c.1 in
    let difference = number_takes d.0.1 f.0 f.1 in
    let ops = (items_take IsSaid goes_on op_at (λ t y m e. op_takes t y e) f.0.1 g.0 g.1).0 in
    let made : Parts = record { old = c.0.0; shrinks = d.0.0; difference = f.0.0; ops = g.0.0; bank = h.0 } in
    let same : made ≡ p = let q = h.2 in cc in
    subst (λ (p : Parts). IsWritten (writing_of p) t) same (record {
      old = old.front;
      difference = difference.front;
      ops = ops.front;
      whole =
          unit_takes 90 t a.0 a.1
          ∙ ap (λ (us : Text). 90 ∷ us) (unit_takes 58 a.0 b.0 b.1
          ∙ ap (λ (us : Text). 58 ∷ us) (old.whole
          ∙ ap (λ (us : Text). old.front ++ us) (sign_takes c.0.1 d.0 d.1
          ∙ ap (λ (us : Text). sign d.0.0 ∷ us) (difference.whole
          ∙ ap (λ (us : Text). difference.front ++ us) (ops.whole ∙ ap (λ (us : Text). ops.front ++ us) (unit_takes 36 g.0.1 h.0 h.1))))));
      is_old = old.is;
      is_difference = difference.is;
      are_ops = items_seen IsOp said g.0.0 ops.front ops.is;
    })

pub attribs_take : (t : Text) (x : List Operation × Text) → attribs_at t ≡ Ok x → AreItems IsOp (map said x.0) t
attribs_take t x e =
    let s = items_take IsSaid is_some_text attrib_at (λ t y m e. attrib_takes t y e) t x e in
    items_seen IsOp said x.0 t (subst (λ (us : Text). AreItems IsSaid x.0 us) (whole s.0.front x.1 s.1 s.0.whole) s.0.is)
  where
    whole : (front rest : Text) → is_some_text rest ≡ false → t ≡ front ++ rest → front ≡ t
    whole front [] b e = sym (e ∙ append-nil front)
    whole front (u ∷ us) b e = absurd cc
