-- The first line of what is held and what follows.
use Rattle.std.proofs.Common.{◌≡◌, ℕ, suc, ◌+◌, ◌<◌, ◌≤◌, ◌⊎◌, inl, inr, ◌==◌, Bool, true, false, List, [], ◌∷◌, ◌++◌, length, take, drop, Option, Some, None, Ok, refl, sym, ap, ◌∙◌, subst, arith, append_assoc, append-nil}
use Rattle.std.specs.Prelude.{nat_lt, position, IfSome}
use Rattle.std.proofs.lemmas.Bool.Decides.{nat_tests}
use Rattle.std.proofs.lemmas.List.{length-take, length-append}
use Rattle.std.proofs.Math.Seq.{drop-append-add}
use Rattle.ep_outside.specs.Outside.{Gives}
use Rattle.ep_lines.specs.Rows.{Row, rows_of}
use Rattle.ep_lines.specs.Reading.{IsNext, MayFollow, Unread}
use Rattle.ep_lines.specs.declared.lines.Line.{Line}
use Rattle.ep_lines.specs.declared.lines.Line.TheVariants.{Text, Long}
use Rattle.ep_lines.proofs.Rows.{at, last, behind-none, behind-some}

told-before : (a b : Option (List ℕ)) (piece more : List ℕ) → Gives a b piece → IfSome b (λ bytes. more ≡ bytes) → IfSome a (λ bytes. piece ++ more ≡ bytes)
told-before None None piece more g e = tt
told-before (Some xs) (Some ys) piece more g e = ap (λ zs. piece ++ zs) e ∙ sym g
told-before None (Some ys) piece more g e = absurd g
told-before (Some xs) None piece more g e = absurd g

-- what follows a piece that was read may follow behind it
pub follows : (old new : Unread) (a b : Option (List ℕ)) (piece more : List ℕ) → Gives a b piece → (old.is_over ≡ true → (piece ≡ []) × (new.is_over ≡ true)) → MayFollow new b more → MayFollow old a (piece ++ more)
follows old new a b piece more g stays m = record {
  over = λ o. let s = stays o in ap (λ xs. xs ++ more) s.0 ∙ m.over s.1;
  told = told-before a b piece more g m.told;
}

-- a piece and then another
pub gives-on : (a b c : Option (List ℕ)) (xs ys : List ℕ) → Gives a b xs → Gives b c ys → Gives a c (xs ++ ys)
gives-on None None None xs ys g h = tt
gives-on (Some xs-a) (Some xs-b) (Some xs-c) xs ys g h = g ∙ ap (λ zs. xs ++ zs) h ∙ sym (append_assoc xs ys xs-c)
gives-on None (Some xs-b) c xs ys g h = absurd g
gives-on (Some xs-a) None c xs ys g h = absurd g
gives-on None None (Some xs-c) xs ys g h = absurd h
gives-on (Some xs-a) (Some xs-b) None xs ys g h = absurd h

taken : (n : ℕ) (xs : List ℕ) → n < length xs → length (take n xs) ≡ n
taken n xs h = grind (arith, length-take)

-- its first line, and what is behind it
abbrev pub Starts : List ℕ → Row → List ℕ → Type 0
Starts bytes row rest = rows_of bytes ≡ row ∷ rows_of rest

-- of what was there and then came, this was let go, which has no end and more bytes than are given
pub record Passed (old : Unread) (piece : List ℕ) (new : Unread) : Type 0 where
  pub gone : List ℕ
  pub all : old.held ++ piece ≡ gone ++ new.held
  pub unended : position (λ b. b == 10) gone ≡ None
  pub long : old.most < length gone

-- all that is held is let go
pub begun : (old new : Unread) → position (λ b. b == 10) old.held ≡ None → old.most < length old.held → new.held ≡ [] → Passed old [] new
begun old new unended long e = record {
  gone = old.held;
  all = ap (λ xs. old.held ++ xs) (sym e);
  unended = unended;
  long = long;
}

-- what was held is let go too, and a piece comes
pub gone-on : (old now new : Unread) (piece next : List ℕ) → Passed old piece now → position (λ b. b == 10) now.held ≡ None → new.held ≡ next → Passed old (piece ++ next) new
gone-on old now new piece next p none e = record {
  gone = p.gone ++ now.held;
  all = sym (append_assoc old.held piece next) ∙ ap (λ xs. xs ++ next) p.all ∙ ap (λ xs. (p.gone ++ now.held) ++ xs) (sym e);
  unended = behind-none p.gone now.held p.unended none;
  long = let h = length-append p.gone now.held in omega (arith, p.long, h);
}

-- what a passing over says of what follows
abbrev pub Passes : Unread → List ℕ → List ℕ → Unread → Type 0
Passes old piece more new = (row : Row) × Starts (old.held ++ (piece ++ more)) row (new.held ++ more) × (nat_lt old.most (length row.bytes) ≡ true)

module _ (old now : Unread) (piece more : List ℕ) (p : Passed old piece now) where
  all : old.held ++ (piece ++ more) ≡ (p.gone ++ now.held) ++ more
  all = sym (append_assoc old.held piece more) ∙ ap (λ xs. xs ++ more) p.all

  size : length (p.gone ++ now.held) ≡ length p.gone + length now.held
  size = length-append p.gone now.held

  further : (i : ℕ) → drop (suc (length p.gone + i)) (p.gone ++ now.held) ≡ drop (i + 1) now.held
  further i = ap (λ n. drop n (p.gone ++ now.held)) (let e : suc (length p.gone + i) ≡ length p.gone + (i + 1) = omega arith in e) ∙ drop-append-add p.gone now.held (i + 1)

  pub passed-end : (new : Unread) (i : ℕ) → position (λ b. b == 10) now.held ≡ Some i → new.held ≡ drop (i + 1) now.held → Passes old piece more new
  passed-end new i end e =
      let h = at (p.gone ++ now.held) more (length p.gone + i) (behind-some p.gone now.held i p.unended end) in
      let behind : drop (suc (length p.gone + i)) (p.gone ++ now.held) ≡ new.held = further i ∙ sym e in (
        record { bytes = take (length p.gone + i) (p.gone ++ now.held); ended = true },
        ap rows_of all ∙ h.1 ∙ ap (λ xs. record { bytes = take (length p.gone + i) (p.gone ++ now.held); ended = true } ∷ rows_of (xs ++ more)) behind,
        (let n = taken (length p.gone + i) (p.gone ++ now.held) h.0 in grind (arith, nat_tests, n, p.long)),
      )

  pub passed-all : (new : Unread) → position (λ b. b == 10) now.held ≡ None → more ≡ [] → new.held ≡ [] → Passes old piece more new
  passed-all new none over e =
      let some : 0 < length (p.gone ++ now.held) = omega (arith, size, p.long) in (
        record { bytes = p.gone ++ now.held; ended = false },
        ap rows_of (all ∙ ap (λ xs. (p.gone ++ now.held) ++ xs) over ∙ append-nil (p.gone ++ now.held))
            ∙ last (p.gone ++ now.held) some (behind-none p.gone now.held p.unended none)
            ∙ ap (λ rs. record { bytes = p.gone ++ now.held; ended = false } ∷ rs) (sym (ap rows_of (ap (λ xs. xs ++ more) e ∙ over))),
        grind (arith, nat_tests, size, p.long),
      )

-- ---- what the next line is

module _ (old new : Unread) (piece more held : List ℕ) (is : held ≡ old.held ++ piece) where
  all-held : old.held ++ (piece ++ more) ≡ held ++ more
  all-held = sym (append_assoc old.held piece more) ∙ ap (λ xs. xs ++ more) (sym is)

  pub ended : (i : ℕ) → position (λ b. b == 10) held ≡ Some i → new.held ≡ drop (i + 1) held
      → Starts (old.held ++ (piece ++ more)) (record { bytes = take i held; ended = true }) (new.held ++ more) × (length (take i held) ≡ i)
  ended i end e =
      let h = at held more i end in
      let rest : drop (suc i) held ≡ new.held = ap (λ n. drop n held) (let k : suc i ≡ i + 1 = omega arith in k) ∙ sym e in (
        ap rows_of all-held ∙ h.1 ∙ ap (λ xs. record { bytes = take i held; ended = true } ∷ rows_of (xs ++ more)) rest,
        taken i held h.0,
      )

  pub last-one : position (λ b. b == 10) held ≡ None → 0 < length held → more ≡ [] → new.held ≡ []
      → Starts (old.held ++ (piece ++ more)) (record { bytes = held; ended = false }) (new.held ++ more)
  last-one none some over e =
      ap rows_of (all-held ∙ ap (λ xs. held ++ xs) over ∙ append-nil held) ∙ last held some none
      ∙ ap (λ rs. record { bytes = held; ended = false } ∷ rs) (sym (ap rows_of (ap (λ xs. xs ++ more) e ∙ over)))

  pub over-here : held ≡ [] → more ≡ [] → old.held ++ (piece ++ more) ≡ []
  over-here e none = all-held ∙ ap (λ xs. xs ++ more) e ∙ none

-- where the source has ended, or a line is too long
pub none-more : (u : Unread) (b : Option (List ℕ)) (more : List ℕ) (n : ℕ) → (u.is_over ≡ true) ⊎ (u.most < n) → nat_lt u.most n ≡ false → MayFollow u b more → more ≡ []
none-more u b more n (inl o) h m = m.over o
none-more u b more n (inr l) h m = absurd (let e : n ≤ u.most = grind (arith, nat_tests, h) in omega (arith, e, l))

-- what is passed over behind a piece that was read
pub passed-over : (old now new : Unread) (piece next more : List ℕ) → now.held ≡ old.held ++ piece → now.most ≡ old.most → Passes now next more new → Passes old (piece ++ next) more new
passed-over old now new piece next more is same x =
    let e : old.held ++ ((piece ++ next) ++ more) ≡ now.held ++ (next ++ more)
    = ap (λ xs. old.held ++ xs) (append_assoc piece next more) ∙ sym (append_assoc old.held piece (next ++ more)) ∙ ap (λ xs. xs ++ (next ++ more)) (sym is) in
    (x.0, ap rows_of e ∙ x.1, ap (λ n. nat_lt n (length x.0.bytes)) (sym same) ∙ x.2)
