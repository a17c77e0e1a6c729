-- The first line of what is held and what follows.
use Rattle.std.proofs.Common.{◌≡◌, ℕ, suc, ◌+◌, ◌<◌, ◌≤◌, ◌⊎◌, inl, inr, ◌==◌, ◌||◌, Bool, true, false, List, [], ◌∷◌, ◌++◌, length, take, drop, Option, Some, None, Ok, refl, sym, ap, ◌∙◌, subst, arith, append_assoc, append-nil}
use Rattle.std.specs.Prelude.{nat_lt, position, IfSome}
use Rattle.std.proofs.lemmas.Bool.Decides.{nat_tests}
use Rattle.std.proofs.lemmas.List.{length-take}
use Rattle.ep_outside.specs.Outside.{Gives}
use Rattle.ep_script.specs.Lines.{Row, rows_of, without_cr}
use Rattle.ep_script.specs.Script.{IsNext, MayFollow, Unread, is_long, most_line, most_script, width}
use Rattle.ep_script.specs.declared.script.ScriptLine.{ScriptLine}
use Rattle.ep_script.specs.declared.script.ScriptLine.TheVariants.{Text, Long}
use Rattle.ep_script.proofs.Rows.{at, begins, last}

told-before : (a b : Option (List ℕ)) (piece more : List ℕ) → Gives a b piece → IfSome b (λ bytes. more ≡ bytes) → IfSome a (λ bytes. piece ++ more ≡ bytes)
told-before None None piece more g e = tt
told-before (Some xs) (Some ys) piece more g e = ap (λ zs. piece ++ zs) e ∙ sym g
told-before None (Some ys) piece more g e = absurd g
told-before (Some xs) None piece more g e = absurd g

-- what follows a piece that was read may follow behind it
pub follows : (old new : Unread) (a b : Option (List ℕ)) (piece more : List ℕ) → Gives a b piece → (old.is_over ≡ true → (piece ≡ []) × (new.is_over ≡ true)) → MayFollow new b more → MayFollow old a (piece ++ more)
follows old new a b piece more g stays m = record {
  over = λ o. let s = stays o in ap (λ xs. xs ++ more) s.0 ∙ m.over s.1;
  told = told-before a b piece more g m.told;
}

long-more : (place n k : ℕ) → n ≤ k → (nat_lt most_line n || nat_lt most_script (place + n)) ≡ true → (nat_lt most_line k || nat_lt most_script (place + k)) ≡ true
long-more place n k h e = grind (arith, nat_tests)

taken : (n : ℕ) (xs : List ℕ) → n < length xs → length (take n xs) ≡ n
taken n xs h = grind (arith, length-take)

module _ (old new : Unread) (piece more held : List ℕ) (is : held ≡ old.held ++ piece) where
  all : old.held ++ (piece ++ more) ≡ held ++ more
  all = sym (append_assoc old.held piece more) ∙ ap (λ xs. xs ++ more) (sym is)

  -- it has an end
  module _ (i : ℕ) (end : position (λ b. b == 10) held ≡ Some i) where
    rows : rows_of (old.held ++ (piece ++ more)) ≡ record { bytes = take i held; ended = true } ∷ rows_of (drop (i + 1) held ++ more)
    rows = ap rows_of all ∙ (let h = (at held more i end).1 in rw (let e : i + 1 ≡ suc i = omega arith in e) h)

    size : length (take i held) ≡ i
    size = taken i held (at held more i end).0

    pub long-ended : (nat_lt most_line i || nat_lt most_script (old.place + i)) ≡ true → IsNext old piece new more (Ok (Some Long))
    long-ended h = (record { bytes = take i held; ended = true }, rows_of (drop (i + 1) held ++ more), rows, rw size h)

    pub line-ended : (nat_lt most_line i || nat_lt most_script (old.place + i)) ≡ false → new.held ≡ drop (i + 1) held → new.place ≡ old.place + (i + 1)
        → (rows_of (old.held ++ (piece ++ more)) ≡ record { bytes = take i held; ended = true } ∷ rows_of (new.held ++ more))
        × (is_long old.place (record { bytes = take i held; ended = true }) ≡ false)
        × (new.place ≡ old.place + width (record { bytes = take i held; ended = true }))
    line-ended h f p = (
      rows ∙ ap (λ xs. record { bytes = take i held; ended = true } ∷ rows_of (xs ++ more)) (sym f),
      rw size h,
      p ∙ ap (λ n. old.place + (n + 1)) (sym size),
    )

  -- it has none
  module _ (unended : position (λ b. b == 10) held ≡ None) (some : 0 < length held) where
    pub long-open : (nat_lt most_line (length held) || nat_lt most_script (old.place + length held)) ≡ true → IsNext old piece new more (Ok (Some Long))
    long-open h = let x = begins held more some unended in (x.0, x.1, ap rows_of all ∙ x.2, long-more old.place (length held) (length x.0.bytes) x.3 h)

    pub line-open : more ≡ [] → (nat_lt most_line (length held) || nat_lt most_script (old.place + length held)) ≡ false → new.held ≡ [] → new.place ≡ old.place + length held
        → (rows_of (old.held ++ (piece ++ more)) ≡ record { bytes = held; ended = false } ∷ rows_of (new.held ++ more))
        × (is_long old.place (record { bytes = held; ended = false }) ≡ false)
        × (new.place ≡ old.place + width (record { bytes = held; ended = false }))
    line-open none h f p = (
      ap rows_of (all ∙ ap (λ xs. held ++ xs) none ∙ append-nil held) ∙ last held some unended ∙ ap (λ rs. record { bytes = held; ended = false } ∷ rs) (sym (ap rows_of (ap (λ xs. xs ++ more) f ∙ none))),
      h,
      p ∙ ap (λ n. old.place + n) (let k : length held ≡ length held + 0 = omega arith in k),
    )

  pub over-here : held ≡ [] → more ≡ [] → IsNext old piece new more (Ok None)
  over-here e none = all ∙ ap (λ xs. xs ++ more) e ∙ none

-- where the source has ended, or a line is too long
pub none-more : (u : Unread) (b : Option (List ℕ)) (more : List ℕ) (place n : ℕ) → (u.is_over ≡ true) ⊎ (most_line < n) → (nat_lt most_line n || nat_lt most_script (place + n)) ≡ false → MayFollow u b more → more ≡ []
none-more u b more place n (inl o) h m = m.over o
none-more u b more place n (inr l) h m = absurd (let e : n ≤ most_line = grind (arith, nat_tests, h) in omega (arith, e, l))
