-- Where the first line ends.
use Rattle.std.proofs.Common.{◌≡◌, ◌≢◌, ℕ, zero, suc, ◌<◌, ◌≤◌, ◌==◌, Bool, true, false, List, [], ◌∷◌, ◌++◌, ◌+◌, length, get_or, take, drop, refl, ◌∙◌, ap, arith, Some, None, ltb, cond}
use Rattle.std.proofs.lemmas.Bool.Decides.{nat_tests}
use Rattle.std.proofs.lemmas.List.{length-append}
use Rattle.std.proofs.lemmas.List.Quantifiers.{position-Some}
use Rattle.std.proofs.lemmas.List.Sums.{fails_before_first, position_or_len_is}
use Rattle.std.specs.List.{position, position_or_len}
use Rattle.ep_lines.specs.Rows.{Row, onto, rows_of}

eqb-other : (b c : ℕ) → b ≢ c → (b == c) ≡ false
eqb-other b c other = grind (arith, nat_tests)

-- ---- the LF

-- a byte before the end of a line
before : (b : ℕ) (bs : List ℕ) → b ≢ 10 → rows_of (b ∷ bs) ≡ onto b (rows_of bs)
before b bs other = rw (eqb-other b 10 other)

cut_lf : (s more : List ℕ) (i : ℕ) → i < length s → get_or s i 0 ≡ 10 → ((k : ℕ) → k < i → get_or s k 0 ≢ 10)
    → rows_of (s ++ more) ≡ record { bytes = take i s; ended = true } ∷ rows_of (drop (suc i) s ++ more)
cut_lf [] more i below here others = absurd (omega arith)
cut_lf (b ∷ bs) more zero below here others = let yes : (b == 10) ≡ true = grind (arith, nat_tests) in rw yes
cut_lf (b ∷ bs) more (suc i) below here others =
    let later : (k : ℕ) → k < i → get_or bs k 0 ≢ 10 = λ k h. others (suc k) (omega arith) in
    before b (bs ++ more) (others 0 (omega arith)) ∙ ap (onto b) (cut_lf bs more i (omega arith) here later)

cut_last : (s : List ℕ) → 0 < length s → ((k : ℕ) → k < length s → get_or s k 0 ≢ 10) → rows_of s ≡ record { bytes = s; ended = false } ∷ []
cut_last [] some others = absurd (omega arith)
cut_last (b ∷ []) some others = before b [] (others 0 (omega arith))
cut_last (b ∷ c ∷ cs) some others = before b (c ∷ cs) (others 0 (omega arith)) ∙ ap (onto b) (cut_last (c ∷ cs) (omega arith) (λ k h. others (suc k) (omega arith)))

-- a script's first line is at least as long as this
abbrev pub Begins : List ℕ → ℕ → Type 0
Begins s n = (row : Row) × (rows : List Row) × (rows_of s ≡ row ∷ rows) × (n ≤ length row.bytes)

begins-one : (b : ℕ) (rows : List Row) (s : List ℕ) → rows_of s ≡ onto b rows → Begins s 1
begins-one b [] s e = (record { bytes = b ∷ []; ended = false }, [], e, omega arith)
begins-one b (row ∷ rows) s e = (record { bytes = b ∷ row.bytes; ended = row.ended }, rows, e, (let h : 1 ≤ length (b ∷ row.bytes) = omega arith in h))

begins-all : (s more : List ℕ) → 0 < length s → ((k : ℕ) → k < length s → get_or s k 0 ≢ 10) → Begins (s ++ more) (length s)
begins-all [] more some others = absurd (omega arith)
begins-all (b ∷ []) more some others = begins-one b (rows_of more) (b ∷ more) (before b more (others 0 (omega arith)))
begins-all (b ∷ c ∷ cs) more some others =
    let x = begins-all (c ∷ cs) more (omega arith) (λ k h. others (suc k) (omega arith)) in (
      record { bytes = b ∷ x.0.bytes; ended = x.0.ended },
      x.1,
      before b (c ∷ cs ++ more) (others 0 (omega arith)) ∙ ap (onto b) x.2,
      let h : suc (length (c ∷ cs)) ≤ suc (length x.0.bytes) = omega (arith, x.3) in h,
    )

-- ---- what `position` says of the LF

pub at : (s more : List ℕ) (i : ℕ) → position (λ b. b == 10) s ≡ Some i
    → (i < length s) × (rows_of (s ++ more) ≡ record { bytes = take i s; ended = true } ∷ rows_of (drop (suc i) s ++ more))
at s more i e = let h = position-Some (λ b. b == 10) s i 0 e in (h.0, cut_lf s more i h.0 (grind (arith, nat_tests, h.1)) (λ k l. grind (arith, nat_tests, h.2 k l)))

none_before : (s : List ℕ) (n l : ℕ) (t : Bool) → ltb n l ≡ t → cond t (Some n) None ≡ None → l ≤ n
none_before s n l true e h = cc
none_before s n l false e h = grind (arith, nat_tests)

none-others : (s : List ℕ) → position (λ b. b == 10) s ≡ None → (k : ℕ) → k < length s → get_or s k 0 ≢ 10
none-others s e k h =
    let n : length s ≤ position_or_len (λ b. b == 10) s = none_before s _ _ _ refl e in
    let f = fails_before_first (λ b. b == 10) s k 0 (omega arith) in grind (arith, nat_tests, f)

pub last : (s : List ℕ) → 0 < length s → position (λ b. b == 10) s ≡ None → rows_of s ≡ record { bytes = s; ended = false } ∷ []
last s some e = cut_last s some (none-others s e)

pub begins : (s more : List ℕ) → 0 < length s → position (λ b. b == 10) s ≡ None → Begins (s ++ more) (length s)
begins s more some e = begins-all s more some (none-others s e)

one-further : (x : ℕ) (xs : List ℕ) (n : ℕ) → (x == 10) ≡ false → position_or_len (λ b. b == 10) xs ≡ n → position_or_len (λ b. b == 10) (x ∷ xs) ≡ 1 + n
one-further x xs n e h = rw e (ap (λ k. 1 + k) h)

-- the first one behind a text that has none
or_len-behind : (xs ys : List ℕ) → ((k : ℕ) → k < length xs → get_or xs k 0 ≢ 10) → position_or_len (λ b. b == 10) (xs ++ ys) ≡ length xs + position_or_len (λ b. b == 10) ys
or_len-behind [] ys others = omega arith
or_len-behind (x ∷ xs) ys others =
    one-further x (xs ++ ys) _ (eqb-other x 10 (others 0 (omega arith))) (or_len-behind xs ys (λ k h. others (suc k) (omega arith)))
    ∙ (let p = position_or_len (λ b. b == 10) ys in let e : 1 + (length xs + p) ≡ length (x ∷ xs) + p = omega arith in e)

pub behind-none : (xs ys : List ℕ) → position (λ b. b == 10) xs ≡ None → position (λ b. b == 10) ys ≡ None → position (λ b. b == 10) (xs ++ ys) ≡ None
behind-none xs ys e f =
    let h = or_len-behind xs ys (none-others xs e) in
    let n : length ys ≤ position_or_len (λ b. b == 10) ys = none_before ys _ _ _ refl f in
    rw (h, length-append xs ys) (let k : ltb (length xs + position_or_len (λ b. b == 10) ys) (length xs + length ys) ≡ false = grind (arith, nat_tests, n) in rw k)

pub behind-some : (xs ys : List ℕ) (i : ℕ) → position (λ b. b == 10) xs ≡ None → position (λ b. b == 10) ys ≡ Some i → position (λ b. b == 10) (xs ++ ys) ≡ Some (length xs + i)
behind-some xs ys i e f =
    let h = or_len-behind xs ys (none-others xs e) in
    let p = position-Some (λ b. b == 10) ys i 0 f in
    let n : position_or_len (λ b. b == 10) ys ≡ i = position_or_len_is (λ b. b == 10) ys i 0 (omega (arith, p.0)) p.2 (λ _. p.1) in
    rw (h, n, length-append xs ys) (let k : ltb (length xs + i) (length xs + length ys) ≡ true = grind (arith, nat_tests, p.0) in rw k)
