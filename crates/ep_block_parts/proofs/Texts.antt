-- What is seen of a text, and of two.
use Rattle.std.proofs.Common.{◌≡◌, ◌⊎◌, inl, inr, ℕ, suc, ◌+◌, ◌-◌, ◌≤◌, ◌<◌, ◌^◌, ◌==◌, Bool, true, false, cond, ◌&&◌, ◌||◌, [], ◌∷◌, ◌++◌, length, take, drop, get_or, refl, sym, ap, ◌∙◌, arith, length-append, length-drop, take-append-drop}
use Rattle.std.proofs.lemmas.List.{take-append-le, drop-append-le}
use Rattle.std.proofs.lemmas.Bool.{cases_eq}
use Rattle.std.proofs.lemmas.Bool.Decides.{nat_tests}
use Rattle.std.proofs.Math.Seq.{take-append-add, drop-append-add, take-length}
use Rattle.ep_units.specs.Text.{Text, is_high, is_newline}
use Rattle.ep_cs.specs.Lines.{count_lines, is_whole_lines}
use Rattle.ep_cs.specs.Fitting.{holds}
use Rattle.ep_block_parts.specs.Seen.{Sees, ends_high}
use Rattle.ep_block_parts.specs.declared.seen.Seen.{Seen}

pub lines-append : (us vs : Text) → count_lines (us ++ vs) ≡ count_lines us + count_lines vs
lines-append [] vs = omega arith
lines-append (u ∷ us) vs = omega (arith, lines-append us vs)

pub lines_within : (us : Text) → count_lines us ≤ length us
lines_within [] = omega arith
lines_within (u ∷ us) = elim (is_newline u) as (λ b. cond b 1 0 + count_lines us ≤ suc (length us)) [ true ↦ omega (arith, lines_within us) | false ↦ omega (arith, lines_within us) ]

pub whole-append : (us vs : Text) → 1 ≤ length vs → is_whole_lines (us ++ vs) ≡ is_whole_lines vs
whole-append us [] h = absurd (omega (arith, h))
whole-append [] (v ∷ vs) h = refl
whole-append (u ∷ []) (v ∷ vs) h = refl
whole-append (u ∷ (w ∷ us)) (v ∷ vs) h = whole-append (w ∷ us) (v ∷ vs) h

pub high-append : (us vs : Text) → 1 ≤ length vs → ends_high (us ++ vs) ≡ ends_high vs
high-append us [] h = absurd (omega (arith, h))
high-append [] (v ∷ vs) h = refl
high-append (u ∷ []) (v ∷ vs) h = refl
high-append (u ∷ (w ∷ us)) (v ∷ vs) h = high-append (w ∷ us) (v ∷ vs) h

pub no_line_behind : (us vs : Text) → count_lines us ≡ 0 → count_lines vs ≡ 0 → count_lines (us ++ vs) ≡ 0
no_line_behind us vs h k = omega (arith, h, k, lines-append us vs)

-- two texts, of which the second has no newline
pub seen_on : (s t : Seen) (us vs : Text) → Sees s us → Sees t vs → 1 ≤ t.units → t.lines ≡ 0 → Sees (record { units = s.units + t.units; lines = s.lines + t.lines; tail = s.tail + t.units; high = t.high }) (us ++ vs)
seen_on s t us vs a b h z =
    let k : s.units - s.tail ≡ s.units + t.units - (s.tail + t.units) = omega arith in
    let room : s.units - s.tail ≤ length us = omega (arith, a.units) in
    record {
      units = omega (arith, a.units, b.units, length-append us vs);
      lines = omega (arith, a.lines, b.lines, lines-append us vs);
      within = omega (arith, a.within);
      before = ap (λ (n : ℕ). is_whole_lines (take n (us ++ vs))) (sym k) ∙ ap is_whole_lines (take-append-le (s.units - s.tail) us vs room) ∙ a.before;
      behind =
          ap (λ (n : ℕ). count_lines (drop n (us ++ vs))) (sym k) ∙ ap count_lines (drop-append-le (s.units - s.tail) us vs room)
          ∙ no_line_behind (drop (s.units - s.tail) us) vs a.behind (sym b.lines ∙ z);
      high = b.high ∙ sym (high-append us vs (omega (arith, h, b.units)));
    }

-- where it has one
pub seen_anew : (s t : Seen) (us vs : Text) → Sees s us → Sees t vs → 1 ≤ t.lines → Sees (record { units = s.units + t.units; lines = s.lines + t.lines; tail = t.tail; high = t.high }) (us ++ vs)
seen_anew s t us vs a b h =
    let k = t.units - t.tail in
    let n : length us + k ≡ s.units + t.units - t.tail = omega (arith, a.units, b.within) in
    let parts : count_lines (take k vs) + count_lines (drop k vs) ≡ count_lines vs = sym (lines-append (take k vs) (drop k vs)) ∙ ap count_lines (take-append-drop k vs) in
    let some : 1 ≤ length (take k vs) = omega (arith, parts, b.behind, b.lines, h, lines_within (take k vs)) in
    record {
      units = omega (arith, a.units, b.units, length-append us vs);
      lines = omega (arith, a.lines, b.lines, lines-append us vs);
      within = omega (arith, b.within);
      before = ap (λ (n : ℕ). is_whole_lines (take n (us ++ vs))) (sym n) ∙ ap is_whole_lines (take-append-add us vs k) ∙ whole-append us (take k vs) some ∙ b.before;
      behind = ap (λ (n : ℕ). count_lines (drop n (us ++ vs))) (sym n) ∙ ap count_lines (drop-append-add us vs k) ∙ b.behind;
      high = b.high ∙ sym (high-append us vs (omega (arith, h, b.lines, lines_within vs)));
    }

unlined_end : (us : Text) → 1 ≤ length us → count_lines us ≡ 0 → is_whole_lines us ≡ false
unlined_end [] h e = absurd (omega (arith, h))
unlined_end (u ∷ []) h e = one (is_newline u) e
  where
    one : (b : Bool) → cond b 1 0 + 0 ≡ 0 → b ≡ false
    one true e = absurd (omega (arith, e))
    one false e = refl
unlined_end (u ∷ (v ∷ us)) h e = unlined_end (v ∷ us) (omega arith) (omega (arith, e))

pub not_zero : (n : ℕ) → (n ≡ 0 → ⊥) → (n == 0) ≡ false
not_zero n h = grind (arith, nat_tests)

itself : (n : ℕ) → (n == n) ≡ true
itself n = grind (arith, nat_tests)

-- a text is whole lines where nothing stands behind its last newline
pub tail_none : (s : Seen) (us : Text) → Sees s us → is_whole_lines us ≡ (s.tail == 0)
tail_none s us a = go (cases_eq s.tail 0)
  where
    go : (s.tail ≡ 0) ⊎ (s.tail ≡ 0 → ⊥) → is_whole_lines us ≡ (s.tail == 0)
    go (inl z) =
        let all : take (s.units - s.tail) us ≡ us = ap (λ (n : ℕ). take n us) (let e : s.units - s.tail ≡ length us = omega (arith, z, a.units) in e) ∙ take-length us in
        sym (ap is_whole_lines all) ∙ a.before ∙ ap (λ (n : ℕ). n == 0) (sym z)
    go (inr n) =
        let rear = drop (s.units - s.tail) us in
        let some : 1 ≤ length rear = omega (arith, n, a.units, a.within, length-drop (s.units - s.tail) us) in
        ap is_whole_lines (sym (take-append-drop (s.units - s.tail) us)) ∙ whole-append (take (s.units - s.tail) us) rear some ∙ unlined_end rear some a.behind
        ∙ sym (not_zero s.tail n)

-- what is seen of a text tells whether so many newlines are true of it
pub seen_holds : (l : ℕ) (s : Seen) (us : Text) → Sees s us → s.lines ≡ l → (l ≡ 0 → ⊥) → (s.tail == 0) ≡ holds l us
seen_holds l s us a e n =
    let counted : (count_lines us == l) ≡ true = ap (λ (k : ℕ). k == l) (sym a.lines ∙ e) ∙ itself l in
    sym (λ j. counted j && (not_zero l n j || tail_none s us a j))

pub few_lines : (s : Seen) (us : Text) → Sees s us → s.lines ≤ s.units
few_lines s us a = omega (arith, a.lines, a.units, lines_within us)

-- what is seen of two short texts stays in range
pub record HasRoom (s t : Seen) : Type 0 where
  pub units : s.units + t.units < 2 ^ 32
  pub lines : s.lines + t.lines < 2 ^ 32
  pub tail : s.tail + t.units < 2 ^ 32

pub seen_room : (s t : Seen) (us vs : Text) → Sees s us → Sees t vs → length us + length vs < 2 ^ 32 → HasRoom s t
seen_room s t us vs a b h = record {
  units = omega (arith, a.units, b.units, h);
  lines = omega (arith, a.units, b.units, few_lines s us a, few_lines t vs b, h);
  tail = omega (arith, a.units, b.units, a.within, h);
}

-- the last unit tells whether a text is whole lines
pub last_newline : (us : Text) → 1 ≤ length us → is_whole_lines us ≡ is_newline (get_or us (length us - 1) 0)
last_newline [] h = absurd (omega (arith, h))
last_newline (u ∷ []) h = refl
last_newline (u ∷ (v ∷ us)) h = last_newline (v ∷ us) (omega arith) ∙ ap (λ (k : ℕ). is_newline (get_or (u ∷ (v ∷ us)) k 0)) (let e : suc (length (v ∷ us) - 1) ≡ length (u ∷ (v ∷ us)) - 1 = omega arith in e)

-- the last unit tells whether a text ends in the first half of a pair
pub last_high : (us : Text) → 1 ≤ length us → ends_high us ≡ is_high (get_or us (length us - 1) 0)
last_high [] h = absurd (omega (arith, h))
last_high (u ∷ []) h = refl
last_high (u ∷ (v ∷ us)) h = last_high (v ∷ us) (omega arith) ∙ ap (λ (k : ℕ). is_high (get_or (u ∷ (v ∷ us)) k 0)) (let e : suc (length (v ∷ us) - 1) ≡ length (u ∷ (v ∷ us)) - 1 = omega arith in e)
