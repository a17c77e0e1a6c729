-- What is seen of a text after a splice.
use Rattle.std.proofs.Common.{◌≡◌, List, [], ◌∷◌, refl, ap₂, ℕ, ◌+◌, ◌-◌, ◌≤◌, ◌<◌, ◌++◌, length, take, drop, sym, ap, ◌∙◌, arith, length-append, length-take}
use Rattle.std.proofs.lemmas.List.{take-append-le, drop-append-le, take-append-drop}
use Rattle.std.proofs.Math.Seq.{take-append-add, drop-append-add}
use Rattle.ep_units.specs.Text.{Text}
use Rattle.ep_cs.specs.Lines.{count_lines, is_whole_lines}
use Rattle.ep_block_parts.specs.Seen.{Sees, ends_high}
use Rattle.ep_block_parts.specs.declared.seen.Seen.{Seen}
use Rattle.ep_block_parts.proofs.Texts.{lines-append, whole-append, high-append}

-- a front and a middle, and so many units of the rest
taken : (front middle rest : Text) (k n : ℕ) → n ≡ length front + (length middle + k) → take n (front ++ (middle ++ rest)) ≡ front ++ (middle ++ take k rest)
taken front middle rest k n e =
    ap (λ (n : ℕ). take n (front ++ (middle ++ rest))) e ∙ take-append-add front (middle ++ rest) (length middle + k) ∙ ap (λ us. front ++ us) (take-append-add middle rest k)

dropped : (front middle rest : Text) (k n : ℕ) → n ≡ length front + (length middle + k) → drop n (front ++ (middle ++ rest)) ≡ drop k rest
dropped front middle rest k n e =
    ap (λ (n : ℕ). drop n (front ++ (middle ++ rest))) e ∙ drop-append-add front (middle ++ rest) (length middle + k) ∙ drop-append-add middle rest k

lines : (front middle rest : Text) → count_lines (front ++ (middle ++ rest)) ≡ count_lines front + (count_lines middle + count_lines rest)
lines front middle rest = omega (arith, lines-append front (middle ++ rest), lines-append middle rest)

units : (front middle rest : Text) → length (front ++ (middle ++ rest)) ≡ length front + (length middle + length rest)
units front middle rest = omega (arith, length-append front (middle ++ rest), length-append middle rest)

whole : (front middle rest : Text) → 1 ≤ length rest → is_whole_lines (front ++ (middle ++ rest)) ≡ is_whole_lines rest
whole front middle rest h = whole-append front (middle ++ rest) (omega (arith, h, length-append middle rest)) ∙ whole-append middle rest h

high : (front middle rest : Text) → 1 ≤ length rest → ends_high (front ++ (middle ++ rest)) ≡ ends_high rest
high front middle rest h = high-append front (middle ++ rest) (omega (arith, h, length-append middle rest)) ∙ high-append middle rest h

-- the last newline stands behind the splice
pub spliced_before : (s : Seen) (front old new rest : Text) → Sees s (front ++ (old ++ rest)) → s.tail < length rest
    → Sees (record { units = (s.units - length old) + length new; lines = (s.lines - count_lines old) + count_lines new; tail = s.tail; high = s.high }) (front ++ (new ++ rest))
spliced_before s front old new rest a h =
    let k = length rest - s.tail in
    let all : s.units ≡ length front + (length old + length rest) = a.units ∙ units front old rest in
    let n : s.units - s.tail ≡ length front + (length old + k) = omega (arith, all, h) in
    let m : (s.units - length old) + length new - s.tail ≡ length front + (length new + k) = omega (arith, all, h) in
    let some : 1 ≤ length (take k rest) = omega (arith, h, length-take k rest) in
    let rear : 1 ≤ length rest = omega (arith, h) in
    record {
      units = omega (arith, all, units front new rest);
      lines = omega (arith, a.lines, lines front old rest, lines front new rest);
      within = omega (arith, all, h);
      before =
          ap is_whole_lines (taken front new rest k _ m) ∙ whole front new (take k rest) some ∙ sym (whole front old (take k rest) some)
          ∙ sym (ap is_whole_lines (taken front old rest k _ n)) ∙ a.before;
      behind = ap count_lines (dropped front new rest k _ m) ∙ sym (ap count_lines (dropped front old rest k _ n)) ∙ a.behind;
      high = a.high ∙ high front old rest rear ∙ sym (high front new rest rear);
    }

-- it stands before the splice, which brings none
pub spliced_behind : (s : Seen) (front old new rest : Text) → Sees s (front ++ (old ++ rest)) → 1 ≤ length rest → length old + length rest ≤ s.tail → count_lines new ≡ 0
    → Sees (record { units = (s.units - length old) + length new; lines = (s.lines - count_lines old) + count_lines new; tail = (s.tail - length old) + length new; high = s.high }) (front ++ (new ++ rest))
spliced_behind s front old new rest a some h none =
    let k = s.units - s.tail in
    let all : s.units ≡ length front + (length old + length rest) = a.units ∙ units front old rest in
    let same : (s.units - length old) + length new - ((s.tail - length old) + length new) ≡ k = omega (arith, all, h, a.within) in
    let room : k ≤ length front = omega (arith, all, h) in
    let was : count_lines (drop k front) + (count_lines old + count_lines rest) ≡ 0 =
    sym (lines (drop k front) old rest) ∙ sym (ap count_lines (drop-append-le k front (old ++ rest) room)) ∙ a.behind in
    record {
      units = omega (arith, all, units front new rest);
      lines = omega (arith, a.lines, lines front old rest, lines front new rest);
      within = omega (arith, all, h, a.within);
      before =
          ap (λ (n : ℕ). is_whole_lines (take n (front ++ (new ++ rest)))) same ∙ ap is_whole_lines (take-append-le k front (new ++ rest) room)
          ∙ sym (ap is_whole_lines (take-append-le k front (old ++ rest) room)) ∙ a.before;
      behind =
          ap (λ (n : ℕ). count_lines (drop n (front ++ (new ++ rest)))) same ∙ ap count_lines (drop-append-le k front (new ++ rest) room)
          ∙ (let e : count_lines (drop k front ++ (new ++ rest)) ≡ 0 = omega (arith, lines (drop k front) new rest, was, none) in e);
      high = a.high ∙ high front old rest some ∙ sym (high front new rest some);
    }

-- a part of a text has no more newlines than it
pub fewer_lines : (at n : ℕ) (us : Text) → count_lines (take n (drop at us)) ≤ count_lines us
fewer_lines at n us =
    let rear = drop at us in
    omega (arith, lines-append (take at us) rear, ap count_lines (take-append-drop at us), lines-append (take n rear) (drop n rear), ap count_lines (take-append-drop n rear))
