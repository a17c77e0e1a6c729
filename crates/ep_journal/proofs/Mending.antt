-- What a crash leaves in each step of an opening.
use Rattle.std.proofs.Common.{◌≡◌, inl, inr, ℕ, suc, ◌+◌, ◌≤◌, ◌<◌, List, [], ◌∷◌, ◌++◌, length, get_or, take, drop, refl, sym, ◌∙◌, ap, subst, arith, true, false, ◌&&◌, ◌==◌, nat_lt, nat_le, append_assoc, length-append, length-drop, take-append-drop, Some}
use Rattle.std.proofs.lemmas.List.{length-take, take_at, drop_more, append-nil, drop-drop, drop_all, take-take, get_or-take, get_or_at, take-append-le, drop-take, set_split}
use Rattle.std.proofs.lemmas.Bool.{cases_eq, and_left, and_right, cond-false, le-ltb}
use Rattle.std.specs.Int.{w32, from_be_bytes}
use Rattle.ep_outside.specs.Disk.{written}
use Rattle.ep_outside.specs.Images.{Torn, Front}
use Rattle.ep_journal.specs.File.{header, size_at, opens_head, is_open, record_at, records_from, records_of, end_of, gates_of, closed_gate, stands_for, opened, IsAtRest, StandsNear}
use Rattle.ep_journal.proofs.File.{skipped, opens, shut_gate, none_shut, one_open, grown, length-record}
use Rattle.ep_journal.proofs.Append.{stands, regrown_shut}

-- only the first five bytes and the count of bytes say whether a gate is open
pub same_head : (xs ys : List ℕ) (left : ℕ) → take 5 ys ≡ take 5 xs → (opens_head ys left ≡ opens_head xs left) × (size_at ys ≡ size_at xs)
unfolding opens_head size_at
same_head xs ys left same =
    let number : from_be_bytes w32 (take 4 (drop 1 ys)) ≡ from_be_bytes w32 (take 4 (drop 1 xs)) = ap (λ (l : List ℕ). from_be_bytes w32 l) (sym (drop-take 1 4 ys) ∙ ap (λ (l : List ℕ). drop 1 l) same ∙ drop-take 1 4 xs) in
    let gate : get_or ys 0 0 ≡ get_or xs 0 0 = sym (get_or-take 5 ys 0 0 (omega arith)) ∙ ap (λ (l : List ℕ). get_or l 0 0) same ∙ get_or-take 5 xs 0 0 (omega arith) in
    ((λ i. (gate i == 1) && (nat_le (number i) 67108864 && nat_lt (number i + 5) left)), number)

pub short_shut : (bytes : List ℕ) → length bytes ≤ 5 → is_open bytes ≡ false
unfolding opens_head
short_shut bytes short = and_right (get_or bytes 0 0 == 1) _ (and_right (nat_le (size_at bytes) 67108864) _ (le-ltb (size_at bytes + 5) (length bytes) (omega arith)))

-- a file of at most 9 bytes stands for none
pub short_none : (file : List ℕ) → length file ≤ 9 → stands_for file ≡ Some []
short_none file short =
    cond-false _ _ _ (and_left _ _ (le-ltb 9 (length file) short))
    ∙ ap (λ (rs : List (List ℕ)). Some rs) (skipped 8 file ∙ none_shut (drop 8 file) (short_shut (drop 8 file) (omega (arith, length-drop 8 file))))

abbrev pub fresh : List ℕ
fresh = header ++ 0 ∷ []

fresh_none : records_of fresh ≡ []
fresh_none = skipped 8 fresh ∙ none_shut (0 ∷ []) (shut_gate (0 ∷ []) (λ e. omega arith))

pub fresh_rest : IsAtRest fresh
fresh_rest = record {
  begins = refl;
  ends = ap (λ (rs : List (List ℕ)). end_of 8 rs + 1) fresh_none;
  closed = ap (λ (rs : List (List ℕ)). get_or fresh (end_of 8 rs) 0) fresh_none;
}

pub fresh_gate : closed_gate fresh ≡ 8
fresh_gate = ap (λ (rs : List (List ℕ)). end_of 8 rs) fresh_none

pub fresh_gates : gates_of 8 (records_of fresh) ≡ []
fresh_gates = ap (λ (rs : List (List ℕ)). gates_of 8 rs) fresh_none

-- the header is written over a short file
pub torn_fresh : (file c : List ℕ) → length file ≤ 9 → Torn 0 9 file c → StandsNear file c
torn_fresh file c short torn = inl (short_none c (omega (arith, torn.no_longer)) ∙ sym (short_none file short))

pub written_fresh : (file : List ℕ) → length file ≤ 9 → written file 0 fresh ≡ fresh
written_fresh file short = ap (λ (l : List ℕ). fresh ++ l) (drop_all 9 file short) ∙ append-nil fresh

module _ (file : List ℕ) (begins : take 8 file ≡ header) (long : 9 < length file) where
  abbrev p : ℕ
  p = closed_gate file

  abbrev front : List ℕ
  front = take p file

  inside : p < length file
  inside = (grown 8 file (omega arith)).inside

  after : 8 ≤ p
  after = (grown 8 file (omega arith)).after

  length-front : length front ≡ p
  length-front = omega (arith, length-take p file, inside)

  abbrev pub zeroed : List ℕ
  zeroed = front ++ 0 ∷ drop (p + 1) file

  abbrev pub done : List ℕ
  done = front ++ 0 ∷ []

  zero_shut : (tail : List ℕ) → is_open (0 ∷ tail) ≡ false
  zero_shut tail = shut_gate (0 ∷ tail) (λ e. omega arith)

  keeps : (tail : List ℕ) → 1 ≤ length tail → is_open tail ≡ false → stands_for (front ++ tail) ≡ stands_for file
  keeps tail some shut = regrown_shut file tail begins (omega arith) some shut ∙ sym (stands file begins)

  opened_is : opened file ≡ front ++ 1 ∷ drop (p + 1) file
  opened_is = let e : suc p ≡ p + 1 = omega arith in set_split file p 1 inside ∙ ap (λ (k : ℕ). front ++ 1 ∷ drop k file) e

  -- 00 is written at the first closed gate
  pub torn_zero : (c : List ℕ) → Torn p 1 file c → StandsNear file c
  torn_zero c torn =
      let gate = get_or c p 0 in
      let same : c ≡ front ++ gate ∷ drop (p + 1) file =
      sym (take-append-drop p c) ∙ ap (λ (l : List ℕ). l ++ drop p c) torn.before
      ∙ ap (λ (l : List ℕ). front ++ l) (drop_more c p 0 (omega (arith, torn.no_shorter, inside)) ∙ ap (λ (l : List ℕ). gate ∷ l) torn.after) in
      elim (cases_eq gate 1) [
        | inl one ↦ inr (ap stands_for (same ∙ ap (λ (g : ℕ). front ++ g ∷ drop (p + 1) file) one ∙ sym opened_is))
        | inr shut ↦ inl (ap stands_for same ∙ keeps (gate ∷ drop (p + 1) file) (omega arith) (shut_gate _ shut))
      ]

  pub written_zero : written file p (0 ∷ []) ≡ zeroed
  written_zero = append_assoc front (0 ∷ []) (drop (p + 1) file)

  pub already_zero : get_or file p 0 ≡ 0 → file ≡ zeroed
  already_zero is = sym (take-append-drop p file) ∙ ap (λ (l : List ℕ). front ++ l) (drop_more file p 0 inside ∙ ap (λ (g : ℕ). g ∷ drop (p + 1) file) is)

  pub length-zeroed : length zeroed ≡ length file
  length-zeroed = omega (arith, length-append front (0 ∷ drop (p + 1) file), length-front, length-drop (p + 1) file, inside)

  split : zeroed ≡ done ++ drop (p + 1) file
  split = sym (append_assoc front (0 ∷ []) (drop (p + 1) file))

  length-done : length done ≡ p + 1
  length-done = omega (arith, length-append front (0 ∷ []), length-front)

  -- what stands behind the gate is cut off
  pub front_zero : (c : List ℕ) → Front (p + 1) zeroed c → StandsNear file c
  front_zero c f =
      let tail = drop (p + 1) c in
      let head : take (p + 1) c ≡ done =
      ap (λ (l : List ℕ). take (p + 1) l) f.front ∙ take-take (p + 1) (length c) zeroed f.no_shorter ∙ ap (λ (l : List ℕ). take (p + 1) l) split ∙ take_at done (drop (p + 1) file) (p + 1) length-done in
      let same : c ≡ front ++ 0 ∷ tail = sym (take-append-drop (p + 1) c) ∙ ap (λ (l : List ℕ). l ++ tail) head ∙ append_assoc front (0 ∷ []) tail in
      inl (ap stands_for same ∙ keeps (0 ∷ tail) (omega arith) (zero_shut tail))

  pub zeroed_stands : stands_for zeroed ≡ stands_for file
  zeroed_stands = keeps (0 ∷ drop (p + 1) file) (omega arith) (zero_shut (drop (p + 1) file))

  pub cut_zero : take (p + 1) zeroed ≡ done
  cut_zero = ap (λ (l : List ℕ). take (p + 1) l) split ∙ take_at done (drop (p + 1) file) (p + 1) length-done

  pub nothing_behind : length file ≡ p + 1 → zeroed ≡ done
  nothing_behind is = split ∙ ap (λ (l : List ℕ). done ++ l) (drop_all (p + 1) file (omega arith)) ∙ append-nil done

  pub done_records : records_of done ≡ records_of file
  done_records = (grown 8 file (omega arith)).grows (0 ∷ []) (omega arith) ∙ ap (λ (rs : List (List ℕ)). records_of file ++ rs) (none_shut (0 ∷ []) (zero_shut [])) ∙ append-nil (records_of file)

  pub done_rest : IsAtRest done
  done_rest =
      let e : closed_gate done ≡ p = ap (λ (rs : List (List ℕ)). end_of 8 rs) done_records in
      record {
        begins = take-append-le 8 front (0 ∷ []) (omega (arith, length-front, after)) ∙ take-take 8 p file after ∙ begins;
        ends = omega (arith, e, length-done);
        closed = ap (λ (k : ℕ). get_or done k 0) e ∙ get_or_at front 0 [] 0 p length-front;
      }

-- one step from gate to gate
pub walks : (file : List ℕ) (gate n : ℕ) → gate < length file → is_open (drop gate file) ≡ true → size_at (drop gate file) ≡ n → (rest : List ℕ) × (length rest ≡ n) × (records_from 0 (drop gate file) ≡ rest ∷ records_from 0 (drop (gate + (5 + n)) file)) × (gate + (5 + n) < length file)
walks file gate n inside yes_open is =
    let bytes = drop gate file in
    let whole = drop_more file gate 0 inside in
    let g = get_or file gate 0 in
    let behind = drop (gate + 1) file in
    let yes_here : is_open (g ∷ behind) ≡ true = subst (λ (l : List ℕ). is_open l ≡ true) whole yes_open in
    let size_here : size_at (g ∷ behind) ≡ n = subst (λ (l : List ℕ). size_at l ≡ n) whole is in
    let o = opens (g ∷ behind) yes_here in (
      record_at (g ∷ behind),
      length-record (g ∷ behind) o ∙ size_here,
      ap (λ (l : List ℕ). records_from 0 l) whole ∙ one_open g behind yes_here
          ∙ ap (λ (l : List (List ℕ)). record_at (g ∷ behind) ∷ l) (skipped (size_at (g ∷ behind) + 4) behind ∙ ap (λ (l : List ℕ). records_from 0 l) (drop-drop (size_at (g ∷ behind) + 4) (gate + 1) file ∙ ap (λ (k : ℕ). drop k file) (omega (arith, size_here)))),
      omega (arith, o.whole, size_here, length-drop (gate + 1) file),
    )

-- one block more at the front
pub steps : (bytes : List ℕ) (n : ℕ) → is_open bytes ≡ true → size_at bytes ≡ n → records_from 0 bytes ≡ take n (drop 5 bytes) ∷ records_from 0 (drop (5 + n) bytes)
unfolding record_at
steps [] n yes_open is = absurd (omega (arith, (opens [] yes_open).whole))
steps (b ∷ bytes) n yes_open is =
    let e : 5 + n ≡ suc (size_at (b ∷ bytes) + 4) = omega (arith, is) in
    one_open b bytes yes_open
    ∙ (λ i. take (is i) (drop 5 (b ∷ bytes)) ∷ skipped (size_at (b ∷ bytes) + 4) bytes i)
    ∙ ap (λ (k : ℕ). take n (drop 5 (b ∷ bytes)) ∷ records_from 0 (drop k (b ∷ bytes))) (sym e)
