-- What files stand for.
use Rattle.std.proofs.Common.{◌≡◌, ◌≢◌, inl, inr, ℕ, zero, suc, ◌+◌, ◌≤◌, ◌<◌, List, [], ◌∷◌, ◌++◌, length, get_or, take, drop, refl, sym, ◌∙◌, ap, subst, arith, true, false, ◌&&◌, ◌==◌, nat_lt, nat_le, length-append, length-drop}
use Rattle.std.proofs.lemmas.List.{length-take, take_at, take-take, get_or-take, drop-take}
use Rattle.std.proofs.lemmas.Bool.{cases_Bool, and_parts, and_from, and_left, eqb-true, leb-true, ltb-true, eq-eqb, le-leb, lt-ltb, ne_eqb, cond-true, cond-false}
use Rattle.std.specs.Int.{w32, from_be_bytes}
use Rattle.ep_journal.specs.File.{size_at, opens_head, is_open, record_at, records_from, end_of, gates_of}

-- the first gate stands behind the bytes that are skipped
pub skipped : (skip : ℕ) (bytes : List ℕ) → records_from skip bytes ≡ records_from 0 (drop skip bytes)
skipped zero bytes = refl
skipped (suc skip) [] = refl
skipped (suc skip) (b ∷ bytes) = skipped skip bytes

-- an open gate, by its parts
pub record Opens (bytes : List ℕ) : Type 0 where
  pub gate : get_or bytes 0 0 ≡ 1
  pub small : size_at bytes ≤ 67108864
  pub whole : size_at bytes + 5 < length bytes

pub opens : (bytes : List ℕ) → is_open bytes ≡ true → Opens bytes
unfolding opens_head
opens bytes yes_open =
    let a = and_parts (get_or bytes 0 0 == 1) (nat_le (size_at bytes) 67108864 && nat_lt (size_at bytes + 5) (length bytes)) yes_open in
    let b = and_parts (nat_le (size_at bytes) 67108864) (nat_lt (size_at bytes + 5) (length bytes)) a.1 in
    record { gate = eqb-true _ _ a.0; small = leb-true _ _ b.0; whole = ltb-true _ _ b.1 }

pub is_open_by : (bytes : List ℕ) → Opens bytes → is_open bytes ≡ true
unfolding opens_head
is_open_by bytes o = and_from _ _ (eq-eqb _ _ o.gate) (and_from _ _ (le-leb _ _ o.small) (lt-ltb _ _ o.whole))

pub shut_gate : (bytes : List ℕ) → get_or bytes 0 0 ≢ 1 → is_open bytes ≡ false
unfolding opens_head
shut_gate bytes shut = and_left _ _ (ne_eqb _ _ shut)

pub none_shut : (bytes : List ℕ) → is_open bytes ≡ false → records_from 0 bytes ≡ []
none_shut [] shut = refl
none_shut (b ∷ bytes) shut = cond-false _ _ _ shut

pub one_open : (b : ℕ) (bytes : List ℕ) → is_open (b ∷ bytes) ≡ true → records_from 0 (b ∷ bytes) ≡ record_at (b ∷ bytes) ∷ records_from (size_at (b ∷ bytes) + 4) bytes
one_open b bytes yes_open = cond-true _ _ _ yes_open

-- bytes that go on alike for a whole open block, and have a byte behind it, have the same block
record Alike (xs ys : List ℕ) : Type 0 where
  opens : Opens ys
  number : size_at ys ≡ size_at xs
  bytes : record_at ys ≡ record_at xs

same_take : (k m : ℕ) (xs ys : List ℕ) → k ≤ m → take m ys ≡ take m xs → take k ys ≡ take k xs
same_take k m xs ys le same = sym (take-take k m ys le) ∙ ap (λ (l : List ℕ). take k l) same ∙ take-take k m xs le

same_size : (xs ys : List ℕ) → take 5 ys ≡ take 5 xs → size_at ys ≡ size_at xs
unfolding size_at
same_size xs ys same = ap (λ (l : List ℕ). from_be_bytes w32 l) (sym (drop-take 1 4 ys) ∙ ap (λ (l : List ℕ). drop 1 l) same ∙ drop-take 1 4 xs)

same_record : (xs ys : List ℕ) → size_at ys ≡ size_at xs → take (5 + size_at xs) ys ≡ take (5 + size_at xs) xs → record_at ys ≡ record_at xs
unfolding record_at
same_record xs ys number same = ap (λ (n : ℕ). take n (drop 5 ys)) number ∙ sym (drop-take 5 (size_at xs) ys) ∙ ap (λ (l : List ℕ). drop 5 l) same ∙ drop-take 5 (size_at xs) xs

alike : (xs ys : List ℕ) (m : ℕ) → Opens xs → size_at xs + 5 ≤ m → take m ys ≡ take m xs → size_at xs + 5 < length ys → Alike xs ys
alike xs ys m o most same longer =
    let number = same_size xs ys (same_take 5 m xs ys (omega arith) same) in
    let gate : get_or ys 0 0 ≡ get_or xs 0 0 = sym (get_or-take m ys 0 0 (omega arith)) ∙ ap (λ (l : List ℕ). get_or l 0 0) same ∙ get_or-take m xs 0 0 (omega arith) in
    record {
      opens = record { gate = gate ∙ o.gate; small = omega (arith, o.small, number); whole = omega (arith, number) };
      number = number;
      bytes = same_record xs ys number (same_take (5 + size_at xs) m xs ys (omega arith) same);
    }

-- where the gates before the records are whole, what stands behind their end can be anything of at least one byte
pub record Grows (skip : ℕ) (file : List ℕ) : Type 0 where
  pub inside : end_of skip (records_from skip file) < length file
  pub after : skip ≤ end_of skip (records_from skip file)
  pub grows : (tail : List ℕ) → 1 ≤ length tail → records_from skip (take (end_of skip (records_from skip file)) file ++ tail) ≡ records_from skip file ++ records_from 0 tail
  pub shut : is_open (drop (end_of skip (records_from skip file)) file) ≡ false

end_more : (first : ℕ) (rs : List (List ℕ)) → end_of (suc first) rs ≡ suc (end_of first rs)
end_more first [] = refl
end_more first (r ∷ rs) = ap (λ (k : ℕ). end_of k rs) (omega arith) ∙ end_more (first + (5 + length r)) rs

pub length-record : (bytes : List ℕ) → Opens bytes → length (record_at bytes) ≡ size_at bytes
unfolding record_at
length-record bytes o = omega (arith, length-take (size_at bytes) (drop 5 bytes), length-drop 5 bytes)

pub grown : (skip : ℕ) (file : List ℕ) → skip < length file → Grows skip file
grown skip [] lt = absurd (omega arith)
grown (suc skip) (b ∷ bytes) lt =
    let h = grown skip bytes (omega arith) in
    let rs = records_from skip bytes in
    let e = end_more skip rs in
    record {
      inside = omega (arith, e, h.inside);
      after = omega (arith, e, h.after);
      grows = λ tail some. ap (λ (k : ℕ). records_from (suc skip) (take k (b ∷ bytes) ++ tail)) e ∙ h.grows tail some;
      shut = ap (λ (k : ℕ). is_open (drop k (b ∷ bytes))) e ∙ h.shut;
    }
grown zero (b ∷ bytes) lt = elim (cases_Bool (is_open (b ∷ bytes))) [
  | inr shut ↦
      let none = none_shut (b ∷ bytes) shut in
      let here : end_of 0 (records_from 0 (b ∷ bytes)) ≡ 0 = ap (λ (rs : List (List ℕ)). end_of 0 rs) none in
      record {
        inside = omega (arith, here);
        after = omega arith;
        grows = λ tail some. ap (λ (k : ℕ). records_from 0 (take k (b ∷ bytes) ++ tail)) here ∙ ap (λ (rs : List (List ℕ)). rs ++ records_from 0 tail) (sym none);
        shut = ap (λ (k : ℕ). is_open (drop k (b ∷ bytes))) here ∙ shut;
      }
  | inl yes_open ↦
      let o = opens (b ∷ bytes) yes_open in
      let n = size_at (b ∷ bytes) in
      let h = grown (n + 4) bytes (omega (arith, o.whole)) in
      let rs = records_from (n + 4) bytes in
      let one = one_open b bytes yes_open in
      let e : end_of 0 (records_from 0 (b ∷ bytes)) ≡ suc (end_of (n + 4) rs) =
      ap (λ (rs : List (List ℕ)). end_of 0 rs) one ∙ ap (λ (k : ℕ). end_of k rs) (omega (arith, length-record (b ∷ bytes) o)) ∙ end_more (n + 4) rs in
      record {
        inside = omega (arith, e, h.inside);
        after = omega arith;
        grows = λ tail some.
            let p = end_of (n + 4) rs in
            let ys = take p bytes ++ tail in
            let same : take (suc p) (b ∷ ys) ≡ take (suc p) (b ∷ bytes) = ap (λ (l : List ℕ). b ∷ l) (take_at (take p bytes) tail p (omega (arith, length-take p bytes, h.inside))) in
            let like = alike (b ∷ bytes) (b ∷ ys) (suc p) o (omega (arith, h.after)) same (omega (arith, length-append (take p bytes) tail, length-take p bytes, h.inside, h.after)) in
            ap (λ (k : ℕ). records_from 0 (take k (b ∷ bytes) ++ tail)) e
            ∙ one_open b ys (is_open_by (b ∷ ys) like.opens)
            ∙ (λ i. like.bytes i ∷ records_from (like.number i + 4) ys)
            ∙ ap (λ (l : List (List ℕ)). record_at (b ∷ bytes) ∷ l) (h.grows tail some)
            ∙ ap (λ (l : List (List ℕ)). l ++ records_from 0 tail) (sym one);
        shut = ap (λ (k : ℕ). is_open (drop k (b ∷ bytes))) e ∙ h.shut;
      }
]

gates_more : (first : ℕ) (rs : List (List ℕ)) (i : ℕ) → i < length rs → get_or (gates_of (suc first) rs) i 0 ≡ suc (get_or (gates_of first rs) i 0)
gates_more first [] i lt = absurd (omega arith)
gates_more first (r ∷ rs) zero lt = refl
gates_more first (r ∷ rs) (suc i) lt = let e : suc first + (5 + length r) ≡ suc (first + (5 + length r)) = omega arith in ap (λ (k : ℕ). get_or (gates_of k rs) i 0) e ∙ gates_more (first + (5 + length r)) rs i (omega arith)

here : (b : ℕ) (bytes : List ℕ) → Opens (b ∷ bytes) → record_at (b ∷ bytes) ≡ take (length (record_at (b ∷ bytes))) (drop 5 (b ∷ bytes))
unfolding record_at
here b bytes o = let e : length (take (size_at (b ∷ bytes)) (drop 5 (b ∷ bytes))) ≡ size_at (b ∷ bytes) = omega (arith, length-take (size_at (b ∷ bytes)) (drop 5 (b ∷ bytes)), length-drop 5 (b ∷ bytes), o.whole) in ap (λ (k : ℕ). take k (drop 5 (b ∷ bytes))) (sym e)

-- each record stands five bytes behind its gate
pub record_at_gate : (skip : ℕ) (file : List ℕ) (i : ℕ) → i < length (records_from skip file) → get_or (records_from skip file) i [] ≡ take (length (get_or (records_from skip file) i [])) (drop (get_or (gates_of skip (records_from skip file)) i 0 + 5) file)
record_at_gate skip [] i lt = absurd (omega arith)
record_at_gate (suc skip) (b ∷ bytes) i lt =
    let rs = records_from skip bytes in
    let e : get_or (gates_of (suc skip) rs) i 0 + 5 ≡ suc (get_or (gates_of skip rs) i 0 + 5) = omega (arith, gates_more skip rs i lt) in
    record_at_gate skip bytes i lt ∙ ap (λ (k : ℕ). take (length (get_or rs i [])) (drop k (b ∷ bytes))) (sym e)
record_at_gate zero (b ∷ bytes) i lt = elim (cases_Bool (is_open (b ∷ bytes))) [
  | inr shut ↦ absurd (omega (arith, ap (λ (rs : List (List ℕ)). length rs) (none_shut (b ∷ bytes) shut)))
  | inl yes_open ↦
      let o = opens (b ∷ bytes) yes_open in
      let n = size_at (b ∷ bytes) in
      let rest = records_from (n + 4) bytes in
      let one = one_open b bytes yes_open in
      subst (λ (rs : List (List ℕ)). get_or rs i [] ≡ take (length (get_or rs i [])) (drop (get_or (gates_of 0 rs) i 0 + 5) (b ∷ bytes))) (sym one)
      (first_or_later b bytes o rest (λ j l. record_at_gate (n + 4) bytes j l) i (omega (arith, ap (λ (rs : List (List ℕ)). length rs) one)))
]
  where
    first_or_later : (b : ℕ) (bytes : List ℕ) → Opens (b ∷ bytes) → (rest : List (List ℕ)) → ((j : ℕ) → j < length rest → get_or rest j [] ≡ take (length (get_or rest j [])) (drop (get_or (gates_of (size_at (b ∷ bytes) + 4) rest) j 0 + 5) bytes)) → (i : ℕ) → i < suc (length rest)
        → get_or (record_at (b ∷ bytes) ∷ rest) i [] ≡ take (length (get_or (record_at (b ∷ bytes) ∷ rest) i [])) (drop (get_or (gates_of 0 (record_at (b ∷ bytes) ∷ rest)) i 0 + 5) (b ∷ bytes))
    first_or_later b bytes o rest later zero lt = here b bytes o
    first_or_later b bytes o rest later (suc j) lt =
        let n = size_at (b ∷ bytes) in
        let first : 0 + (5 + length (record_at (b ∷ bytes))) ≡ suc (n + 4) = omega (arith, length-record (b ∷ bytes) o) in
        let e : get_or (gates_of (0 + (5 + length (record_at (b ∷ bytes)))) rest) j 0 + 5 ≡ suc (get_or (gates_of (n + 4) rest) j 0 + 5) =
        omega (arith, ap (λ (k : ℕ). get_or (gates_of k rest) j 0) first, gates_more (n + 4) rest j (omega arith)) in
        later j (omega arith) ∙ ap (λ (k : ℕ). take (length (get_or rest j [])) (drop k (b ∷ bytes))) (sym e)

end_after : (first : ℕ) (rs : List (List ℕ)) → first ≤ end_of first rs
end_after first [] = omega arith
end_after first (r ∷ rs) = omega (arith, end_after (first + (5 + length r)) rs)

-- where the next gate stands
pub next_gate : (first : ℕ) (rs : List (List ℕ)) (i : ℕ) → i < length rs → (get_or (gates_of first rs ++ end_of first rs ∷ []) (i + 1) 0 ≡ get_or (gates_of first rs) i 0 + (5 + length (get_or rs i []))) × (get_or (gates_of first rs) i 0 + (5 + length (get_or rs i [])) ≤ end_of first rs)
next_gate first [] i lt = absurd (omega arith)
next_gate first (r ∷ []) zero lt = (refl, omega arith)
next_gate first (r ∷ s ∷ rs) zero lt = (refl, end_after (first + (5 + length r)) (s ∷ rs))
next_gate first (r ∷ rs) (suc i) lt =
    let next = first + (5 + length r) in
    let h = next_gate next rs i (omega arith) in
    let e : suc i + 1 ≡ suc (i + 1) = omega arith in
    (ap (λ (k : ℕ). get_or (first ∷ (gates_of next rs ++ end_of next rs ∷ [])) k 0) e ∙ h.0, h.1)

pub length-gates : (first : ℕ) (rs : List (List ℕ)) → length (gates_of first rs) ≡ length rs
length-gates first [] = refl
length-gates first (r ∷ rs) = ap suc (length-gates (first + (5 + length r)) rs)
