-- Going from gate to gate.
use Rattle.std.proofs.Common.{◌≡◌, inl, inr, ℕ, ◌+◌, ◌-◌, ◌<◌, List, [], ◌∷◌, ◌++◌, length, length-drop, get_or, map, take, drop, sym, ◌∙◌, ap, arith, true, false, cond, append_assoc, Option, Some, None}
use Rattle.std.proofs.lemmas.List.{append-nil, drop-take, map-append, take_all, get_or-take, get_or-drop}
use Rattle.std.proofs.lemmas.Bool.{cases_Bool, cond-true, cond-false}
use Rattle.ep_outside.specs.Disk.{Contents, ReadsAt}
use Rattle.ep_journal.specs.File.{size_at, opens_head, records_from, size_behind, gates_of, end_of}
use Rattle.ep_journal.specs.Walking.{SizeOn, ByteOn, Walks, IsFound}
use Rattle.ep_journal.proofs.File.{none_shut, skipped}
use Rattle.ep_journal.proofs.Mending.{steps, short_shut, same_head, walks}

pub sized : (head : List ℕ) (left n : ℕ) → Some n ≡ size_behind head left → (opens_head head left ≡ true) × (size_at head ≡ n)
sized head left n is = elim (cases_Bool (opens_head head left)) [
  | inl yes_open ↦ let s = is ∙ cond-true (opens_head head left) (Some (size_at head)) None yes_open in (yes_open, (cc))
  | inr shut ↦ let s = is ∙ cond-false (opens_head head left) (Some (size_at head)) None shut in absurd (cc)
]

pub unsized : (head : List ℕ) (left : ℕ) → None ≡ size_behind head left → opens_head head left ≡ false
unsized head left is = elim (cases_Bool (opens_head head left)) [
  | inl yes_open ↦ let s = is ∙ cond-true (opens_head head left) (Some (size_at head)) None yes_open in absurd (cc)
  | inr shut ↦ shut
]

pub one_more : {V : Type 0} (f : V → List ℕ) (list : List V) (v : V) (rest content after : List ℕ) (records : List (List ℕ)) (n : ℕ) → map f list ++ records_from 0 rest ≡ records → Some n ≡ size_behind rest (length rest) → f v ≡ content → content ≡ drop 5 (take (5 + n) rest) → after ≡ drop (5 + n) rest → map f (list ++ v ∷ []) ++ records_from 0 after ≡ records
one_more f list v rest content after records n inv is item here there =
    let s = sized rest (length rest) n is in
    let r : f v ≡ take n (drop 5 rest) = item ∙ here ∙ drop-take 5 n rest in
    ap (λ (l : List (List ℕ)). l ++ records_from 0 after) (map-append f list (v ∷ []))
    ∙ append_assoc (map f list) (f v ∷ []) (records_from 0 after)
    ∙ (λ i. map f list ++ r i ∷ records_from 0 (there i))
    ∙ ap (λ (l : List (List ℕ)). map f list ++ l) (sym (steps rest n s.0 s.1))
    ∙ inv

pub no_more : {V : Type 0} (f : V → List ℕ) (list : List V) (rest : List ℕ) (records : List (List ℕ)) → map f list ++ records_from 0 rest ≡ records → None ≡ size_behind rest (length rest) → map f list ≡ records
no_more f list rest records inv is =
    sym (append-nil (map f list)) ∙ ap (λ (l : List (List ℕ)). map f list ++ l) (sym (none_shut rest (unsized rest (length rest) is))) ∙ inv

-- on a disk
pub size_short : (told : Option Contents) (gate total : ℕ) → gate < total → total - gate < 6 → SizeOn told gate total None
size_short None gate total inside short = tt
size_short (Some c) gate total inside short = λ is.
    sym (cond-false (opens_head (drop gate c.seen) (length (drop gate c.seen))) (Some (size_at (drop gate c.seen))) None (short_shut (drop gate c.seen) (omega (arith, length-drop gate c.seen))))

pub size_read : (told : Option Contents) (gate total left : ℕ) (head : List ℕ) (size : Option ℕ) → ReadsAt told gate head → length head ≡ 5 → left ≡ total - gate → size ≡ size_behind head left → SizeOn told gate total size
size_read None gate total left head size reads five of_left is = tt
size_read (Some c) gate total left head size reads five of_left is = λ same.
    let bytes = drop gate c.seen in
    let e : take 5 head ≡ take 5 bytes = take_all 5 head (omega (arith, five)) ∙ reads ∙ ap (λ (k : ℕ). take k bytes) five in
    let h = same_head bytes head left e in
    let l : left ≡ length bytes = omega (arith, of_left, same, length-drop gate c.seen) in
    is ∙ (λ i. cond (h.0 i) (Some (h.1 i)) None) ∙ ap (λ (n : ℕ). size_behind bytes n) l

pub byte_read : (told : Option Contents) (at : ℕ) (bytes : List ℕ) (byte : ℕ) → ReadsAt told at bytes → length bytes ≡ 1 → byte ≡ get_or bytes 0 0 → ByteOn told at byte
byte_read None at bytes byte reads one is = tt
byte_read (Some c) at bytes byte reads one is = λ inside.
    is ∙ ap (λ (l : List ℕ). get_or l 0 0) (reads ∙ ap (λ (k : ℕ). take k (drop at c.seen)) one) ∙ get_or-take 1 (drop at c.seen) 0 0 (omega arith) ∙ get_or-drop at c.seen 0 0 ∙ (let e : at + 0 ≡ at = omega arith in ap (λ (k : ℕ). get_or c.seen k 0) e)

pub walk_starts : (told : Option Contents) (total : ℕ) → 8 < total → Walks told total [] 8
walk_starts None total long = tt
walk_starts (Some c) total long = λ is. record {
  inside = omega (arith, is);
  met = ap (λ (rs : List (List ℕ)). gates_of 8 rs) (sym (skipped 8 c.seen));
  to_come = ap (λ (rs : List (List ℕ)). end_of 8 rs) (sym (skipped 8 c.seen));
}

pub walk_goes_on : (told : Option Contents) (total n gate next : ℕ) (gates : List ℕ) → SizeOn told gate total (Some n) → Walks told total gates gate → next ≡ gate + (5 + n) → Walks told total (gates ++ gate ∷ []) next
walk_goes_on None total n gate next gates size walked to = tt
walk_goes_on (Some c) total n gate next gates size walked to = λ is.
    let w = walked is in
    let s = sized (drop gate c.seen) (length (drop gate c.seen)) n (size is) in
    let step = walks c.seen gate n w.inside s.0 s.1 in
    let first = step.0 in
    let rest = records_from 0 (drop (gate + (5 + n)) c.seen) in
    let on : (gate + (5 + length first)) ≡ next = omega (arith, step.1, to) in
    let there : records_from 0 (drop (gate + (5 + n)) c.seen) ≡ records_from 0 (drop next c.seen) = ap (λ (k : ℕ). records_from 0 (drop k c.seen)) (sym to) in
    record {
      inside = omega (arith, step.3, to);
      met = append_assoc gates (gate ∷ []) (gates_of next (records_from 0 (drop next c.seen)))
          ∙ (λ i. gates ++ gate ∷ gates_of (sym on i) (sym there i))
          ∙ ap (λ (rs : List (List ℕ)). gates ++ gates_of gate rs) (sym step.2) ∙ w.met;
      to_come = (λ i. end_of (sym on i) (sym there i)) ∙ ap (λ (rs : List (List ℕ)). end_of gate rs) (sym step.2) ∙ w.to_come;
    }

pub walk_ends : (told : Option Contents) (total gate : ℕ) (gates : List ℕ) → SizeOn told gate total None → Walks told total gates gate → IsFound told total gates gate
walk_ends None total gate gates size walked = tt
walk_ends (Some c) total gate gates size walked = λ is.
    let w = walked is in
    let none = none_shut (drop gate c.seen) (unsized (drop gate c.seen) (length (drop gate c.seen)) (size is)) in
    (sym (append-nil gates) ∙ ap (λ (rs : List (List ℕ)). gates ++ gates_of gate rs) (sym none) ∙ w.met, ap (λ (rs : List (List ℕ)). end_of gate rs) (sym none) ∙ w.to_come)
