-- What a crash leaves in each step of an append.
use Rattle.std.proofs.Common.{◌≡◌, inl, inr, ⊎_elim, ℕ, ◌+◌, ◌≤◌, ◌<◌, ◌^◌, List, [], ◌∷◌, ◌++◌, length, get_or, take, drop, refl, sym, ◌∙◌, ap, arith, Bool, false, not, cond, ◌==◌, append_assoc, length-append, take-append-drop, Some}
use Rattle.std.proofs.lemmas.List.{length-take, take_at, drop_at, drop_more, append-nil, take_all, drop_all, take-take, get_or-take, get_or_at, take-append-le}
use Rattle.std.proofs.lemmas.Bool.{cases_Bool, cases_lt, and_right, cond-false, both_ways, eqb-true}
use Rattle.std.specs.Prelude.{bytes_eq}
use Rattle.std.specs.Int.{w32, to_be_bytes, from_be_bytes}
use Rattle.std.proofs.lemmas.Nat.{from_be_bytes-to_be_bytes_4}
use Rattle.ep_outside.specs.Disk.{written}
use Rattle.ep_outside.specs.Images.{Torn}
use Rattle.ep_journal.specs.File.{header, size_at, is_open, record_at, records_from, records_of, end_of, gates_of, closed_gate, is_foreign, stands_for, IsAtRest, frame_of, IsByGate, IsUnfinished}
use Rattle.ep_journal.specs.Repair.{staged_file, grown_file}
use Rattle.ep_journal.proofs.File.{skipped, is_open_by, shut_gate, none_shut, one_open, grown}

pub native : (file : List ℕ) → take 8 file ≡ header → is_foreign file ≡ false
native file begins = and_right _ _ (ap (λ (l : List ℕ). not (bytes_eq l header)) begins)

pub stands : (file : List ℕ) → take 8 file ≡ header → stands_for file ≡ Some (records_of file)
stands file begins = cond-false _ _ _ (native file begins)

-- a journal up to its closed gate, with something else from there on
pub regrown : (file tail : List ℕ) → take 8 file ≡ header → 8 < length file → 1 ≤ length tail → stands_for (take (closed_gate file) file ++ tail) ≡ Some (records_of file ++ records_from 0 tail)
regrown file tail begins long some =
    let g = grown 8 file long in
    let p = closed_gate file in
    let eight : take 8 (take p file ++ tail) ≡ header = take-append-le 8 (take p file) tail (omega (arith, length-take p file, g.inside, g.after)) ∙ take-take 8 p file g.after ∙ begins in
    stands _ eight ∙ ap (λ (rs : List (List ℕ)). Some rs) (g.grows tail some)

-- and where that begins with a closed gate
pub regrown_shut : (file tail : List ℕ) → take 8 file ≡ header → 8 < length file → 1 ≤ length tail → is_open tail ≡ false → stands_for (take (closed_gate file) file ++ tail) ≡ Some (records_of file)
regrown_shut file tail begins long some shut =
    regrown file tail begins long some ∙ ap (λ (rs : List (List ℕ)). Some (records_of file ++ rs)) (none_shut tail shut) ∙ ap (λ (rs : List (List ℕ)). Some rs) (append-nil (records_of file))

pub length_frame : (rec : List ℕ) → length (frame_of rec) ≡ length rec + 5
length_frame rec = omega (arith, length-append (to_be_bytes w32 (length rec)) (rec ++ 0 ∷ []), length-append rec (0 ∷ []))

size_frame : (rec : List ℕ) → length rec < 2 ^ 32 → size_at (1 ∷ frame_of rec) ≡ length rec
unfolding size_at
size_frame rec small = ap (λ (l : List ℕ). from_be_bytes w32 l) (take_at (to_be_bytes w32 (length rec)) (rec ++ 0 ∷ []) 4 refl) ∙ from_be_bytes-to_be_bytes_4 (length rec) small

record_frame : (rec : List ℕ) → length rec < 2 ^ 32 → record_at (1 ∷ frame_of rec) ≡ rec
unfolding record_at
record_frame rec small =
    (λ i. take (size_frame rec small i) (drop_at (to_be_bytes w32 (length rec)) (rec ++ 0 ∷ []) 4 refl i)) ∙ take_at rec (0 ∷ []) (length rec) refl

-- a frame_of record behind an open gate
pub one_frame : (rec : List ℕ) → length rec ≤ 67108864 → records_from 0 (1 ∷ frame_of rec) ≡ rec ∷ []
one_frame rec small =
    let n = size_frame rec (omega arith) in
    let behind : drop (size_at (1 ∷ frame_of rec) + 4) (frame_of rec) ≡ 0 ∷ [] =
    ap (λ (k : ℕ). drop k (frame_of rec)) (ap (λ (k : ℕ). k + 4) n)
    ∙ ap (λ (l : List ℕ). drop (length rec + 4) l) (sym (append_assoc (to_be_bytes w32 (length rec)) rec (0 ∷ [])))
    ∙ drop_at (to_be_bytes w32 (length rec) ++ rec) (0 ∷ []) (length rec + 4) (omega (arith, length-append (to_be_bytes w32 (length rec)) rec)) in
    let yes_open = is_open_by (1 ∷ frame_of rec) (record { gate = refl; small = omega (arith, n); whole = omega (arith, n, length_frame rec) }) in
    one_open 1 (frame_of rec) yes_open
    ∙ (λ i. record_frame rec (omega arith) i ∷ skipped (size_at (1 ∷ frame_of rec) + 4) (frame_of rec) i)
    ∙ ap (λ (l : List ℕ). rec ∷ records_from 0 l) behind
    ∙ ap (λ (l : List (List ℕ)). rec ∷ l) (none_shut (0 ∷ []) (shut_gate (0 ∷ []) (λ e. omega arith)))

pub end_from : (first : ℕ) (rs : List (List ℕ)) → first ≤ end_of first rs
end_from first [] = omega arith
end_from first (r ∷ rs) = omega (arith, end_from (first + (5 + length r)) rs)

pub end_push : (first : ℕ) (rs : List (List ℕ)) (r : List ℕ) → end_of first (rs ++ r ∷ []) ≡ end_of first rs + 5 + length r
end_push first [] r = omega arith
end_push first (x ∷ rs) r = end_push (first + (5 + length x)) rs r

pub gates_push : (first : ℕ) (rs : List (List ℕ)) (r : List ℕ) → gates_of first (rs ++ r ∷ []) ≡ gates_of first rs ++ end_of first rs ∷ []
gates_push first [] r = refl
gates_push first (x ∷ rs) r = ap (λ (l : List ℕ). first ∷ l) (gates_push (first + (5 + length x)) rs r)

module _ (file rec : List ℕ) (rest : IsAtRest file) (small : length rec ≤ 67108864) where
  abbrev p : ℕ
  p = closed_gate file

  abbrev front : List ℕ
  front = take p file

  abbrev staged : List ℕ
  staged = staged_file file rec

  long : 8 < length file
  long = ⊎_elim (λ lt. lt) (λ le. absurd (omega (arith, rest.ends, short le))) (cases_lt 8 (length file))
    where
      short : length file ≤ 8 → 8 ≤ closed_gate file
      short le = end_from 8 (records_of file)

  length-front : length front ≡ p
  length-front = omega (arith, length-take p file, rest.ends)

  pub whole : file ≡ front ++ 0 ∷ []
  whole = sym (take-append-drop p file) ∙ ap (λ (l : List ℕ). front ++ l) (drop_more file p 0 (omega (arith, rest.ends)) ∙ ap (λ (l : List ℕ). get_or file p 0 ∷ l) (drop_all (p + 1) file (omega (arith, rest.ends))) ∙ ap (λ (b : ℕ). b ∷ []) rest.closed)

  -- whatever stands behind the closed gate
  pub torn_behind : (n : ℕ) (c : List ℕ) → Torn (p + 1) n file c → stands_for c ≡ Some (records_of file)
  torn_behind n c torn =
      let tail = drop (p + 1) c in
      let same : c ≡ front ++ 0 ∷ tail =
      sym (take-append-drop (p + 1) c) ∙ ap (λ (l : List ℕ). l ++ tail) (torn.before ∙ take_all (p + 1) file (omega (arith, rest.ends)) ∙ whole) ∙ append_assoc front (0 ∷ []) tail in
      ap stands_for same ∙ regrown_shut file (0 ∷ tail) rest.begins long (omega arith) (shut_gate (0 ∷ tail) (λ e. omega arith))

  pub unfinished_behind : (n : ℕ) (c : List ℕ) → Torn (p + 1) n file c → IsUnfinished file rec c
  unfinished_behind n c torn = inl (ap (λ (k : ℕ). take k c) (sym rest.ends) ∙ torn.before ∙ take_all (p + 1) file (omega (arith, rest.ends)))

  pub written_behind : written file (p + 1) (frame_of rec) ≡ staged
  written_behind =
      ap (λ (l : List ℕ). l ++ frame_of rec ++ drop (p + 1 + length (frame_of rec)) file) (take_all (p + 1) file (omega (arith, rest.ends)))
      ∙ ap (λ (l : List ℕ). file ++ frame_of rec ++ l) (drop_all (p + 1 + length (frame_of rec)) file (omega (arith, rest.ends)))
      ∙ append-nil (file ++ frame_of rec)
      ∙ ap (λ (l : List ℕ). l ++ frame_of rec) whole
      ∙ append_assoc front (0 ∷ []) (frame_of rec)

  front_staged : take p staged ≡ front
  front_staged = take_at front (0 ∷ frame_of rec) p length-front

  back_staged : drop (p + 1) staged ≡ frame_of rec
  back_staged = ap (λ (l : List ℕ). drop (p + 1) l) (sym (append_assoc front (0 ∷ []) (frame_of rec))) ∙ drop_at (front ++ 0 ∷ []) (frame_of rec) (p + 1) (omega (arith, length-append front (0 ∷ []), length-front))

  length-staged : length staged ≡ p + 1 + length (frame_of rec)
  length-staged = omega (arith, length-append front (0 ∷ frame_of rec), length-front)

  -- the record stands there whole, behind any gate
  whole_behind : (c : List ℕ) → Torn p 1 staged c → c ≡ front ++ get_or c p 0 ∷ frame_of rec
  whole_behind c torn =
      sym (take-append-drop p c) ∙ ap (λ (l : List ℕ). l ++ drop p c) (torn.before ∙ front_staged)
      ∙ ap (λ (l : List ℕ). front ++ l) (drop_more c p 0 (omega (arith, torn.no_shorter, length-staged)) ∙ ap (λ (l : List ℕ). get_or c p 0 ∷ l) (torn.after ∙ back_staged))

  pub unfinished_gate : (c : List ℕ) → Torn p 1 staged c → IsUnfinished file rec c
  unfinished_gate c torn = inr (get_or c p 0, whole_behind c torn)

  pub torn_gate : (c : List ℕ) → Torn p 1 staged c → IsByGate p (records_of file) rec c
  torn_gate c torn =
      let gate = get_or c p 0 in
      let with_it = records_of file ++ rec ∷ [] in
      let same = whole_behind c torn in
      elim (cases_Bool (gate == 1)) [
        | inl open_gate ↦
            let one : gate ≡ 1 = eqb-true gate 1 open_gate in
            ap stands_for (same ∙ ap (λ (g : ℕ). front ++ g ∷ frame_of rec) one) ∙ regrown file (1 ∷ frame_of rec) rest.begins long (omega arith) ∙ ap (λ (l : List (List ℕ)). Some (records_of file ++ l)) (one_frame rec small)
            ∙ ap (λ (b : Bool). Some (cond b with_it (records_of file))) (sym open_gate)
        | inr shut ↦ ap stands_for same ∙ regrown_shut file (gate ∷ frame_of rec) rest.begins long (omega arith) (shut_gate (gate ∷ frame_of rec) (λ is. both_ways (gate == 1) shut (ap (λ (g : ℕ). g == 1) is)))
            ∙ ap (λ (b : Bool). Some (cond b with_it (records_of file))) (sym shut)
      ]

  pub gate_staged : get_or staged p 0 ≡ 0
  gate_staged = get_or_at front 0 (frame_of rec) 0 p length-front

  pub staged_records : stands_for staged ≡ Some (records_of file)
  staged_records = regrown_shut file (0 ∷ frame_of rec) rest.begins long (omega arith) (shut_gate (0 ∷ frame_of rec) (λ e. omega arith))

  -- with anything behind the closed gate
  pub shut_behind : (c : List ℕ) → take (p + 1) c ≡ take (p + 1) file → get_or c p 0 ≡ 0
  shut_behind c same =
      sym (get_or-take (p + 1) c p 0 (omega arith)) ∙ ap (λ (l : List ℕ). get_or l p 0) same ∙ get_or-take (p + 1) file p 0 (omega arith) ∙ rest.closed

  abbrev grown_now : List ℕ
  grown_now = grown_file file rec

  pub written_gate : written staged p (1 ∷ []) ≡ grown_now
  written_gate =
      ap (λ (l : List ℕ). l ++ (1 ∷ []) ++ drop (p + 1) staged) front_staged
      ∙ ap (λ (l : List ℕ). front ++ (1 ∷ []) ++ l) back_staged
      ∙ append_assoc front (1 ∷ []) (frame_of rec)

  pub grown_records : records_of grown_now ≡ records_of file ++ rec ∷ []
  grown_records = (grown 8 file long).grows (1 ∷ frame_of rec) (omega arith) ∙ ap (λ (l : List (List ℕ)). records_of file ++ l) (one_frame rec small)

  pub grown_end : closed_gate grown_now ≡ p + 5 + length rec
  grown_end = ap (λ (l : List (List ℕ)). end_of 8 l) grown_records ∙ end_push 8 (records_of file) rec

  pub grown_rest : IsAtRest grown_now
  grown_rest =
      let split : grown_now ≡ (front ++ 1 ∷ (to_be_bytes w32 (length rec) ++ rec)) ++ 0 ∷ [] =
      ap (λ (l : List ℕ). front ++ 1 ∷ l) (sym (append_assoc (to_be_bytes w32 (length rec)) rec (0 ∷ []))) ∙ sym (append_assoc front (1 ∷ (to_be_bytes w32 (length rec) ++ rec)) (0 ∷ [])) in
      let size : length (front ++ 1 ∷ (to_be_bytes w32 (length rec) ++ rec)) ≡ p + 5 + length rec =
      omega (arith, length-append front (1 ∷ (to_be_bytes w32 (length rec) ++ rec)), length-append (to_be_bytes w32 (length rec)) rec, length-front) in
      record {
        begins = take-append-le 8 front (1 ∷ frame_of rec) (omega (arith, length-front, (grown 8 file long).after)) ∙ take-take 8 p file (grown 8 file long).after ∙ rest.begins;
        ends = omega (arith, grown_end, length-append front (1 ∷ frame_of rec), length-front, length_frame rec);
        closed = (λ i. get_or (split i) (grown_end i) 0) ∙ get_or_at (front ++ 1 ∷ (to_be_bytes w32 (length rec) ++ rec)) 0 [] 0 (p + 5 + length rec) size;
      }
