-- What an append that isn't finished leaves, and what an opening makes of it.
use Rattle.std.proofs.Common.{◌≡◌, ◌≢◌, ◌⊎◌, inl, inr, ⊎_elim, ℕ, ◌+◌, ◌≤◌, ◌<◌, List, [], ◌∷◌, ◌++◌, length, get_or, take, drop, sym, ◌∙◌, ap, subst, arith, append_assoc, length-append, Some}
use Rattle.std.proofs.lemmas.List.{length-take, take_at, drop_at, take_all, drop_all, take-take, get_or-take, take-append-le}
use Rattle.std.proofs.lemmas.Bool.{cases_lt, cases_eq}
use Rattle.std.proofs.lemmas.Option.{same_Some}
use Rattle.ep_outside.specs.Images.{Torn}
use Rattle.ep_journal.specs.File.{header, records_of, end_of, closed_gate, stands_for, frame_of, IsAtRest, IsLongOrNew, IsMending, IsBeforeOrAfter, IsUnfinished}
use Rattle.ep_journal.specs.Repair.{staged_file, grown_file}
use Rattle.ep_journal.proofs.File.{shut_gate}
use Rattle.ep_journal.proofs.Append.{stands, end_from, regrown_shut, length_frame, whole, torn_behind, torn_gate, grown_rest}
use Rattle.ep_journal.proofs.Keeping.{or_more}
use Rattle.ep_journal.proofs.Staying.{shut_stays, rest_stays, shut_or_same}

-- a file that stands for the same records has the same closed gate
same_gate : (file image : List ℕ) → take 8 image ≡ header → stands_for image ≡ Some (records_of file) → closed_gate image ≡ closed_gate file
same_gate file image begins is = ap (λ (rs : List (List ℕ)). end_of 8 rs) (same_Some _ _ (sym (stands image begins) ∙ is))

module _ (file rec : List ℕ) (rest : IsAtRest file) (small : length rec ≤ 67108864) where
  abbrev p : ℕ
  p = closed_gate file

  abbrev front : List ℕ
  front = take p file

  long : 8 ≤ p
  long = end_from 8 (records_of file)

  length-front : length front ≡ p
  length-front = omega (arith, length-take p file, rest.ends)

  front_begins : take 8 front ≡ header
  front_begins = take-take 8 p file long ∙ rest.begins

  -- ---- anything behind it

  behind : (image : List ℕ) → take (length file) image ≡ file → Torn (p + 1) (length image) file image
  behind image same = record {
    before = ap (λ (k : ℕ). take k image) rest.ends ∙ same ∙ sym (take_all (p + 1) file (omega (arith, rest.ends)));
    after = drop_all (p + 1 + length image) image (omega arith) ∙ sym (drop_all (p + 1 + length image) file (omega (arith, rest.ends)));
    no_shorter = omega (arith, ap length same, length-take (length file) image);
    no_longer = omega (arith);
  }

  -- ---- any byte at the gate

  abbrev gated : ℕ → List ℕ
  gated byte = front ++ byte ∷ frame_of rec

  behind_gate : (byte : ℕ) → drop (p + 1) (gated byte) ≡ frame_of rec
  behind_gate byte = ap (λ (l : List ℕ). drop (p + 1) l) (sym (append_assoc front (byte ∷ []) (frame_of rec))) ∙ drop_at (front ++ byte ∷ []) (frame_of rec) (p + 1) (omega (arith, length-append front (byte ∷ []), length-front))

  length-gated : (byte : ℕ) → length (gated byte) ≡ p + 1 + length (frame_of rec)
  length-gated byte = omega (arith, length-append front (byte ∷ frame_of rec), length-front)

  at_gate : (image : List ℕ) (byte : ℕ) → image ≡ gated byte → Torn p 1 (staged_file file rec) image
  at_gate image byte is = record {
    before = ap (λ (l : List ℕ). take p l) is ∙ take_at front (byte ∷ frame_of rec) p length-front ∙ sym (take_at front (0 ∷ frame_of rec) p length-front);
    after = ap (λ (l : List ℕ). drop (p + 1) l) is ∙ behind_gate byte ∙ sym (behind_gate 0);
    no_shorter = omega (arith, ap length is, length-gated byte, length-gated 0);
    no_longer = omega (arith, ap length is, length-gated byte, length-gated 0);
  }

  pub behind_stands : (image : List ℕ) → take (length file) image ≡ file → stands_for image ≡ Some (records_of file)
  behind_stands image same = torn_behind file rec rest small (length image) image (behind image same)

  pub stands_still : (image : List ℕ) → IsUnfinished file rec image → IsBeforeOrAfter (records_of file) rec image
  stands_still image (inl same) = inl (behind_stands image same)
  stands_still image (inr gate) = or_more p (records_of file) rec image (torn_gate file rec rest small image (at_gate image gate.0 gate.1))

  pub begun : IsUnfinished file rec file
  begun = inl (take_all (length file) file (omega arith))

  -- ---- openings

  long_or_new : (image : List ℕ) → take (length file) image ≡ file → IsLongOrNew image
  long_or_new image same = by (cases_lt 9 (length image))
    where
      by : (9 < length image) ⊎ (length image ≤ 9) → IsLongOrNew image
      by (inl lt) = inl lt
      by (inr le) =
          let nine : length file ≡ 9 = omega (arith, rest.ends, le, long, ap length same, length-take (length file) image) in
          let eight : p ≡ 8 = omega (arith, nine, rest.ends) in
          inr (sym (take_all (length file) image (omega (arith, nine, le))) ∙ same ∙ whole file rec rest small
          ∙ ap (λ (k : ℕ). take k file ++ 0 ∷ []) eight ∙ ap (λ (l : List ℕ). l ++ 0 ∷ []) rest.begins)

  pub behind_mends : (image next : List ℕ) → take (length file) image ≡ file → IsMending image next → take (length file) next ≡ file
  behind_mends image next same m =
      let begins : take 8 image ≡ header = sym (take-take 8 (length file) image (omega (arith, rest.ends, long))) ∙ ap (λ (l : List ℕ). take 8 l) same ∙ rest.begins in
      let gate = same_gate file image begins (behind_stands image same) in
      let shut : get_or image (closed_gate image) 0 ≡ 0 =
      ap (λ (g : ℕ). get_or image g 0) gate ∙ sym (get_or-take (length file) image p 0 (omega (arith, rest.ends))) ∙ ap (λ (l : List ℕ). get_or l p 0) same ∙ rest.closed in
      let kept : take p image ≡ front = sym (take-take p (length file) image (omega (arith, rest.ends))) ∙ ap (λ (l : List ℕ). take p l) same in
      ap (λ (k : ℕ). take k next) (sym rest.ends) ∙ ap (λ (g : ℕ). take (g + 1) next) (sym gate)
      ∙ shut_stays image next (long_or_new image same) m shut
      ∙ ap (λ (g : ℕ). take g image ++ 0 ∷ []) gate ∙ ap (λ (l : List ℕ). l ++ 0 ∷ []) kept ∙ sym (whole file rec rest small)

  gate_mends : (image next : List ℕ) (byte : ℕ) → image ≡ gated byte → IsMending image next → IsUnfinished file rec next
  gate_mends image next byte is m = by (cases_eq byte 1)
    where
      known : IsLongOrNew image
      known = inl (omega (arith, ap length is, length-gated byte, length_frame rec, long))

      by : (byte ≡ 1) ⊎ (byte ≢ 1) → IsUnfinished file rec next
      by (inl one) =
          let grown_is : grown_file file rec ≡ image = ap (λ (b : ℕ). gated b) (sym one) ∙ sym is in
          inr (byte, rest_stays image next known m (subst IsAtRest grown_is (grown_rest file rec rest small)) ∙ is)
      by (inr other) =
          let begins : take 8 image ≡ header = ap (λ (l : List ℕ). take 8 l) is ∙ take-append-le 8 front (byte ∷ frame_of rec) (omega (arith, length-front, long)) ∙ front_begins in
          let old : stands_for image ≡ Some (records_of file) = ap stands_for is ∙ regrown_shut file (byte ∷ frame_of rec) rest.begins (omega (arith, rest.ends, long)) (omega arith) (shut_gate (byte ∷ frame_of rec) other) in
          let gate = same_gate file image begins old in
          let kept : take (closed_gate image) image ≡ front = (λ i. take (gate i) (is i)) ∙ take_at front (byte ∷ frame_of rec) p length-front in
          let after : drop (closed_gate image + 1) image ≡ frame_of rec = (λ i. drop (gate i + 1) (is i)) ∙ behind_gate byte in
          ⊎_elim
          (λ shut. inl (ap (λ (k : ℕ). take k next) (sym rest.ends) ∙ ap (λ (g : ℕ). take (g + 1) next) (sym gate) ∙ shut ∙ ap (λ (l : List ℕ). l ++ 0 ∷ []) kept ∙ sym (whole file rec rest small)))
          (λ same. inr (get_or next (closed_gate image) 0, same ∙ (λ i. kept i ++ get_or next (closed_gate image) 0 ∷ after i)))
          (shut_or_same image next known m)

  pub mends : (image next : List ℕ) → IsUnfinished file rec image → IsMending image next → IsUnfinished file rec next
  mends image next (inl same) m = inl (behind_mends image next same m)
  mends image next (inr gate) m = gate_mends image next gate.0 gate.1 m
