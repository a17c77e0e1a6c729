-- The three repairs, over what a disk tells.
use Rattle.std.proofs.Common.{◌≡◌, inl, inr, ⊎_elim, false, not, ℕ, ◌+◌, ◌≤◌, ◌<◌, List, [], ◌∷◌, ◌++◌, length, get_or, take, refl, sym, ◌∙◌, ap, subst, arith, true, nat_lt, Option, Some, None}
use Rattle.std.proofs.lemmas.Bool.{ltb-false, cond-true, cond-false, ltb-true, lt-ltb, le-ltb, cases_Bool, not-false, and_cases, both_ways}
use Rattle.ep_outside.specs.Disk.{Contents, settled, IsImage, HasLength}
use Rattle.ep_outside.specs.Images.{Torn, Front}
use Rattle.ep_outside.proofs.Images.{only_told}
use Rattle.ep_journal.proofs.File.{grown}
use Rattle.ep_journal.proofs.Append.{stands}
use Rattle.ep_journal.proofs.Mending.{short_none, torn_zero, front_zero, cut_zero, length-zeroed, nothing_behind, torn_fresh, fresh, fresh_gate, fresh_gates, done_records, done_rest, fresh_rest}
use Rattle.ep_journal.proofs.Sparing.{the_file, zero_spares, cut_spares, fresh_spares}
use Rattle.std.proofs.lemmas.List.{take_all}
use Rattle.std.proofs.lemmas.Slice.Eq.{bytes_eq-Decides}
use Rattle.std.specs.Prelude.{bytes_eq}
use Rattle.ep_journal.specs.File.{header, closed_gate, records_of, gates_of, stands_for, IsMending, mended, is_foreign, IsAtRest}
use Rattle.ep_journal.specs.Held.{IsHeld}
use Rattle.ep_journal.specs.Repair.{zeroed, IsClosing, IsLongJournal}
use Rattle.ep_journal.specs.Walking.{IsFound, ByteOn}

pub image_near : (file : List ℕ) (told : Option Contents) → told ≡ Some (settled file) → (image : List ℕ) → IsImage told image → IsMending file image
image_near file told is image left = the_file file image (only_told file image told is left)

module _ (file : List ℕ) (gate : ℕ) (cl : IsClosing file gate) where
  long : 9 < length file
  long = ltb-true _ _ cl.long

  pub gate_inside : gate < length file
  gate_inside = omega (arith, cl.gate_is, (grown 8 file (omega (arith, long))).inside)

  pub near_zero : (get_or file gate 0 ≡ 0 → ⊥) → (image : List ℕ) → Torn gate 1 file image → IsMending file image
  near_zero wrong image t = zero_spares file gate cl image wrong t (torn_zero file cl.begins long image (subst (λ (g : ℕ). Torn g 1 file image) cl.gate_is t))

  pub inside_zeroed : gate + 1 ≤ length (zeroed file)
  inside_zeroed = omega (arith, gate_inside, length-zeroed file cl.begins long)

  pub is_mended : mended file ≡ take (closed_gate file) file ++ 0 ∷ []
  is_mended = cond-true _ _ _ cl.long

  pub cut_mends : take (gate + 1) (zeroed file) ≡ mended file
  cut_mends = ap (λ (g : ℕ). take (g + 1) (zeroed file)) cl.gate_is ∙ cut_zero file cl.begins long ∙ sym is_mended

  pub near_cut : (image : List ℕ) → Front (gate + 1) (zeroed file) image → IsMending file image
  near_cut image f = cut_spares file gate cl image cut_mends (length-zeroed file cl.begins long) f (front_zero file cl.begins long image (subst (λ (g : ℕ). Front (g + 1) (zeroed file) image) cl.gate_is f))

  pub near_zeroed : (told : Option Contents) → told ≡ Some (settled (zeroed file)) → (image : List ℕ) → IsImage told image → IsMending file image
  near_zeroed told is image left =
      let same = only_told (zeroed file) image told is left in
      let size : length image ≡ length (zeroed file) = ap (λ (l : List ℕ). length l) same in
      near_cut image (record {
        no_shorter = omega (arith, size, inside_zeroed);
        no_longer = omega (arith, size);
        front = same ∙ sym (take_all (length image) (zeroed file) (omega (arith, size)));
      })

  pub whole_mended : length file ≡ gate + 1 → zeroed file ≡ mended file
  whole_mended is = nothing_behind file cl.begins long (omega (arith, is, cl.gate_is)) ∙ sym is_mended

pub near_fresh : (file : List ℕ) → length file ≤ 9 → (file ≡ fresh → ⊥) → (image : List ℕ) → Torn 0 9 file image → IsMending file image
near_fresh file short other image t = fresh_spares file image short other (torn_fresh file image short t)

pub fresh_mends : (file : List ℕ) → length file ≤ 9 → mended file ≡ fresh
fresh_mends file short = cond-false _ _ _ (le-ltb 9 (length file) short)

-- the disk's byte at the gate isn't 00
pub wrong_byte : (file : List ℕ) (gate byte : ℕ) (told : Option Contents) → told ≡ Some (settled file) → ByteOn told gate byte → gate < length file → (byte ≡ 0 → ⊥) → get_or file gate 0 ≡ 0 → ⊥
wrong_byte file gate byte told is on inside wrong zero = wrong (subst (λ (o : Option Contents). ByteOn o gate byte) is on inside ∙ zero)

-- the gates that were found close a long journal
pub closing : (file : List ℕ) (total gate : ℕ) (gates : List ℕ) (told : Option Contents) → IsLongJournal file total → told ≡ Some (settled file) → IsFound told total gates gate → IsClosing file gate
closing file total gate gates told j is found =
    record { begins = j.begins; long = j.long; gate_is = (subst (λ (o : Option Contents). IsFound o total gates gate) is found j.total_is).1 }

pub long_journal : (file : List ℕ) (total : ℕ) (told : Option Contents) → told ≡ Some (settled file) → HasLength told total → 9 < total → bytes_eq (take 8 file) header ≡ true → IsLongJournal file total
long_journal file total told is size long well =
    let same : total ≡ length file = subst (λ (o : Option Contents). HasLength o total) is size in
    record { begins = (bytes_eq-Decides (take 8 file) header).0 well; long = lt-ltb 9 (length file) (omega (arith, same, long)); total_is = same }

pub short_size : (file : List ℕ) (total : ℕ) (told : Option Contents) → told ≡ Some (settled file) → HasLength told total → total ≡ length file
short_size file total told is size = subst (λ (o : Option Contents). HasLength o total) is size

pub mended_records : (file : List ℕ) (total : ℕ) → IsLongJournal file total → records_of (mended file) ≡ records_of file
mended_records file total j = ap records_of (cond-true _ _ _ j.long) ∙ done_records file j.begins (ltb-true 9 (length file) j.long)

pub mended_fresh : (file : List ℕ) (gates : List ℕ) → length file ≤ 9 → gates ≡ [] → (gates ≡ gates_of 8 (records_of (mended file))) × (8 ≡ closed_gate (mended file))
mended_fresh file gates short none =
    let e = fresh_mends file short in
    (none ∙ sym fresh_gates ∙ ap (λ (l : List ℕ). gates_of 8 (records_of l)) (sym e), sym fresh_gate ∙ ap (λ (l : List ℕ). closed_gate l) (sym e))

-- a mended file is a journal at rest
pub mended_rest : (file : List ℕ) → is_foreign file ≡ false → IsAtRest (mended file)
mended_rest file native = elim (cases_Bool (nat_lt 9 (length file))) [
  | inl long ↦
      let well : take 8 file ≡ header = (bytes_eq-Decides (take 8 file) header).0 (not-false _ (⊎_elim (λ (short : nat_lt 9 (length file) ≡ false). absurd (both_ways _ short long)) (λ shut. shut) (and_cases (nat_lt 9 (length file)) (not (bytes_eq (take 8 file) header)) native))) in
      subst IsAtRest (sym (cond-true _ _ _ long)) (done_rest file well (ltb-true 9 (length file) long))
  | inr short ↦ subst IsAtRest (sym (cond-false _ _ _ short)) fresh_rest
]

-- which stands for the same records
pub mended_stands : (file : List ℕ) → is_foreign file ≡ false → stands_for (mended file) ≡ stands_for file
mended_stands file native = elim (cases_Bool (nat_lt 9 (length file))) [
  | inl long ↦
      let well : take 8 file ≡ header = (bytes_eq-Decides (take 8 file) header).0 (not-false _ (⊎_elim (λ (short : nat_lt 9 (length file) ≡ false). absurd (both_ways _ short long)) (λ shut. shut) (and_cases (nat_lt 9 (length file)) (not (bytes_eq (take 8 file) header)) native))) in
      stands (mended file) (mended_rest file native).begins ∙ ap (λ (l : List ℕ). Some (records_of l)) (cond-true _ _ _ long) ∙ ap (λ (rs : List (List ℕ)). Some rs) (done_records file well (ltb-true 9 (length file) long)) ∙ sym (stands file well)
  | inr short ↦
      let le : length file ≤ 9 = ltb-false 9 (length file) short in
      ap stands_for (fresh_mends file le) ∙ short_none fresh (omega arith) ∙ sym (short_none file le)
]

pub opens_held : (old new : Option Contents) (gates : List ℕ) (gate : ℕ) → (old ≡ None → new ≡ None) → ((c : Contents) → old ≡ Some c → (new ≡ Some (settled (mended c.seen))) × (gates ≡ gates_of 8 (records_of (mended c.seen))) × (gate ≡ closed_gate (mended c.seen)) × (is_foreign c.seen ≡ false)) → IsHeld new gates gate
opens_held None new gates gate tells is = subst (λ (o : Option Contents). IsHeld o gates gate) (sym (tells refl)) tt
opens_held (Some c) new gates gate tells is =
    let h = is c refl in
    subst (λ (o : Option Contents). IsHeld o gates gate) (sym h.0) (record { settled = refl; rest = mended_rest c.seen h.3; gates_are = h.1; gate_is = h.2 })
