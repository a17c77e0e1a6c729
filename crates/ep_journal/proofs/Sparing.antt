-- An opening leaves what is right already.
use Rattle.std.proofs.Common.{◌≡◌, inl, inr, ℕ, ◌+◌, ◌≤◌, ◌<◌, List, [], ◌∷◌, ◌++◌, length, get_or, take, drop, sym, ◌∙◌, ap, subst, arith, length-append}
use Rattle.std.proofs.lemmas.List.{length-take, get_or-take, get_or_at, take-take, take_at}
use Rattle.std.proofs.lemmas.Bool.{cases_lt, lt-ltb, cond-true, ltb-true}
use Rattle.ep_outside.specs.Images.{Torn, Front}
use Rattle.ep_journal.specs.File.{closed_gate, stands_for, StandsNear, mended, IsLongOrNew, IsMending}
use Rattle.ep_journal.specs.Repair.{zeroed, IsClosing}
use Rattle.ep_journal.proofs.File.{grown}
use Rattle.ep_journal.proofs.Mending.{fresh, fresh_gate}

mended_long : (file : List ℕ) → 9 < length file → mended file ≡ take (closed_gate file) file ++ 0 ∷ []
mended_long file long = cond-true _ _ _ (lt-ltb 9 (length file) long)

length-mended : (file : List ℕ) → 9 < length file → length (mended file) ≡ closed_gate file + 1
length-mended file long =
    let size : length (take (closed_gate file) file ++ 0 ∷ []) ≡ closed_gate file + 1 = omega (arith, length-append (take (closed_gate file) file) (0 ∷ []), length-take (closed_gate file) file, (grown 8 file (omega (arith, long))).inside) in
    ap (λ (l : List ℕ). length l) (mended_long file long) ∙ size

inside : (file : List ℕ) → IsLongOrNew file → length (mended file) ≤ length file
inside file (inl long) = omega (arith, length-mended file long, (grown 8 file (omega (arith, long))).inside)
inside file (inr new) =
    let size : length file ≡ 9 = ap (λ (l : List ℕ). length l) new in
    let size_mended : length (mended file) ≡ 9 = ap (λ (l : List ℕ). length (mended l)) new in
    omega (arith, size, size_mended)

pub gate_within : (file : List ℕ) → IsLongOrNew file → closed_gate file < length file
gate_within file (inl long) = (grown 8 file (omega (arith, long))).inside
gate_within file (inr new) =
    let gate : closed_gate file ≡ 8 = ap (λ (l : List ℕ). closed_gate l) new ∙ fresh_gate in
    let size : length file ≡ 9 = ap (λ (l : List ℕ). length l) new in
    omega (arith, gate, size)

-- the file itself
pub the_file : (file image : List ℕ) → image ≡ file → IsMending file image
the_file file image is =
    let size : length image ≡ length file = ap (λ (l : List ℕ). length l) is in
    record {
      near = inl (ap stands_for is);
      no_longer = λ known. omega (arith, size);
      right = λ known i lt same. (omega (arith, lt, inside file known, size), ap (λ (l : List ℕ). get_or l i 0) is);
      before = λ known. (ap (λ (l : List ℕ). take (closed_gate file) l) is, omega (arith, gate_within file known, size));
      behind = λ known. inr (ap (λ (l : List ℕ). drop (closed_gate file + 1) l) is);
    }

module _ (file : List ℕ) (gate : ℕ) (cl : IsClosing file gate) where
  long : 9 < length file
  long = ltb-true _ _ cl.long

  size_mended : length (mended file) ≡ gate + 1
  size_mended = omega (arith, length-mended file long, cl.gate_is)

  gate_inside : gate < length file
  gate_inside = omega (arith, cl.gate_is, (grown 8 file (omega (arith, long))).inside)

  zero_at_gate : get_or (mended file) gate 0 ≡ 0
  zero_at_gate = ap (λ (l : List ℕ). get_or l gate 0) (mended_long file long) ∙ get_or_at (take (closed_gate file) file) 0 [] 0 gate (omega (arith, length-take (closed_gate file) file, cl.gate_is, gate_inside))

  kept : (image : List ℕ) (i : ℕ) → take gate image ≡ take gate file → i < gate → get_or image i 0 ≡ get_or file i 0
  kept image i same lt = sym (get_or-take gate image i 0 lt) ∙ ap (λ (l : List ℕ). get_or l i 0) same ∙ get_or-take gate file i 0 lt

  -- where the byte at the gate is another than 00, it alone is written
  pub zero_spares : (image : List ℕ) → (get_or file gate 0 ≡ 0 → ⊥) → Torn gate 1 file image → StandsNear file image → IsMending file image
  zero_spares image wrong t near = record {
    near = near;
    no_longer = λ known. omega (arith, t.no_longer, gate_inside);
    right = λ known i lt same. (
      omega (arith, lt, inside file known, t.no_shorter),
      elim (cases_lt i gate) [
        | inl below ↦ kept image i t.before below
        | inr past ↦ let at : i ≡ gate = omega (arith, lt, past, size_mended) in absurd (wrong (subst (λ (k : ℕ). get_or file k 0 ≡ get_or (mended file) k 0) at same ∙ zero_at_gate))
      ],
    );
    before = λ known. (subst (λ (g : ℕ). take g image ≡ take g file) cl.gate_is t.before, omega (arith, cl.gate_is, t.no_shorter, gate_inside));
    behind = λ known. inr (subst (λ (g : ℕ). drop (g + 1) image ≡ drop (g + 1) file) cl.gate_is t.after);
  }

  front_stays : (image : List ℕ) → take (gate + 1) image ≡ mended file → take gate image ≡ take gate file
  front_stays image front =
      sym (take-take gate (gate + 1) image (omega arith)) ∙ ap (λ (l : List ℕ). take gate l) (front ∙ mended_long file long)
      ∙ take_at (take (closed_gate file) file) (0 ∷ []) gate (omega (arith, length-take (closed_gate file) file, cl.gate_is, gate_inside))
      ∙ ap (λ (g : ℕ). take g file) (sym cl.gate_is)

  -- what stands behind the gate is cut off, and nothing else
  pub cut_spares : (image : List ℕ) → take (gate + 1) (zeroed file) ≡ mended file → length (zeroed file) ≡ length file → Front (gate + 1) (zeroed file) image → StandsNear file image → IsMending file image
  cut_spares image cut size f near =
      let front : take (gate + 1) image ≡ mended file = ap (λ (l : List ℕ). take (gate + 1) l) f.front ∙ take-take (gate + 1) (length image) (zeroed file) f.no_shorter ∙ cut in
      record {
        near = near;
        no_longer = λ known. omega (arith, f.no_longer, size);
        right = λ known i lt same.
            let below : i < gate + 1 = omega (arith, lt, size_mended) in
            (omega (arith, below, f.no_shorter), sym (get_or-take (gate + 1) image i 0 below) ∙ ap (λ (l : List ℕ). get_or l i 0) front ∙ sym same);
        before = λ known. (subst (λ (g : ℕ). take g image ≡ take g file) cl.gate_is (front_stays image front), omega (arith, cl.gate_is, f.no_shorter));
        behind = λ known. inl (
            ap (λ (g : ℕ). get_or image g 0) (sym cl.gate_is) ∙ sym (get_or-take (gate + 1) image gate 0 (omega arith))
            ∙ ap (λ (l : List ℕ). get_or l gate 0) front ∙ zero_at_gate
            );
      }

anew : (file : List ℕ) → length file ≤ 9 → (file ≡ fresh → ⊥) → IsLongOrNew file → ⊥
anew file short other (inl long) = absurd (omega arith)
anew file short other (inr new) = other new

-- a short file that is no new journal is written anew
pub fresh_spares : (file image : List ℕ) → length file ≤ 9 → (file ≡ fresh → ⊥) → StandsNear file image → IsMending file image
fresh_spares file image short other near = record {
  near = near;
  no_longer = λ known. absurd (anew file short other known);
  right = λ known i lt same. absurd (anew file short other known);
  before = λ known. absurd (anew file short other known);
  behind = λ known. absurd (anew file short other known);
}
