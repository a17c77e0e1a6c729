-- What a stored record leaves.
use Rattle.std.proofs.Common.{◌≡◌, inl, inr, ⊎_elim, ℕ, ◌+◌, ◌≤◌, ◌<◌, ◌==◌, Bool, cond, List, [], ◌∷◌, ◌++◌, length, get_or, take, drop, refl, sym, ◌∙◌, ap, subst, arith, length-append, Option, Some, None}
use Rattle.std.proofs.lemmas.List.{get_or_append_left, get_or_push, length_push, length-take, append-nil, drop_all, take_all}
use Rattle.std.proofs.lemmas.Bool.{cases_lt, cases_Bool}
use Rattle.ep_outside.specs.Disk.{Contents, settled, written, wrote, IsImage, Reaches, ReadsAt}
use Rattle.std.specs.Prelude.{Result, Ok, Err, IfErr, IsErrOf}
use Rattle.ep_outside.specs.Crash.{Restarts, IsAsked}
use Rattle.ep_outside.specs.declared.image.Image.{Image}
use Rattle.ep_outside.specs.Images.{Torn}
use Rattle.ep_outside.proofs.Images.{only_told}
use Rattle.ep_journal.specs.File.{records_of, closed_gate, end_of, gates_of, stands_for, frame_of, IsByGate, IsBeforeOrAfter, IsUnfinished}
use Rattle.ep_journal.specs.Repair.{staged_file, grown_file, IsStored}
use Rattle.ep_journal.specs.Held.{IsHeld, HoldsFile, Adds, IsRecord, IsHalfway, HasCount}
use Rattle.ep_journal.specs.Walking.{AreSpaced}
use Rattle.ep_journal.specs.Refusals.{OpenRefused}
use Rattle.ep_journal.specs.declared.journal_bad.JournalBad.{JournalBad}
use Rattle.ep_journal.specs.declared.journal_bad.JournalBad.TheVariants.{Disk, Foreign, Full, NoMemory}
use Rattle.ep_journal.proofs.File.{record_at_gate, next_gate, length-gates}
use Rattle.ep_journal.proofs.Append.{torn_behind, torn_gate, unfinished_behind, unfinished_gate, shut_behind, staged_records, written_behind, written_gate, grown_records, grown_end, grown_rest, length_frame, gates_push, stands}

module _ (file rec : List ℕ) (gate : ℕ) (bytes : List ℕ) (st : IsStored file rec gate bytes) where
  abbrev staged : List ℕ
  staged = staged_file file rec

  abbrev By : List ℕ → Type 0
  By image = IsByGate gate (records_of file) rec image

  -- where the byte at the gate isn't 01
  shut_by : (image : List ℕ) → get_or image gate 0 ≡ 0 → stands_for image ≡ Some (records_of file) → By image
  shut_by image zero_there stands_old = stands_old ∙ ap (λ (b : ℕ). Some (cond (b == 1) (records_of file ++ rec ∷ []) (records_of file))) (sym zero_there)

  pub first_old : (image : List ℕ) → Torn (gate + 1) (length bytes) file image → stands_for image ≡ Some (records_of file)
  first_old image t = torn_behind file rec st.rest st.small (length bytes) image (subst (λ (g : ℕ). Torn (g + 1) (length bytes) file image) st.gate_is t)

  pub first : (image : List ℕ) → Torn (gate + 1) (length bytes) file image → By image
  first image t =
      let t_p = subst (λ (g : ℕ). Torn (g + 1) (length bytes) file image) st.gate_is t in
      shut_by image (ap (λ (g : ℕ). get_or image g 0) st.gate_is ∙ shut_behind file rec st.rest st.small image t_p.before) (first_old image t)

  pub second : (image : List ℕ) → Torn gate 1 staged image → By image
  second image t = subst (λ (g : ℕ). IsByGate g (records_of file) rec image) (sym st.gate_is) (torn_gate file rec st.rest st.small image (subst (λ (g : ℕ). Torn g 1 staged image) st.gate_is t))

  pub first_unfinished : (image : List ℕ) → Torn (gate + 1) (length bytes) file image → IsUnfinished file rec image
  first_unfinished image t = unfinished_behind file rec st.rest st.small (length bytes) image (subst (λ (g : ℕ). Torn (g + 1) (length bytes) file image) st.gate_is t)

  pub second_unfinished : (image : List ℕ) → Torn gate 1 staged image → IsUnfinished file rec image
  second_unfinished image t = unfinished_gate file rec st.rest st.small image (subst (λ (g : ℕ). Torn g 1 staged image) st.gate_is t)

  pub staged_is : written file (gate + 1) bytes ≡ staged
  staged_is = (λ i. written file (st.gate_is i + 1) (st.bytes_are i)) ∙ written_behind file rec st.rest st.small

  pub staged_old : (image : List ℕ) → image ≡ staged → stands_for image ≡ Some (records_of file)
  staged_old image is = ap stands_for is ∙ staged_records file rec st.rest st.small

  pub grown_is : written staged gate (1 ∷ []) ≡ grown_file file rec
  grown_is = (λ i. written staged (st.gate_is i) (1 ∷ [])) ∙ written_gate file rec st.rest st.small

  pub halfway : (told : Option Contents) → told ≡ Some (wrote (settled staged) gate (1 ∷ []) (written staged gate (1 ∷ []))) → IsHalfway told (records_of file) rec
  halfway told is = subst (λ (o : Option Contents). IsHalfway o (records_of file) rec) (sym is) (
    staged_records file rec st.rest st.small,
    ap stands_for grown_is ∙ stands (grown_file file rec) (grown_rest file rec st.rest st.small).begins ∙ ap (λ (rs : List (List ℕ)). Some rs) (grown_records file rec st.rest st.small),
  )

  pub inside : gate + 1 ≤ length file
  inside = omega (arith, st.gate_is, st.rest.ends)

  pub inside_staged : gate ≤ length staged
  inside_staged = omega (arith, st.gate_is, st.rest.ends, length-append (take (closed_gate file) file) (0 ∷ frame_of rec), length-take (closed_gate file) file)

pub or_more : (gate : ℕ) (records : List (List ℕ)) (rec image : List ℕ) → IsByGate gate records rec image → IsBeforeOrAfter records rec image
or_more gate records rec image by = elim (cases_Bool (get_or image gate 0 == 1)) [
  | inl one ↦ inr (by ∙ ap (λ (b : Bool). Some (cond b (records ++ rec ∷ []) records)) one)
  | inr other ↦ inl (by ∙ ap (λ (b : Bool). Some (cond b (records ++ rec ∷ []) records)) other)
]

-- bytes that are the frame of a record that isn't too long
pub record IsFrameOf (rec bytes : List ℕ) : Type 0 where
  pub is : bytes ≡ frame_of rec
  pub small : length rec ≤ 67108864

-- the journal is ready for the frame
pub ready : (c : Contents) (told : Option Contents) (gates : List ℕ) (gate : ℕ) (rec bytes : List ℕ) → told ≡ Some c → IsHeld told gates gate → IsFrameOf rec bytes → IsStored c.seen rec gate bytes × (told ≡ Some (settled c.seen))
ready c told gates gate rec bytes is held frame =
    let h = subst (λ (o : Option Contents). IsHeld o gates gate) is held in
    (record { rest = h.rest; small = frame.small; gate_is = h.gate_is; bytes_are = frame.is }, is ∙ ap (λ (k : Contents). Some k) h.settled)

-- before the first call
pub old_image : (c : Contents) (told : Option Contents) (gates : List ℕ) (gate : ℕ) (image : List ℕ) → told ≡ Some c → IsHeld told gates gate → IsImage told image → stands_for image ≡ Some (records_of c.seen)
old_image c told gates gate image is held left =
    let h = subst (λ (o : Option Contents). IsHeld o gates gate) is held in
    ap stands_for (only_told c.seen image told (is ∙ ap (λ (k : Contents). Some k) h.settled) left) ∙ stands c.seen h.rest.begins

pub gate_image : (c : Contents) (told : Option Contents) (gates : List ℕ) (gate : ℕ) (rec image : List ℕ) → told ≡ Some c → IsHeld told gates gate → IsImage told image → IsByGate (closed_gate c.seen) (records_of c.seen) rec image
gate_image c told gates gate rec image is held left =
    let h = subst (λ (o : Option Contents). IsHeld o gates gate) is held in
    let same = only_told c.seen image told (is ∙ ap (λ (k : Contents). Some k) h.settled) left in
    old_image c told gates gate image is held left ∙ ap (λ (b : ℕ). Some (cond (b == 1) (records_of c.seen ++ rec ∷ []) (records_of c.seen))) (sym (ap (λ (l : List ℕ). get_or l (closed_gate c.seen) 0) same ∙ h.rest.closed))

pub old_unfinished : (c : Contents) (told : Option Contents) (gates : List ℕ) (gate : ℕ) (rec image : List ℕ) → told ≡ Some c → IsHeld told gates gate → IsImage told image → IsUnfinished c.seen rec image
old_unfinished c told gates gate rec image is held left =
    let h = subst (λ (o : Option Contents). IsHeld o gates gate) is held in
    let same = only_told c.seen image told (is ∙ ap (λ (k : Contents). Some k) h.settled) left in
    inl (ap (λ (l : List ℕ). take (length c.seen) l) same ∙ take_all (length c.seen) c.seen (omega arith))

pub old_synced : (c d : Contents) (told : Option Contents) (gates : List ℕ) (gate : ℕ) (rec : List ℕ) → told ≡ Some c → told ≡ Some d → IsHeld told gates gate → (stands_for d.synced ≡ Some (records_of c.seen)) × IsUnfinished c.seen rec d.synced
old_synced c d told gates gate rec is now held =
    let h = subst (λ (o : Option Contents). IsHeld o gates gate) is held in
    let same : d ≡ c = cc in
    let synced : d.synced ≡ c.seen = ap (λ (k : Contents). k.synced) (same ∙ h.settled) in
    (ap stands_for synced ∙ stands c.seen h.rest.begins, inl (ap (λ (l : List ℕ). take (length c.seen) l) synced ∙ take_all (length c.seen) c.seen (omega arith)))

abbrev pub Stores : Option Contents → Option Contents → ℕ → List ℕ → Type 0
Stores old new gate bytes = (file rec : List ℕ) → IsStored file rec gate bytes → old ≡ Some (settled file) → new ≡ Some (settled (grown_file file rec))

pub adds : (old new : Option Contents) (gates : List ℕ) (gate : ℕ) (rec bytes : List ℕ) → IsHeld old gates gate → IsFrameOf rec bytes → (old ≡ None → new ≡ None) → Stores old new gate bytes → Adds old new rec
adds None new gates gate rec bytes held frame tells stores = tells refl
adds (Some c) None gates gate rec bytes held frame tells stores = let r = ready c (Some c) gates gate rec bytes refl held frame in let now = stores c.seen rec r.0 r.1 in absurd (cc)
adds (Some c) (Some d) gates gate rec bytes held frame tells stores =
    let r = ready c (Some c) gates gate rec bytes refl held frame in
    let now = stores c.seen rec r.0 r.1 in
    let same : d ≡ settled (grown_file c.seen rec) = cc in
    ap (λ (k : Contents). stands_for k.seen) same ∙ stands (grown_file c.seen rec) (grown_rest c.seen rec r.0.rest r.0.small).begins ∙ ap (λ (rs : List (List ℕ)). Some rs) (grown_records c.seen rec r.0.rest r.0.small)

pub holds : (old new : Option Contents) (gates : List ℕ) (gate end : ℕ) (rec bytes : List ℕ) → IsHeld old gates gate → IsFrameOf rec bytes → (old ≡ None → new ≡ None) → Stores old new gate bytes → end ≡ gate + length bytes → IsHeld new (gates ++ gate ∷ []) end
holds None new gates gate end rec bytes held frame tells stores is = subst (λ (o : Option Contents). IsHeld o (gates ++ gate ∷ []) end) (sym (tells refl)) tt
holds (Some c) new gates gate end rec bytes held frame tells stores is =
    let r = ready c (Some c) gates gate rec bytes refl held frame in
    let now = stores c.seen rec r.0 r.1 in
    let records = grown_records c.seen rec r.0.rest r.0.small in
    subst (λ (o : Option Contents). IsHeld o (gates ++ gate ∷ []) end) (sym now) (record {
      settled = refl;
      rest = grown_rest c.seen rec r.0.rest r.0.small;
      gates_are = (λ i. held.gates_are i ++ held.gate_is i ∷ []) ∙ sym (gates_push 8 (records_of c.seen) rec) ∙ ap (λ (rs : List (List ℕ)). gates_of 8 rs) (sym records);
      gate_is = omega (arith, is, held.gate_is, ap length frame.is, length_frame rec, grown_end c.seen rec r.0.rest r.0.small);
    })

pub spaced : (gates : List ℕ) (gate end : ℕ) → AreSpaced gates gate → gate + 5 ≤ end → AreSpaced (gates ++ gate ∷ []) end
spaced gates gate end before le i lt = ⊎_elim
    (λ (old : i < length gates). omega (arith, before i old, get_or_append_left gates (gate ∷ []) 0 i old, get_or_append_left (gates ++ gate ∷ []) (end ∷ []) 0 (i + 1) (omega (arith, length_push gates gate))))
    (λ (last : length gates ≤ i). let is : length gates ≡ i = omega (arith, length_push gates gate) in
    omega (arith, get_or_push gates gate 0 i is, get_or_push (gates ++ gate ∷ []) end 0 (i + 1) (omega (arith, length_push gates gate))))
    (cases_lt i (length gates))

pub acknowledged : (c : Contents) (old new : Option Contents) (gates : List ℕ) (gate : ℕ) (rec bytes image : List ℕ) → old ≡ Some c → IsHeld old gates gate → IsFrameOf rec bytes → Stores old new gate bytes → IsImage new image → stands_for image ≡ Some (records_of c.seen ++ rec ∷ [])
acknowledged c old new gates gate rec bytes image is held frame stores left =
    let r = ready c old gates gate rec bytes is held frame in
    let file = grown_file c.seen rec in
    let rest = grown_rest c.seen rec r.0.rest r.0.small in
    ap stands_for (only_told file image new (stores c.seen rec r.0 r.1) left) ∙ stands file rest.begins ∙ ap (λ (rs : List (List ℕ)). Some rs) (grown_records c.seen rec r.0.rest r.0.small)

-- the gate is inside the file, and the count is that of the records
pub gate_reached : (told : Option Contents) (gates : List ℕ) (gate : ℕ) → IsHeld told gates gate → Reaches told (gate + 1)
gate_reached None gates gate held = tt
gate_reached (Some c) gates gate held = omega (arith, held.gate_is, held.rest.ends)

pub counted : (told : Option Contents) (gates : List ℕ) (gate n : ℕ) → IsHeld told gates gate → n ≡ length gates → HasCount told n
counted None gates gate n held is = tt
counted (Some c) gates gate n held is = omega (arith, is, ap length held.gates_are, length-gates 8 (records_of c.seen))

pub bytes_less : (told : Option Contents) (m n : ℕ) → m ≤ n → Reaches told n → Reaches told m
bytes_less None m n le inside = tt
bytes_less (Some c) m n le inside = omega arith

-- a record's place on the disk
record Placed (c : Contents) (i at size : ℕ) : Type 0 where
  size_is : size ≡ length (get_or (records_of c.seen) i [])
  at_is : at ≡ get_or (gates_of 8 (records_of c.seen)) i 0 + 5
  below : i < length (records_of c.seen)
  inside : at + size ≤ length c.seen

placed : (c : Contents) (gates : List ℕ) (gate i at size : ℕ) → HoldsFile c gates gate → i < length gates → at ≡ get_or gates i 0 + 5 → at + size ≡ get_or (gates ++ gate ∷ []) (i + 1) 0 → Placed c i at size
placed c gates gate i at size h below at_is next_is =
    let rs = records_of c.seen in
    let in_records : i < length rs = omega (arith, below, ap length h.gates_are, length-gates 8 rs) in
    let next = next_gate 8 rs i in_records in
    let g : get_or gates i 0 ≡ get_or (gates_of 8 rs) i 0 = ap (λ (gs : List ℕ). get_or gs i 0) h.gates_are in
    let n : get_or (gates ++ gate ∷ []) (i + 1) 0 ≡ get_or (gates_of 8 rs ++ end_of 8 rs ∷ []) (i + 1) 0 = (λ j. get_or (h.gates_are j ++ h.gate_is j ∷ []) (i + 1) 0) in
    record {
      size_is = omega (arith, at_is, next_is, g, n, next.0);
      at_is = omega (arith, at_is, g);
      below = in_records;
      inside = omega (arith, next_is, n, next.0, next.1, h.rest.ends);
    }

pub read_inside : (told : Option Contents) (gates : List ℕ) (gate i at size : ℕ) → IsHeld told gates gate → i < length gates → at ≡ get_or gates i 0 + 5 → at + size ≡ get_or (gates ++ gate ∷ []) (i + 1) 0 → Reaches told (at + size)
read_inside None gates gate i at size held below at_is next_is = tt
read_inside (Some c) gates gate i at size held below at_is next_is = (placed c gates gate i at size held below at_is next_is).inside

pub read_value : (told : Option Contents) (gates : List ℕ) (gate i at size : ℕ) (into rec : List ℕ) → IsHeld told gates gate → i < length gates → at ≡ get_or gates i 0 + 5 → at + size ≡ get_or (gates ++ gate ∷ []) (i + 1) 0 → ReadsAt told at into → length into ≡ size → rec ≡ into → IsRecord told i rec
read_value None gates gate i at size into rec held below at_is next_is reads long is = tt
read_value (Some c) gates gate i at size into rec held below at_is next_is reads long is =
    let p = placed c gates gate i at size held below at_is next_is in
    let e : length into ≡ length (get_or (records_of c.seen) i []) = long ∙ p.size_is in
    is ∙ reads ∙ (λ j. take (e j) (drop (p.at_is j) c.seen)) ∙ sym (record_at_gate 8 c.seen i p.below)

pub written_back : (len : ℕ) (xs ys : List ℕ) → length ys ≡ len → length xs ≡ length ys → take len (xs ++ drop (length xs) ys) ≡ xs
written_back len xs ys a b =
    ap (λ (l : List ℕ). take len (xs ++ l)) (drop_all (length xs) ys (omega (arith, b))) ∙ ap (λ (l : List ℕ). take len l) (append-nil xs) ∙ take_all len xs (omega (arith, a, b))

-- the image that a restart left, and the disk then
pub restarted : (old mid : Option Contents) (asked : Image) (c : Contents) → old ≡ Some c → Restarts old mid asked → (image : List ℕ) × IsAsked c asked image × (mid ≡ Some (settled image))
restarted None mid asked c is restarts = absurd (cc)
restarted (Some o) None asked c is restarts = absurd restarts
restarted (Some o) (Some d) asked c is restarts =
    let same : o ≡ c = cc in
    (restarts.0, subst (λ (k : Contents). IsAsked k asked restarts.0) same restarts.1, ap (λ (k : Contents). Some k) restarts.2)

-- the cause of a foreign file, and of a fault after a restart
pub foreign_cause : (r : Result (Unit {0}) JournalBad) (foreign sure : Type 0) (before now : ℕ) → IfErr r (OpenRefused foreign sure before now) → IsErrOf r Foreign → foreign
foreign_cause (Ok u) foreign sure before now cause is = absurd (cc)
foreign_cause (Err e) foreign sure before now cause is = let same : e ≡ Foreign = cc in subst (OpenRefused foreign sure before now) same cause

pub after_restart : (r : Result (Unit {0}) JournalBad) (foreign sure wider : Type 0) (before mid now : ℕ) → mid ≡ before → (wider → sure) → IfErr r (OpenRefused foreign sure mid now) → IfErr r (OpenRefused (Unit {0}) wider before now)
after_restart (Ok u) foreign sure wider before mid now same to cause = tt
after_restart (Err (Disk n)) foreign sure wider before mid now same to cause = record { count = cause.count; risen = omega (arith, cause.risen); unsure = λ w. cause.unsure (to w) }
after_restart (Err Foreign) foreign sure wider before mid now same to cause = tt
after_restart (Err (Full n)) foreign sure wider before mid now same to cause = cause
after_restart (Err NoMemory) foreign sure wider before mid now same to cause = tt
