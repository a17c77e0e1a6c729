-- What an append that was stopped has left in each image.
use Rattle.std.proofs.Common.{◌≡◌, ◌⊎◌, inl, inr, ⊎_elim, ℕ, zero, suc, ◌+◌, ◌-◌, ◌≤◌, ◌<◌, ◌==◌, nat_le, Bool, true, false, cond, ◌||◌, ◌&&◌, List, [], ◌∷◌, ◌++◌, length, map, get_or, take, refl, sym, ◌∙◌, ap, subst, arith, Option, Some, None, length-append}
use Rattle.std.proofs.lemmas.Bool.{cases_Bool, cases_lt, eqb-true, le-leb, lt-leb, ne_eqb}
use Rattle.std.proofs.lemmas.List.{length-map, length-take, get_or-take, get_or_at}
use Rattle.ep_outside.specs.Crash.{filling, IsAsked, IsTorn, IsTouched}
use Rattle.ep_outside.specs.Disk.{Contents, IsImage, IsUntouched, MayLeave, ReadsAsLeft}
use Rattle.ep_outside.specs.declared.image.Image.{Image}
use Rattle.ep_outside.specs.declared.image.Image.TheVariants.{Old, New, Torn}
use Rattle.ep_journal.specs.File.{closed_gate, frame_of, records_of, stands_for, IsAtRest, IsUnfinished}
use Rattle.ep_journal.specs.File as journal
use Rattle.ep_journal.specs.Held as held
use Rattle.ep_journal.specs.Repair.{grown_file}
use Rattle.ep_journal.proofs.Append.{grown_records}
use Rattle.ep_record.specs.Bytes.{bytes_of, IsEncoding}
use Rattle.ep_history.specs.Machine.{file_bytes}
use Rattle.ep_history.specs.declared.record.Record.{Record}
use Rattle.ep_pad_file.specs.Standing.{size, IsHalfway, StandsFor}
use Rattle.ep_pad_file.specs.Stopping.{gate_behind, is_kept, opens_gate, IsStopped}
use Rattle.ep_pad_file.proofs.Standing.{by_gate, length_is, records_are, stands_same}
use Rattle.ep_pad_file.proofs.Telling.{held_rest}

-- a place is in a written range, or in none
untouched_or : (ranges : List (ℕ × ℕ)) (i : ℕ) → IsUntouched ranges i ⊎ IsTouched ranges i
untouched_or [] i = inl tt
untouched_or (r ∷ rs) i = ⊎_elim
    (λ (before : i < r.0). ⊎_elim (λ u. inl (inl before, u)) (λ t. inr (inr t)) (untouched_or rs i))
    (λ (from : r.0 ≤ i). ⊎_elim
    (λ (within : i < r.1). inr (inl (from, within)))
    (λ (behind : r.1 ≤ i). ⊎_elim (λ u. inl (inr behind, u)) (λ t. inr (inr t)) (untouched_or rs i))
    (cases_lt i r.1))
    (cases_lt i r.0)

-- no file stands for records and for these and one more
not_both : (rs : List Record) (r : Record) (file : List ℕ) → StandsFor rs file → StandsFor (rs ++ r ∷ []) file → ⊥
not_both rs r file a b =
    let same : map bytes_of rs ≡ map bytes_of (rs ++ r ∷ []) = sym (records_are rs file a) ∙ records_are (rs ++ r ∷ []) file b in
    let few : length (map bytes_of rs) ≡ length rs = length-map rs bytes_of in
    let many : length (map bytes_of (rs ++ r ∷ [])) ≡ length (rs ++ r ∷ []) = length-map (rs ++ r ∷ []) bytes_of in
    let more : length (rs ++ r ∷ []) ≡ length rs + 1 = length-append rs (r ∷ []) in
    omega (arith, ap (λ (l : List (List ℕ)). length l) same, few, many, more)

module _ (file rec : List ℕ) (rest : IsAtRest file) (small : length rec ≤ 67108864) where
  gate : ℕ
  gate = closed_gate file

  length-front : length (take (closed_gate file) file) ≡ closed_gate file
  length-front = omega (arith, length-take (closed_gate file) file, rest.ends)

  -- the place of the gate is in what an unfinished append leaves
  long : (image : List ℕ) → IsUnfinished file rec image → closed_gate file < length image
  long image (inl same) = omega (arith, ap (λ (l : List ℕ). length l) same, length-take (length file) image, rest.ends)
  long image (inr x) = omega (arith, ap (λ (l : List ℕ). length l) x.1, length-append (take (closed_gate file) file) (x.0 ∷ frame_of rec), length-front)

  -- and where the byte 01 stands there it has the record
  opened : (image : List ℕ) → IsUnfinished file rec image → get_or image (closed_gate file) 0 ≡ 1 → records_of image ≡ records_of file ++ rec ∷ []
  opened image (inl same) one =
      let shut : get_or image (closed_gate file) 0 ≡ 0 =
      sym (get_or-take (length file) image (closed_gate file) 0 (omega (arith, rest.ends))) ∙ ap (λ (l : List ℕ). get_or l (closed_gate file) 0) same ∙ rest.closed in
      absurd (omega (arith, shut, one))
  opened image (inr x) one =
      let there : get_or image (closed_gate file) 0 ≡ x.0 =
      ap (λ (l : List ℕ). get_or l (closed_gate file) 0) x.1 ∙ get_or_at (take (closed_gate file) file) x.0 (frame_of rec) 0 (closed_gate file) length-front in
      let byte : x.0 ≡ 1 = sym there ∙ one in
      ap (λ (l : List ℕ). records_of l) (x.1 ∙ ap (λ (b : ℕ). take (closed_gate file) file ++ b ∷ frame_of rec) byte) ∙ grown_records file rec rest small

  -- the byte at the gate of a torn image is the fill's
  torn_byte : (d : Contents) (n : ℕ) (fill image : List ℕ) → IsTorn d n fill image → IsUnfinished file rec image → IsUnfinished file rec d.seen → MayLeave d d.seen
      → get_or d.seen (closed_gate file) 0 ≡ 1 → (get_or d.synced (closed_gate file) 0 ≡ 1 → ⊥) → get_or image (closed_gate file) 0 ≡ filling fill (closed_gate file)
  torn_byte d n fill image t there seen reads one shut = ⊎_elim
      (λ (out : IsUntouched d.ranges (closed_gate file)). ⊎_elim
      (λ (below : closed_gate file < length d.synced). absurd (shut (sym (reads.stays (closed_gate file) (long d.seen seen) below out) ∙ one)))
      (λ (behind : length d.synced ≤ closed_gate file). t.filled (closed_gate file) (long image there) (inr behind))
      (cases_lt (closed_gate file) (length d.synced)))
      (λ (touched : IsTouched d.ranges (closed_gate file)). t.filled (closed_gate file) (long image there) (inl touched))
      (untouched_or d.ranges (closed_gate file))

module _ (rs : List Record) (r : Record) (file rec : List ℕ) (s : StandsFor rs file) (enc : IsEncoding rec r) (rest : IsAtRest file) (small : length rec ≤ 67108864) where
  gate_is : closed_gate file ≡ gate_behind rs
  gate_is = omega (arith, length_is rs file s)

  -- an image with the byte 01 at the gate has it, and no other
  by_byte : (image : List ℕ) → journal.IsByGate (closed_gate file) (records_of file) rec image → (b : Bool) → (get_or image (closed_gate file) 0 == 1) ≡ b
      → StandsFor (cond b (rs ++ r ∷ []) rs) image
  by_byte image is b same = subst (λ (v : Bool). StandsFor (cond v (rs ++ r ∷ []) rs) image) same (by_gate (closed_gate file) rs r file image rec s enc is)

  -- after three calls
  pub three_calls : (d : Contents) → ((image : List ℕ) → MayLeave d image → journal.IsByGate (closed_gate file) (records_of file) rec image × IsUnfinished file rec image) → MayLeave d d.seen
      → IsHalfway (Some d) rs r → IsUnfinished file rec d.synced → (asked : Image) (image : List ℕ) → IsAsked d asked image
      → StandsFor (cond (opens_gate (closed_gate file) asked) (rs ++ r ∷ []) rs) image
  three_calls d images reads half synced Old image is = subst (StandsFor rs) (sym is) half.0
  three_calls d images reads half synced New image is = subst (StandsFor (rs ++ r ∷ [])) (sym is) half.1
  three_calls d images reads half synced (Torn n fill) image is =
      by_byte image (images image is.allowed).0 (filling fill.items (closed_gate file) == 1)
      (ap (λ (b : ℕ). b == 1) (torn_byte file rec rest small d n fill.items image is (images image is.allowed).1 (images d.seen reads).1 reads one shut))
    where
      one : get_or d.seen (closed_gate file) 0 ≡ 1
      one = ⊎_elim (λ yes. eqb-true (get_or d.seen (closed_gate file) 0) 1 yes) (λ no. absurd (not_both rs r d.seen (by_byte d.seen (images d.seen reads).0 false no) half.1))
          (cases_Bool (get_or d.seen (closed_gate file) 0 == 1))

      shut : get_or d.synced (closed_gate file) 0 ≡ 1 → ⊥
      shut opens =
          let more : records_of d.synced ≡ records_of file ++ rec ∷ [] = opened file rec rest small d.synced synced opens in
          let same : records_of d.synced ≡ records_of file = records_are rs d.synced half.0 ∙ sym (records_are rs file s) in
          omega (arith, ap (λ (l : List (List ℕ)). length l) (sym same ∙ more), length-append (records_of file) (rec ∷ []))

-- ---- which image it is

-- each image of a disk whose images and last sync stand for the records
pub all_stand : (d : Contents) (rs : List Record) → ((image : List ℕ) → MayLeave d image → StandsFor rs image) → MayLeave d d.seen → StandsFor rs d.synced
    → (asked : Image) (image : List ℕ) → IsAsked d asked image → StandsFor rs image
all_stand d rs images reads synced Old image is = subst (StandsFor rs) (sym is) synced
all_stand d rs images reads synced New image is = subst (StandsFor rs) (sym is) (images d.seen reads)
all_stand d rs images reads synced (Torn n fill) image is = images image is.allowed

-- ---- how many calls

kept_many : (gate calls : ℕ) (asked : Image) → 4 ≤ calls → is_kept gate calls asked ≡ true
kept_many gate calls asked h = ap (λ (b : Bool). b || (calls == 3 && opens_gate gate asked)) (le-leb 4 calls h)

kept_few : (gate calls : ℕ) (asked : Image) → calls < 3 → is_kept gate calls asked ≡ false
kept_few gate calls asked h =
    ap (λ (b : Bool). b || (calls == 3 && opens_gate gate asked)) (lt-leb 4 calls (omega (arith, h)))
    ∙ ap (λ (b : Bool). b && opens_gate gate asked) (ne_eqb calls 3 (λ same. omega (arith, same, h)))

kept_three : (gate calls : ℕ) (asked : Image) → calls ≡ 3 → is_kept gate calls asked ≡ opens_gate gate asked
kept_three gate calls asked is = ap (λ (n : ℕ). is_kept gate n asked) is

-- few calls, three, or many
by_calls : (calls : ℕ) → (calls < 3) ⊎ ((calls ≡ 3) ⊎ (4 ≤ calls))
by_calls calls = ⊎_elim (λ few. inl few) (λ (some : 3 ≤ calls). ⊎_elim (λ (three : calls < 4). inr (inl (omega arith))) (λ many. inr (inr many)) (cases_lt calls 4)) (cases_lt calls 3)

kept_as : (rs : List Record) (r : Record) (image : List ℕ) (a b : Bool) → a ≡ b → StandsFor (cond b (rs ++ r ∷ []) rs) image → StandsFor (cond a (rs ++ r ∷ []) rs) image
kept_as rs r image a b same s = subst (λ (v : Bool). StandsFor (cond v (rs ++ r ∷ []) rs) image) (sym same) s

-- it was answered
pub stopped_kept : (d : Contents) (rs : List Record) (r : Record) (calls : ℕ) → ((image : List ℕ) → MayLeave d image → StandsFor (rs ++ r ∷ []) image) → MayLeave d d.seen → d.synced ≡ d.seen
    → (calls < 3 → (image : List ℕ) → MayLeave d image → StandsFor rs image) → (calls ≡ 3 → IsHalfway (Some d) rs r)
    → (asked : Image) (image : List ℕ) → IsAsked d asked image → StandsFor (cond (is_kept (gate_behind rs) calls asked) (rs ++ r ∷ []) rs) image
stopped_kept d rs r calls made reads settled early late asked image is = ⊎_elim
    (λ few. absurd (not_both rs r d.seen (early few d.seen reads) (made d.seen reads)))
    (λ more. ⊎_elim
    (λ three. let half = late three in absurd (not_both rs r d.seen (subst (StandsFor rs) settled half.0) (made d.seen reads)))
    (λ many. kept_as rs r image _ true (kept_many (gate_behind rs) calls asked many)
    (all_stand d (rs ++ r ∷ []) made reads (subst (StandsFor (rs ++ r ∷ [])) (sym settled) (made d.seen reads)) asked image is)) more)
    (by_calls calls)

-- or not
pub stopped_lost : (rs : List Record) (r : Record) (file rec : List ℕ) → StandsFor rs file → IsEncoding rec r → IsAtRest file → length rec ≤ 67108864 → (d : Contents) (calls : ℕ)
    → ((image : List ℕ) → MayLeave d image → journal.IsByGate (closed_gate file) (records_of file) rec image × IsUnfinished file rec image) → MayLeave d d.seen
    → StandsFor rs d.synced → IsUnfinished file rec d.synced
    → (calls < 3 → (image : List ℕ) → MayLeave d image → StandsFor rs image) → (calls ≡ 3 → IsHalfway (Some d) rs r) → (4 ≤ calls → ⊥)
    → (asked : Image) (image : List ℕ) → IsAsked d asked image → StandsFor (cond (is_kept (gate_behind rs) calls asked) (rs ++ r ∷ []) rs) image
stopped_lost rs r file rec s enc rest small d calls images reads synced unfinished early late many asked image is = ⊎_elim
    (λ few. kept_as rs r image _ false (kept_few (gate_behind rs) calls asked few) (all_stand d rs (early few) reads synced asked image is))
    (λ more. ⊎_elim
    (λ three. kept_as rs r image _ _ (kept_three (gate_behind rs) calls asked three ∙ ap (λ (g : ℕ). opens_gate g asked) (sym (gate_is rs r file rec s enc rest small)))
    (three_calls rs r file rec s enc rest small d images reads (late three) unfinished asked image is))
    (λ lots. absurd (many lots)) more)
    (by_calls calls)
