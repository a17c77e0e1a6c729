-- What a disk tells of a pad's file, and what a crash leaves of it.
use Rattle.std.proofs.Common.{◌≡◌, ◌⊎◌, inl, inr, ⊎_elim, ℕ, ◌+◌, ◌<◌, List, [], ◌∷◌, ◌++◌, length, map, get_or, refl, sym, ◌∙◌, ap, subst, arith, true, Option, Some, None}
use Rattle.ep_outside.specs.Disk.{Contents, MayLeave, IsImage, ReadsAsLeft, settled}
use Rattle.ep_outside.specs.Moments.{LeavesOnly, LeavesFirst, MayLeaveFirst}
use Rattle.ep_outside.specs.Crash.{IsAsked}
use Rattle.ep_outside.specs.declared.image.Image.{Image}
use Rattle.ep_outside.specs.declared.image.Image.TheVariants.{Old, New, Torn}
use Rattle.ep_outside.proofs.Images.{only_seen}
use Rattle.ep_outside.proofs.Moments.{joined, weaker}
use Rattle.ep_journal.specs.File.{stands_for, records_of, is_foreign, IsAtRest, IsMending}
use Rattle.ep_journal.specs.Held as held
use Rattle.ep_record.specs.Bytes.{bytes_of, IsEncoding}
use Rattle.ep_history.specs.declared.record.Record.{Record}
use Rattle.ep_pad_file.specs.Standing.{size, StandsFor, Holds, HoldsSynced, IsLeft, MayHold, IsHalfway}
use Rattle.ep_journal.proofs.Keeping.{counted}
use Rattle.ep_history.specs.Lists.{at}
use Rattle.ep_pad_file.proofs.Standing.{stands_same, stands_more, native, records_are, record_at_index, count_is, length_is}
use Rattle.ep_history.specs.Machine.{file_bytes}
use Rattle.ep_pad_file.proofs.Left.{left_stands, left_mends, left_native, rests}

-- ---- what is held

-- what tells after an append told before
pub told_before : (old new : Option Contents) (rec : List ℕ) (c : Contents) → held.Adds old new rec → new ≡ Some c → (d : Contents) × (old ≡ Some d)
told_before None new rec c adds is = let e : None ≡ Some c = sym adds ∙ is in cc
told_before (Some d) new rec c adds is = (d, refl)

pub holds_adds : (old new : Option Contents) (rs : List Record) (r : Record) (rec : List ℕ) → Holds old rs → IsEncoding rec r → held.Adds old new rec → Holds new (rs ++ r ∷ [])
holds_adds None new rs r rec h enc adds = absurd h
holds_adds (Some c) None rs r rec h enc adds = absurd adds
holds_adds (Some c) (Some d) rs r rec h enc adds = stands_more rs r c.seen d.seen rec h enc adds

abbrev pub Opens : Option Contents → Option Contents → Type 0
Opens old new = (c : Contents) → old ≡ Some c → held.Stands new (stands_for c.seen)

pub stands_again : (rs : List Record) (new : Option Contents) (file : List ℕ) → StandsFor rs file → held.Stands new (stands_for file) → Holds new rs
stands_again rs None file s is = absurd is
stands_again rs (Some d) file s is = record { bytes = is ∙ s.bytes; records = s.records }

pub holds_again : (old new : Option Contents) (rs : List Record) → Holds old rs → Opens old new → Holds new rs
holds_again None new rs h opens = absurd h
holds_again (Some c) new rs h opens = stands_again rs new c.seen h (opens c refl)

-- an opening settles what was left
pub settles : (old new : Option Contents) (rs pending : List Record) → MayHold old rs pending → Opens old new → Holds new rs ⊎ Holds new (rs ++ pending)
settles None new rs pending m opens = absurd m
settles (Some c) new rs pending m opens = ⊎_elim
    (λ s. inl (stands_again rs new c.seen s (opens c refl)))
    (λ s. inr (stands_again (rs ++ pending) new c.seen s (opens c refl)))
    (left_stands rs pending c.seen m.0)

pub own_held : (told : Option Contents) (rs : List Record) → Holds told rs → held.IsForeign told → ⊥
own_held None rs h foreign = absurd h
own_held (Some c) rs h foreign = let shut = native rs c.seen h in absurd (cc)

pub own_left : (told : Option Contents) (rs pending : List Record) → MayHold told rs pending → held.IsForeign told → ⊥
own_left None rs pending m foreign = absurd m
own_left (Some c) rs pending m foreign = left_native rs pending c.seen m.0 foreign

-- ---- what is left

-- a file that no records are left in
strange : List ℕ
strange = 0 ∷ 0 ∷ 0 ∷ 0 ∷ 0 ∷ 0 ∷ 0 ∷ 0 ∷ 0 ∷ 0 ∷ []

is_strange : is_foreign strange ≡ true
unfolding strange
is_strange = refl

-- a disk of which all images are left so tells
pub left_images : (told : Option Contents) (rs pending : List Record) → ((image : List ℕ) → IsImage told image → IsLeft rs pending image) → ReadsAsLeft told
    → ((d : Contents) → told ≡ Some d → IsLeft rs pending d.synced) → MayHold told rs pending
left_images None rs pending images reads synced = absurd (left_native rs pending strange (images strange tt) is_strange)
left_images (Some c) rs pending images reads synced = (images c.seen reads, synced c refl, images)

-- an open file is settled
pub holds_settled : (told : Option Contents) (gates : List ℕ) (gate : ℕ) (rs : List Record) → held.IsHeld told gates gate → Holds told rs → MayHold told rs []
holds_settled None gates gate rs is h = absurd h
holds_settled (Some c) gates gate rs is h =
    let synced : c.synced ≡ c.seen = ap (λ (k : Contents). k.synced) is.settled in
    (rests rs c.seen c.seen is.rest h refl, rests rs c.seen c.synced is.rest h synced, λ image left. rests rs c.seen image is.rest h (only_seen c.seen image (subst (λ (k : Contents). MayLeave k image) is.settled left)))

-- the image of a restart
pub asked_left : (c : Contents) (asked : Image) (image : List ℕ) (rs pending : List Record) → MayHold (Some c) rs pending → IsAsked c asked image → IsLeft rs pending image
asked_left c Old image rs pending m is = subst (IsLeft rs pending) (sym is) m.1
asked_left c New image rs pending m is = subst (IsLeft rs pending) (sym is) m.0
asked_left c (Torn n fill) image rs pending m is = m.2 image is.allowed

-- ---- openings

module _ {D : Type 0} (moment : D → ℕ) (since : D → ℕ → List ℕ → Type 0) (old new : D) (P Q : List ℕ → Type 0) (rs pending : List Record)
    (start : (image : List ℕ) → P image → IsLeft rs pending image) (then_ : (image : List ℕ) → Q image → IsLeft rs pending image) where
  pub first_left : LeavesFirst moment since old new P Q → LeavesOnly moment since old new (IsLeft rs pending)
  first_left h = joined moment since old h.0 new (IsLeft rs pending) (weaker moment since old h.0 P (IsLeft rs pending) start h.1) (weaker moment since h.0 new Q (IsLeft rs pending) then_ h.2)

  pub may_left : MayLeaveFirst moment since old new P Q → LeavesOnly moment since old new (IsLeft rs pending)
  may_left h = ⊎_elim (λ whole. weaker moment since old new P (IsLeft rs pending) start whole) (λ parts. first_left parts) h

-- it may hold them, so it tells
pub left_tells : (told : Option Contents) (rs pending : List Record) → MayHold told rs pending → (c : Contents) × (told ≡ Some c) × MayHold (Some c) rs pending
left_tells None rs pending m = absurd m
left_tells (Some c) rs pending m = (c, refl, m)

pub held_tells : (told : Option Contents) (rs : List Record) → Holds told rs → (c : Contents) × (told ≡ Some c) × StandsFor rs c.seen
held_tells None rs h = absurd h
held_tells (Some c) rs h = (c, refl, h)

pub image_left : (told : Option Contents) (c : Contents) (rs pending : List Record) → told ≡ Some c → MayHold (Some c) rs pending → (image : List ℕ) → IsImage told image → IsLeft rs pending image
image_left told c rs pending is m image left = m.2 image (subst (λ (o : Option Contents). IsImage o image) is left)

-- what a refused opening left synced
pub synced_left : (c d : Contents) (rs pending : List Record) → MayHold (Some c) rs pending → (d.synced ≡ c.synced) ⊎ IsMending c.seen d.synced → IsLeft rs pending d.synced
synced_left c d rs pending m is = ⊎_elim (λ same. subst (IsLeft rs pending) (sym same) m.1) (λ mending. left_mends rs pending c.seen d.synced m.0 mending) is

pub halfway : (told : Option Contents) (rs : List Record) (r : Record) (file rec : List ℕ) → StandsFor rs file → IsEncoding rec r → held.IsHalfway told (records_of file) rec → IsHalfway told rs r
halfway None rs r file rec s enc is = absurd is
halfway (Some d) rs r file rec s enc is = (stands_same rs file d.synced s is.0, stands_more rs r file d.seen rec s enc is.1)

-- a record that was read
pub read_record : (told : Option Contents) (gates : List ℕ) (gate : ℕ) (rs : List Record) (i : ℕ) (bytes : List ℕ) → Holds told rs → held.IsHeld told gates gate → i < length gates → held.IsRecord told i bytes
    → (r : Record) × (at rs i ≡ Some r) × IsEncoding bytes r
read_record None gates gate rs i bytes h is below reads = absurd h
read_record (Some c) gates gate rs i bytes h is below reads =
    let count : length gates ≡ length (records_of c.seen) = counted (Some c) gates gate (length gates) is refl in
    let r = record_at_index rs i h.records (omega (arith, below, count_is rs c.seen (length gates) h count)) in
    let same : bytes ≡ get_or (map bytes_of rs) i [] = reads ∙ ap (λ (l : List (List ℕ)). get_or l i []) (records_are rs c.seen h) in
    (r.0, r.1, subst (λ (b : List ℕ). IsEncoding b r.0) (sym same) r.2)

-- ---- appends

pub held_length : (told : Option Contents) (gates : List ℕ) (gate : ℕ) (rs : List Record) → held.IsHeld told gates gate → Holds told rs → gate + 1 ≡ file_bytes size rs
held_length None gates gate rs is h = absurd h
held_length (Some c) gates gate rs is h = omega (arith, is.gate_is, length_is rs c.seen h)

pub held_rest : (told : Option Contents) (c : Contents) (gates : List ℕ) (gate : ℕ) → told ≡ Some c → held.IsHeld told gates gate → (c ≡ settled c.seen) × IsAtRest c.seen
held_rest told c gates gate is h = let held_now = subst (λ (o : Option Contents). held.IsHeld o gates gate) is h in (held_now.settled, held_now.rest)

pub synced_as_read : (told : Option Contents) (d : Contents) (gates : List ℕ) (gate : ℕ) (rs pending : List Record) → told ≡ Some d → held.IsHeld told gates gate → ReadsAsLeft told
    → ((image : List ℕ) → IsImage told image → IsLeft rs pending image) → IsLeft rs pending d.synced
synced_as_read told d gates gate rs pending is h reads images =
    let seen : IsLeft rs pending d.seen = images d.seen (subst (λ (o : Option Contents). IsImage o d.seen) (sym is) (subst ReadsAsLeft is reads)) in
    let same : d.synced ≡ d.seen = ap (λ (k : Contents). k.synced) (held_rest told d gates gate is h).0 in
    subst (IsLeft rs pending) (sym same) seen

pub holds_synced : (told : Option Contents) (rs pending : List Record) (file : List ℕ) → MayHold told rs pending → StandsFor rs file → ((d : Contents) → told ≡ Some d → stands_for d.synced ≡ Some (records_of file)) → HoldsSynced told rs
holds_synced None rs pending file may s is = absurd may
holds_synced (Some d) rs pending file may s is = stands_same rs file d.synced s (is d refl)

-- a file that is as it was when it was open and held these
pub holds_still : (old new : Option Contents) (gates : List ℕ) (gate : ℕ) (rs : List Record) → new ≡ old → held.IsHeld old gates gate → Holds old rs → MayHold new rs []
holds_still old new gates gate rs same is h = subst (λ (o : Option Contents). MayHold o rs []) (sym same) (holds_settled old gates gate rs is h)
