-- A disk: what a read gives, what isn't sure yet since the last sync, and what a crash may leave.
use Rattle.std.specs.Prelude.{ℕ, ◌≡◌, ◌+◌, ◌-◌, ◌^◌, ◌<◌, ◌≤◌, ◌⊎◌, min, max, Bool, true, List, [], ◌∷◌, ◌++◌, length, take, drop, get_or, Option, Some, None, option_map, Result, Ok, Err, IsErr, OnErr, OnOk}
use Rattle.ep_outside.specs.Outside.{HasCause}
use Rattle.ep_outside.specs.Planned.{Plan, Follows}
use Rattle.ep_outside.specs.declared.source.Failed.{Failed}

-- what a read gives; the bytes at the last sync; the ranges written since, each with its end; the least and the greatest length since
pub record Contents : Type 0 where
  pub seen : List ℕ
  pub synced : List ℕ
  pub ranges : List (ℕ × ℕ)
  pub least : ℕ
  pub most : ℕ

-- nothing is written that isn't synced
abbrev pub settled : List ℕ → Contents
settled seen = record { seen = seen; synced = seen; ranges = []; least = length seen; most = length seen }

-- no range has this place
abbrev pub IsUntouched : List (ℕ × ℕ) → ℕ → Type 0
IsUntouched [] i = Unit {0}
IsUntouched (r ∷ rs) i = ((i < r.0) ⊎ (r.1 ≤ i)) × IsUntouched rs i

-- What a crash may leave: some length between the least and the greatest, and at each place that was there at the last sync and wasn't written since, the byte of then.
pub record MayLeave (c : Contents) (image : List ℕ) : Type 0 where
  pub no_shorter : c.least ≤ length image
  pub no_longer : length image ≤ c.most
  pub stays : (i : ℕ) → i < length image → i < length c.synced → IsUntouched c.ranges i → get_or image i 0 ≡ get_or c.synced i 0

-- an image of the disk: what a crash may leave of it; where it doesn't tell, anything
abbrev pub IsImage : Option Contents → List ℕ → Type 0
IsImage None image = Unit {0}
IsImage (Some c) image = MayLeave c image

-- a disk as it reads is one of its images
abbrev pub ReadsAsLeft : Option Contents → Type 0
ReadsAsLeft None = Unit {0}
ReadsAsLeft (Some c) = MayLeave c c.seen

-- it has so many bytes
abbrev pub HasLength : Option Contents → ℕ → Type 0
HasLength None n = Unit {0}
HasLength (Some c) n = n ≡ length c.seen

-- it has so many bytes or more
abbrev pub Reaches : Option Contents → ℕ → Type 0
Reaches None n = Unit {0}
Reaches (Some c) n = n ≤ length c.seen

-- these are its bytes from a place on
abbrev pub ReadsAt : Option Contents → ℕ → List ℕ → Type 0
ReadsAt None at bytes = Unit {0}
ReadsAt (Some c) at bytes = bytes ≡ take (length bytes) (drop at c.seen)

-- bytes with others in their place, from a place on
abbrev pub written : List ℕ → ℕ → List ℕ → List ℕ
written old at bytes = take at old ++ bytes ++ drop (at + length bytes) old

-- after a write of these bytes, by which a read came to give that
abbrev pub wrote : Contents → ℕ → List ℕ → List ℕ → Contents
wrote c at bytes seen = record { seen = seen; synced = c.synced; ranges = c.ranges ++ (at, at + length bytes) ∷ []; least = min c.least (length seen); most = max c.most (at + length bytes) }

-- The bytes are written. A write that failed did nothing, or a part of its work: what a read gives is an image of the whole write.
abbrev pub Writes : Option Contents → Option Contents → ℕ → List ℕ → Result (Unit {0}) Failed → Type 0
Writes None None at bytes r = Unit {0}
Writes (Some c) (Some d) at bytes (Ok u) = d ≡ wrote c at bytes (written c.seen at bytes)
Writes (Some c) (Some d) at bytes (Err e) = (d ≡ c) ⊎ ((seen : List ℕ) × (d ≡ wrote c at bytes seen) × MayLeave (wrote c at bytes (written c.seen at bytes)) seen)
Writes None (Some d) at bytes r = ⊥
Writes (Some c) None at bytes r = ⊥

-- after a cut to this length, by which a read came to give that
abbrev pub shortened : Contents → ℕ → List ℕ → Contents
shortened c to seen = record { seen = seen; synced = c.synced; ranges = c.ranges; least = min c.least to; most = c.most }

-- The file is cut. A cut that failed did nothing, or cut less.
abbrev pub Cuts : Option Contents → Option Contents → ℕ → Result (Unit {0}) Failed → Type 0
Cuts None None to r = Unit {0}
Cuts (Some c) (Some d) to (Ok u) = d ≡ shortened c to (take to c.seen)
Cuts (Some c) (Some d) to (Err e) = (d ≡ c) ⊎ ((n : ℕ) × (to ≤ n) × (d ≡ shortened c to (take n c.seen)))
Cuts None (Some d) to r = ⊥
Cuts (Some c) None to r = ⊥

-- A crash leaves what a read gives. A sync that failed did nothing that is sure.
abbrev pub Syncs : Option Contents → Option Contents → Result (Unit {0}) Failed → Type 0
Syncs None None r = Unit {0}
Syncs (Some c) (Some d) (Ok u) = d ≡ settled c.seen
Syncs (Some c) (Some d) (Err e) = d ≡ c
Syncs None (Some d) r = ⊥
Syncs (Some c) None r = ⊥

-- the calls of write_at, cut and sync, and the bytes in all, for which there is room
pub record Room : Type 0 where
  pub calls : ℕ
  pub bytes : ℕ

-- room for so many calls that write so many bytes
pub record HasRoom (room : Room) (calls bytes : ℕ) : Type 0 where
  pub for_calls : calls ≤ room.calls
  pub for_bytes : bytes ≤ room.bytes

-- one call took its room
pub record Spends (old new : Room) (n : ℕ) : Type 0 where
  pub calls : old.calls ≡ new.calls + 1
  pub bytes : old.bytes ≡ new.bytes + n

-- Time goes on: a crash since t might have left what it might have left before, or what it may leave now.
pub record Moves (before now : ℕ) (past since : ℕ → List ℕ → Type 0) (told : Option Contents) : Type 0 where
  pub later : before ≤ now
  pub nothing_else : (t : ℕ) (c : List ℕ) → t ≤ before → since t c → past t c ⊎ IsImage told c
  pub keeps : (t : ℕ) (c : List ℕ) → t ≤ before → past t c → since t c

-- a read gave so many bytes more, or failed; a count of them stands still at the greatest `u64`
abbrev pub GivesMore : {T : Type 0} → Option ℕ → Option ℕ → ℕ → Result T Failed → Type 0
GivesMore before now n (Ok u) = now ≡ option_map (λ m. max m (min (m + n) (2 ^ 64 - 1))) before
GivesMore before now n (Err e) = now ≡ before

-- where a stop was asked for each device call counts, and where none is left it fails
abbrev pub Stops : {T : Type 0} → Option ℕ → Option ℕ → Result T Failed → Type 0
Stops None now result = now ≡ None
Stops (Some n) now result = (n ≡ 0 → (now ≡ Some 0) × IsErr result) × ((k : ℕ) → n ≡ k + 1 → now ≡ Some k)

-- a disk that fails in a stop alone: a call fails, and the count rises, only where no call is left; the mark stays
pub record StopsAlone {T : Type 0} (was is : Bool) (left : Option ℕ) (before now : ℕ) (result : Result T Failed) : Type 0 where
  pub fails : was ≡ true → OnErr result (left ≡ Some 0)
  pub count : was ≡ true → OnOk result (now ≡ before)
  pub same : is ≡ was

-- Of a disk's device call: time goes on, a failure has its cause, calls fail as planned, and a stop that was asked for comes in its turn.
pub record IsCall {D T : Type 0} (told : D → Option Contents) (moment : D → ℕ) (since : D → ℕ → List ℕ → Type 0) (failures : D → ℕ) (is_steady : D → Bool) (plan : D → Option Plan) (stops_alone : D → Bool) (left : D → Option ℕ) (old new : D) (result : Result T Failed) : Type 0 where
  pub time : Moves (moment old) (moment new) (since old) (since new) (told new)
  pub cause : HasCause (failures old) (failures new) (is_steady old) (is_steady new) (IsErr result)
  pub planned : Follows (plan old) (plan new) (IsErr result)
  pub stops : Stops (left old) (left new) result
  pub alone : StopsAlone (stops_alone old) (stops_alone new) (left old) (failures old) (failures new) result

-- no device call of it fails: it never fails, or it fails in a stop alone and no stop was asked for
abbrev pub IsSure : {D : Type 0} → (D → Bool) → (D → Bool) → (D → Option ℕ) → D → Type 0
IsSure is_steady stops_alone left d = (is_steady d ≡ true) ⊎ ((stops_alone d ≡ true) × (left d ≡ None))

-- the marks stay, and no stop is asked for
pub record KeepsMarks {D : Type 0} (is_steady stops_alone : D → Bool) (left : D → Option ℕ) (old new : D) : Type 0 where
  pub steady : is_steady new ≡ is_steady old
  pub alone : stops_alone new ≡ stops_alone old
  pub unstopped : left old ≡ None → left new ≡ None
