-- Working words of private contracts: what a disk in memory holds, and what it held.
use Rattle.std.specs.Prelude.{ℕ, ◌+◌, ◌≤◌, ◌⊎◌, List, [], ◌∷◌, length, drop, vec_len, vec_capacity}
use mathlib.Core.Logic.{inl, inr}
use Rattle.std.specs.declared.snapshot.Snapshot.{Snapshot}
use Rattle.ep_disk_mem.specs.declared.held.Held.{Held}
use Rattle.ep_outside.specs.Disk.{Contents, MayLeave}

abbrev pub contents_of : Held → Contents
contents_of h = record { seen = h.bytes.items; synced = h.synced.items; ranges = h.ranges.items; least = h.least; most = h.most }

-- at one of these moments a crash might have left it
abbrev pub HadImage : List (Snapshot Held) → List ℕ → Type 0
HadImage [] c = ⊥
HadImage (s ∷ past) c = MayLeave (contents_of s.value) c ⊎ HadImage past c

none_left : (past : List (Snapshot Held)) (c : List ℕ) → HadImage (drop (length past) past) c → ⊥
none_left [] c had = had
none_left (s ∷ past) c had = none_left past c had

pub only_here : (past : List (Snapshot Held)) (now : Contents) (c : List ℕ) → MayLeave now c ⊎ HadImage (drop (length past) past) c → MayLeave now c
only_here past now c (inl here) = here
only_here past now c (inr had) = absurd (none_left past c had)

-- what a crash from moment t on might have left
abbrev pub Since : List (Snapshot Held) → Held → ℕ → List ℕ → Type 0
Since past held t c = MayLeave (contents_of held) c ⊎ HadImage (drop t past) c

-- there is room for so many calls, which write so many bytes, and for any image
pub record HasSpace (h : Held) (calls bytes : ℕ) : Type 0 where
  pub bytes_room : vec_len h.bytes + bytes ≤ vec_capacity h.bytes
  pub synced_room : vec_len h.bytes + bytes ≤ vec_capacity h.synced
  pub most_bytes : h.most ≤ vec_capacity h.bytes
  pub most_synced : h.most ≤ vec_capacity h.synced
  pub ranges_room : vec_len h.ranges + calls ≤ vec_capacity h.ranges
  pub synced : length h.synced.items ≤ h.most
