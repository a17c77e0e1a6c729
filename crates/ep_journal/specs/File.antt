-- A journal's file, and what it stands for.
use Rattle.std.specs.Prelude.{◌≡◌, ℕ, zero, suc, ◌+◌, ◌<◌, ◌≤◌, List, [], ◌∷◌, ◌++◌, length, get_or, take, drop, set, Bool, ◌⊎◌, ◌&&◌, not, nat_lt, nat_le, ◌==◌, bytes_eq, if◌then◌else◌, Option, Some, None}
use Rattle.std.specs.Int.{w32, to_be_bytes, from_be_bytes}

-- EPADJNL1
abbrev pub header : List ℕ
header = 69 ∷ 80 ∷ 65 ∷ 68 ∷ 74 ∷ 78 ∷ 76 ∷ 49 ∷ []

-- the four bytes behind a gate, most significant first
unfoldable pub size_at : List ℕ → ℕ
size_at bytes = from_be_bytes w32 (take 4 (drop 1 bytes))

-- an open gate: the byte 01, four bytes of length, at most 67,108,864, that many bytes of a record, and at least one byte more. These are the first bytes, and so many stand there.
unfoldable pub opens_head : List ℕ → ℕ → Bool
opens_head head left = (get_or head 0 0 == 1) && (nat_le (size_at head) 67108864 && nat_lt (size_at head + 5) left)

-- the bytes begin with an open gate
abbrev pub is_open : List ℕ → Bool
is_open bytes = opens_head bytes (length bytes)

-- the length of the record behind an open gate
abbrev pub size_behind : List ℕ → ℕ → Option ℕ
size_behind head left = if opens_head head left then Some (size_at head) else None

-- the record behind the gate
unfoldable pub record_at : List ℕ → List ℕ
record_at bytes = take (size_at bytes) (drop 5 bytes)

-- the records behind the open gates before the first closed one, where the first gate stands behind so many bytes
abbrev pub records_from : ℕ → List ℕ → List (List ℕ)
records_from skip [] = []
records_from (suc skip) (b ∷ bytes) = records_from skip bytes
records_from zero (b ∷ bytes) = if is_open (b ∷ bytes) then record_at (b ∷ bytes) ∷ records_from (size_at (b ∷ bytes) + 4) bytes else []

-- the records of a file; of one of at most 9 bytes there are none
abbrev pub records_of : List ℕ → List (List ℕ)
records_of file = records_from 8 file

-- a file of more than 9 bytes that doesn't begin with the header
abbrev pub is_foreign : List ℕ → Bool
is_foreign file = nat_lt 9 (length file) && not (bytes_eq (take 8 file) header)

-- What a file stands for: its records; nothing where it is no journal.
abbrev pub stands_for : List ℕ → Option (List (List ℕ))
stands_for file = if is_foreign file then None else Some (records_of file)

-- the gate behind these records, from this first gate on
abbrev pub end_of : ℕ → List (List ℕ) → ℕ
end_of first [] = first
end_of first (r ∷ rs) = end_of (first + (5 + length r)) rs

-- the gates before these records
abbrev pub gates_of : ℕ → List (List ℕ) → List ℕ
gates_of first [] = []
gates_of first (r ∷ rs) = first ∷ gates_of (first + (5 + length r)) rs

-- the place of the first closed gate
abbrev pub closed_gate : List ℕ → ℕ
closed_gate file = end_of 8 (records_of file)

-- with 01 at its first closed gate
abbrev pub opened : List ℕ → List ℕ
opened file = set file (closed_gate file) 1

-- the header, the open gates with their records, a gate 00, and nothing behind it
pub record IsAtRest (file : List ℕ) : Type 0 where
  pub begins : take 8 file ≡ header
  pub ends : closed_gate file + 1 ≡ length file
  pub closed : get_or file (closed_gate file) 0 ≡ 0

-- what an append writes behind the closed gate: length, record and a gate 00
abbrev pub frame_of : List ℕ → List ℕ
frame_of rec = to_be_bytes w32 (length rec) ++ rec ++ 0 ∷ []

-- what an opening makes of a file: its records with a gate 00 behind them, and nothing else; of at most 9 bytes a new journal
abbrev pub mended : List ℕ → List ℕ
mended file = if nat_lt 9 (length file) then take (closed_gate file) file ++ 0 ∷ [] else header ++ 0 ∷ []

-- the image stands for what the file stands for, or for what it stands for with its first closed gate opened
abbrev pub StandsNear : List ℕ → List ℕ → Type 0
StandsNear file image = (stands_for image ≡ stands_for file) ⊎ (stands_for image ≡ stands_for (opened file))

-- a file that an opening need not write anew: of more than 9 bytes, or a new journal
abbrev pub IsLongOrNew : List ℕ → Type 0
IsLongOrNew file = (9 < length file) ⊎ (file ≡ header ++ 0 ∷ [])

-- What a crash may leave of a file while an opening mends it. It stands near the file; and unless the file is written anew, it gets no longer, each byte that is right already stays, what is before the first closed gate stays, and until 00 stands at that gate also what is behind it.
pub record IsMending (file image : List ℕ) : Type 0 where
  pub near : StandsNear file image
  pub no_longer : IsLongOrNew file → length image ≤ length file
  pub right : IsLongOrNew file → (i : ℕ) → i < length (mended file) → get_or file i 0 ≡ get_or (mended file) i 0 → (i < length image) × (get_or image i 0 ≡ get_or file i 0)
  pub before : IsLongOrNew file → (take (closed_gate file) image ≡ take (closed_gate file) file) × (closed_gate file < length image)
  pub behind : IsLongOrNew file → (get_or image (closed_gate file) 0 ≡ 0) ⊎ (drop (closed_gate file + 1) image ≡ drop (closed_gate file + 1) file)

-- the image stands for these records, with one more or without it
abbrev pub IsBeforeOrAfter : List (List ℕ) → List ℕ → List ℕ → Type 0
IsBeforeOrAfter records rec image = (stands_for image ≡ Some records) ⊎ (stands_for image ≡ Some (records ++ rec ∷ []))

-- it has the one more exactly where its byte at the gate is 01
abbrev pub IsByGate : ℕ → List (List ℕ) → List ℕ → List ℕ → Type 0
IsByGate gate records rec image = stands_for image ≡ Some (if get_or image gate 0 == 1 then records ++ rec ∷ [] else records)

-- What an append that isn't finished leaves of a file at rest: the file with anything behind it, or the record's whole frame behind its last gate, and any byte at that gate.
abbrev pub IsUnfinished : List ℕ → List ℕ → List ℕ → Type 0
IsUnfinished file rec image = (take (length file) image ≡ file) ⊎ ((byte : ℕ) × (image ≡ take (closed_gate file) file ++ byte ∷ frame_of rec))
