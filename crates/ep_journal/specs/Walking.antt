-- Working words of private contracts: what is read of a journal's gates.
use Rattle.std.specs.Prelude.{◌≡◌, ℕ, ◌+◌, ◌<◌, ◌≤◌, List, ◌++◌, ◌∷◌, [], length, get_or, drop, Option, Some, None}
use Rattle.ep_outside.specs.Disk.{Contents}
use Rattle.ep_journal.specs.File.{size_behind, records_of, records_from, gates_of, end_of, closed_gate}

-- each gate lies 5 bytes or more before the next one
abbrev pub AreSpaced : List ℕ → ℕ → Type 0
AreSpaced gates gate = (i : ℕ) → i < length gates → get_or gates i 0 + 5 ≤ get_or (gates ++ gate ∷ []) (i + 1) 0

-- the length of the record behind a gate, where the disk tells a file of so many bytes
abbrev pub SizeOn : Option Contents → ℕ → ℕ → Option ℕ → Type 0
SizeOn None gate total size = Unit {0}
SizeOn (Some c) gate total size = total ≡ length c.seen → size ≡ size_behind (drop gate c.seen) (length (drop gate c.seen))

-- its byte at a place
abbrev pub ByteOn : Option Contents → ℕ → ℕ → Type 0
ByteOn None at byte = Unit {0}
ByteOn (Some c) at byte = at < length c.seen → byte ≡ get_or c.seen at 0

-- the gates that were met, and those to come, are the gates of the file
pub record IsWalked (file : List ℕ) (gates : List ℕ) (gate : ℕ) : Type 0 where
  pub inside : gate < length file
  pub met : gates ++ gates_of gate (records_from 0 (drop gate file)) ≡ gates_of 8 (records_of file)
  pub to_come : end_of gate (records_from 0 (drop gate file)) ≡ closed_gate file

abbrev pub Walks : Option Contents → ℕ → List ℕ → ℕ → Type 0
Walks None total gates gate = Unit {0}
Walks (Some c) total gates gate = total ≡ length c.seen → IsWalked c.seen gates gate

-- these are the gates of the file, and its first closed one
abbrev pub IsFound : Option Contents → ℕ → List ℕ → ℕ → Type 0
IsFound None total gates gate = Unit {0}
IsFound (Some c) total gates gate = total ≡ length c.seen → (gates ≡ gates_of 8 (records_of c.seen)) × (gate ≡ closed_gate c.seen)
