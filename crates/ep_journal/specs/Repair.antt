-- Working words of private contracts: a file in the steps of an opening and of an append.
use Rattle.std.specs.Prelude.{◌≡◌, ℕ, ◌+◌, ◌≤◌, List, ◌∷◌, ◌++◌, length, take, drop, true, nat_lt}
use Rattle.ep_journal.specs.File.{header, closed_gate, IsAtRest, frame_of}

-- with 00 at its first closed gate
abbrev pub zeroed : List ℕ → List ℕ
zeroed file = take (closed_gate file) file ++ 0 ∷ drop (closed_gate file + 1) file

-- a journal of more than 9 bytes, with its first closed gate
pub record IsClosing (file : List ℕ) (gate : ℕ) : Type 0 where
  pub begins : take 8 file ≡ header
  pub long : nat_lt 9 (length file) ≡ true
  pub gate_is : gate ≡ closed_gate file

-- a journal of that many bytes, more than 9
pub record IsLongJournal (file : List ℕ) (total : ℕ) : Type 0 where
  pub begins : take 8 file ≡ header
  pub long : nat_lt 9 (length file) ≡ true
  pub total_is : total ≡ length file

-- with a record's frame behind its closed gate
abbrev pub staged_file : List ℕ → List ℕ → List ℕ
staged_file file rec = take (closed_gate file) file ++ 0 ∷ frame_of rec

-- and with the gate opened
abbrev pub grown_file : List ℕ → List ℕ → List ℕ
grown_file file rec = take (closed_gate file) file ++ 1 ∷ frame_of rec

-- these bytes are the record's frame, ready for the closed gate of a file at rest
pub record IsStored (file rec : List ℕ) (gate : ℕ) (bytes : List ℕ) : Type 0 where
  pub rest : IsAtRest file
  pub small : length rec ≤ 67108864
  pub gate_is : gate ≡ closed_gate file
  pub bytes_are : bytes ≡ frame_of rec
