-- A record that is ready to be appended.
use Rattle.std.specs.Prelude.{◌≡◌, ℕ, ◌-◌, ◌≤◌, List, length, take, drop}
use Rattle.ep_journal.specs.File.{frame_of}

-- the record within its frame
abbrev pub record_in : List ℕ → List ℕ
record_in bytes = take (length bytes - 5) (drop 4 bytes)

pub record IsFrame (bytes : List ℕ) : Type 0 where
  pub whole : bytes ≡ frame_of (record_in bytes)
  pub small : length (record_in bytes) ≤ 67108864
