-- How many bytes are read of a disk.
use Rattle.std.specs.Prelude.{ℕ, ◌+◌, ◌≤◌, Option, Some, None}

-- how many bytes its reads have given, by its own count; 0 of a disk that doesn't count them
abbrev pub bytes_of : Option ℕ → ℕ
bytes_of None = 0
bytes_of (Some n) = n

-- at most so many bytes were read between two states of a disk
abbrev pub ReadsUpTo : Option ℕ → Option ℕ → ℕ → Type 0
ReadsUpTo before now n = bytes_of now ≤ bytes_of before + n
