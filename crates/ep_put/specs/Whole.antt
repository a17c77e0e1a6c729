-- A file of just some records.
use Rattle.std.specs.Prelude.{ℕ, List, [], ◌∷◌, ◌++◌, length, nat_lt, if◌then◌else◌, Option, Some, None}
use Rattle.std.specs.Int.{w32, to_be_bytes}
use Rattle.ep_journal.specs.File.{header}
use Rattle.ep_record.specs.Bytes.{bytes_of}
use Rattle.ep_history.specs.Machine.{file_bytes, most_bytes}
use Rattle.ep_history.specs.declared.record.Record.{Record}
use Rattle.ep_pad_file.specs.Standing.{size}

-- a record behind an open gate
abbrev pub gated : List ℕ → List ℕ
gated rec = 1 ∷ (to_be_bytes w32 (length rec) ++ rec)

-- records behind open gates, and a closed gate
abbrev pub gated_all : List Record → List ℕ
gated_all [] = 0 ∷ []
gated_all (r ∷ rs) = gated (bytes_of r) ++ gated_all rs

-- a file of just these records
abbrev pub whole_file : List Record → List ℕ
whole_file rs = header ++ gated_all rs

-- ---- which records a file takes

-- the bytes of the first record that is too long by itself
abbrev pub first_large : List Record → Option ℕ
first_large [] = None
first_large (r ∷ rs) = if nat_lt most_bytes (size r) then Some (size r) else first_large rs

abbrev pub or_large : Option ℕ → ℕ → ℕ → Option ℕ
or_large (Some n) limit bytes = Some n
or_large None limit bytes = if nat_lt limit bytes then Some bytes else None

-- why a file that may have so many bytes doesn't take just these records: the first that is too long, or all of them are
abbrev pub full_with : ℕ → List Record → Option ℕ
full_with limit rs = or_large (first_large rs) limit (file_bytes size rs)
