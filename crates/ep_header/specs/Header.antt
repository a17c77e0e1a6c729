-- What a journal's file begins with.
use Rattle.std.specs.Prelude.{◌≡◌, ◌⊎◌, ℕ, ◌≤◌, ◌==◌, ◌&&◌, Bool, not, nat_lt, bytes_eq, if◌then◌else◌, List, [], ◌∷◌, length, take, Option, Some, None}

-- there are two formats
abbrev pub IsFormat : ℕ → Type 0
IsFormat format = (format ≡ 1) ⊎ (format ≡ 2)

-- EPADJNL1 and EPADJNL2
abbrev pub header_of : ℕ → List ℕ
header_of format = 69 ∷ 80 ∷ 65 ∷ 68 ∷ 74 ∷ 78 ∷ 76 ∷ (if format == 1 then 49 else 50) ∷ []

-- the format of which eight bytes are the header
abbrev pub format_named : List ℕ → Option ℕ
format_named front = if bytes_eq front (header_of 1) then Some 1 else (if bytes_eq front (header_of 2) then Some 2 else None)

-- the format of a file's first records; a file of at most 9 bytes stands for none, and is written anew in format 2
abbrev pub format_in : List ℕ → Option ℕ
format_in file = if nat_lt 9 (length file) then format_named (take 8 file) else Some 2

-- a file of more than 9 bytes that begins with neither header
abbrev pub is_foreign : List ℕ → Bool
is_foreign file =
    nat_lt 9 (length file) && (not (bytes_eq (take 8 file) (header_of 1)) && not (bytes_eq (take 8 file) (header_of 2)))

-- a file that may have a format: it has at most 9 bytes, or the format's header
abbrev pub IsIn : ℕ → List ℕ → Type 0
IsIn format file = (length file ≤ 9) ⊎ (take 8 file ≡ header_of format)
