-- What the parts of a line say, each of which is missing where the line ends before it.
use Rattle.std.specs.Prelude.{ℕ, ◌^◌, ◌*◌, ◌+◌, ◌-◌, nat_le, if◌then◌else◌, List, [], ◌∷◌, codes, Option, Some, None}
use Rattle.std.specs.Str.{bytes_eq}
use Rattle.ep_units.specs.Text.{Text}
use Rattle.ep_units.specs.Utf8.{units_of}
use Rattle.ep_script.specs.Texts.{unescaped, is_name, number_below, hex_digit}
use Rattle.ep_script.specs.Left.{Left, old, new, torn}
use Rattle.ep_script.specs.Words.{Rest, ◌>>=◌}

-- NAME
abbrev pub name : Rest → Option Text
name None = None
name (Some bytes) = if is_name bytes then Some (units_of bytes) else None

-- a place or a length
abbrev pub place : Rest → Option ℕ
place None = None
place (Some bytes) = number_below (2 ^ 32) bytes

-- another number
abbrev pub number : Rest → Option ℕ
number None = None
number (Some bytes) = number_below (2 ^ 64) bytes

abbrev pub not_empty : Text → Option Text
not_empty [] = None
not_empty (u ∷ us) = Some (u ∷ us)

-- TEXT, CHANGESET and KEY, which aren't empty
abbrev pub text : Rest → Option Text
text None = None
text (Some bytes) = unescaped (units_of bytes) >>= not_empty

-- VALUE, and TEXT where it may be empty: then it may be missing too
abbrev pub value : Rest → Option Text
value None = Some []
value (Some bytes) = unescaped (units_of bytes)

-- K, the calls of a device before a stop: 0 to 4
abbrev pub calls : Rest → Option ℕ
calls word = number word >>= λ k. if nat_le k 4 then Some k else None

-- a byte in two hexadecimal digits
abbrev pub hex_byte : List ℕ → Option ℕ
hex_byte [] = None
hex_byte (a ∷ []) = None
hex_byte (a ∷ b ∷ []) = hex_digit a >>= λ x. hex_digit b >>= λ y. Some (16 * x + y)
hex_byte (a ∷ b ∷ c ∷ cs) = None

-- a file torn to its full length and filled with one byte
abbrev pub torn_image : List ℕ → Option Left
torn_image word = hex_byte word >>= λ b. Some (torn (2 ^ 64 - 1) (b ∷ []))

-- IMAGE: what the last sync left, what a read gives, or a torn file
abbrev pub image : Rest → Option Left
image None = None
image (Some word) = if bytes_eq word (codes "old") then Some old else (if bytes_eq word (codes "new") then Some new else torn_image word)
