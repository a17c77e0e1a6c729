-- Texts in UTF-8, as they come in and go out.
use Rattle.std.specs.Prelude.{ℕ, Bool, List, nat_lt}
use Rattle.std.specs.List.{flat_map, list_all}
use Rattle.std.specs.Str.{chars, encode_utf8_all}
use Rattle.std.specs.Char.Escape.{encode_utf16}
use Rattle.std.specs.Char.Utf16.{utf16_lossy_chars}
use Rattle.ep_units.specs.Text.{Text}

-- the units of a text in UTF-8
abbrev pub units_of : List ℕ → Text
units_of bytes = flat_map encode_utf16 (chars bytes)

-- a text in UTF-8, where U+FFFD stands for a half of a pair that stands alone
abbrev pub utf8_of : Text → List ℕ
utf8_of us = encode_utf8_all (utf16_lossy_chars us)

-- working word: each is a character of one byte
abbrev pub is_ascii : List ℕ → Bool
is_ascii bytes = list_all (λ b. nat_lt b 128) bytes
