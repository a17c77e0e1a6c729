-- How the files of pads are named.
use Rattle.std.specs.Prelude.{ℕ, List, ◌++◌, codes}
use Rattle.hex.specs.Hex.{encode_lower}
use Rattle.ep_units.specs.Text.{Text}
use Rattle.ep_units.specs.Utf8.{utf8_of}

-- the name of a text's file: its bytes in UTF-8, as lower-case hex, and `.pad`
abbrev pub named_for : List ℕ → List ℕ
named_for text = encode_lower text ++ codes ".pad"

-- the name of a pad's file
abbrev pub file_name_of : Text → List ℕ
file_name_of id = named_for (utf8_of id)
