-- What a line of edits is.
use Rattle.std.specs.Prelude.{ℕ, if◌then◌else◌, List, [], ◌∷◌, codes, Option, Result, Err}
use Rattle.std.specs.Option.{option_map}
use Rattle.std.specs.Str.{is_utf8}
use Rattle.ep_event.specs.declared.event.Local.{Local}
use Rattle.ep_script.specs.Words.{Rest, look_up, ◌>>=◌}
use Rattle.ep_script.specs.Edits.{insert, delete, format}
use Rattle.ep_script.specs.Line.{read_as}
use Rattle.ep_script.specs.Seen.{EditTexts}
use Rattle.ep_script.specs.declared.line.LineBad.{LineBad}
use Rattle.ep_script.specs.declared.line.LineBad.TheVariants.{Utf8}
use Rattle.ep_script.specs.declared.write_line.WriteLine.{WriteLine}
use Rattle.ep_script.specs.declared.write_line.WriteLine.TheVariants.{Blank, Edit}

-- the edits, by the word that each begins with
abbrev pub edits : List (List ℕ × (Rest → Option Local))
edits = (codes "insert", insert) ∷ (codes "delete", delete) ∷ (codes "format", format) ∷ []

abbrev pub edit_with : List ℕ → Rest → Option Local
edit_with word rest = look_up word edits >>= λ edit. edit rest

abbrev pub write_line_with : List ℕ → Rest → Option WriteLine
write_line_with word rest = option_map Edit (edit_with word rest)

-- what the bytes of a line are
unfoldable pub write_line_of : List ℕ → Result WriteLine LineBad
write_line_of bytes = if is_utf8 bytes then read_as Blank write_line_with bytes else Err Utf8

-- no half of a pair stands alone in a text of the line
abbrev pub WriteTexts : WriteLine → Type 0
WriteTexts Blank = Unit {0}
WriteTexts (Edit e) = EditTexts e
