-- A script that is read line by line.
use Rattle.std.specs.Prelude.{ℕ, ◌≡◌, ◌+◌, ◌++◌, ◌∷◌, [], Bool, true, false, ◌||◌, if◌then◌else◌, nat_lt, List, length, Option, Some, None, IfSome, Result, Ok, Err}
use Rattle.ep_script.specs.Lines.{Row, rows_of, said}
use Rattle.ep_script.specs.declared.script.ScriptLine.{ScriptLine}
use Rattle.ep_script.specs.declared.script.ScriptLine.TheVariants.{Text, Long}
use Rattle.ep_script.specs.declared.script.ScriptBad.{ScriptBad}

-- the most bytes of a line, without its LF
abbrev pub most_line : ℕ
most_line = 1048576

-- the last byte of a script at which a line may end
abbrev pub most_script : ℕ
most_script = 1073741824

-- a line that begins at this place is too long, or reaches too far
abbrev pub is_long : ℕ → Row → Bool
is_long place row = nat_lt most_line (length row.bytes) || nat_lt most_script (place + length row.bytes)

-- how many bytes a line has, with its LF
abbrev pub width : Row → ℕ
width row = length row.bytes + (if row.ended then 1 else 0)

-- what is read of a script and in no line yet, where that begins, and whether the source has ended
pub record Unread : Type 0 where
  pub held : List ℕ
  pub place : ℕ
  pub is_over : Bool

-- what may follow on it: nothing behind the end, and where the source tells, what that has left
pub record MayFollow (unread : Unread) (left : Option (List ℕ)) (more : List ℕ) : Type 0 where
  pub over : unread.is_over ≡ true → more ≡ []
  pub told : IfSome left (λ bytes. more ≡ bytes)

-- With the piece that was read of the source, and what follows then: there is no line more, or the first is this one, or
-- that is too long. After an error nothing is lost of the lines before.
abbrev pub IsNext : Unread → List ℕ → Unread → List ℕ → Result (Option ScriptLine) ScriptBad → Type 0
IsNext old piece new more (Ok None) = old.held ++ (piece ++ more) ≡ []
IsNext old piece new more (Ok (Some (Text line))) = (row : Row)
    × (rows_of (old.held ++ (piece ++ more)) ≡ row ∷ rows_of (new.held ++ more))
    × (is_long old.place row ≡ false)
    × (line.items ≡ said row)
    × (new.place ≡ old.place + width row)
IsNext old piece new more (Ok (Some Long)) = (row : Row) × (rows : List Row)
    × (rows_of (old.held ++ (piece ++ more)) ≡ row ∷ rows)
    × (is_long old.place row ≡ true)
IsNext old piece new more (Err bad) = Unit {0}
