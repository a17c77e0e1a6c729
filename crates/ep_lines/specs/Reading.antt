-- Bytes that are read line by line.
use Rattle.std.specs.Prelude.{ℕ, ◌≡◌, ◌++◌, ◌∷◌, [], Bool, true, false, nat_lt, List, length, Option, Some, None, IfSome, Result, Ok, Err}
use Rattle.ep_lines.specs.Rows.{Row, rows_of}
use Rattle.ep_lines.specs.declared.lines.Line.{Line}
use Rattle.ep_lines.specs.declared.lines.Line.TheVariants.{Text, Long}
use Rattle.ep_lines.specs.declared.lines.LinesBad.{LinesBad}

-- what is read of a source and in no line yet, whether the source has ended, and the most bytes of a line that is given
pub record Unread : Type 0 where
  pub held : List ℕ
  pub is_over : Bool
  pub most : ℕ

-- what may follow on it: nothing behind the end, and where the source tells, what that has left
pub record MayFollow (unread : Unread) (left : Option (List ℕ)) (more : List ℕ) : Type 0 where
  pub over : unread.is_over ≡ true → more ≡ []
  pub told : IfSome left (λ bytes. more ≡ bytes)

-- With the piece that was read of the source, and what follows then: there is no line more, or the first is this one, or
-- that has more bytes than are given. What is behind the line comes next. After an error nothing is said.
abbrev pub IsNext : Unread → List ℕ → Unread → List ℕ → Result (Option Line) LinesBad → Type 0
IsNext old piece new more (Ok None) = old.held ++ (piece ++ more) ≡ []
IsNext old piece new more (Ok (Some (Text line))) = (row : Row)
    × (rows_of (old.held ++ (piece ++ more)) ≡ row ∷ rows_of (new.held ++ more))
    × (nat_lt old.most (length row.bytes) ≡ false)
    × (line.items ≡ row.bytes)
IsNext old piece new more (Ok (Some Long)) = (row : Row)
    × (rows_of (old.held ++ (piece ++ more)) ≡ row ∷ rows_of (new.held ++ more))
    × (nat_lt old.most (length row.bytes) ≡ true)
IsNext old piece new more (Err bad) = Unit {0}
