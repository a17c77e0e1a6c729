-- The lines of a text of bytes.
use Rattle.std.specs.Prelude.{ℕ, Bool, true, false, ◌==◌, if◌then◌else◌, List, [], ◌∷◌}

-- a line as it stands there: its bytes without the LF, and whether one ends it
pub record Row : Type 0 where
  pub bytes : List ℕ
  pub ended : Bool

-- the first line begins with the byte
abbrev pub onto : ℕ → List Row → List Row
onto b [] = record { bytes = b ∷ []; ended = false } ∷ []
onto b (row ∷ rows) = record { bytes = b ∷ row.bytes; ended = row.ended } ∷ rows

-- Lines end with LF, which the last may lack
abbrev pub rows_of : List ℕ → List Row
rows_of [] = []
rows_of (b ∷ bs) = if b == 10 then record { bytes = []; ended = true } ∷ rows_of bs else onto b (rows_of bs)
