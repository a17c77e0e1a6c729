-- The syntax of changeset text, read from left to right. Where it can't go on, the answer is how many units are left.
use Rattle.std.specs.Prelude.{ℕ, zero, suc, Bool, true, false, cond, not, List, [], ◌∷◌, length, min, Result, Ok, Err, ◌==◌, if◌then◌else◌}
use Rattle.ep_units.specs.Text.{Text}
use Rattle.ep_units.specs.Base36.{digits_of, behind, value36}
use Rattle.ep_cs.specs.declared.op.Kind.{Kind}
use Rattle.ep_cs.specs.declared.op.Kind.TheVariants as kinds
use Rattle.ep_csread.specs.declared.written.Number.{Number}

-- an operation without where it lies in memory
pub record Operation : Type 0 where
  pub stars : List Number
  pub lines : Number
  pub kind : Kind
  pub units : Number

-- a whole text
pub record Parts : Type 0 where
  pub old : Number
  pub shrinks : Bool
  pub difference : Number
  pub ops : List Operation
  pub bank : Text

infixl 10 ◌>>=◌
abbrev pub ◌>>=◌ : {A B : Type 0} → Result A ℕ → (A → Result B ℕ) → Result B ℕ
(Ok x) >>= f = f x
(Err e) >>= f = Err e

-- this unit, and the rest behind it
abbrev pub unit_at : ℕ → Text → Result Text ℕ
unit_at c [] = Err 0
unit_at c (u ∷ us) = if u == c then Ok us else Err (length (u ∷ us))

-- what stands for all numbers that are too large to be read
abbrev pub too_large : ℕ
too_large = 4294967296

-- one digit or more
abbrev pub number_in : Text → Text → Result (Number × Text) ℕ
number_in [] text = Err (length text)
number_in (d ∷ ds) text = Ok (record { value = min (value36 (d ∷ ds)) too_large; left = length text }, behind text)

abbrev pub number_at : Text → Result (Number × Text) ℕ
number_at text = number_in (digits_of text) text

-- items while there are more, at most so many
abbrev pub begins_with : ℕ → Text → Bool
begins_with c [] = false
begins_with c (u ∷ us) = u == c

abbrev pub behind_first : Text → Text
behind_first [] = []
behind_first (u ∷ us) = us

-- what is read, with an item before it
abbrev pub with_first : {A : Type 0} → A → Result (List A × Text) ℕ → Result (List A × Text) ℕ
with_first a (Ok x) = Ok (a ∷ x.0, x.1)
with_first a (Err e) = Err e

module _ {A : Type 0} (more : Text → Bool) (item : Text → Result (A × Text) ℕ) where
  abbrev pub many_in : ℕ → Text → Result (List A × Text) ℕ
  many_in zero text = Err (length text)
  many_in (suc n) text = cond (more text) (item text >>= λ x. with_first x.0 (many_in n x.1)) (Ok ([], text))

  -- each item takes a unit at least, so so many are enough
  unfoldable pub many : Text → Result (List A × Text) ℕ
  many text = many_in (suc (length text)) text

abbrev pub star_at : Text → Result (Number × Text) ℕ
star_at text = number_at (behind_first text)

abbrev pub begins_star : Text → Bool
begins_star text = begins_with 42 text

abbrev pub stars_at : Text → Result (List Number × Text) ℕ
stars_at text = many begins_star star_at text

abbrev pub no_lines : Number
no_lines = record { value = 0; left = 0 }

abbrev pub lines_at : Text → Result (Number × Text) ℕ
lines_at [] = Ok (no_lines, [])
lines_at (u ∷ us) = if u == 124 then number_at us else Ok (no_lines, u ∷ us)

abbrev pub kind_at : Text → Result (Kind × Text) ℕ
kind_at [] = Err 0
kind_at (u ∷ us) = if u == 61 then Ok (kinds.Keep, us) else (if u == 45 then Ok (kinds.Drop, us) else (if u == 43 then Ok (kinds.Insert, us) else Err (length (u ∷ us))))

unfoldable pub op_at : Text → Result (Operation × Text) ℕ
op_at text = do
  stars ← stars_at text
  lines ← lines_at stars.1
  kind ← kind_at lines.1
  units ← number_at kind.1
  Ok (record { stars = stars.0; lines = lines.0; kind = kind.0; units = units.0 }, units.1)

abbrev pub goes_on : Text → Bool
goes_on text = not (begins_with 36 text)

-- the operations before the `$`
abbrev pub ops_at : Text → Result (List Operation × Text) ℕ
ops_at text = many goes_on op_at text

-- an operation that inserts
unfoldable pub attrib_at : Text → Result (Operation × Text) ℕ
attrib_at text = do
  stars ← stars_at text
  lines ← lines_at stars.1
  plus ← unit_at 43 lines.1
  units ← number_at plus
  Ok (record { stars = stars.0; lines = lines.0; kind = kinds.Insert; units = units.0 }, units.1)

abbrev pub is_some_text : Text → Bool
is_some_text [] = false
is_some_text (u ∷ us) = true

-- operations that insert, to the end
abbrev pub attribs_at : Text → Result (List Operation × Text) ℕ
attribs_at text = many is_some_text attrib_at text

abbrev pub sign_at : Text → Result (Bool × Text) ℕ
sign_at [] = Err 0
sign_at (u ∷ us) = if u == 62 then Ok (false, us) else (if u == 60 then Ok (true, us) else Err (length (u ∷ us)))

unfoldable pub parts_of : Text → Result Parts ℕ
parts_of text = do
  z ← unit_at 90 text
  colon ← unit_at 58 z
  old ← number_at colon
  sign ← sign_at old.1
  difference ← number_at sign.1
  ops ← ops_at difference.1
  bank ← unit_at 36 ops.1
  Ok (record { old = old.0; shrinks = sign.0; difference = difference.0; ops = ops.0; bank = bank })
