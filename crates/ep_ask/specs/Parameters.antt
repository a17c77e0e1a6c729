-- Parameters of a request, and what their texts say.
use Rattle.std.specs.Prelude.{ℕ, ◌^◌, nat_lt, Bool, true, false, ◌&&◌, List, [], ◌∷◌, length, find, codes, bytes_eq, if◌then◌else◌, Option, Some, None, option_map, unwrap_or, Result, Ok, Err}
use Rattle.std.specs.Option.{ok_or}
use Rattle.std.specs.Str.{all_ascii_digits}
use Rattle.std.specs.Str.Parse.{digits_value}
use Rattle.ep_units.specs.Text.{Text}
use Rattle.ep_units.specs.Utf8.{units_of}
use Rattle.ep_units.specs.PadId.{has_group, is_own_id}
use Rattle.ep_outside.specs.declared.keeper.Pair.{Pair}
use Rattle.ep_ask.specs.Names.{param_name}
use Rattle.ep_ask.specs.declared.bad.ApiBad.{ApiBad}
use Rattle.ep_ask.specs.declared.bad.ApiBad.TheVariants.{Missing, NotValid, OfGroup, NoGroupPad, NotNumber, NotBoolean}
use Rattle.ep_ask.specs.declared.param.Param.{Param}
use Rattle.ep_ask.specs.declared.param.Param.TheVariants as param

-- what an answer is, or why there is none
abbrev pub Read : Type 0 → Type 0
Read A = Result A ApiBad

infixl 10 ◌>>=◌
abbrev pub ◌>>=◌ : {A B : Type 0} → Read A → (A → Read B) → Read B
Ok x >>= f = f x
Err e >>= f = Err e

-- the value of the first parameter of this name
abbrev pub value_of : Param → List Pair → Option (List ℕ)
value_of p pairs = option_map (λ q. q.value) (find (λ q. bytes_eq q.key (param_name p)) pairs)

-- what the directory keeps or looks up: ids, mappers and names
abbrev pub is_kept : Param → Bool
is_kept param.GroupId = true
is_kept param.GroupMapper = true
is_kept param.AuthorId = true
is_kept param.AuthorMapper = true
is_kept param.Name = true
is_kept param.SessionId = true
is_kept _ = false

-- of these each has at most 1,024 bytes
abbrev pub short : Param → List ℕ → Read (List ℕ)
short p value = if is_kept p && nat_lt 1024 (length value) then Err (NotValid p) else Ok value

-- the value of a parameter that must be there
abbrev pub needed : Param → List Pair → Read (List ℕ)
needed p pairs = ok_or (value_of p pairs) (Missing p) >>= λ value. short p value

-- the units of a parameter, if it is there
abbrev pub text_of : Param → Option (List ℕ) → Read (Option Text)
text_of p None = Ok None
text_of p (Some value) = short p value >>= λ kept. Ok (Some (units_of kept))

abbrev pub text_if : Param → List Pair → Read (Option Text)
text_if p pairs = text_of p (value_of p pairs)

-- the units of a parameter, or no text
abbrev pub text_or : Param → List Pair → Text
text_or p pairs = unwrap_or (option_map units_of (value_of p pairs)) []

-- decimal digits, one or more
abbrev pub is_numeral : List ℕ → Bool
is_numeral [] = false
is_numeral (b ∷ bs) = all_ascii_digits (b ∷ bs)

-- the number below 2 ^ 64 that decimal digits say
abbrev pub number_in : List ℕ → Option ℕ
number_in text = if is_numeral text && nat_lt (digits_value 10 text) (2 ^ 64) then Some (digits_value 10 text) else None

abbrev pub number : Param → List ℕ → Read ℕ
number p value = ok_or (number_in value) (NotNumber p)

-- the number that a parameter says, if it is there
abbrev pub number_of : Param → Option (List ℕ) → Read (Option ℕ)
number_of p None = Ok None
number_of p (Some value) = number p value >>= λ n. Ok (Some n)

abbrev pub number_if : Param → List Pair → Read (Option ℕ)
number_if p pairs = number_of p (value_of p pairs)

-- `true` or `false`
abbrev pub boolean : Param → List ℕ → Read Bool
boolean p value =
    if bytes_eq value (codes "true") then Ok true else (if bytes_eq value (codes "false") then Ok false else Err (NotBoolean p))

-- a pad's own id
abbrev pub pad : List ℕ → Read Text
pad value = if is_own_id (units_of value) then Ok (units_of value) else Err (NotValid param.PadId)

-- the id of a pad that is no group's
abbrev pub lone_pad : List ℕ → Read Text
lone_pad value = pad value >>= λ id. if has_group id then Err OfGroup else Ok id

-- the pad is a group's
abbrev pub grouped : Text → Read Text
grouped id = if has_group id then Ok id else Err NoGroupPad
