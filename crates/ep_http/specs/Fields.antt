-- What a head asks for (RFC 9110, section 8.6; RFC 9112, section 6): its method, and how many bytes of a body follow.
use Rattle.std.specs.Prelude.{ℕ, ◌^◌, nat_le, nat_lt, Bool, false, ◌&&◌, List, [], ◌∷◌, map, filter, codes, if◌then◌else◌, Option, Some, None, Result, Ok, Err}
use Rattle.std.specs.List.{list_any}
use Rattle.std.specs.Char.{to_ascii_lowercase}
use Rattle.std.specs.Str.{all_ascii_digits, bytes_eq}
use Rattle.std.specs.Str.Parse.{digits_value}
use Rattle.httparse.specs.Grammar.{RequestHead}
use Rattle.httparse.specs.Spans.{name_and_value}
use Rattle.ep_http.specs.declared.fields.Asked.{Asked}
use Rattle.ep_http.specs.declared.request.Method.TheVariants.{Get, Post}
use Rattle.ep_http.specs.declared.bad.HttpBad.{HttpBad}
use Rattle.ep_http.specs.declared.bad.HttpBad.TheVariants as bad

-- decimal digits, one or more
abbrev pub is_numeral : List ℕ → Bool
is_numeral [] = false
is_numeral (b ∷ bs) = all_ascii_digits (b ∷ bs)

-- the number below 2 ^ 64 that decimal digits say
abbrev pub number_in : List ℕ → Option ℕ
number_in text = if is_numeral text && nat_lt (digits_value 10 text) (2 ^ 64) then Some (digits_value 10 text) else None

-- the field has this name, in any ASCII case
abbrev pub is_named : List ℕ → List ℕ × List ℕ → Bool
is_named name f = bytes_eq (map to_ascii_lowercase f.0) name

-- the values of the fields with this name
abbrev pub values_of : List ℕ → List (List ℕ × List ℕ) → List (List ℕ)
values_of name fields = map (λ f. f.1) (filter (is_named name) fields)

-- the number that a single value says
abbrev pub only_number : List (List ℕ) → Option ℕ
only_number [] = None
only_number (v ∷ []) = number_in v
only_number (v ∷ w ∷ more) = None

-- the length that just one field gives, where the body isn't encoded
abbrev pub body_length : List (List ℕ × List ℕ) → Option ℕ
body_length fields =
    if list_any (is_named (codes "transfer-encoding")) fields then None
    else only_number (values_of (codes "content-length") fields)

-- a body of so many bytes, where that is within the limit
abbrev pub within : ℕ → Option ℕ → Result Asked HttpBad
within limit None = Err bad.Body
within limit (Some n) = if nat_le n limit then Ok (record { method = Post; length = n }) else Err (bad.TooBig n)

-- what a request with this method and these fields asks for
abbrev pub asked : ℕ → List ℕ → List (List ℕ × List ℕ) → Result Asked HttpBad
asked limit method fields =
    if bytes_eq method (codes "GET") then Ok (record { method = Get; length = 0 })
    else (if bytes_eq method (codes "POST") then within limit (body_length fields) else Err bad.Method)

-- what a head asks for
abbrev pub asked_by : ℕ → RequestHead → Result Asked HttpBad
asked_by limit h = asked limit h.method (map name_and_value h.fields)
