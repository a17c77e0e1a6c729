-- What stands under each kind of key, `None` for what has another form.
use Rattle.std.specs.Prelude.{ℕ, ◌+◌, ◌-◌, ◌*◌, ◌^◌, ◌==◌, nat_le, nat_lt, Bool, true, false, ◌&&◌, List, [], ◌∷◌, ◌++◌, codes, length, if◌then◌else◌, Option, Some, None}
use Rattle.std.specs.Str.{bytes_eq}
use Rattle.std.specs.Char.{is_ascii_alphanumeric, is_ascii_digit}
use Rattle.std.specs.List.{list_all, position_or_len, before_first, after_first}
use Rattle.std.specs.Fmt.{decimal}
use Rattle.ep_units.specs.Text.{Text}
use Rattle.ep_units.specs.Utf8.{units_of, utf8_of}
use Rattle.ep_units.specs.PadId.{is_own_id}
use Rattle.ep_dir_records.specs.declared.ids.IdKind.{IdKind}
use Rattle.ep_dir_records.specs.declared.ids.IdKind.TheVariants.{Group, Author}
use Rattle.ep_dir_records.specs.declared.values.SessionInfo.{SessionInfo}
use Rattle.ep_dir_records.specs.Ids.{dot, letter, most_ids}

-- the ? of the logic: the rest is read where the first has its form
infixl 10 ◌>>=◌
abbrev pub ◌>>=◌ : {A B : Type 0} → Option A → (A → Option B) → Option B
None >>= f = None
Some x >>= f = f x

abbrev pub only_if : {A : Type 0} → Bool → A → Option A
only_if true x = Some x
only_if false x = None

-- nothing
abbrev pub empty_in : List ℕ → Option (Unit {0})
empty_in [] = Some tt
empty_in (b ∷ bs) = None

-- n with one more decimal digit, whose codes begin with 48
abbrev pub with_digit : ℕ → ℕ → ℕ
with_digit n b = 10 * n + (b - 48)

-- the number below 2 ^ 64 that decimal digits behind n make
abbrev pub number_from : ℕ → List ℕ → Option ℕ
number_from n [] = Some n
number_from n (b ∷ bs) = if is_ascii_digit b && nat_lt (with_digit n b) (2 ^ 64) then number_from (with_digit n b) bs else None

-- a number below 2 ^ 64 in its shortest digits
abbrev pub number_in : List ℕ → Option ℕ
number_in text = do
  n ← number_from 0 text
  only_if (bytes_eq (decimal n) text) n

-- a count of ids
abbrev pub count_in : List ℕ → Option ℕ
count_in text = do
  n ← number_in text
  only_if (nat_le n most_ids) n

-- the letter of the kind, a dot, and sixteen letters or digits
abbrev pub is_id : IdKind → List ℕ → Bool
is_id kind [] = false
is_id kind (a ∷ []) = false
is_id kind (a ∷ b ∷ rest) = (a == letter kind && b == dot) && (length rest == 16 && list_all is_ascii_alphanumeric rest)

-- an id of this kind
abbrev pub id_in : IdKind → List ℕ → Option Text
id_in kind value = only_if (is_id kind value) (units_of value)

-- any text
abbrev pub name_in : List ℕ → Option Text
name_in value = Some (units_of value)

abbrev pub own : Text → Option Text
own id = only_if (is_own_id id) id

-- a pad's own id
abbrev pub pad_in : List ℕ → Option Text
pad_in value = own (units_of value)

abbrev pub is_space : ℕ → Bool
is_space b = b == 32

-- a text cut at its first space
abbrev pub cut_at_space : List ℕ → Option (List ℕ × List ℕ)
cut_at_space text = if nat_lt (position_or_len is_space text) (length text) then Some (before_first is_space text, after_first is_space text) else None

-- the session with this id: `GROUP AUTHOR VALIDUNTIL`
abbrev pub session_in : Text → List ℕ → Option SessionInfo
session_in id value = do
  (group, rest) ← cut_at_space value
  (author, until) ← cut_at_space rest
  n ← number_in until
  only_if (is_id Group group && is_id Author author) (record { id = id; group = units_of group; author = units_of author; valid_until = n })

-- the value of a session
abbrev pub session_text : Text → Text → ℕ → List ℕ
session_text group author until = (((utf8_of group ++ codes " ") ++ utf8_of author) ++ codes " ") ++ decimal until
