-- Ids of pads.
use Rattle.std.specs.Prelude.{ℕ, Bool, not, ◌==◌, ◌&&◌, ◌||◌, if◌then◌else◌, Option, Some, None, length, slice_index, take, drop, nat_eq, nat_le, codes}
use Rattle.std.specs.List.{starts_with, list_all, list_any}
use Rattle.ep_units.specs.Text.{Text, is_well_formed}
use Rattle.ep_units.specs.Utf8.{utf8_of}

-- an ASCII letter or digit
abbrev pub is_alphanumeric : ℕ → Bool
is_alphanumeric u = (nat_le 48 u && nat_le u 57) || (nat_le 65 u && nat_le u 90) || (nat_le 97 u && nat_le u 122)

-- it begins with a group part: `g.`, sixteen letters or digits, and `$`
abbrev pub has_group : Text → Bool
has_group id =
    starts_with nat_eq id (codes "g.") && list_all is_alphanumeric (take 16 (drop 2 id)) && slice_index id 18 == 36

-- the id of its group
abbrev pub group_of : Text → Option Text
group_of id = if has_group id then Some (take 18 id) else None

-- what follows the group part
abbrev pub name_of : Text → Text
name_of id = if has_group id then drop 19 id else id

-- how many units a name has at most
abbrev pub most_name_units : ℕ
most_name_units = 50

-- a unit at least, not too many, and none of them `$`
abbrev pub is_name : Text → Bool
is_name name = nat_le 1 (length name) && nat_le (length name) most_name_units && not (list_any (λ u. u == 36) name)

-- how many bytes in UTF-8 a name has at most
abbrev pub most_name_bytes : ℕ
most_name_bytes = 100

-- a pad's own id: a name that is short enough in UTF-8, behind a group part or alone, that is no read-only id
abbrev pub is_own_id : Text → Bool
is_own_id id =
    is_well_formed id && is_name (name_of id) && not (starts_with nat_eq id (codes "r."))
    && nat_le (length (utf8_of (name_of id))) most_name_bytes
