-- Who may enter which pad, as far as the directory decides it: an id that is not valid is denied by rule 1, an
-- unknown read-only id by rule 2, and the rules behind them are the pad's.
use Rattle.std.specs.Prelude.{ℕ, nat_eq, nat_lt, Bool, true, false, ◌&&◌, List, [], ◌∷◌, codes, if◌then◌else◌, Option, Some, None, unwrap_or, is_some, Result, Ok}
use Rattle.std.specs.List.{starts_with}
use Rattle.ep_units.specs.Text.{Text, text_eq}
use Rattle.ep_units.specs.Utf8.{utf8_of}
use Rattle.ep_units.specs.PadId.{group_of}
use Rattle.ep_units.specs.declared.grant.Grant.{Grant}
use Rattle.ep_outside.specs.declared.keeper.Pair.{Pair}
use Rattle.ep_outside.specs.declared.keeper.Put.{Put}
use Rattle.ep_dir_records.specs.Keys.{key, put}
use Rattle.ep_dir_records.specs.Values.{id_in, pad_in, own, session_in}
use Rattle.ep_dir_records.specs.declared.ids.IdKind.TheVariants as id
use Rattle.ep_dir_records.specs.declared.keys.Kind.TheVariants as kind
use Rattle.ep_dir_records.specs.declared.values.SessionInfo.{SessionInfo}
use Rattle.ep_dir_records.specs.declared.dir_bad.DirBad.{DirBad}
use Rattle.ep_dir_records.specs.declared.dir_bad.DirBad.TheVariants.{Denied}
use Rattle.ep_dir_records.specs.Answers.{◌>>=◌}
use Rattle.ep_dir_records.specs.Readings.{read, there, needed}
use Rattle.ep_groups.specs.Directory.{made, old_or}

-- a read-only id begins with `r.`
abbrev pub is_read_only_id : Text → Bool
is_read_only_id asked = starts_with nat_eq asked (codes "r.")

-- the pad behind a read-only id
abbrev pub pad_behind : Text → List Pair → Result (Text × Bool) DirBad
pad_behind asked m = do
  pad ← needed pad_in (key kind.ReadOnly asked) (Denied 2) m
  Ok (pad, true)

-- the pad whose own id it is
abbrev pub own_pad : Text → Result (Text × Bool) DirBad
own_pad asked = do
  pad ← there (Denied 1) (own asked)
  Ok (pad, false)

-- the pad that an id stands for, and whether it is a read-only id
abbrev pub pad_asked : Text → List Pair → Result (Text × Bool) DirBad
pad_asked asked m = if is_read_only_id asked then pad_behind asked m else own_pad asked

-- the session is of the group, and unexpired
abbrev pub is_member : Text → ℕ → SessionInfo → Bool
is_member group now i = text_eq i.group group && nat_lt now i.valid_until

-- the author of a member's session, or what the rest decides
abbrev pub member_or : Text → ℕ → Option SessionInfo → Result (Option Text) DirBad → Result (Option Text) DirBad
member_or group now None rest = rest
member_or group now (Some i) rest = if is_member group now i then Ok (Some i.author) else rest

-- the author of the first listed session that is there, of the group and unexpired
abbrev pub member : Text → ℕ → List Text → List Pair → Result (Option Text) DirBad
member group now [] m = Ok None
member group now (s ∷ ss) m = do
  found ← read (session_in s) (key kind.Session s) m
  member_or group now found (member group now ss m)

-- only a pad of a group has members
abbrev pub member_of : Option Text → ℕ → List Text → List Pair → Result (Option Text) DirBad
member_of None now ss m = Ok None
member_of (Some group) now ss m = member group now ss m

-- what is put for the new author of a token
abbrev pub token_put : Text → Text → List Put
token_put token author = put (key kind.Author author) [] ∷ put (key kind.Token token) (utf8_of author) ∷ []

-- the author of a token, a new one where it is unknown
abbrev pub token_author : Text → List ℕ → List Pair → Result (Text × List Put) DirBad
token_author token drawn m = do
  old ← read (id_in id.Author) (key kind.Token token) m
  old_or old (made id.Author drawn (token_put token) m)

-- the leave itself
abbrev pub granted : Text → Text × Bool → Option Text → Text → Grant
granted asked pad member author = record { pad = pad.0; asked = asked; author = unwrap_or member author; token_author = author; member = is_some member; read_only = pad.1 }

-- leave to enter: the pad asked for, the author of a member's session, and the token's author, who stands in where there is none
abbrev pub grant : Text → List Text → Text → ℕ → List ℕ → List Pair → Result (Grant × List Put) DirBad
grant asked ss token now drawn m = do
  pad ← pad_asked asked m
  found ← member_of (group_of pad.0) now ss m
  (author, puts) ← token_author token drawn m
  Ok (granted asked pad found author, puts)
