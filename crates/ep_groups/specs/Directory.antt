-- What each call of the directory answers and puts, by the map.
use Rattle.std.specs.Prelude.{ℕ, List, [], ◌∷◌, ◌++◌, codes, map, if◌then◌else◌, is_some, Option, Some, None, Result, Ok}
use Rattle.ep_units.specs.Text.{Text}
use Rattle.ep_units.specs.Utf8.{utf8_of}
use Rattle.ep_units.specs.PadId.{group_of}
use Rattle.ep_outside.specs.declared.keeper.Pair.{Pair}
use Rattle.ep_outside.specs.declared.keeper.Put.{Put}
use Rattle.ep_dir_records.specs.Keys.{key, put, gone, count_put}
use Rattle.ep_dir_records.specs.Values.{empty_in, id_in, own, session_text}
use Rattle.ep_dir_records.specs.declared.ids.IdKind.{IdKind}
use Rattle.ep_dir_records.specs.declared.ids.IdKind.TheVariants as id
use Rattle.ep_dir_records.specs.declared.keys.Kind.TheVariants as kind
use Rattle.ep_dir_records.specs.declared.values.SessionInfo.{SessionInfo}
use Rattle.ep_dir_records.specs.declared.dir_bad.DirBad.{DirBad}
use Rattle.ep_dir_records.specs.declared.dir_bad.DirBad.TheVariants.{BadName}
use Rattle.ep_dir_records.specs.Answers.{◌>>=◌, ◌>>◌}
use Rattle.ep_dir_records.specs.Readings.{read, there, new_id, in_group, name_of, session, sessions, pads_of, of_group, of_author, not_past}

-- a new id of this kind, with what is put for it beside the count
abbrev pub made : IdKind → List ℕ → (Text → List Put) → List Pair → Result (Text × List Put) DirBad
made kind drawn puts m = do
  (new, n) ← new_id kind drawn m
  Ok (new, count_put n ∷ puts new)

-- the old id, where there is one
abbrev pub old_or : Option Text → Result (Text × List Put) DirBad → Result (Text × List Put) DirBad
old_or (Some old) new = Ok (old, [])
old_or None new = new

-- GROUPS
-- what is put for a new group
abbrev pub group_put : Text → List Put
group_put group = put (key kind.Group group) [] ∷ []

-- a new group
abbrev pub create_group : List ℕ → List Pair → Result (Text × List Put) DirBad
create_group drawn m = made id.Group drawn group_put m

-- the group, where it is still there
abbrev pub live_group : Option Text → List Pair → Result (Option Text) DirBad
live_group None m = Ok None
live_group (Some group) m = do
  mark ← read empty_in (key kind.Group group) m
  Ok (if is_some mark then Some group else None)

-- the group of a mapper, where it is still there
abbrev pub mapped_group : Text → List Pair → Result (Option Text) DirBad
mapped_group mapper m = do
  old ← read (id_in id.Group) (key kind.GroupMapper mapper) m
  live_group old m

-- and for one of a mapper
abbrev pub mapped_group_put : Text → Text → List Put
mapped_group_put mapper group = put (key kind.Group group) [] ∷ put (key kind.GroupMapper mapper) (utf8_of group) ∷ []

-- the group of a mapper: a new one at its first use, and where its old one is gone
abbrev pub group_for : Text → List ℕ → List Pair → Result (Text × List Put) DirBad
group_for mapper drawn m = do
  old ← mapped_group mapper m
  old_or old (made id.Group drawn (mapped_group_put mapper) m)

-- the group goes with its sessions and its list of pads
abbrev pub group_gone : Text → List SessionInfo → List Text → List Put
group_gone group is pads = gone (key kind.Group group) ∷ (map (λ i. gone (key kind.Session i.id)) is ++ map (λ p. gone (key kind.GroupPad p)) pads)

-- the group has to be there
abbrev pub delete_group : Text → List Pair → Result (Unit {0} × List Put) DirBad
delete_group group m = do
  in_group group m
  is ← sessions m
  pads ← pads_of group m
  Ok (tt, group_gone group (of_group group is) pads)

-- PADS OF GROUPS
-- the pad of a group with this name: the group, `$` and the name
abbrev pub pad_named : Text → Text → Result Text DirBad
pad_named group name = there BadName (own ((group ++ codes "$") ++ name))

-- a pad that is listed already is put once more
abbrev pub add_group_pad : Text → Text → List Pair → Result (Text × List Put) DirBad
add_group_pad group name m = do
  in_group group m
  pad ← pad_named group name
  Ok (pad, put (key kind.GroupPad pad) [] ∷ [])

-- a listed pad leaves the list
abbrev pub listed_pad_gone : Text → Option (Unit {0}) → List Put
listed_pad_gone pad None = []
listed_pad_gone pad (Some u) = gone (key kind.GroupPad pad) ∷ []

-- a pad of this group, or of none
abbrev pub dropped : Option Text → Text → List Pair → Result (Unit {0} × List Put) DirBad
dropped None pad m = Ok (tt, [])
dropped (Some group) pad m = do
  mark ← read empty_in (key kind.GroupPad pad) m
  Ok (tt, listed_pad_gone pad mark)

-- a pad that is not listed, as one without a group, is dropped already
abbrev pub drop_group_pad : Text → List Pair → Result (Unit {0} × List Put) DirBad
drop_group_pad pad m = dropped (group_of pad) pad m

-- the pads of a group, which has to be there
abbrev pub group_pads : Text → List Pair → Result (List Text) DirBad
group_pads group m = do
  in_group group m
  pads_of group m

-- AUTHORS
-- what is put for an author
abbrev pub author_put : Text → Text → List Put
author_put name author = put (key kind.Author author) (utf8_of name) ∷ []

-- a new author with this name
abbrev pub create_author : Text → List ℕ → List Pair → Result (Text × List Put) DirBad
create_author name drawn m = made id.Author drawn (author_put name) m

-- an author without a name has an empty one
abbrev pub name_or_none : Option Text → Text
name_or_none None = []
name_or_none (Some name) = name

-- a name that is given is put
abbrev pub renamed : Text → Option Text → List Put
renamed author None = []
renamed author (Some name) = author_put name author

-- what is put for a new author of a mapper
abbrev pub mapped_author_put : Text → Option Text → Text → List Put
mapped_author_put mapper name author = put (key kind.Author author) (utf8_of (name_or_none name)) ∷ put (key kind.AuthorMapper mapper) (utf8_of author) ∷ []

-- the old author, renamed, where there is one
abbrev pub old_author_or : Option Text → Option Text → Result (Text × List Put) DirBad → Result (Text × List Put) DirBad
old_author_or (Some author) name new = Ok (author, renamed author name)
old_author_or None name new = new

-- the author of a mapper; a name that is given is set anew
abbrev pub author_for : Text → Option Text → List ℕ → List Pair → Result (Text × List Put) DirBad
author_for mapper name drawn m = do
  old ← read (id_in id.Author) (key kind.AuthorMapper mapper) m
  old_author_or old name (made id.Author drawn (mapped_author_put mapper name) m)

-- SESSIONS
-- what is put for a session
abbrev pub session_put : Text → Text → ℕ → Text → List Put
session_put group author until session = put (key kind.Session session) (session_text group author until) ∷ []

-- a session of a group for an author: both have to be there, and its end is not past
abbrev pub create_session : Text → Text → ℕ → ℕ → List ℕ → List Pair → Result (Text × List Put) DirBad
create_session group author until now drawn m = do
  in_group group m
  name_of author m
  not_past until now
  made id.Session drawn (session_put group author until) m

-- the session has to be there
abbrev pub delete_session : Text → List Pair → Result (Unit {0} × List Put) DirBad
delete_session session_id m = do
  session session_id m
  Ok (tt, gone (key kind.Session session_id) ∷ [])

-- the sessions of a group, which has to be there
abbrev pub sessions_of_group : Text → List Pair → Result (List SessionInfo) DirBad
sessions_of_group group m = do
  in_group group m
  is ← sessions m
  Ok (of_group group is)

-- the sessions of an author, who has to be there
abbrev pub sessions_of_author : Text → List Pair → Result (List SessionInfo) DirBad
sessions_of_author author m = do
  name_of author m
  is ← sessions m
  Ok (of_author author is)

-- READ-ONLY IDS
-- the pad and its read-only id lead to each other
abbrev pub read_only_put : Text → Text → List Put
read_only_put pad read_only_id = put (key kind.Pad pad) (utf8_of read_only_id) ∷ put (key kind.ReadOnly read_only_id) (utf8_of pad) ∷ []

-- the read-only id of a pad, a new one at its first use
abbrev pub read_only : Text → List ℕ → List Pair → Result (Text × List Put) DirBad
read_only pad drawn m = do
  old ← read (id_in id.ReadOnly) (key kind.Pad pad) m
  old_or old (made id.ReadOnly drawn (read_only_put pad) m)
