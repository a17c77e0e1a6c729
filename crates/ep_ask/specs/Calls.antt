-- The table of functions: which parameters each takes, in which order they are missed and refused, and the call that they make.
use Rattle.std.specs.Prelude.{ℕ, ◌≡◌, true, List, [], unwrap_or, Ok}
use Rattle.ep_units.specs.Text.{is_well_formed}
use Rattle.ep_units.specs.Utf8.{units_of}
use Rattle.ep_outside.specs.declared.keeper.Pair.{Pair}
use Rattle.ep_ask.specs.Parameters.{Read, ◌>>=◌, needed, text_if, text_or, number, number_if, boolean, pad, lone_pad, grouped}
use Rattle.ep_ask.specs.declared.call.Call.{Call}
use Rattle.ep_ask.specs.declared.call.Call.TheVariants as call
use Rattle.ep_ask.specs.declared.function.Function.{Function}
use Rattle.ep_ask.specs.declared.function.Function.TheVariants as function
use Rattle.ep_ask.specs.declared.param.Param.{Param}
use Rattle.ep_ask.specs.declared.param.Param.TheVariants.{GroupId, GroupMapper, PadName, AuthorId, AuthorMapper, Name, ValidUntil, SessionId, PadId, Text, Rev, PublicStatus}

-- the units of a parameter that must be there
abbrev pub needed_text : Param → List Pair → Read (List ℕ)
needed_text p ps = needed p ps >>= λ value. Ok (units_of value)

-- the pad of a function that takes nothing more
abbrev pub only_pad : List Pair → Read (List ℕ)
only_pad ps = needed PadId ps >>= λ value. pad value

abbrev pub call_of : Function → List Pair → Read Call
call_of function.CreateGroup ps = Ok call.CreateGroup
call_of function.CreateGroupIfNotExistsFor ps = needed_text GroupMapper ps >>= λ t. Ok (call.CreateGroupIfNotExistsFor t)
call_of function.DeleteGroup ps = needed_text GroupId ps >>= λ t. Ok (call.DeleteGroup t)
call_of function.ListPads ps = needed_text GroupId ps >>= λ t. Ok (call.ListPads t)
call_of function.ListAllGroups ps = Ok call.ListAllGroups
call_of function.CreateGroupPad ps = do
  group ← needed GroupId ps
  name ← needed PadName ps
  Ok (call.CreateGroupPad (units_of group) (units_of name) (text_or Text ps))
call_of function.CreateAuthor ps = text_if Name ps >>= λ name. Ok (call.CreateAuthor (unwrap_or name []))
call_of function.CreateAuthorIfNotExistsFor ps = do
  mapper ← needed AuthorMapper ps
  name ← text_if Name ps
  Ok (call.CreateAuthorIfNotExistsFor (units_of mapper) name)
call_of function.GetAuthorName ps = needed_text AuthorId ps >>= λ t. Ok (call.GetAuthorName t)
call_of function.CreateSession ps = do
  group ← needed GroupId ps
  author ← needed AuthorId ps
  until ← needed ValidUntil ps
  n ← number ValidUntil until
  Ok (call.CreateSession (units_of group) (units_of author) n)
call_of function.DeleteSession ps = needed_text SessionId ps >>= λ t. Ok (call.DeleteSession t)
call_of function.GetSessionInfo ps = needed_text SessionId ps >>= λ t. Ok (call.GetSessionInfo t)
call_of function.ListSessionsOfGroup ps = needed_text GroupId ps >>= λ t. Ok (call.ListSessionsOfGroup t)
call_of function.ListSessionsOfAuthor ps = needed_text AuthorId ps >>= λ t. Ok (call.ListSessionsOfAuthor t)
call_of function.CreatePad ps = do
  p ← needed PadId ps
  id ← lone_pad p
  Ok (call.CreatePad id (text_or Text ps))
call_of function.DeletePad ps = only_pad ps >>= λ id. Ok (call.DeletePad id)
call_of function.GetText ps = do
  p ← needed PadId ps
  id ← pad p
  rev ← number_if Rev ps
  Ok (call.GetText id rev)
call_of function.SetText ps = do
  p ← needed PadId ps
  text ← needed Text ps
  id ← pad p
  Ok (call.SetText id (units_of text))
call_of function.GetRevisionsCount ps = only_pad ps >>= λ id. Ok (call.GetRevisionsCount id)
call_of function.GetLastEdited ps = only_pad ps >>= λ id. Ok (call.GetLastEdited id)
call_of function.PadUsersCount ps = only_pad ps >>= λ id. Ok (call.PadUsersCount id)
call_of function.GetReadOnlyId ps = only_pad ps >>= λ id. Ok (call.GetReadOnlyId id)
call_of function.SetPublicStatus ps = do
  p ← needed PadId ps
  status ← needed PublicStatus ps
  id ← pad p
  on ← boolean PublicStatus status
  group_pad ← grouped id
  Ok (call.SetPublicStatus group_pad on)
call_of function.GetPublicStatus ps = do
  id ← only_pad ps
  group_pad ← grouped id
  Ok (call.GetPublicStatus group_pad)
call_of function.CheckToken ps = Ok call.CheckToken

-- the text for a pad has no half of a pair alone
abbrev pub HasWholeText : Call → Type 0
HasWholeText (call.CreateGroupPad group name text) = is_well_formed text ≡ true
HasWholeText (call.CreatePad id text) = is_well_formed text ≡ true
HasWholeText (call.SetText id text) = is_well_formed text ≡ true
HasWholeText _ = Unit {0}
