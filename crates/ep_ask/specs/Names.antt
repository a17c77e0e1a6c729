-- The names of functions and parameters (HTTP API of Etherpad Lite).
use Rattle.std.specs.Prelude.{ℕ, List, [], ◌∷◌, codes, bytes_eq, if◌then◌else◌, Option, Some, None}
use Rattle.ep_ask.specs.declared.function.Function.{Function}
use Rattle.ep_ask.specs.declared.function.Function.TheVariants as function
use Rattle.ep_ask.specs.declared.param.Param.{Param}
use Rattle.ep_ask.specs.declared.param.Param.TheVariants as param

abbrev pub param_name : Param → List ℕ
param_name param.ApiKey = codes "apikey"
param_name param.GroupId = codes "groupID"
param_name param.GroupMapper = codes "groupMapper"
param_name param.PadName = codes "padName"
param_name param.AuthorId = codes "authorID"
param_name param.AuthorMapper = codes "authorMapper"
param_name param.Name = codes "name"
param_name param.ValidUntil = codes "validUntil"
param_name param.SessionId = codes "sessionID"
param_name param.PadId = codes "padID"
param_name param.Text = codes "text"
param_name param.Rev = codes "rev"
param_name param.PublicStatus = codes "publicStatus"

-- what stands in a table under a name
abbrev pub look_up : {A : Type 0} → List ℕ → List (List ℕ × A) → Option A
look_up name [] = None
look_up name (row ∷ rows) = if bytes_eq name row.0 then Some row.1 else look_up name rows

abbrev pub functions : List (List ℕ × Function)
functions =
    (codes "createGroup", function.CreateGroup)
    ∷ (codes "createGroupIfNotExistsFor", function.CreateGroupIfNotExistsFor)
    ∷ (codes "deleteGroup", function.DeleteGroup)
    ∷ (codes "listPads", function.ListPads)
    ∷ (codes "listAllGroups", function.ListAllGroups)
    ∷ (codes "createGroupPad", function.CreateGroupPad)
    ∷ (codes "createAuthor", function.CreateAuthor)
    ∷ (codes "createAuthorIfNotExistsFor", function.CreateAuthorIfNotExistsFor)
    ∷ (codes "getAuthorName", function.GetAuthorName)
    ∷ (codes "createSession", function.CreateSession)
    ∷ (codes "deleteSession", function.DeleteSession)
    ∷ (codes "getSessionInfo", function.GetSessionInfo)
    ∷ (codes "listSessionsOfGroup", function.ListSessionsOfGroup)
    ∷ (codes "listSessionsOfAuthor", function.ListSessionsOfAuthor)
    ∷ (codes "createPad", function.CreatePad)
    ∷ (codes "deletePad", function.DeletePad)
    ∷ (codes "getText", function.GetText)
    ∷ (codes "setText", function.SetText)
    ∷ (codes "getRevisionsCount", function.GetRevisionsCount)
    ∷ (codes "getLastEdited", function.GetLastEdited)
    ∷ (codes "padUsersCount", function.PadUsersCount)
    ∷ (codes "getReadOnlyID", function.GetReadOnlyId)
    ∷ (codes "setPublicStatus", function.SetPublicStatus)
    ∷ (codes "getPublicStatus", function.GetPublicStatus)
    ∷ (codes "checkToken", function.CheckToken)
    ∷ []

abbrev pub function_named : List ℕ → Option Function
function_named name = look_up name functions
