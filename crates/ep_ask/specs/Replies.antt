-- Replies: their codes, messages and data, as JSON.
use Rattle.std.specs.Prelude.{ℕ, List, [], ◌∷◌, ◌++◌, map, codes, Option, Some, None, Result, Ok, Err}
use Rattle.serde_json.specs.Data as json
use Rattle.serde_json.specs.Data.{Items, Members, no_members, member, put}
use Rattle.serde_json.specs.View.{items_of}
use Rattle.serde_json.specs.Written.{compact_text}
use Rattle.ep_units.specs.Text.{Text}
use Rattle.ep_units.specs.Utf8.{utf8_of}
use Rattle.ep_dir_records.specs.declared.values.SessionInfo.{SessionInfo}
use Rattle.ep_ask.specs.Names.{param_name}
use Rattle.ep_ask.specs.declared.bad.ApiBad.{ApiBad}
use Rattle.ep_ask.specs.declared.bad.ApiBad.TheVariants as bad
use Rattle.ep_ask.specs.declared.answer.Data.{Data}
use Rattle.ep_ask.specs.declared.answer.Data.TheVariants as answer

-- ---- refusals

abbrev pub code : ApiBad → ℕ
code bad.NoVersion = 3
code bad.NoFunction = 3
code bad.WrongKey = 4
code bad.StoreFailed = 2
code bad.KeeperFailed = 2
code bad.KeptBroken = 2
code bad.JournalBroken = 2
code bad.JournalFull = 2
code bad.Pads = 2
code bad.IdsSpent = 2
code bad.NoMemory = 2
code _ = 1

abbrev pub message : ApiBad → List ℕ
message bad.NotFound = codes "Not Found"
message bad.NoVersion = codes "no such api version"
message bad.NoFunction = codes "no such function"
message bad.WrongKey = codes "no or wrong API Key"
message (bad.Missing p) = param_name p ++ codes " is missing"
message (bad.NotValid p) = param_name p ++ codes " is not valid"
message bad.OfGroup = codes "createPad can't create group pads"
message bad.NoGroupPad = codes "padID is not a group pad"
message (bad.NotNumber p) = param_name p ++ codes " is not a number"
message (bad.NotBoolean p) = param_name p ++ codes " is not a boolean"
message (bad.Unknown p) = param_name p ++ codes " does not exist"
message (bad.Exists p) = param_name p ++ codes " does already exist"
message bad.Past = codes "validUntil is in the past"
message bad.TooLong = codes "text is too long"
message bad.HighRev = codes "rev is higher than the head revision of the pad"
message bad.StoreFailed = codes "store failed"
message bad.KeeperFailed = codes "keeper failed"
message bad.KeptBroken = codes "kept record is broken"
message bad.JournalBroken = codes "pad journal is broken"
message bad.JournalFull = codes "journal is full"
message bad.Pads = codes "too many pads"
message bad.IdsSpent = codes "no more ids"
message bad.NoMemory = codes "no memory"

-- ---- data

abbrev pub text : Text → json.Data
text t = json.string (utf8_of t)

abbrev pub whole : ℕ → json.Data
whole n = json.number (json.unsigned n)

-- an object of one member
abbrev pub one : List ℕ → json.Data → json.Data
one name value = json.object (member name value no_members)

abbrev pub texts : List Text → Items
texts ts = items_of (map text ts)

abbrev pub session : SessionInfo → json.Data
session s = json.object (member (codes "authorID") (text s.author) (member (codes "groupID") (text s.group) (member (codes "validUntil") (whole s.valid_until) no_members)))

-- the members, after the sessions are put under their ids
abbrev pub sessions : Members → List SessionInfo → Members
sessions ms [] = ms
sessions ms (s ∷ ss) = sessions (put (utf8_of s.id) (session s) ms) ss

abbrev pub data_json : Data → json.Data
data_json answer.Nothing = json.null
data_json (answer.Group id) = one (codes "groupID") (text id)
data_json (answer.Groups ids) = one (codes "groupIDs") (json.array (texts ids))
data_json (answer.Pad id) = one (codes "padID") (text id)
data_json (answer.Pads ids) = one (codes "padIDs") (json.array (texts ids))
data_json (answer.Author id) = one (codes "authorID") (text id)
data_json (answer.AuthorName name) = one (codes "authorName") (text name)
data_json (answer.Session id) = one (codes "sessionID") (text id)
data_json (answer.Info s) = session s
data_json (answer.Infos ss) = json.object (sessions no_members ss)
data_json (answer.Text t) = one (codes "text") (text t)
data_json (answer.Revisions n) = one (codes "revisions") (whole n)
data_json (answer.LastEdited n) = one (codes "lastEdited") (whole n)
data_json (answer.Users n) = one (codes "padUsersCount") (whole n)
data_json (answer.ReadOnly id) = one (codes "readOnlyID") (text id)
data_json (answer.Public on) = one (codes "publicStatus") (json.boolean on)

-- ---- replies

-- what is told of a call's outcome
abbrev pub told : ℕ → json.Data → List ℕ → json.Data
told n d m = json.object (member (codes "code") (whole n) (member (codes "data") d (member (codes "message") (json.string m) no_members)))

abbrev pub reply_json : Result Data ApiBad → json.Data
reply_json (Ok d) = told 0 (data_json d) (codes "ok")
reply_json (Err why) = told (code why) json.null (message why)

-- the body of a reply, with no space
abbrev pub body : Result Data ApiBad → List ℕ
body outcome = compact_text (reply_json outcome)

-- a path that is none of the API's isn't found; all else is told in the body
abbrev pub status : Result Data ApiBad → ℕ
status (Ok d) = 200
status (Err bad.NotFound) = 404
status (Err _) = 200
