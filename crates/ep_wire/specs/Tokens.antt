-- Working words of private contracts: the tokens of JSON that is written member by member.
use Rattle.std.specs.Prelude.{◌≡◌, ℕ, ◌<◌, ◌≤◌, ◌^◌, Bool, true, false, List, [], ◌∷◌, ◌++◌, Option, Some, None, codes}
use Rattle.std.specs.List.{flat_map}
use Rattle.json.specs.Token.{Token}
use Rattle.json.specs.Tree.{depth, json_tokens}
use Rattle.serde_json.specs.Data.{Data, boolean, object, Members, no_members, member}
use Rattle.serde_json.specs.Read.{of_json}
use Rattle.serde_json.specs.Written.{outline}
use Rattle.ep_wire_words.specs.declared.client.Resume.{Resume}
use Rattle.ep_wire_words.specs.declared.member.Member.{Member}
use Rattle.ep_wire_words.specs.declared.member.Member.TheVariants.{Author, Birth, ClientRev, Reconnect}
use Rattle.ep_wire_words.specs.declared.server.ServerMsg.{ServerMsg}
use Rattle.ep_wire_words.specs.declared.server.ServerMsg.TheVariants as server
use Rattle.ep_wire_words.specs.ClientJson.{if_some}
use Rattle.ep_wire_words.specs.Json.{text, whole}
use Rattle.ep_wire_words.specs.Members.{name}

-- the tokens of a value
abbrev pub said : Data → List Token
said d = json_tokens (outline d)

-- a member
abbrev pub field : Member → Data → List Token
field m d = Token.key (name m) ∷ said d

abbrev pub fields : List (Member × Data) → List Token
fields fs = flat_map (λ (f : Member × Data). field f.0 f.1) fs

-- what was written, and then these members
abbrev pub with_fields : List Token → List (Member × Data) → List Token
with_fields before [] = before
with_fields before (f ∷ fs) = with_fields (before ++ field f.0 f.1) fs

-- a pool of so many pairs, with these entries
abbrev pub pool_of : ℕ → Members → Data
pool_of count entries = object (member (codes "nextNum") (whole count) (member (codes "numToAttrib") (object entries) no_members))

-- what a resumption says before the pad's id, and after it
abbrev pub resumed : Option Resume → List (Member × Data)
resumed None = []
resumed (Some r) = if_some Author text r.author ++ (if_some Birth whole r.birth ++ (ClientRev, whole r.rev) ∷ [])

abbrev pub reconnect : Option Resume → List (Member × Data)
reconnect None = []
reconnect (Some r) = (Reconnect, boolean true) ∷ []

-- its JSON is read back as it is, and nests little
abbrev pub IsBack : Data → Type 0
IsBack d = (of_json (outline d) ≡ Some d) × (depth (outline d) ≤ 10)

abbrev pub IfFits : Option ℕ → Type 0
IfFits None = Unit {0}
IfFits (Some n) = n < 2 ^ 64

-- the numbers of a resumption fit 64 bits
abbrev pub Fits : Option Resume → Type 0
Fits None = Unit {0}
Fits (Some r) = (r.rev < 2 ^ 64) × IfFits r.birth

-- a revision, or what a client who came back is told
abbrev pub is_of_revision : ServerMsg → Bool
is_of_revision (server.Accepted rev s) = true
is_of_revision (server.News rev change author s time delta) = true
is_of_revision (server.Reconnect current birth head rev change author s time) = true
is_of_revision (server.ReconnectNone current birth head rev) = true
is_of_revision (server.Vars pad author read_only s birth rev doc time) = false
is_of_revision (server.Slid start reached granularity request forward backward) = false
is_of_revision (server.Closing why) = false
