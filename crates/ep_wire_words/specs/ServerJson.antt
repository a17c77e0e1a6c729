-- The JSON of the server's messages.
use Rattle.std.specs.Prelude.{ℕ, Bool, true, List, [], ◌∷◌, ◌++◌, map, codes}
use Rattle.serde_json.specs.Data.{Data, boolean, string}
use Rattle.ep_units.specs.Text.{Text}
use Rattle.ep_units.specs.declared.session.Session.{Session}
use Rattle.ep_pool.specs.Json.{pool_json}
use Rattle.ep_cs.specs.Change.{Change}
use Rattle.ep_cs.specs.Doc.{Doc, text_of}
use Rattle.ep_csread.specs.Spelling.{all_named, ops_text, pairs_named, printed}
use Rattle.ep_apply.specs.Documents.{insertion}
use Rattle.ep_wire_words.specs.declared.member.Member.{Member}
use Rattle.ep_wire_words.specs.declared.member.Member.TheVariants.{«Type», PadId, Birth, Author, Data as Inside, Changeset, Apool, Start, Granularity, RequestId, CollabClientVars, InitialAttributedText, Attribs, Text as Words, Rev, Time, Readonly, Session as At, UserId, NewRev, CurrentTime, TimeDelta, Current, HeadRev, NoChanges, ActualEndNum, BackwardsChangesets, ForwardsChangesets, Disconnect, AccessStatus}
use Rattle.ep_wire_words.specs.declared.server.Word.{Word}
use Rattle.ep_wire_words.specs.declared.server.Word.TheVariants as word
use Rattle.ep_wire_words.specs.declared.server.ServerMsg.{ServerMsg}
use Rattle.ep_wire_words.specs.declared.server.ServerMsg.TheVariants as msg
use Rattle.ep_wire_words.specs.Json.{obj, session, text, texts, whole}

-- a message of a kind, with what stands in it
abbrev pub with_kind : List ℕ → Data → Data
with_kind kind inside = obj ((Inside, inside) ∷ («Type», string kind) ∷ [])

abbrev pub of_kind : List ℕ → List (Member × Data) → Data
of_kind kind fs = with_kind kind (obj fs)

abbrev pub collab : List (Member × Data) → Data
collab fs = of_kind (codes "COLLABROOM") fs

-- a change's pool and its changeset
abbrev pub pool : Change → Data
pool c = pool_json (pairs_named c.runs)

abbrev pub changeset : Change → Data
changeset c = text (printed (pairs_named c.runs) c)

-- a document's text, and the attributes of it
abbrev pub attributed : Doc → Data
attributed doc =
    let c = insertion doc in
    obj ((Attribs, text (ops_text (pairs_named c.runs) c.runs)) ∷ (Words, text (text_of doc)) ∷ [])

abbrev pub changesets : List Change → List Change → Data
changesets all cs = texts (map (printed (all_named all)) cs)

abbrev pub told : Word → List ℕ
told word.UserDup = codes "userdup"
told word.Deleted = codes "deleted"
told word.BadChangeset = codes "badChangeset"
told word.BadMessage = codes "badMessage"
told word.Deny = codes "deny"
told word.Full = codes "full"
told word.Store = codes "store"

abbrev pub told_by : Word → Member
told_by word.Deny = AccessStatus
told_by why = Disconnect

-- a pad as it stands
abbrev pub pad_now : ℕ → Doc → ℕ → Data
pad_now rev doc time =
    obj ((Apool, pool (insertion doc)) ∷ (InitialAttributedText, attributed doc) ∷ (Rev, whole rev) ∷ (Time, whole time) ∷ [])

abbrev pub vars_json : Text → Text → Bool → Session → ℕ → Data → Data
vars_json pad author read_only s birth now =
    of_kind (codes "CLIENT_VARS") (
    (Birth, whole birth)
    ∷ (CollabClientVars, now)
    ∷ (PadId, text pad)
    ∷ (Readonly, boolean read_only)
    ∷ (At, session s)
    ∷ (UserId, text author)
    ∷ []
    )

abbrev pub server_json : ServerMsg → Data
server_json (msg.Vars pad author read_only s birth rev doc time) = vars_json pad author read_only s birth (pad_now rev doc time)
server_json (msg.Accepted rev s) =
    collab ((NewRev, whole rev) ∷ (At, session s) ∷ («Type», string (codes "ACCEPT_COMMIT")) ∷ [])
server_json (msg.News rev change author s time delta) =
    collab (
    (Apool, pool change)
    ∷ (Author, text author)
    ∷ (Changeset, changeset change)
    ∷ (CurrentTime, whole time)
    ∷ (NewRev, whole rev)
    ∷ (At, session s)
    ∷ (TimeDelta, whole delta)
    ∷ («Type», string (codes "NEW_CHANGES"))
    ∷ []
    )
server_json (msg.Reconnect current birth head rev change author s time) =
    collab (
    (Apool, pool change)
    ∷ (Author, text author)
    ∷ (Birth, whole birth)
    ∷ (Changeset, changeset change)
    ∷ (Current, session current)
    ∷ (CurrentTime, whole time)
    ∷ (HeadRev, whole head)
    ∷ (NewRev, whole rev)
    ∷ (At, session s)
    ∷ («Type», string (codes "CLIENT_RECONNECT"))
    ∷ []
    )
server_json (msg.ReconnectNone current birth head rev) =
    collab (
    (Birth, whole birth)
    ∷ (Current, session current)
    ∷ (HeadRev, whole head)
    ∷ (NewRev, whole rev)
    ∷ (NoChanges, boolean true)
    ∷ («Type», string (codes "CLIENT_RECONNECT"))
    ∷ []
    )
server_json (msg.Slid start reached granularity request forward backward) =
    let all = forward ++ backward in
    of_kind (codes "CHANGESET_REQ") (
    (ActualEndNum, whole reached)
    ∷ (Apool, pool_json (all_named all))
    ∷ (BackwardsChangesets, changesets all backward)
    ∷ (ForwardsChangesets, changesets all forward)
    ∷ (Granularity, whole granularity)
    ∷ (RequestId, whole request)
    ∷ (Start, whole start)
    ∷ []
    )
server_json (msg.Closing why) = obj ((told_by why, string (told why)) ∷ [])
