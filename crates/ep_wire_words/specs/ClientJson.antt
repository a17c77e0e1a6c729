-- The JSON of a client's messages.
use Rattle.std.specs.Prelude.{true, List, [], ◌∷◌, ◌++◌, Option, Some, None, codes}
use Rattle.std.specs.List.{flat_map}
use Rattle.serde_json.specs.Data.{Data, boolean, string}
use Rattle.ep_units.specs.Text.{Text}
use Rattle.ep_wire_words.specs.declared.member.Member.{Member}
use Rattle.ep_wire_words.specs.declared.member.Member.TheVariants as member
use Rattle.ep_wire_words.specs.declared.client.Resume.{Resume}
use Rattle.ep_wire_words.specs.declared.client.ClientMsg.{ClientMsg}
use Rattle.ep_wire_words.specs.declared.client.ClientMsg.TheVariants as msg
use Rattle.ep_wire_words.specs.Json.{obj, text, whole}
use Rattle.ep_wire_words.specs.ServerJson.{changeset, collab, of_kind, pool}

-- a member that is left out where there is nothing
abbrev pub if_some : {A : Type 0} → Member → (A → Data) → Option A → List (Member × Data)
if_some m f None = []
if_some m f (Some x) = (m, f x) ∷ []

abbrev pub resume_members : Option Resume → List (Member × Data)
resume_members None = []
resume_members (Some r) = (member.ClientRev, whole r.rev) ∷ (member.Reconnect, boolean true) ∷ (if_some member.Birth whole r.birth ++ if_some member.Author text r.author)

-- texts with commas between them
abbrev pub joined : Text → List Text → Text
joined first rest = first ++ flat_map (λ t. 44 ∷ t) rest

abbrev pub sessions_member : List Text → List (Member × Data)
sessions_member [] = []
sessions_member (first ∷ rest) = (member.SessionId, text (joined first rest)) ∷ []

abbrev pub ready_members : Text → Text → List (Member × Data)
ready_members pad token = (member.PadId, text pad) ∷ (member.Token, text token) ∷ (member.Type, string (codes "CLIENT_READY")) ∷ []

abbrev pub client_json : ClientMsg → Data
client_json (msg.Ready pad token sessions resume) = obj (ready_members pad token ++ (sessions_member sessions ++ resume_members resume))
client_json (msg.Edit base change) =
    collab (
    (member.Apool, pool change)
    ∷ (member.BaseRev, whole base)
    ∷ (member.Changeset, changeset change)
    ∷ (member.Type, string (codes "USER_CHANGES"))
    ∷ []
    )
client_json (msg.Slide start granularity request) =
    of_kind (codes "CHANGESET_REQ") ((member.Granularity, whole granularity) ∷ (member.RequestId, whole request) ∷ (member.Start, whole start) ∷ [])
client_json msg.Other = obj ((member.Type, string (codes "OTHER")) ∷ [])
