-- What a client's message says.
use Rattle.std.specs.Prelude.{◌≡◌, ℕ, nat_lt, Bool, true, false, if◌then◌else◌, List, length, codes, Option, Some, None, unwrap_or, option_map, Result, Ok, Err, []}
use Rattle.std.specs.Option.{ok_or}
use Rattle.std.specs.Str.{bytes_eq}
use Rattle.serde_json.specs.Data.{Data}
use Rattle.serde_json.specs.Find.{as_bool, as_str}
use Rattle.serde_json.specs.Read.{read}
use Rattle.ep_units.specs.Text.{Text}
use Rattle.ep_wire_words.specs.declared.bad.WireBad.{WireBad}
use Rattle.ep_wire_words.specs.declared.bad.WireBad.TheVariants as bad
use Rattle.ep_wire_words.specs.declared.client.Resume.{Resume}
use Rattle.ep_wire_words.specs.declared.client.ClientMsg.{ClientMsg}
use Rattle.ep_wire_words.specs.declared.client.ClientMsg.TheVariants as msg
use Rattle.ep_wire_words.specs.declared.member.Member.TheVariants as member
use Rattle.ep_wire_words.specs.Answer.{Then, ◌>>=◌}
use Rattle.ep_wire_words.specs.Members.{needed, optional, object_kind, units, whole}
use Rattle.ep_wire_words.specs.Sessions.{ids}
use Rattle.ep_wire_words.specs.Pools.{Made, ReadsChange}

-- which message it is, with the object in which its members stand
pub data Row : Type 0 where
  ready : Data → Row
  edit : Data → Row
  slide : Data → Row
  other : Row

abbrev pub collab_named : List ℕ → Data → Row
collab_named kind d = if bytes_eq kind (codes "USER_CHANGES") then edit d else other

-- by the `type` of its `data`
abbrev pub collab_row : Data → Result Row WireBad
collab_row d = do
  inside ← needed object_kind member.Data d
  kind ← needed as_str member.Type inside
  Ok (collab_named kind inside)

abbrev pub slide_row : Data → Result Row WireBad
slide_row d = needed object_kind member.Data d >>= λ inside. Ok (slide inside)

-- by its `type`
abbrev pub row_named : List ℕ → Data → Result Row WireBad
row_named kind d =
    if bytes_eq kind (codes "CLIENT_READY") then Ok (ready d)
    else (if bytes_eq kind (codes "COLLABROOM") then collab_row d
    else (if bytes_eq kind (codes "CHANGESET_REQ") then slide_row d else Ok other))

abbrev pub row_of : Data → Result Row WireBad
row_of d = needed as_str member.Type d >>= λ kind. row_named kind d

-- ---- CLIENT_READY

-- `client_rev`, which a client has that comes back
abbrev pub rev_if : Option Bool → Data → Result (Option ℕ) WireBad
rev_if (Some true) d = needed whole member.ClientRev d >>= λ rev. Ok (Some rev)
rev_if (Some false) d = Ok None
rev_if None d = Ok None

abbrev pub resume_of : Option ℕ → Option ℕ → Option Text → Option Resume
resume_of rev birth author = option_map (λ r. record { rev = r; birth = birth; author = author }) rev

-- the ids of sessions, none where the member is missing
abbrev pub sessions_in : Data → Result (List Text) WireBad
sessions_in d = optional ids member.SessionId d >>= λ found. Ok (unwrap_or found [])

abbrev pub ready_in : Data → Result ClientMsg WireBad
ready_in d = do
  pad ← needed units member.PadId d
  token ← needed units member.Token d
  sessions ← sessions_in d
  again ← optional as_bool member.Reconnect d
  rev ← rev_if again d
  birth ← optional whole member.Birth d
  author ← optional units member.Author d
  Ok (msg.Ready pad token sessions (resume_of rev birth author))

-- ---- USER_CHANGES

pub record EditMembers : Type 0 where
  pub base : ℕ
  pub changeset : List ℕ
  pub pool : Data

abbrev pub edit_members : Data → Result EditMembers WireBad
edit_members d = do
  base ← needed whole member.BaseRev d
  changeset ← needed as_str member.Changeset d
  pool ← needed Some member.Apool d
  Ok (record { base = base; changeset = changeset; pool = pool })

-- the message of its members
abbrev pub ReadsEdit : EditMembers → Result ClientMsg WireBad → Type 0
ReadsEdit m answer = Made (ReadsChange m.pool m.changeset) (msg.Edit m.base) answer

-- ---- CHANGESET_REQ

abbrev pub slide_in : Data → Result ClientMsg WireBad
slide_in d = do
  start ← needed whole member.Start d
  granularity ← needed whole member.Granularity d
  request ← needed whole member.RequestId d
  Ok (msg.Slide start granularity request)

-- ---- all of them

abbrev pub ReadsRow : Row → Result ClientMsg WireBad → Type 0
ReadsRow (ready d) answer = answer ≡ ready_in d
ReadsRow (edit d) answer = Then (edit_members d) ReadsEdit answer
ReadsRow (slide d) answer = answer ≡ slide_in d
ReadsRow other answer = answer ≡ Ok msg.Other

abbrev pub ReadsValue : Data → Result ClientMsg WireBad → Type 0
ReadsValue d answer = Then (row_of d) ReadsRow answer

-- the JSON of a text within the limit
abbrev pub json_in : List ℕ → ℕ → Result Data WireBad
json_in text limit = if nat_lt limit (length text) then Err (bad.TooBig (length text)) else ok_or (read text) bad.NotJson

-- what a client's text is read as, under a limit of bytes
abbrev pub ReadsClient : List ℕ → ℕ → Result ClientMsg WireBad → Type 0
ReadsClient text limit answer = Then (json_in text limit) ReadsValue answer
