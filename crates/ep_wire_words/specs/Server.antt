-- What the server's message says.
use Rattle.std.specs.Prelude.{◌≡◌, ℕ, Bool, true, false, if◌then◌else◌, List, codes, Option, Some, None, option_map, option_and_then, Result, Ok, Err}
use Rattle.std.specs.Option.{ok_or}
use Rattle.std.specs.Str.{bytes_eq}
use Rattle.serde_json.specs.Data.{Data, Items}
use Rattle.serde_json.specs.Find.{as_bool, as_str, get}
use Rattle.ep_units.specs.Utf8.{units_of}
use Rattle.ep_units.specs.declared.session.Session.{Session}
use Rattle.ep_cs.specs.Change.{Change}
use Rattle.ep_cs.specs.Doc.{Doc}
use Rattle.ep_wire_words.specs.declared.bad.WireBad.{WireBad}
use Rattle.ep_wire_words.specs.declared.bad.WireBad.TheVariants.{Shape}
use Rattle.ep_wire_words.specs.declared.server.Word.{Word}
use Rattle.ep_wire_words.specs.declared.server.Word.TheVariants as word
use Rattle.ep_wire_words.specs.declared.server.ServerMsg.{ServerMsg}
use Rattle.ep_wire_words.specs.declared.server.ServerMsg.TheVariants as msg
use Rattle.ep_wire_words.specs.declared.member.Member.TheVariants as member
use Rattle.ep_wire_words.specs.Answer.{Then, ◌>>=◌}
use Rattle.ep_wire_words.specs.Client.{json_in}
use Rattle.ep_wire_words.specs.Members.{array_of_texts, name, needed, object_kind, optional, whole}
use Rattle.ep_wire_words.specs.Sessions.{session}
use Rattle.ep_wire_words.specs.Pools.{Made, ReadsChange, ReadsDoc, ReadsSteps}

-- which message it is, with the object in which its members stand
pub data Row : Type 0 where
  vars : Data → Row
  accepted : Data → Row
  news : Data → Row
  reconnect : Data → Row
  reconnect_none : Data → Row
  slid : Data → Row
  closing : Word → Row

-- ---- closings

abbrev pub disconnect_word : List ℕ → Option Word
disconnect_word told =
    if bytes_eq told (codes "userdup") then Some word.UserDup
    else (if bytes_eq told (codes "deleted") then Some word.Deleted
    else (if bytes_eq told (codes "badChangeset") then Some word.BadChangeset
    else (if bytes_eq told (codes "badMessage") then Some word.BadMessage
    else (if bytes_eq told (codes "full") then Some word.Full
    else (if bytes_eq told (codes "store") then Some word.Store else None)))))

abbrev pub status_word : List ℕ → Option Word
status_word told = if bytes_eq told (codes "deny") then Some word.Deny else None

abbrev pub word_in : (List ℕ → Option Word) → Data → Option Word
word_in words d = option_and_then words (as_str d)

-- ---- which message

abbrev pub reconnect_row : Option Bool → Data → Row
reconnect_row (Some true) d = reconnect_none d
reconnect_row (Some false) d = reconnect d
reconnect_row None d = reconnect d

abbrev pub collab_named : List ℕ → Data → Result Row WireBad
collab_named kind d =
    if bytes_eq kind (codes "ACCEPT_COMMIT") then Ok (accepted d)
    else (if bytes_eq kind (codes "NEW_CHANGES") then Ok (news d)
    else (if bytes_eq kind (codes "CLIENT_RECONNECT") then (optional as_bool member.NoChanges d >>= λ none. Ok (reconnect_row none d)) else Err (Shape member.Type)))

-- by the `type` of its `data`, and where a client comes back by `noChanges`
abbrev pub collab_row : Data → Result Row WireBad
collab_row inside = needed as_str member.Type inside >>= λ kind. collab_named kind inside

abbrev pub row_named : List ℕ → Data → Result Row WireBad
row_named kind inside =
    if bytes_eq kind (codes "CLIENT_VARS") then Ok (vars inside)
    else (if bytes_eq kind (codes "COLLABROOM") then collab_row inside
    else (if bytes_eq kind (codes "CHANGESET_REQ") then Ok (slid inside) else Err (Shape member.Type)))

-- by its `type`, each with its members in its `data`
abbrev pub typed_row : Data → Result Row WireBad
typed_row d = do
  kind ← needed as_str member.Type d
  inside ← needed object_kind member.Data d
  row_named kind inside

-- a closing is told by its one member, any other message by its `type`
abbrev pub row_by : Option Data → Option Data → Data → Result Row WireBad
row_by (Some told) status d = ok_or (option_map closing (word_in disconnect_word told)) (Shape member.Disconnect)
row_by None (Some told) d = ok_or (option_map closing (word_in status_word told)) (Shape member.AccessStatus)
row_by None None d = typed_row d

abbrev pub row_of : Data → Result Row WireBad
row_of d = row_by (get (name member.Disconnect) d) (get (name member.AccessStatus) d) d

-- ---- CLIENT_VARS

pub record VarsMembers : Type 0 where
  pub birth : ℕ
  pub pool : Data
  pub attribs : List ℕ
  pub text : List ℕ
  pub rev : ℕ
  pub time : ℕ
  pub pad : List ℕ
  pub read_only : Bool
  pub session : Session
  pub author : List ℕ

abbrev pub vars_members : Data → Result VarsMembers WireBad
vars_members d = do
  birth ← needed whole member.Birth d
  now ← needed object_kind member.CollabClientVars d
  pool ← needed Some member.Apool now
  document ← needed object_kind member.InitialAttributedText now
  attribs ← needed as_str member.Attribs document
  text ← needed as_str member.Text document
  rev ← needed whole member.Rev now
  time ← needed whole member.Time now
  pad ← needed as_str member.PadId d
  read_only ← needed as_bool member.Readonly d
  session ← needed session member.Session d
  author ← needed as_str member.UserId d
  Ok (record { birth = birth; pool = pool; attribs = attribs; text = text; rev = rev; time = time; pad = pad; read_only = read_only; session = session; author = author })

abbrev pub vars_with : VarsMembers → Doc → ServerMsg
vars_with m doc = msg.Vars (units_of m.pad) (units_of m.author) m.read_only m.session m.birth m.rev doc m.time

abbrev pub ReadsVars : VarsMembers → Result ServerMsg WireBad → Type 0
ReadsVars m answer = Made (ReadsDoc m.pool m.text m.attribs) (vars_with m) answer

-- ---- ACCEPT_COMMIT

abbrev pub accepted_in : Data → Result ServerMsg WireBad
accepted_in d = do
  rev ← needed whole member.NewRev d
  s ← needed session member.Session d
  Ok (msg.Accepted rev s)

-- ---- NEW_CHANGES

pub record NewsMembers : Type 0 where
  pub pool : Data
  pub author : List ℕ
  pub changeset : List ℕ
  pub time : ℕ
  pub rev : ℕ
  pub session : Session
  pub delta : ℕ

abbrev pub news_members : Data → Result NewsMembers WireBad
news_members d = do
  pool ← needed Some member.Apool d
  author ← needed as_str member.Author d
  changeset ← needed as_str member.Changeset d
  time ← needed whole member.CurrentTime d
  rev ← needed whole member.NewRev d
  s ← needed session member.Session d
  delta ← needed whole member.TimeDelta d
  Ok (record { pool = pool; author = author; changeset = changeset; time = time; rev = rev; session = s; delta = delta })

abbrev pub news_with : NewsMembers → Change → ServerMsg
news_with m change = msg.News m.rev change (units_of m.author) m.session m.time m.delta

abbrev pub ReadsNews : NewsMembers → Result ServerMsg WireBad → Type 0
ReadsNews m answer = Made (ReadsChange m.pool m.changeset) (news_with m) answer

-- ---- CLIENT_RECONNECT

pub record BackMembers : Type 0 where
  pub pool : Data
  pub author : List ℕ
  pub birth : ℕ
  pub changeset : List ℕ
  pub current : Session
  pub time : ℕ
  pub head : ℕ
  pub rev : ℕ
  pub session : Session

abbrev pub back_members : Data → Result BackMembers WireBad
back_members d = do
  pool ← needed Some member.Apool d
  author ← needed as_str member.Author d
  birth ← needed whole member.Birth d
  changeset ← needed as_str member.Changeset d
  current ← needed session member.Current d
  time ← needed whole member.CurrentTime d
  head ← needed whole member.HeadRev d
  rev ← needed whole member.NewRev d
  s ← needed session member.Session d
  Ok (record { pool = pool; author = author; birth = birth; changeset = changeset; current = current; time = time; head = head; rev = rev; session = s })

abbrev pub back_with : BackMembers → Change → ServerMsg
back_with m change = msg.Reconnect m.current m.birth m.head m.rev change (units_of m.author) m.session m.time

abbrev pub ReadsBack : BackMembers → Result ServerMsg WireBad → Type 0
ReadsBack m answer = Made (ReadsChange m.pool m.changeset) (back_with m) answer

abbrev pub none_in : Data → Result ServerMsg WireBad
none_in d = do
  birth ← needed whole member.Birth d
  current ← needed session member.Current d
  head ← needed whole member.HeadRev d
  rev ← needed whole member.NewRev d
  Ok (msg.ReconnectNone current birth head rev)

-- ---- CHANGESET_REQ

pub record SlidMembers : Type 0 where
  pub reached : ℕ
  pub pool : Data
  pub backward : Items
  pub forward : Items
  pub granularity : ℕ
  pub request : ℕ
  pub start : ℕ

abbrev pub slid_members : Data → Result SlidMembers WireBad
slid_members d = do
  reached ← needed whole member.ActualEndNum d
  pool ← needed Some member.Apool d
  backward ← needed array_of_texts member.BackwardsChangesets d
  forward ← needed array_of_texts member.ForwardsChangesets d
  granularity ← needed whole member.Granularity d
  request ← needed whole member.RequestId d
  start ← needed whole member.Start d
  Ok (record { reached = reached; pool = pool; backward = backward; forward = forward; granularity = granularity; request = request; start = start })

abbrev pub slid_with : SlidMembers → List Change × List Change → ServerMsg
slid_with m steps = msg.Slid m.start m.reached m.granularity m.request steps.1 steps.0

abbrev pub ReadsSlid : SlidMembers → Result ServerMsg WireBad → Type 0
ReadsSlid m answer = Made (ReadsSteps m.pool m.backward m.forward) (slid_with m) answer

-- ---- all of them

abbrev pub ReadsRow : Row → Result ServerMsg WireBad → Type 0
ReadsRow (vars d) answer = Then (vars_members d) ReadsVars answer
ReadsRow (accepted d) answer = answer ≡ accepted_in d
ReadsRow (news d) answer = Then (news_members d) ReadsNews answer
ReadsRow (reconnect d) answer = Then (back_members d) ReadsBack answer
ReadsRow (reconnect_none d) answer = answer ≡ none_in d
ReadsRow (slid d) answer = Then (slid_members d) ReadsSlid answer
ReadsRow (closing why) answer = answer ≡ Ok (msg.Closing why)

abbrev pub ReadsValue : Data → Result ServerMsg WireBad → Type 0
ReadsValue d answer = Then (row_of d) ReadsRow answer

-- what the server's text is read as, under a limit of bytes
abbrev pub ReadsServer : List ℕ → ℕ → Result ServerMsg WireBad → Type 0
ReadsServer text limit answer = Then (json_in text limit) ReadsValue answer
