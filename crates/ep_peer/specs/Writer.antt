-- What a writer does, one thing after the other.
use Rattle.std.specs.Prelude.{ℕ, suc, ◌≡◌, ◌⊎◌, ◌==◌, Bool, true, false, List, [], ◌∷◌, ◌++◌, if◌then◌else◌, Option, Some, None, Result, Ok, Err}
use Rattle.serde_json.specs.Written.{compact_text}
use Rattle.ep_units.specs.Text.{Text}
use Rattle.ep_cs.specs.Doc.{text_of}
use Rattle.ep_history.specs.Kept.{KeptClient, kept_edited, kept_started, kept_submission, kept_submitted}
use Rattle.ep_client.specs.Hearing.{kept_hears, told_of}
use Rattle.ep_client.specs.Refusals.{hear_fault}
use Rattle.ep_client.specs.declared.bad.ClientBad.{ClientBad}
use Rattle.ep_client.specs.declared.heard.Heard.{Heard}
use Rattle.ep_client.specs.declared.heard.Heard.TheVariants as hears
use Rattle.ep_client.specs.declared.heard.Told.{Told}
use Rattle.ep_client.specs.declared.heard.Told.TheVariants as told
use Rattle.ep_event.specs.declared.event.Local.{Local}
use Rattle.ep_invert.specs.declared.bad.SpliceBad.{SpliceBad}
use Rattle.ep_local.specs.Local.{local_bad, local_edit}
use Rattle.ep_script.specs.WriteLine.{write_line_of}
use Rattle.ep_script.specs.declared.line.LineBad.{LineBad}
use Rattle.ep_script.specs.declared.write_line.WriteLine.{WriteLine}
use Rattle.ep_script.specs.declared.write_line.WriteLine.TheVariants as line
use Rattle.ep_wire_words.specs.ClientJson.{client_json}
use Rattle.ep_wire_words.specs.Server.{ReadsServer}
use Rattle.ep_wire_words.specs.declared.bad.WireBad.{WireBad}
use Rattle.ep_wire_words.specs.declared.client.ClientMsg.{ClientMsg}
use Rattle.ep_wire_words.specs.declared.client.ClientMsg.TheVariants as msgs
use Rattle.ep_wire_words.specs.declared.server.ServerMsg.{ServerMsg}
use Rattle.ep_wire_words.specs.declared.server.ServerMsg.TheVariants as msg
use Rattle.ep_link.specs.Traffic.{came}
use Rattle.ep_link.specs.declared.passed.LinkGot.{LinkGot}
use Rattle.ep_link.specs.declared.passed.LinkGot.TheVariants as got
use Rattle.ep_link.specs.declared.passed.Passed.{Passed}
use Rattle.ep_link.specs.declared.passed.Passed.TheVariants.{Sent}
use Rattle.ep_peer.specs.Bads.{bad_of_client, bad_of_line, bad_of_splice, bad_of_wire}
use Rattle.ep_peer.specs.Cuts.{Cut, Line, Long}
use Rattle.ep_peer.specs.declared.bad.PeerBad.{PeerBad}
use Rattle.ep_peer.specs.declared.bad.PeerBad.TheVariants as bad
use Rattle.ep_peer.specs.declared.bad.Reason.TheVariants as reason
use Rattle.ep_peer.specs.declared.writer.Written.{Written}

-- One thing that a writer did: a message that was sent; a send that failed, with the link's count of faults then; a receive, with that
-- count; a message that was received, read; a line that was read of the source; a read that failed, with the source's count; or the source
-- told its end
pub data Did : Type 0 where
  Said : ClientMsg → Did
  Unsaid : ℕ → Did
  Gave : LinkGot → ℕ → Did
  Understood : List ℕ → Result ServerMsg WireBad → Did
  Lined : Cut → Did
  Unlined : ℕ → Did
  Over : Did

-- What is waited for: the first message; or of a client, which has written so many lines, the commit of its submission
pub data Awaited : Type 0 where
  First : Awaited
  Commit : ℕ → KeptClient → Awaited

-- Where a writer stands: it is to say which pad it wants; to receive; to read what it received; to read the line behind so many; or to
-- send what its client has submitted
pub data Stand : Type 0 where
  Opening : Text → Text → Stand
  Listening : Awaited → Stand
  Having : Awaited → List ℕ → Stand
  Reading : ℕ → KeptClient → Stand
  Sending : ℕ → KeptClient → Stand

-- What comes of one thing: it goes on, or ends
pub data Outcome : Type 0 where
  Goes : Stand → Outcome
  Ends : Result Written PeerBad → Outcome

abbrev pub stops : PeerBad → Outcome
stops why = Ends (Err why)

-- the most bytes of a message from a server
abbrev pub most_bytes : ℕ
most_bytes = 16777216

-- ---- messages out

-- the first one
abbrev pub ready : Text → Text → ClientMsg
ready pad token = msgs.Ready pad token [] None

-- what a client has submitted
abbrev pub user_changes : KeptClient → ClientMsg
user_changes k = let sent = kept_submission k in msgs.Edit sent.base sent.change

abbrev pub text_of_msg : ClientMsg → List ℕ
text_of_msg m = compact_text (client_json m)

-- ---- messages in

-- receives that give nothing are passed over
abbrev pub heard : Awaited → LinkGot → ℕ → Outcome
heard w (got.Message text) faults = Goes (Having w text)
heard w got.Binary faults = stops bad.Turn
heard w got.Nothing faults = Goes (Listening w)
heard w got.Closed faults = stops bad.LinkClosed
heard w got.Failed faults = stops (bad.LinkFault faults)
heard w got.NoMemory faults = stops bad.NoMemory

-- the first message has the document, with which a client starts
abbrev pub begun : List ℕ → ServerMsg → Outcome
begun text (msg.Vars pad author read_only session birth rev doc time) = Goes (Reading 0 (kept_started doc rev session))
begun text (msg.Closing word) = stops (bad.Refused text)
begun text m = stops bad.Turn

-- a commit that names the client's own revision says that the submission has become nothing
abbrev pub accepted : KeptClient → ℕ → Heard
accepted k rev = if rev == k.rev then hears.Nop rev else hears.Commit rev

-- what a client hears of a message
abbrev pub news_of : KeptClient → ServerMsg → Option Heard
news_of k (msg.Accepted rev session) = Some (accepted k rev)
news_of k (msg.News rev change author session time delta) = Some (hears.Rev rev change session)
news_of k m = None

-- the next line waits for the commit
abbrev pub goes_on : ℕ → KeptClient → Told → Outcome
goes_on n k told.Commit = Goes (Reading n k)
goes_on n k told.News = Goes (Listening (Commit n k))

abbrev pub hearing : ℕ → KeptClient → Heard → Option ClientBad → Outcome
hearing n k h None = goes_on n (kept_hears h k) (told_of h k)
hearing n k h (Some why) = stops (bad_of_client why)

-- news are heard
abbrev pub told_news : ℕ → KeptClient → Option Heard → Outcome
told_news n k None = stops bad.Turn
told_news n k (Some h) = hearing n k h (hear_fault h k)

abbrev pub is_closing : ServerMsg → Bool
is_closing (msg.Closing word) = true
is_closing m = false

abbrev pub told_later : ℕ → KeptClient → List ℕ → ServerMsg → Outcome
told_later n k text m = if is_closing m then stops (bad.Refused text) else told_news n k (news_of k m)

abbrev pub understood : Awaited → List ℕ → Result ServerMsg WireBad → Outcome
understood w text (Err why) = stops (bad_of_wire why)
understood First text (Ok m) = begun text m
understood (Commit n k) text (Ok m) = told_later n k text m

-- ---- lines

-- what alters something is sent
abbrev pub submitting : ℕ → KeptClient → Option KeptClient → Outcome
submitting n k None = Goes (Reading n k)
submitting n k (Some sent) = Goes (Sending n sent)

abbrev pub submits : ℕ → KeptClient → Outcome
submits n k = submitting n k (kept_submitted k)

-- the client's view is edited by the line's splice or paint
abbrev pub editing : ℕ → KeptClient → Local → Option SpliceBad → Outcome
editing n k e None = submits n (kept_edited (local_edit e k.view) k)
editing n k e (Some why) = stops (bad_of_splice n why)

-- the line of this number
abbrev pub said_line : ℕ → KeptClient → Result WriteLine LineBad → Outcome
said_line n k (Ok line.Blank) = Goes (Reading n k)
said_line n k (Ok (line.Edit e)) = editing n k e (local_bad e k.view)
said_line n k (Err why) = stops (bad_of_line n why)

abbrev pub lined : ℕ → KeptClient → Cut → Outcome
lined n k (Line bytes) = said_line n k (write_line_of bytes)
lined n k Long = stops (bad.Script n reason.Long)

-- at the end, the client's revision and the text of its view
abbrev pub written : KeptClient → Written
written k = record { rev = k.rev; text = text_of k.view }

-- ---- the walk

-- a message is sent, or the link failed
abbrev pub Sends : ClientMsg → Did → Outcome → Outcome → Type 0
Sends m did out next = ((did ≡ Said m) × (out ≡ next)) ⊎ ((n : ℕ) × (did ≡ Unsaid n) × (out ≡ stops (bad.LinkFault n)))

-- the next line, or the end of the source, or its fault
abbrev pub ReadsOn : ℕ → KeptClient → Did → Outcome → Type 0
ReadsOn n k did out =
    ((c : Cut) × (did ≡ Lined c) × (out ≡ lined (suc n) k c))
    ⊎ (((did ≡ Over) × (out ≡ Ends (Ok (written k))))
    ⊎ ((faults : ℕ) × (did ≡ Unlined faults) × (out ≡ stops (bad.SourceFault faults))))

-- where it stands this is done, and that comes of it
abbrev pub Does : Stand → Did → Outcome → Type 0
Does (Opening pad token) did out = Sends (ready pad token) did out (Goes (Listening First))
Does (Listening w) did out = (g : LinkGot) × (n : ℕ) × (did ≡ Gave g n) × (out ≡ heard w g n)
Does (Having w text) did out = (r : Result ServerMsg WireBad) × ReadsServer text most_bytes r × (did ≡ Understood text r) × (out ≡ understood w text r)
Does (Reading n k) did out = ReadsOn n k did out
Does (Sending n k) did out = Sends (user_changes k) did out (Goes (Listening (Commit n k)))

-- all that was done, and what came of it
abbrev pub Runs : Outcome → List Did → Outcome → Type 0
Runs o [] out = out ≡ o
Runs (Goes s) (did ∷ log) out = (next : Outcome) × Does s did next × Runs next log out
Runs (Ends r) (did ∷ log) out = ⊥

-- ---- what passed on the link, and what was read of the source

abbrev pub traffic_of : List Did → List Passed
traffic_of [] = []
traffic_of (Gave g n ∷ log) = came g ++ traffic_of log
traffic_of (Said m ∷ log) = Sent (text_of_msg m) ∷ traffic_of log
traffic_of (d ∷ log) = traffic_of log

abbrev pub lines_of : List Did → List Cut
lines_of [] = []
lines_of (Lined c ∷ log) = c ∷ lines_of log
lines_of (d ∷ log) = lines_of log

-- the source told its end last
abbrev pub IsOver : List Did → Type 0
IsOver [] = ⊥
IsOver (Over ∷ log) = log ≡ []
IsOver (d ∷ log) = IsOver log
