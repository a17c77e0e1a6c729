-- What a writer sends, by the lines that it read and the messages that it heard alone.
use Rattle.std.specs.Prelude.{ℕ, ◌≡◌, ◌+◌, ◌≤◌, List, [], ◌∷◌, ◌++◌, length, Option, Some, None, Result, Ok}
use Rattle.ep_history.specs.Kept.{KeptClient, kept_edited, kept_started, kept_submitted}
use Rattle.ep_client.specs.Hearing.{kept_hears, told_of}
use Rattle.ep_client.specs.Refusals.{hear_fault}
use Rattle.ep_client.specs.declared.bad.ClientBad.{ClientBad}
use Rattle.ep_client.specs.declared.heard.Heard.{Heard}
use Rattle.ep_client.specs.declared.heard.Told.{Told}
use Rattle.ep_client.specs.declared.heard.Told.TheVariants as told
use Rattle.ep_event.specs.declared.event.Local.{Local}
use Rattle.ep_invert.specs.declared.bad.SpliceBad.{SpliceBad}
use Rattle.ep_local.specs.Local.{local_bad, local_edit}
use Rattle.ep_script.specs.WriteLine.{write_line_of}
use Rattle.ep_script.specs.declared.line.LineBad.{LineBad}
use Rattle.ep_script.specs.declared.write_line.WriteLine.{WriteLine}
use Rattle.ep_script.specs.declared.write_line.WriteLine.TheVariants as line
use Rattle.ep_wire_words.specs.declared.client.ClientMsg.{ClientMsg}
use Rattle.ep_wire_words.specs.declared.client.ClientMsg.TheVariants as msgs
use Rattle.ep_wire_words.specs.declared.server.ServerMsg.{ServerMsg}
use Rattle.ep_wire_words.specs.declared.server.ServerMsg.TheVariants as msg
use Rattle.ep_peer.specs.Cuts.{Cut, Line, Long}
use Rattle.ep_peer.specs.Writer.{Did, Said, Understood, Lined, IsOver, news_of, user_changes, written}
use Rattle.ep_peer.specs.declared.writer.Written.{Written}

-- ---- the client, by what it heard and what was edited

-- a client starts with the document
abbrev pub started : ServerMsg → Option KeptClient
started (msg.Vars pad author read_only session birth rev doc time) = Some (kept_started doc rev session)
started m = None

-- it hears what it doesn't refuse
abbrev pub hears_unless : KeptClient → Heard → Option ClientBad → KeptClient
hears_unless k h None = kept_hears h k
hears_unless k h (Some why) = k

abbrev pub hears : KeptClient → Option Heard → KeptClient
hears k None = k
hears k (Some h) = hears_unless k h (hear_fault h k)

-- a line edits what it sees, where it is an edit of that
abbrev pub edits_unless : KeptClient → Local → Option SpliceBad → Option KeptClient
edits_unless k e None = Some (kept_edited (local_edit e k.view) k)
edits_unless k e (Some why) = None

abbrev pub edits_by : KeptClient → Result WriteLine LineBad → Option KeptClient
edits_by k (Ok (line.Edit e)) = edits_unless k e (local_bad e k.view)
edits_by k r = None

abbrev pub edits : KeptClient → Cut → Option KeptClient
edits k (Line bytes) = edits_by k (write_line_of bytes)
edits k Long = None

-- and it submits that, where it alters something
abbrev pub or_as_before : KeptClient → Option KeptClient → KeptClient
or_as_before k None = k
or_as_before k (Some new) = new

abbrev pub submits_if : KeptClient → Option KeptClient → KeptClient
submits_if k None = k
submits_if k (Some edited) = or_as_before edited (kept_submitted edited)

abbrev pub message_of : Option KeptClient → List ClientMsg
message_of None = []
message_of (Some sent) = user_changes sent ∷ []

abbrev pub messages_if : Option KeptClient → List ClientMsg
messages_if None = []
messages_if (Some edited) = message_of (kept_submitted edited)

-- the client behind one thing that was done
abbrev pub client_by : Option KeptClient → Did → Option KeptClient
client_by None (Understood text (Ok m)) = started m
client_by (Some k) (Understood text (Ok m)) = Some (hears k (news_of k m))
client_by (Some k) (Lined c) = Some (submits_if k (edits k c))
client_by c d = c

abbrev pub client_after : Option KeptClient → List Did → Option KeptClient
client_after c [] = c
client_after c (d ∷ log) = client_after (client_by c d) log

-- ---- what goes out

-- for each line that alters something what the client submits of it
abbrev pub output_by : Option KeptClient → Did → List ClientMsg
output_by (Some k) (Lined c) = messages_if (edits k c)
output_by c d = []

abbrev pub output : Option KeptClient → List Did → List ClientMsg
output c [] = []
output c (d ∷ log) = output_by c d ++ output (client_by c d) log

-- what was sent
abbrev pub said_by : Did → List ClientMsg
said_by (Said m) = m ∷ []
said_by d = []

abbrev pub said_of : List Did → List ClientMsg
said_of [] = []
said_of (d ∷ log) = said_by d ++ said_of log

-- it is the beginning of the whole: all of it but one message at most, the last
abbrev pub IsSentOf : List ClientMsg → List ClientMsg → Type 0
IsSentOf sent whole = (rest : List ClientMsg) × (whole ≡ sent ++ rest) × (length rest ≤ 1)

-- ---- how many edits were sent, and how many were committed

abbrev pub one_edit : ClientMsg → ℕ
one_edit (msgs.Edit base change) = 1
one_edit m = 0

abbrev pub sent_by : Did → ℕ
sent_by (Said m) = one_edit m
sent_by d = 0

abbrev pub edits_sent : List Did → ℕ
edits_sent [] = 0
edits_sent (d ∷ log) = sent_by d + edits_sent log

abbrev pub one_commit : Told → ℕ
one_commit told.Commit = 1
one_commit told.News = 0

abbrev pub commit_unless : KeptClient → Heard → Option ClientBad → ℕ
commit_unless k h None = one_commit (told_of h k)
commit_unless k h (Some why) = 0

-- a client heard that its submission is committed, or has become nothing
abbrev pub commit_if : KeptClient → Option Heard → ℕ
commit_if k None = 0
commit_if k (Some h) = commit_unless k h (hear_fault h k)

abbrev pub commit_by : Option KeptClient → Did → ℕ
commit_by (Some k) (Understood text (Ok m)) = commit_if k (news_of k m)
commit_by c d = 0

abbrev pub commits_heard : Option KeptClient → List Did → ℕ
commits_heard c [] = 0
commits_heard c (d ∷ log) = commit_by c d + commits_heard (client_by c d) log

-- as many commits were heard as edits were sent
abbrev pub AreCommitted : List Did → Type 0
AreCommitted log = edits_sent log ≡ commits_heard None log

-- the source told its end, all that was sent is committed, and this is the client's revision with the text that it shows
abbrev pub IsDone : List Did → Written → Type 0
IsDone log w = IsOver log × AreCommitted log × ((k : KeptClient) × (client_after None log ≡ Some k) × (w ≡ written k))
