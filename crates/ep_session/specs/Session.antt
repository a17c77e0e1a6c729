-- What a session does. Each thing that is due is done in its turn, and its answer says what is due then.
use Rattle.std.specs.Prelude.{ℕ, zero, suc, ◌≡◌, ◌⊎◌, ◌+◌, ◌-◌, ◌*◌, ◌/◌, ◌^◌, ◌==◌, ◌&&◌, max, min, nat_le, nat_lt, Bool, true, false, List, [], ◌∷◌, ◌++◌, map, length, take, drop, if◌then◌else◌, Option, Some, None, Result, Ok, Err}
use Rattle.atomic_table.specs.Seated.{TableId}
use Rattle.serde_json.specs.Written.{compact_text}
use Rattle.ep_units.specs.Text.{Text}
use Rattle.ep_units.specs.Utf8.{utf8_of}
use Rattle.ep_units.specs.declared.grant.Grant.{Grant}
use Rattle.ep_units.specs.declared.session.Session.{Session}
use Rattle.ep_cs.specs.Change.{Change}
use Rattle.ep_cs.specs.Doc.{Doc}
use Rattle.ep_cs.specs.Edit.{apply}
use Rattle.ep_cs.specs.Fitting.{fit_bad}
use Rattle.ep_cs.specs.declared.bad.FitBad.{FitBad}
use Rattle.ep_history.specs.History.{is_session}
use Rattle.ep_history.specs.declared.pad_bad.PadBad.{PadBad}
use Rattle.ep_history.specs.declared.pad_bad.PadBad.TheVariants as bad
use Rattle.ep_history.specs.declared.rev.Rev.{Rev}
use Rattle.ep_dir_records.specs.declared.dir_bad.DirBad.{DirBad}
use Rattle.ep_dir_records.specs.declared.ids.Drawn.{Drawn}
use Rattle.ep_groups.specs.declared.entries.DirEntry.{DirEntry}
use Rattle.ep_groups.specs.declared.entries.DirEntry.TheVariants as dir
use Rattle.ep_groups.specs.declared.entries.DirReply.{DirReply}
use Rattle.ep_groups.specs.declared.entries.DirReply.TheVariants as dirs
use Rattle.ep_slider.specs.Slides.{AreSlides}
use Rattle.ep_step.specs.declared.telling.Committed.{Committed}
use Rattle.ep_pad_state.specs.declared.answers.CatchUp.{CatchUp}
use Rattle.ep_pad_state.specs.declared.answers.Fetched.{Fetched}
use Rattle.ep_pad_state.specs.declared.answers.Piece.{Piece}
use Rattle.ep_pad_state.specs.declared.answers.Welcome.{Welcome}
use Rattle.ep_pad.specs.declared.wanted.Wanted.{Wanted}
use Rattle.ep_pad.specs.Halls.{Answer, want}
use Rattle.ep_pad.specs.declared.entries.PadEntry.{PadEntry}
use Rattle.ep_pad.specs.declared.entries.PadEntry.TheVariants as entry
use Rattle.ep_pad.specs.declared.entries.PadReply.{PadReply}
use Rattle.ep_pad.specs.declared.entries.PadReply.TheVariants as reply
use Rattle.ep_wire_words.specs.Client.{ReadsClient}
use Rattle.ep_wire_words.specs.ServerJson.{server_json}
use Rattle.ep_wire_words.specs.declared.bad.WireBad.{WireBad}
use Rattle.ep_wire_words.specs.declared.bad.WireBad.TheVariants.{Shape}
use Rattle.ep_wire_words.specs.declared.client.ClientMsg.{ClientMsg}
use Rattle.ep_wire_words.specs.declared.client.ClientMsg.TheVariants as msgs
use Rattle.ep_wire_words.specs.declared.client.Resume.{Resume}
use Rattle.ep_wire_words.specs.declared.member.Member.TheVariants.{Token}
use Rattle.ep_wire_words.specs.declared.server.ServerMsg.{ServerMsg}
use Rattle.ep_wire_words.specs.declared.server.ServerMsg.TheVariants as msg
use Rattle.ep_slider.specs.declared.bad.SlideBad.TheVariants.{Granularity}
use Rattle.ep_link.specs.Traffic.{came}
use Rattle.ep_link.specs.declared.passed.LinkGot.{LinkGot}
use Rattle.ep_link.specs.declared.passed.LinkGot.TheVariants as got
use Rattle.ep_link.specs.declared.passed.Passed.{Passed}
use Rattle.ep_link.specs.declared.passed.Passed.TheVariants.{Sent}
use Rattle.ep_session.specs.Ends.{end_of, end_of_wire, end_of_dir, end_of_pass, may_make}
use Rattle.ep_session.specs.declared.end.BadKind.TheVariants as kind
use Rattle.ep_session.specs.declared.end.End.{End}
use Rattle.ep_session.specs.declared.end.End.TheVariants as ends
use Rattle.ep_session.specs.declared.place.Place.{Place}
use Rattle.ep_session.specs.declared.ready.Ready.{Ready}

-- One thing that a session did: a receive, with the link's count of faults then; a message that was heard, read; a message that was sent;
-- a send that failed, with that count; a call of the directory, with its moment in milliseconds; a call of the registry; a call of the pad
pub data Did : Type 0 where
  Heard : LinkGot → ℕ → Did
  Understood : List ℕ → Result ClientMsg WireBad → Did
  Said : ServerMsg → Did
  Unsaid : ℕ → Did
  Granted : ℕ → DirEntry → DirReply → Did
  Entered : Wanted → Answer → Did
  Called : PadEntry → PadReply → Did

-- One thing that is due: to receive the first message, and to read it; to ask the directory for a grant; to ask for a pass of the pad;
-- to log in; to resume; to receive, and to read what came; to bring an edit to the pad; to read a piece of its history, and to show its steps;
-- to fetch what is new; to tell a revision; to tell that an edit has become nothing; to say a message
pub data Duty : Type 0 where
  Greet : Drawn → Duty
  Begin : Drawn → List ℕ → Duty
  Ask : Drawn → Ready → Duty
  Enter : Grant → Option Resume → Duty
  Login : Grant → Duty
  Rejoin : Grant → Resume → Duty
  Hear : Duty
  Understand : List ℕ → Duty
  Take : ℕ → Change → Duty
  Look : ℕ → ℕ → ℕ → Duty
  Show : ℕ → ℕ → ℕ → Doc → List Change → Duty
  Fetch : Duty
  Tell : Rev → Duty
  TellNop : Duty
  Say : ServerMsg → Duty

-- What comes of it: more is due, before what was due already; or the session ends
pub data Outcome : Type 0 where
  Then : Place → List Duty → Outcome
  Ends : Place → End → Outcome

-- the most bytes of a message from a client
abbrev pub most_bytes : ℕ
most_bytes = 4194304

-- a number so much higher, which stands still at the greatest of 64 bits
abbrev pub counted : ℕ → ℕ → ℕ
counted n k = max n (min (n + k) (2 ^ 64 - 1))

-- before a session was answered
abbrev pub nowhere : Place
nowhere = record { inside = false; me = record { epoch = 0; count = 0 }; birth = 0; start = 0; rev = 0; time = 0; caught = 0; nops = 0; taken = 0 }

-- ---- the beginning

-- receives that give nothing are passed over
abbrev pub greeted : Place → Drawn → LinkGot → ℕ → Outcome
greeted at drawn (got.Message text) faults = Then at (Begin drawn text ∷ [])
greeted at drawn got.Binary faults = Ends at (ends.Bad kind.Binary)
greeted at drawn got.Nothing faults = Then at (Greet drawn ∷ [])
greeted at drawn got.Closed faults = Ends at ends.Closed
greeted at drawn got.Failed faults = Ends at (ends.LinkFault faults)
greeted at drawn got.NoMemory faults = Ends at ends.NoMemory

-- a token of at most 1,024 bytes
abbrev pub is_short : Text → Bool
is_short token = nat_le (length (utf8_of token)) 1024

-- who comes with a short token goes on to the directory
abbrev pub admitted : Place → Drawn → Ready → Bool → Outcome
admitted at drawn r true = Then at (Ask drawn r ∷ [])
admitted at drawn r false = Ends at (ends.Bad (kind.Wire (Shape Token)))

-- the first message has to be the one that logs in or resumes
abbrev pub begun : Place → Drawn → Result ClientMsg WireBad → Outcome
begun at drawn (Ok (msgs.Ready pad token sessions resume)) = admitted at drawn (record { pad = pad; token = token; sessions = sessions; resume = resume }) (is_short token)
begun at drawn (Ok m) = Ends at (ends.Bad kind.NotReady)
begun at drawn (Err bad) = Ends at (end_of_wire bad)

-- how many ids of sessions are looked at
abbrev pub most_ids : ℕ
most_ids = 100

-- the directory is asked once, by the first message, in seconds, and of the ids of sessions about those that stand first
abbrev pub asking : Drawn → Ready → ℕ → DirEntry
asking drawn r now = dir.Grant (record { asked = r.pad; sessions = take most_ids r.sessions; token = r.token; at = now / 1000; drawn = drawn })

abbrev pub granted : Place → Ready → Result Grant DirBad → Outcome
granted at r (Ok grant) = Then at (Enter grant r.resume ∷ [])
granted at r (Err bad) = Ends at (end_of_dir bad)

abbrev pub joining : Grant → Option Resume → Duty
joining grant None = Login grant
joining grant (Some again) = Rejoin grant again

-- the granted pad is asked for, by who makes it where it is absent or does not
abbrev pub wanting : Grant → Option Resume → Wanted
wanting grant resume = want grant.pad (may_make grant resume)

abbrev pub entered : Place → Grant → Option Resume → Answer → Outcome
entered at grant resume (Ok id) = Then at (joining grant resume ∷ [])
entered at grant resume (Err bad) = Ends at (end_of_pass grant resume bad)

-- where a login leads, and a resumption behind the revision that the client knows
abbrev pub welcome_place : Welcome → Place
welcome_place w = record { inside = true; me = w.session; birth = w.birth; start = w.rev; rev = w.rev; time = w.time; caught = w.rev; nops = 0; taken = 0 }

abbrev pub rejoin_place : ℕ → CatchUp → Place
rejoin_place rev c = record { inside = true; me = c.session; birth = c.birth; start = rev; rev = rev; time = c.time; caught = c.head; nops = 0; taken = 0 }

-- a login is answered by the document, under the id that was asked for
abbrev pub vars : Grant → Welcome → ServerMsg
vars grant w = msg.Vars grant.asked w.author w.read_only w.session w.birth w.rev w.doc w.time

-- then all that is new is fetched
abbrev pub welcomed : Place → Grant → Result Welcome PadBad → Outcome
welcomed at grant (Ok w) = Then (welcome_place w) (Say (vars grant w) ∷ Fetch ∷ Hear ∷ [])
welcomed at grant (Err bad) = Ends at (end_of bad)

-- a client who has missed nothing is told so
abbrev pub none_missed : ℕ → CatchUp → List ServerMsg
none_missed rev c = if rev == c.head then msg.ReconnectNone c.session c.birth c.head c.head ∷ [] else []

abbrev pub rejoined : Place → ℕ → Result CatchUp PadBad → Outcome
rejoined at rev (Ok c) = Then (rejoin_place rev c) (map Say (none_missed rev c) ++ Fetch ∷ Hear ∷ [])
rejoined at rev (Err bad) = Ends at (end_of bad)

-- ---- a turn: one receive; what the message asks for is done; then all that is new is fetched

abbrev pub heard : Place → LinkGot → ℕ → Outcome
heard at (got.Message text) faults = Then at (Understand text ∷ [])
heard at got.Binary faults = Ends at (ends.Bad kind.Binary)
heard at got.Nothing faults = Then at (Fetch ∷ Hear ∷ [])
heard at got.Closed faults = Ends at ends.Closed
heard at got.Failed faults = Ends at (ends.LinkFault faults)
heard at got.NoMemory faults = Ends at ends.NoMemory

-- a step of a timeslider is of 1 to 100 revisions
abbrev pub is_step : ℕ → Bool
is_step granularity = nat_le 1 granularity && nat_le granularity 100

abbrev pub asked : Place → Result ClientMsg WireBad → Outcome
asked at (Ok (msgs.Edit base change)) = Then at (Take base change ∷ Fetch ∷ Hear ∷ [])
asked at (Ok (msgs.Slide start granularity request)) = if is_step granularity then Then at (Look start granularity request ∷ Fetch ∷ Hear ∷ []) else Ends at (ends.Bad (kind.Slide Granularity))
asked at (Ok msgs.Other) = Then at (Fetch ∷ Hear ∷ [])
asked at (Ok (msgs.Ready pad token sessions resume)) = Ends at (ends.Bad kind.NotReady)
asked at (Err bad) = Ends at (end_of_wire bad)

abbrev pub took : Place → Result Committed PadBad → Outcome
took at (Ok committed) = Then (record at { taken = counted at.taken 1 }) []
took at (Err bad) = Ends at (end_of bad)

abbrev pub changes_of : List Rev → List Change
changes_of revs = map (λ (r : Rev). r.change) revs

abbrev pub or_unfit : Option FitBad → Option FitBad → Option FitBad
or_unfit (Some why) next = Some why
or_unfit None next = next

-- why the first of some changes that doesn't fit the document before it does not; no legal history of a pad has one
abbrev pub unfit : Doc → List Change → Option FitBad
unfit doc [] = None
unfit doc (c ∷ cs) = or_unfit (fit_bad c doc) (unfit (apply c.edit doc) cs)

abbrev pub shown : Place → Duty → Option FitBad → Outcome
shown at show None = Then at (show ∷ [])
shown at show (Some why) = Ends at (ends.Broken (bad.Fit why))

abbrev pub looked : Place → ℕ → ℕ → ℕ → Result Piece PadBad → Outcome
looked at start granularity request (Ok p) = let cs = changes_of p.revs.items in shown at (Show start granularity request p.doc cs) (unfit p.doc cs)
looked at start granularity request (Err bad) = Ends at (end_of bad)

-- the steps of so many changes
abbrev pub slid : ℕ → ℕ → ℕ → ℕ → List Change → List Change → ServerMsg
slid start granularity request count forward backward = msg.Slid start (counted start count) granularity request forward backward

-- how many of the first ones became nothing at a revision or before it
abbrev pub due_at : ℕ → List ℕ → ℕ
due_at rev [] = 0
due_at rev (h ∷ hs) = if nat_le h rev then suc (due_at rev hs) else 0

abbrev pub nops_due : ℕ → List Duty
nops_due zero = []
nops_due (suc n) = TellNop ∷ nops_due n

-- each revision is told in order, and that an edit has become nothing behind the revisions up to the head of then
abbrev pub news_due : ℕ → List Rev → List ℕ → List Duty
news_due rev [] nops = nops_due (length nops)
news_due rev (r ∷ revs) nops = nops_due (due_at rev nops) ++ Tell r ∷ news_due (counted rev 1) revs (drop (due_at rev nops) nops)

-- a fetch is full where its answer reaches the head that it tells; else the next one follows
abbrev pub is_full : Place → Fetched → Bool
is_full at f = f.head == counted at.rev (length f.revs.items)

abbrev pub fetched : Place → Result Fetched PadBad → Outcome
fetched at (Ok f) = Then at (news_due at.rev f.revs.items f.nops.items ++ (if is_full at f then [] else Fetch ∷ []))
fetched at (Err bad) = Ends at (end_of bad)

-- ---- what is told

-- a revision: up to the head of a resumption as one that was missed; then the session's own as its commit, and another's as news
abbrev pub telling : Place → Rev → ServerMsg
telling at r =
    if nat_lt at.rev at.caught then msg.Reconnect at.me at.birth at.caught (counted at.rev 1) r.change r.author r.session r.time
    else (if is_session at.me r.session then msg.Accepted (counted at.rev 1) at.me
    else msg.News (counted at.rev 1) r.change r.author r.session r.time (r.time - at.time))

abbrev pub told : Place → Rev → Place
told at r = record at { rev = counted at.rev 1; time = r.time }

-- that an edit has become nothing: a commit of the revision that was told last
abbrev pub nop_telling : Place → ServerMsg
nop_telling at = msg.Accepted at.rev at.me

abbrev pub nop_told : Place → Place
nop_told at = record at { nops = counted at.nops 1 }

abbrev pub text_of : ServerMsg → List ℕ
text_of m = compact_text (server_json m)

-- a message is sent, or the link failed
abbrev pub Sends : Place → ServerMsg → Did → Outcome → Outcome → Type 0
Sends at m did out next = ((did ≡ Said m) × (out ≡ next)) ⊎ ((n : ℕ) × (did ≡ Unsaid n) × (out ≡ Ends at (ends.LinkFault n)))

-- a duty is done so, and this comes of it
abbrev pub Does : Place → Duty → Did → Outcome → Type 0
Does at (Greet drawn) did out = (g : LinkGot) × (n : ℕ) × (did ≡ Heard g n) × (out ≡ greeted at drawn g n)
Does at (Begin drawn text) did out = (r : Result ClientMsg WireBad) × ReadsClient text most_bytes r × (did ≡ Understood text r) × (out ≡ begun at drawn r)
Does at (Ask drawn ready) did out = (now : ℕ) × (r : Result Grant DirBad) × (did ≡ Granted now (asking drawn ready now) (dirs.Grant r)) × (out ≡ granted at ready r)
Does at (Enter grant resume) did out = (r : Answer) × (did ≡ Entered (wanting grant resume) r) × (out ≡ entered at grant resume r)
Does at (Login grant) did out = (now : ℕ) × (r : Result Welcome PadBad) × (did ≡ Called (entry.Login grant now) (reply.Welcome r)) × (out ≡ welcomed at grant r)
Does at (Rejoin grant again) did out = (now : ℕ) × (r : Result CatchUp PadBad) × (did ≡ Called (entry.Resume grant again.rev again.birth again.author now) (reply.CatchUp r)) × (out ≡ rejoined at again.rev r)
Does at Hear did out = (g : LinkGot) × (n : ℕ) × (did ≡ Heard g n) × (out ≡ heard at g n)
Does at (Understand text) did out = (r : Result ClientMsg WireBad) × ReadsClient text most_bytes r × (did ≡ Understood text r) × (out ≡ asked at r)
Does at (Take base change) did out = (now : ℕ) × (r : Result Committed PadBad) × (did ≡ Called (entry.Accept at.me base change now) (reply.Committed r)) × (out ≡ took at r)
Does at (Look start granularity request) did out = (r : Result Piece PadBad) × (did ≡ Called (entry.History at.me start (100 * granularity)) (reply.Piece r)) × (out ≡ looked at start granularity request r)
Does at (Show start granularity request doc cs) did out = (forward : List Change) × (backward : List Change) × AreSlides granularity doc cs forward backward × Sends at (slid start granularity request (length cs) forward backward) did out (Then at [])
Does at Fetch did out = (r : Result Fetched PadBad) × (did ≡ Called (entry.Fetch at.me at.rev at.nops) (reply.Fetched r)) × (out ≡ fetched at r)
Does at (Tell r) did out = Sends at (telling at r) did out (Then (told at r) [])
Does at TellNop did out = Sends at (nop_telling at) did out (Then (nop_told at) [])
Does at (Say m) did out = Sends at m did out (Then at [])

-- all that was done, from a place with these duties on
abbrev pub Runs : Place → List Duty → List Did → Outcome → Type 0
Runs at due [] out = out ≡ Then at due
Runs at [] (did ∷ log) out = ⊥
Runs at (d ∷ due) (did ∷ log) out =
    ((to : Place) × (more : List Duty) × Does at d did (Then to more) × Runs to (more ++ due) log out)
    ⊎ ((to : Place) × (e : End) × Does at d did (Ends to e) × (log ≡ []) × (out ≡ Ends to e))

-- ---- what passed on the link; what was called by the pass of the pad, of the directory and of the registry; and the moments that a clock showed for it

abbrev pub traffic_of : List Did → List Passed
traffic_of [] = []
traffic_of (Heard g n ∷ log) = came g ++ traffic_of log
traffic_of (Said m ∷ log) = Sent (text_of m) ∷ traffic_of log
traffic_of (d ∷ log) = traffic_of log

abbrev pub calls_of : List Did → List (PadEntry × PadReply)
calls_of [] = []
calls_of (Called e r ∷ log) = (e, r) ∷ calls_of log
calls_of (d ∷ log) = calls_of log

abbrev pub desk_of : List Did → List (DirEntry × DirReply)
desk_of [] = []
desk_of (Granted now e r ∷ log) = (e, r) ∷ desk_of log
desk_of (d ∷ log) = desk_of log

abbrev pub hall_of : List Did → List (Wanted × Answer)
hall_of [] = []
hall_of (Entered pad r ∷ log) = (pad, r) ∷ hall_of log
hall_of (d ∷ log) = hall_of log

-- the moment of a call that has one
abbrev pub moment_of : PadEntry → List ℕ
moment_of (entry.Login grant now) = now ∷ []
moment_of (entry.Resume grant rev birth author now) = now ∷ []
moment_of (entry.Accept session base change now) = now ∷ []
moment_of e = []

abbrev pub moments_of : List Did → List ℕ
moments_of [] = []
moments_of (Called e r ∷ log) = moment_of e ++ moments_of log
moments_of (Granted now e r ∷ log) = now ∷ moments_of log
moments_of (d ∷ log) = moments_of log
