-- The world: a pad, its clients and guests with their connections, and what may happen.
use Rattle.std.specs.Prelude.{ℕ, suc, Bool, true, false, not, ◌&&◌, ◌==◌, if◌then◌else◌, List, [], ◌∷◌, ◌++◌, length, Option, Some, None, Result, Ok, Err, codes}
use Rattle.ep_units.specs.Text.{Text, text_eq, is_well_formed}
use Rattle.ep_units.specs.declared.session.Session.{Session}
use Rattle.ep_units.specs.declared.grant.Grant.{Grant}
use Rattle.ep_outside.specs.declared.limits.Limits.{Limits}
use Rattle.ep_cs.specs.Edit.{Edit}
use Rattle.ep_cs.specs.Edit.Fate.{Drop}
use Rattle.ep_cs.specs.Change.{Change}
use Rattle.ep_cs.specs.Fits.{is_identity}
use Rattle.ep_csread.specs.declared.bad.ReadBad.{ReadBad}
use Rattle.ep_history.specs.Lists.{at}
use Rattle.ep_history.specs.History.{By, nops_of, head, newline}
use Rattle.ep_cs.specs.EditFits.{is_edit, fits}
use Rattle.ep_history.specs.Pad.{PadState, birth_at, newest, seat_of, next_session, with_session, leave, create, delete, reopened}
use Rattle.ep_history.specs.declared.seat.Why.TheVariants.{Replaced, Deleted, Reopened, Left}
use Rattle.ep_history.specs.declared.pad_bad.PadBad.{PadBad}
use Rattle.ep_history.specs.declared.pad_bad.PadBad.TheVariants as bad
use Rattle.ep_history.specs.Refusals.{login_fault, resume_fault}
use Rattle.ep_history.specs.Entry.{opened}
use Rattle.ep_history.specs.Accept.{refusal, by_session, at_head, committed}
use Rattle.ep_history.specs.Server.{create_fault, set_fault, set_text, gone_fault}
use Rattle.ep_history.specs.Client.{ClientState, started, view, edited, submitted, is_own, without_sent, heard, lost, resumes}
use Rattle.ep_history.specs.declared.rev.Rev.{Rev}
use Rattle.ep_history.specs.declared.nop.Nop.{Nop}
use Rattle.ep_history.specs.declared.seat.Seat.{Seat}
use Rattle.ep_history.specs.declared.submission.Submission.{Submission}
use Rattle.ep_history.specs.declared.seat.Why.{Why}

-- those who take part, by name
abbrev pub Name : Type 0
Name = Text

-- the author of a name
abbrev pub author_of : Name → Text
author_of n = codes "a." ++ n

-- an edit on its way to the server, with its number; `unread` is why its text spells no change, where it does not
pub record Message : Type 0 where
  pub number : ℕ
  pub base : ℕ
  pub change : Change
  pub unread : Option ReadBad

-- why a connection is closed: a message was refused, a newer session of the author came, the pad was deleted, or the
-- journal has no room for a message
pub data Word : Type 0 where
  BadChangeset : Word
  UserDup : Word
  PadDeleted : Word
  JournalFull : Word

-- what goes down to a client: a revision, that its submission became nothing at a revision, or the closing
pub data Down : Type 0 where
  Revision : Rev → Down
  Spent : ℕ → Down
  Closing : Word → Down

-- a connection with its queues, the first to be taken or heard first; `sent` is the last revision that entered the
-- queue down, `nops` how many of its session's edits that became nothing were told there, and `closed` says that a
-- closing was
pub record Conn : Type 0 where
  pub session : Session
  pub up : List Message
  pub down : List Down
  pub sent : ℕ
  pub nops : ℕ
  pub closed : Bool

-- a client, the number of its submission, the birth that it is of, its connection, and the one before its last resumption
pub record Member : Type 0 where
  pub client : ClientState
  pub number : ℕ
  pub birth : ℕ
  pub conn : Conn
  pub earlier : Option Conn

-- what a name stands for
pub data Actor : Type 0 where
  Nobody : Actor
  Guest : Conn → Actor
  Named : Member → Actor

-- that the edit of this number, as it was sent and by whom it was taken, is carried: by the revision behind this head,
-- or, where it became nothing, by this one of its birth's edits that did, counted from 0
pub record Taken : Type 0 where
  pub number : ℕ
  pub birth : ℕ
  pub head : ℕ
  pub base : ℕ
  pub change : Change
  pub by : By
  pub nop : Option ℕ

-- `id` is the pad's own; `edits` has who made the edit of each number, counted from 1; `taken` has the marks of all
-- takes, the last one first; `known` the numbers that were answered as committed or heard as committed
pub record WorldState : Type 0 where
  pub id : Text
  pub pad : PadState
  pub actors : Name → Actor
  pub edits : List Name
  pub taken : List Taken
  pub known : List ℕ

-- no pad yet, and nobody
abbrev pub start : Limits → Text → WorldState
start limits id = record {
  id = id;
  pad = record { limits = limits; epoch = 1; sessions = []; births = []; present = false; public = false };
  actors = λ n. Nobody;
  edits = [];
  taken = [];
  known = [];
}

-- what may happen, with its moment where that is told of later; `Overfull` says that the journal's limit refuses a take
pub data Event : Type 0 where
  Create : ℕ → Text → Event
  SetText : ℕ → Text → Event
  Delete : Event
  Login : ℕ → Name → Event
  Visit : ℕ → Name → Bool → Event
  Edits : Name → Edit → Event
  Submit : Name → Event
  Inject : Name → ℕ → Result Change ReadBad → Event
  Take : ℕ → Name → Event
  Overfull : Name → Event
  Late : ℕ → Name → Event
  Push : Name → Event
  Hear : Name → Event
  Lose : Name → Event
  Resume : Name → Event
  Stop : ℕ → Option Name → Bool → Event

-- ---- parts of a world

-- one name stands for another actor
abbrev pub put : (Name → Actor) → Name → Actor → Name → Actor
put actors n a m = if text_eq m n then a else actors m

-- one name stands for another actor
abbrev pub with_actor : WorldState → Name → Actor → WorldState
with_actor w n a = record w { actors = put w.actors n a }

-- another pad
abbrev pub with_pad : WorldState → PadState → WorldState
with_pad w pad = record w { pad = pad }

-- a connection whose client has revision r
abbrev pub new_conn : Session → ℕ → Conn
new_conn s r = record { session = s; up = []; down = []; sent = r; nops = 0; closed = false }

-- another queue up
abbrev pub with_up : Conn → List Message → Conn
with_up c up = record c { up = up }

-- another queue down
abbrev pub with_down : Conn → List Down → Conn
with_down c down = record c { down = down }

-- the closing enters the queue down, once
abbrev pub closing : Word → Conn → Conn
closing word c = if c.closed then c else record c { down = c.down ++ Closing word ∷ []; closed = true }

-- the next revision enters the queue down
abbrev pub sending : Conn → Rev → Conn
sending c v = record c { down = c.down ++ Revision v ∷ []; sent = suc c.sent }

-- the next of its session's edits that became nothing is told
abbrev pub spending : Conn → Conn
spending c = record c { down = c.down ++ Spent c.sent ∷ []; nops = suc c.nops }

-- another connection
abbrev pub with_conn : Member → Conn → Member
with_conn m conn = record m { conn = conn }

-- another client
abbrev pub with_client : Member → ClientState → Member
with_client m c = record m { client = c }

-- a step of a client; of anyone else it is none
abbrev pub for_named : WorldState → Actor → (Member → WorldState) → WorldState
for_named w Nobody f = w
for_named w (Guest c) f = w
for_named w (Named m) f = f m

-- ---- entering

-- the leave of a name: that of an author who is no member
abbrev pub grant_of : WorldState → Name → Bool → Grant
grant_of w n read_only = record {
  pad = w.id;
  asked = w.id;
  author = author_of n;
  token_author = author_of n;
  member = false;
  read_only = read_only;
}

-- the world in which a name has entered, and is this now
abbrev pub entered : WorldState → PadState → Name → Bool → Actor → WorldState
entered w pad n read_only a = with_actor (with_pad w (with_session pad (author_of n) read_only)) n a

-- a client starts anew at the head
abbrev pub new_member : PadState → Session → Member
new_member pad s = record {
  client = started (newest pad) (head (newest pad)) s;
  number = 0;
  birth = length pad.births;
  conn = new_conn s (head (newest pad));
  earlier = None;
}

-- who is let in starts anew
abbrev pub login_if : WorldState → ℕ → Name → Option PadBad → WorldState
login_if w now n (Some bad) = w
login_if w now n None = let pad = opened w.pad now in entered w pad n false (Named (new_member pad (next_session pad)))

-- a client logs in
abbrev pub login : WorldState → ℕ → Name → WorldState
login w now n = login_if w now n (login_fault w.pad (grant_of w n false))

-- a guest stays one
abbrev pub login_as : WorldState → ℕ → Name → Actor → WorldState
login_as w now n (Guest c) = w
login_as w now n Nobody = login w now n
login_as w now n (Named m) = login w now n

-- who is let in has a new connection
abbrev pub visit_if : WorldState → ℕ → Name → Bool → Option PadBad → WorldState
visit_if w now n read_only (Some bad) = w
visit_if w now n read_only None =
    let pad = opened w.pad now in entered w pad n read_only (Guest (new_conn (next_session pad) (head (newest pad))))

-- a guest comes
abbrev pub visit : WorldState → ℕ → Name → Bool → WorldState
visit w now n read_only = visit_if w now n read_only (login_fault w.pad (grant_of w n read_only))

-- a client stays one
abbrev pub visit_as : WorldState → ℕ → Name → Bool → Actor → WorldState
visit_as w now n read_only (Named m) = w
visit_as w now n read_only Nobody = visit w now n read_only
visit_as w now n read_only (Guest c) = visit w now n read_only

-- ---- edits and what is sent

-- an edit that fits the view
abbrev pub edit_by : WorldState → Name → Edit → Actor → WorldState
edit_by w n e a = for_named w a λ m.
    if fits e (view (birth_at w.pad m.birth) m.client) then with_actor w n (Named (with_client m (edited e m.client))) else w

-- what a client sends enters the queue up
abbrev pub sent_up : Member → ℕ → ClientState → Option Submission → Member
sent_up m number c None = with_client m c
sent_up m number c (Some s) = record m {
  client = c;
  number = number;
  conn = with_up m.conn (m.conn.up ++ record { number = number; base = s.base; change = s.change; unread = None } ∷ []);
}

-- a first submission gets a new number, one that is sent again keeps its own
abbrev pub submit_as : WorldState → Name → Member → Option Submission → ClientState → WorldState
submit_as w n m None c = record w {
  actors = put w.actors n (Named (sent_up m (suc (length w.edits)) c c.sent));
  edits = w.edits ++ n ∷ [];
}
submit_as w n m (Some s) c = with_actor w n (Named (sent_up m m.number c c.sent))

-- what is sent, if something is
abbrev pub submit_if : WorldState → Name → Member → Option ClientState → WorldState
submit_if w n m None = w
submit_if w n m (Some c) = submit_as w n m m.client.sent c

-- a client submits
abbrev pub submit_by : WorldState → Name → Actor → WorldState
submit_by w n a = for_named w a λ m. submit_if w n m (submitted (birth_at w.pad m.birth) m.client)

-- no edit: its piece stands before a place that is dropped. It stands for a text that spells no change.
abbrev pub no_change : Change
no_change = record { edit = record { places = record { before = newline; fate = Drop } ∷ []; last = [] }; runs = [] }

-- the change that a text spells, where it spells one
abbrev pub change_or_none : Result Change ReadBad → Change
change_or_none (Ok c) = c
change_or_none (Err why) = no_change

-- why it spells none, where it does not
abbrev pub unread_why : Result Change ReadBad → Option ReadBad
unread_why (Ok c) = None
unread_why (Err why) = Some why

-- a guest's message, of what its text was read as
abbrev pub injected : ℕ → ℕ → Result Change ReadBad → Message
injected number base read = record { number = number; base = base; change = change_or_none read; unread = unread_why read }

-- a guest sends anything on any base
abbrev pub inject_by : WorldState → Name → ℕ → Result Change ReadBad → Actor → WorldState
inject_by w n base read Nobody = w
inject_by w n base read (Named m) = w
inject_by w n base read (Guest c) = record w {
  edits = w.edits ++ n ∷ [];
  actors = put w.actors n (Guest (with_up c (c.up ++ injected (suc (length w.edits)) base read ∷ [])));
}

-- ---- what is taken

-- why the server does not take a message: its text spells no change, and why, or the pad refuses it
pub data Reason : Type 0 where
  Unread : Option ReadBad → Reason
  Refused : PadBad → Reason

-- the pad's reason
abbrev pub pad_reason : Option PadBad → Option Reason
pad_reason None = None
pad_reason (Some bad) = Some (Refused bad)

-- why a message is not taken, if it is not
abbrev pub reason : PadState → Session → Message → Option Reason
reason pad s msg = if is_edit msg.change.edit then pad_reason (refusal pad s msg.base msg.change) else Some (Unread msg.unread)

-- the place of what is noted, where the edit becomes nothing
abbrev pub noted_at : PadState → ℕ → Edit → Option ℕ
noted_at pad base e = if is_identity (at_head pad base e) then Some (length (newest pad).nops) else None

-- the mark of a take
abbrev pub mark : PadState → Session → ℕ → Message → Taken
mark pad s now msg = record {
  number = msg.number;
  birth = length pad.births;
  head = head (newest pad);
  base = msg.base;
  change = msg.change;
  by = by_session pad s now;
  nop = noted_at pad msg.base msg.change.edit;
}

-- the pad and its marks after a message is taken
abbrev pub taking : WorldState → Session → ℕ → Message → WorldState
taking w s now msg = record w { pad = committed w.pad s now msg.base msg.change; taken = mark w.pad s now msg ∷ w.taken }

-- it is known as committed
abbrev pub answered : WorldState → ℕ → WorldState
answered w number = record w { known = number ∷ w.known }

-- a session whose message is refused is left, and a client is told so by this word
abbrev pub refused_named : Word → WorldState → Name → Member → WorldState
refused_named word w n m = with_actor (with_pad w (leave w.pad m.conn.session)) n (Named (with_conn m (closing word m.conn)))

-- a guest's is left
abbrev pub refused_guest : WorldState → Name → Conn → WorldState
refused_guest w n c = with_actor (with_pad w (leave w.pad c.session)) n (Guest c)

-- the word with which a refusal closes: the pad was deleted, a newer session of the author came, or the changeset is bad
abbrev pub refusal_word : Reason → Word
refusal_word (Refused (bad.Dead (Deleted birth))) = PadDeleted
refusal_word (Refused (bad.Dead (Replaced by))) = UserDup
refusal_word (Refused bad.Gone) = PadDeleted
refusal_word why = BadChangeset

-- a client's message is taken, or refused
abbrev pub take_named : WorldState → ℕ → Name → Member → Message → Option Reason → WorldState
take_named w now n m msg None = with_actor (answered (taking w m.conn.session now msg) msg.number) n (Named m)
take_named w now n m msg (Some why) = refused_named (refusal_word why) w n m

-- a guest's message is taken, or refused
abbrev pub take_guest : WorldState → ℕ → Name → Conn → Message → Option Reason → WorldState
take_guest w now n c msg None = with_actor (answered (taking w c.session now msg) msg.number) n (Guest c)
take_guest w now n c msg (Some why) = refused_guest w n c

-- the first of the queue up
abbrev pub take_first_named : WorldState → ℕ → Name → Member → List Message → WorldState
take_first_named w now n m [] = w
take_first_named w now n m (msg ∷ up) = take_named w now n (with_conn m (with_up m.conn up)) msg (reason w.pad m.conn.session msg)

-- the first of the queue up
abbrev pub take_first_guest : WorldState → ℕ → Name → Conn → List Message → WorldState
take_first_guest w now n c [] = w
take_first_guest w now n c (msg ∷ up) = take_guest w now n (with_up c up) msg (reason w.pad c.session msg)

-- the server takes the first message of a name
abbrev pub take_by : WorldState → ℕ → Name → Actor → WorldState
take_by w now n Nobody = w
take_by w now n (Guest c) = take_first_guest w now n c c.up
take_by w now n (Named m) = take_first_named w now n m m.conn.up

-- a client's message that the pad would take is refused, since the journal has no room
abbrev pub overfull_named : WorldState → Name → Member → Option Reason → WorldState
overfull_named w n m None = refused_named JournalFull w n m
overfull_named w n m (Some why) = w

-- so is a guest's
abbrev pub overfull_guest : WorldState → Name → Conn → Option Reason → WorldState
overfull_guest w n c None = refused_guest w n c
overfull_guest w n c (Some why) = w

-- the first of the queue up
abbrev pub overfull_first_named : WorldState → Name → Member → List Message → WorldState
overfull_first_named w n m [] = w
overfull_first_named w n m (msg ∷ up) = overfull_named w n (with_conn m (with_up m.conn up)) (reason w.pad m.conn.session msg)

-- the first of the queue up
abbrev pub overfull_first_guest : WorldState → Name → Conn → List Message → WorldState
overfull_first_guest w n c [] = w
overfull_first_guest w n c (msg ∷ up) = overfull_guest w n (with_up c up) (reason w.pad c.session msg)

-- the journal's limit refuses the take of the first message of a name, and nothing else does
abbrev pub overfull_by : WorldState → Name → Actor → WorldState
overfull_by w n Nobody = w
overfull_by w n (Guest c) = overfull_first_guest w n c c.up
overfull_by w n (Named m) = overfull_first_named w n m m.conn.up

-- another earlier connection
abbrev pub with_earlier : Member → Conn → Member
with_earlier m e = record m { earlier = Some e }

-- a message of the connection before the last resumption
abbrev pub late_as : WorldState → ℕ → Name → Member → Session → Message → Option Reason → WorldState
late_as w now n m s msg None = with_actor (answered (taking w s now msg) msg.number) n (Named m)
late_as w now n m s msg (Some why) = with_actor w n (Named m)

-- the first of the earlier queue up
abbrev pub late_first : WorldState → ℕ → Name → Member → Conn → List Message → WorldState
late_first w now n m e [] = w
late_first w now n m e (msg ∷ up) = late_as w now n (with_earlier m (with_up e up)) e.session msg (reason w.pad e.session msg)

-- where there is an earlier connection
abbrev pub late_of : WorldState → ℕ → Name → Member → Option Conn → WorldState
late_of w now n m None = w
late_of w now n m (Some e) = late_first w now n m e e.up

-- the server takes the first message of the earlier connection
abbrev pub late_by : WorldState → ℕ → Name → Actor → WorldState
late_by w now n a = for_named w a λ m. late_of w now n m m.earlier

-- ---- what goes down and is heard

-- the next revision past the last one sent
abbrev pub push_next : WorldState → Name → Member → Option Rev → WorldState
push_next w n m None = w
push_next w n m (Some v) = with_actor w n (Named (with_conn m (sending m.conn v)))

-- that an edit became nothing at the last revision sent, and else the next revision
abbrev pub push_turn : WorldState → Name → Member → Option Nop → WorldState
push_turn w n m None = push_next w n m (at (newest w.pad).later m.conn.sent)
push_turn w n m (Some x) =
    if x.rev == m.conn.sent then with_actor w n (Named (with_conn m (spending m.conn))) else push_next w n m (at (newest w.pad).later m.conn.sent)

-- a live session gets the next that is its, one that was replaced or deleted the closing
abbrev pub push_as : WorldState → Name → Member → Option Why → WorldState
push_as w n m None = push_turn w n m (at (nops_of m.conn.session (newest w.pad).nops) m.conn.nops)
push_as w n m (Some Left) = w
push_as w n m (Some (Reopened k)) = w
push_as w n m (Some (Replaced s)) = with_actor w n (Named (with_conn m (closing UserDup m.conn)))
push_as w n m (Some (Deleted k)) = with_actor w n (Named (with_conn m (closing PadDeleted m.conn)))

-- a session of an older opening gets nothing
abbrev pub push_login : WorldState → Name → Member → Option Seat → WorldState
push_login w n m None = w
push_login w n m (Some l) = push_as w n m l.end

-- the server sends the next to a client that is connected
abbrev pub push_by : WorldState → Name → Actor → WorldState
push_by w n a = for_named w a λ m.
    if m.client.connected && not m.conn.closed then push_login w n m (seat_of w.pad m.conn.session) else w

-- a commit that is heard is known
abbrev pub known_after : WorldState → Member → Rev → WorldState
known_after w m v = if is_own v.session m.client.sent then answered w m.number else w

-- the client hears the first of the queue down
abbrev pub hear_first : WorldState → Name → Member → List Down → WorldState
hear_first w n m [] = w
hear_first w n m (Closing word ∷ down) = with_actor w n (Named (with_client (with_conn m (with_down m.conn down)) (lost m.client)))
hear_first w n m (Spent r ∷ down) =
    with_actor (answered w m.number) n (Named (with_client (with_conn m (with_down m.conn down)) (without_sent m.client)))
hear_first w n m (Revision v ∷ down) =
    with_actor (known_after w m v) n (Named (with_client (with_conn m (with_down m.conn down)) (heard (birth_at w.pad m.birth) v m.client)))

-- a client hears
abbrev pub hear_by : WorldState → Name → Actor → WorldState
hear_by w n a = for_named w a λ m. hear_first w n m m.conn.down

-- ---- losses and resumptions

-- its queue down is given up, its queue up stays
abbrev pub lost_member : Member → Member
lost_member m = if m.client.connected then with_client (with_conn m (with_down m.conn [])) (lost m.client) else m

-- a client is lost
abbrev pub lose_by : WorldState → Name → Actor → WorldState
lose_by w n a = for_named w a λ m. with_actor w n (Named (lost_member m))

-- the old connection becomes the earlier one
abbrev pub resume_member : PadState → Member → Member
resume_member pad m = record m {
  client = resumes (newest pad) (next_session pad) (head (newest pad)) m.client;
  conn = new_conn (next_session pad) m.client.rev;
  earlier = Some m.conn;
}

-- who is not refused has a new connection
abbrev pub resume_if : WorldState → Name → Member → Option PadBad → WorldState
resume_if w n m None = entered w w.pad n false (Named (resume_member w.pad m))
resume_if w n m (Some bad) = with_actor w n (Named m)

-- a client that is lost resumes at its revision
abbrev pub resume_as : WorldState → Name → Member → WorldState
resume_as w n m = resume_if w n m (resume_fault w.pad (grant_of w n false) m.client.rev (Some m.birth) None)

-- a client is lost, and resumes
abbrev pub resume_by : WorldState → Name → Actor → WorldState
resume_by w n a = for_named w a λ m. resume_as w n (lost_member m)

-- ---- the server by itself

-- a pad that is changed, where nothing refuses it
abbrev pub pad_if : WorldState → PadState → Option PadBad → WorldState
pad_if w pad None = with_pad w pad
pad_if w pad (Some bad) = w

-- what isn't a text is none
abbrev pub if_text : WorldState → Text → WorldState → WorldState
if_text w text then_ = if is_well_formed text then then_ else w

-- ---- a crash

-- both queues are gone
abbrev pub cut_conn : Conn → Conn
cut_conn c = record c { up = []; down = [] }

-- its connections are gone
abbrev pub cut_off : Actor → Actor
cut_off Nobody = Nobody
cut_off (Guest c) = Guest (cut_conn c)
cut_off (Named m) = Named (record m { client = lost m.client; conn = cut_conn m.conn; earlier = None })

-- all connections are lost, and the pad is opened anew
abbrev pub crashed : WorldState → WorldState
crashed w = record w { pad = reopened w.pad; actors = λ n. cut_off (w.actors n) }

-- the record was kept, where the message is taken
abbrev pub stop_as : WorldState → ℕ → Session → Message → Option Reason → WorldState
stop_as w now s msg None = taking w s now msg
stop_as w now s msg (Some why) = w

-- the first of the queue up
abbrev pub stop_conn : WorldState → ℕ → Session → List Message → WorldState
stop_conn w now s [] = w
stop_conn w now s (msg ∷ up) = stop_as w now s msg (reason w.pad s msg)

-- the take of an actor
abbrev pub stop_by : WorldState → ℕ → Actor → WorldState
stop_by w now Nobody = w
stop_by w now (Guest c) = stop_conn w now c.session c.up
stop_by w now (Named m) = stop_conn w now m.conn.session m.conn.up

-- the world whose records were kept, where a take of this name was stopped
abbrev pub stopped : WorldState → ℕ → Option Name → Bool → WorldState
stopped w now None kept = w
stopped w now (Some n) false = w
stopped w now (Some n) true = stop_by w now (w.actors n)

-- ---- what happens

-- the world after an event
abbrev pub happens : WorldState → Event → WorldState
happens w (Create now text) = if_text w text (pad_if w (create w.pad now text) (create_fault w.pad text))
happens w (SetText now text) = if_text w text (pad_if w (set_text w.pad now text) (set_fault w.pad text))
happens w Delete = pad_if w (delete w.pad) (gone_fault w.pad)
happens w (Login now n) = login_as w now n (w.actors n)
happens w (Visit now n read_only) = visit_as w now n read_only (w.actors n)
happens w (Edits n e) = edit_by w n e (w.actors n)
happens w (Submit n) = submit_by w n (w.actors n)
happens w (Inject n base read) = inject_by w n base read (w.actors n)
happens w (Take now n) = take_by w now n (w.actors n)
happens w (Overfull n) = overfull_by w n (w.actors n)
happens w (Late now n) = late_by w now n (w.actors n)
happens w (Push n) = push_by w n (w.actors n)
happens w (Hear n) = hear_by w n (w.actors n)
happens w (Lose n) = lose_by w n (w.actors n)
happens w (Resume n) = resume_by w n (w.actors n)
happens w (Stop now who kept) = crashed (stopped w now who kept)

-- a whole schedule
abbrev pub run : List Event → WorldState → WorldState
run [] w = w
run (e ∷ es) w = run es (happens w e)
