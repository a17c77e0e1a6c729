-- What is shown of an event, and of the world.
use Rattle.std.specs.Prelude.{ℕ, suc, Bool, true, false, not, ◌&&◌, ◌==◌, nat_le, if◌then◌else◌, List, [], ◌∷◌, Option, Some, None}
use Rattle.ep_units.specs.declared.session.Session.{Session}
use Rattle.ep_invert.specs.declared.bad.SpliceBad.{SpliceBad}
use Rattle.ep_invert.specs.declared.bad.SpliceBad.TheVariants as splice
use Rattle.ep_history.specs.Accept.{at_head}
use Rattle.ep_history.specs.Client.{ClientState, has_sent, has_local, submitted, is_own}
use Rattle.ep_history.specs.Entry.{opened}
use Rattle.ep_history.specs.History.{first_rev, nops_of, head, head_doc, doc_at}
use Rattle.ep_history.specs.Lists.{at}
use Rattle.ep_history.specs.Pad.{PadState, birth_at, newest, next_session, seat_of}
use Rattle.ep_history.specs.Readings.{Committed, commit, revised}
use Rattle.ep_history.specs.Refusals.{login_fault, resume_fault}
use Rattle.ep_history.specs.Server.{create_fault, set_head, set_fault, gone_fault}
use Rattle.ep_history.specs.declared.nop.Nop.{Nop}
use Rattle.ep_history.specs.declared.pad_bad.PadBad.{PadBad}
use Rattle.ep_history.specs.declared.rev.Rev.{Rev}
use Rattle.ep_history.specs.declared.seat.Seat.{Seat}
use Rattle.ep_history.specs.declared.seat.Why.{Why}
use Rattle.ep_history.specs.declared.seat.Why.TheVariants.{Replaced, Deleted, Reopened, Left}
use Rattle.ep_history.specs.declared.submission.Submission.{Submission}
use Rattle.ep_schedule.specs.World.{Name, Message, Down, Conn, Member, Reason as AReason, WorldState, grant_of, reason}
use Rattle.ep_schedule.specs.World.Down.{Revision, Spent, Closing}
use Rattle.ep_schedule.specs.World.Reason.{Unread, Refused}
use Rattle.ep_schedule.specs.Headline.{next_up, first_sent}
use Rattle.ep_event.specs.declared.event.Local.{Local}
use Rattle.ep_event.specs.declared.event.Local.TheVariants as local
use Rattle.ep_event.specs.declared.event.Event.{Event}
use Rattle.ep_event.specs.declared.event.Event.TheVariants as event
use Rattle.ep_event.specs.declared.shown.Ended.TheVariants as ended
use Rattle.ep_event.specs.declared.shown.Reason.{Reason}
use Rattle.ep_event.specs.declared.shown.Reason.TheVariants as why
use Rattle.ep_event.specs.declared.shown.State.{State}
use Rattle.ep_event.specs.declared.shown.State.TheVariants as state
use Rattle.ep_event.specs.declared.shown.Verb.{Verb}
use Rattle.ep_event.specs.declared.shown.Verb.TheVariants as verb
use Rattle.ep_event.specs.declared.shown.Shown.{Shown}
use Rattle.ep_event.specs.declared.shown.Shown.TheVariants as shown
use Rattle.ep_world.specs.Conns.{why_unread, word_of}
use Rattle.ep_local.specs.Local.{local_bad}
use Rattle.ep_members.specs.Undoing.{shows_remade}
use Rattle.ep_undo.specs.Undo.{top}
use Rattle.ep_world.specs.Kepts.{Kepts}
use Rattle.ep_world.specs.Events.{of_client, view_of, event_at, happened}

-- ---- refusals

-- the pad refuses
abbrev pub pad_refuses : Verb → Option Name → PadBad → Shown
pad_refuses v n b = shown.Refused v n (why.Pad b)

-- why a message isn't taken
abbrev pub reason_of : AReason → Reason
reason_of (Unread unread) = why.Read (why_unread unread)
reason_of (Refused b) = why.Pad b

-- why a local edit is none
abbrev pub edit_reason : SpliceBad → Reason
edit_reason splice.Place = why.Place
edit_reason (splice.CutsPair at) = why.CutsPair at
edit_reason splice.NoMemory = why.Place

-- ---- the server

abbrev pub shows_created : Rev → Option PadBad → Shown
shows_created v (Some b) = pad_refuses verb.Create None b
shows_created v None = shown.Created v.change

abbrev pub shows_set : Committed → Option PadBad → Shown
shows_set c (Some b) = pad_refuses verb.Set None b
shows_set c None = shown.Set c.rev c.fixed c.change

abbrev pub shows_deleted : Option PadBad → Shown
shows_deleted (Some b) = pad_refuses verb.Drop None b
shows_deleted None = shown.Done verb.Drop None

-- ---- who enters

abbrev pub visit_verb : Bool → Verb
visit_verb true = verb.Reader
visit_verb false = verb.Guest

-- the next session of the pad, and its head
abbrev pub shows_entered : Verb → Name → PadState → Option PadBad → Shown
shows_entered v n pad (Some b) = pad_refuses v (Some n) b
shows_entered v n pad None = shown.Entered v n (next_session pad) (head (newest pad))

abbrev pub shows_resumed : Name → PadState → Option PadBad → Shown
shows_resumed n pad (Some b) = pad_refuses verb.Resume (Some n) b
shows_resumed n pad None = shown.Resumed n (next_session pad) (head (newest pad))

abbrev pub shows_resume : WorldState → Name → Member → Shown
shows_resume w n m = shows_resumed n w.pad (resume_fault w.pad (grant_of w n false) m.client.rev (Some m.birth) None)

-- ---- edits and what is sent

abbrev pub verb_of : Local → Verb
verb_of (local.Insert at text) = verb.Insert
verb_of (local.Delete at units) = verb.Delete
verb_of (local.Format at units key value) = verb.Format

abbrev pub shows_edited : Verb → Name → Option SpliceBad → Shown
shows_edited v n None = shown.Done v (Some n)
shows_edited v n (Some b) = shown.Refused v (Some n) (edit_reason b)

abbrev pub shows_edit : WorldState → Name → Local → Member → Shown
shows_edit w n e m = shows_edited (verb_of e) n (local_bad e (view_of w.pad m))

-- what a client sent
abbrev pub shows_sent : Name → Option Submission → Shown
shows_sent n None = shown.Nothing verb.Submit n
shows_sent n (Some s) = shown.Submitted n s.base s.change

-- what the client after it submits has sent, if it submits
abbrev pub shows_submitted : Name → Option ClientState → Shown
shows_submitted n None = shown.Nothing verb.Submit n
shows_submitted n (Some c) = shows_sent n c.sent

abbrev pub shows_submit : WorldState → Name → Member → Shown
shows_submit w n m = shows_submitted n (submitted (birth_at w.pad m.birth) m.client)

-- ---- what is taken

-- a revision was made, or the edit had become nothing
abbrev pub shows_made : Verb → Name → Committed → Shown
shows_made v n c = if c.nop then shown.Noted v n c.rev else shown.Taken v n c.rev c.fixed c.change

abbrev pub shows_taken : Verb → Name → Committed → Option AReason → Shown
shows_taken v n c None = shows_made v n c
shows_taken v n c (Some x) = shown.Refused v (Some n) (reason_of x)

-- a session's message
abbrev pub shows_brought : Verb → Name → PadState → Session × Message → Shown
shows_brought v n pad x = shows_taken v n (commit pad (at_head pad x.1.base x.1.change.edit)) (reason pad x.0 x.1)

-- the first message, where there is one
abbrev pub shows_first : Verb → Name → PadState → Option (Session × Message) → Shown
shows_first v n pad None = shown.Nothing v n
shows_first v n pad (Some x) = shows_brought v n pad x

-- that of the connection before the last resumption
abbrev pub late_up : Option Conn → Option (Session × Message)
late_up None = None
late_up (Some c) = first_sent c.session c.up

-- ---- what goes down and is heard

abbrev pub shows_next : Name → ℕ → Option Rev → Shown
shows_next n sent None = shown.Nothing verb.Push n
shows_next n sent (Some v) = shown.Pushed n (suc sent)

-- that an edit became nothing at the last revision sent, and else the next revision
abbrev pub shows_turn : Name → PadState → ℕ → Option Nop → Shown
shows_turn n pad sent None = shows_next n sent (at (newest pad).later sent)
shows_turn n pad sent (Some x) = if x.rev == sent then shown.Noted verb.Push n sent else shows_next n sent (at (newest pad).later sent)

abbrev pub shows_ended : Name → PadState → Conn → Option Why → Shown
shows_ended n pad c None = shows_turn n pad c.sent (at (nops_of c.session (newest pad).nops) c.nops)
shows_ended n pad c (Some Left) = shown.Nothing verb.Push n
shows_ended n pad c (Some (Reopened k)) = shown.Nothing verb.Push n
shows_ended n pad c (Some (Replaced s)) = shown.Closed verb.Push n ended.UserDup
shows_ended n pad c (Some (Deleted k)) = shown.Closed verb.Push n ended.Deleted

abbrev pub shows_seat : Name → PadState → Conn → Option Seat → Shown
shows_seat n pad c None = shown.Nothing verb.Push n
shows_seat n pad c (Some l) = shows_ended n pad c l.end

abbrev pub shows_push : WorldState → Name → Member → Shown
shows_push w n m =
    if m.client.connected && not m.conn.closed then shows_seat n w.pad m.conn (seat_of w.pad m.conn.session)
    else shown.Nothing verb.Push n

-- the first of the queue down; the next revision of a client is its own or another's
abbrev pub shows_heard : Name → ClientState → List Down → Shown
shows_heard n c [] = shown.Nothing verb.Hear n
shows_heard n c (Revision v ∷ down) = if is_own v.session c.sent then shown.Committed n (suc c.rev) else shown.Heard n (suc c.rev)
shows_heard n c (Spent r ∷ down) = shown.Noted verb.Hear n r
shows_heard n c (Closing word ∷ down) = shown.Closed verb.Hear n (word_of word)

abbrev pub shows_hear : Name → Member → Shown
shows_hear n m = shows_heard n m.client m.conn.down

abbrev pub shows_lose : Name → Member → Shown
shows_lose n m = if m.client.connected then shown.Done verb.Lose (Some n) else shown.Nothing verb.Lose n

-- ---- a crash

-- the head of a pad, where it is there
abbrev pub head_if : PadState → Option ℕ
head_if pad = if pad.present then Some (head (newest pad)) else None

abbrev pub shows_opening : PadState → Shown
shows_opening pad = shown.Crashed pad.epoch (head_if pad)

-- ---- an event

-- what an event at this moment shows, of a world with these clients
abbrev pub shows : WorldState → Kepts → ℕ → Bool → Event → Shown
shows w ks now kept (event.Create text) = shows_created (first_rev now text) (create_fault w.pad text)
shows w ks now kept (event.SetText text) = shows_set (revised w.pad (set_head w.pad text)) (set_fault w.pad text)
shows w ks now kept event.Delete = shows_deleted (gone_fault w.pad)
shows w ks now kept (event.Login n) = shows_entered verb.Login n (opened w.pad now) (login_fault w.pad (grant_of w n false))
shows w ks now kept (event.Guest n read_only) =
    shows_entered (visit_verb read_only) n (opened w.pad now) (login_fault w.pad (grant_of w n read_only))
shows w ks now kept (event.Edit n e) = of_client (shown.Nothing (verb_of e) n) (shows_edit w n e) (w.actors n)
shows w ks now kept (event.Undo n) = of_client (shown.Nothing verb.Undo n) (λ m. shows_remade verb.Undo n (view_of w.pad m) (top (ks n).undos)) (w.actors n)
shows w ks now kept (event.Redo n) = of_client (shown.Nothing verb.Redo n) (λ m. shows_remade verb.Redo n (view_of w.pad m) (top (ks n).redos)) (w.actors n)
shows w ks now kept (event.Submit n) = of_client (shown.Nothing verb.Submit n) (shows_submit w n) (w.actors n)
shows w ks now kept (event.Inject n base change) = shown.Done verb.Inject (Some n)
shows w ks now kept (event.Take n) = shows_first verb.Take n w.pad (next_up (w.actors n))
shows w ks now kept (event.Late n) = of_client (shown.Nothing verb.Late n) (λ m. shows_first verb.Late n w.pad (late_up m.earlier)) (w.actors n)
shows w ks now kept (event.Push n) = of_client (shown.Nothing verb.Push n) (shows_push w n) (w.actors n)
shows w ks now kept (event.Hear n) = of_client (shown.Nothing verb.Hear n) (shows_hear n) (w.actors n)
shows w ks now kept (event.Lose n) = of_client (shown.Nothing verb.Lose n) (shows_lose n) (w.actors n)
shows w ks now kept (event.Resume n) = of_client (shown.Nothing verb.Resume n) (shows_resume w n) (w.actors n)
shows w ks now kept (event.Stop at) = shows_opening (happened w (event_at w ks now kept (event.Stop at))).pad

-- ---- what is there

-- whether a submission is there, and whether there is a local edit
abbrev pub state_of : Bool → Bool → State
state_of false false = state.Clean
state_of true false = state.Sent
state_of false true = state.Local
state_of true true = state.Both

abbrev pub shows_client : Name → PadState → Member → Shown
shows_client n pad m = shown.View n m.client.rev (state_of (has_sent m.client) (has_local m.client)) (view_of pad m)

-- what the client of this name sees, where there is one
abbrev pub shows_view : WorldState → Name → Option Shown
shows_view w n = of_client None (λ m. Some (shows_client n w.pad m)) (w.actors n)

abbrev pub shows_view_marks : WorldState → Name → Option Shown
shows_view_marks w n = of_client None (λ m. Some (shown.ViewMarks n (view_of w.pad m))) (w.actors n)

-- the head of the pad
abbrev pub shows_head : PadState → Shown
shows_head pad = if pad.present then shown.Head (head (newest pad)) (head_doc (newest pad)) else shown.Gone verb.Head

abbrev pub shows_marks : PadState → Shown
shows_marks pad = if pad.present then shown.HeadMarks (head (newest pad)) (head_doc (newest pad)) else shown.Gone verb.Marks

-- a revision of the pad
abbrev pub shows_text_if : PadState → ℕ → Bool → Shown
shows_text_if pad r true = shown.Text r (doc_at (newest pad) r)
shows_text_if pad r false = shown.NoRev r (head (newest pad))

abbrev pub shows_text : PadState → ℕ → Shown
shows_text pad r = if pad.present then shows_text_if pad r (nat_le r (head (newest pad))) else shown.TextGone r
