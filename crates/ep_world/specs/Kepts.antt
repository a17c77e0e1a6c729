-- The clients as they are kept, each with its stacks: what each does at an event. But for the stacks it is what `ep_schedule`
-- says of the clients as they are kept there.
use Rattle.std.specs.Prelude.{ℕ, false, if◌then◌else◌, List, [], ◌∷◌, Option, Some, None}
use Rattle.ep_units.specs.Text.{text_eq}
use Rattle.ep_cs.specs.Edit.{Edit}
use Rattle.ep_cs.specs.EditFits.{fits}
use Rattle.ep_history.specs.Entry.{opened}
use Rattle.ep_history.specs.History.{head, head_doc}
use Rattle.ep_history.specs.Kept.{KeptClient, kept_nop, kept_started, kept_submitted}
use Rattle.ep_history.specs.Pad.{PadState, newest, next_session}
use Rattle.ep_history.specs.Refusals.{login_fault, resume_fault}
use Rattle.ep_history.specs.declared.pad_bad.PadBad.{PadBad}
use Rattle.ep_schedule.specs.World.{Name, Down, Actor, WorldState, Event, grant_of}
use Rattle.ep_schedule.specs.World.Down.{Revision, Spent, Closing}
use Rattle.ep_schedule.specs.World.Actor.{Nobody, Guest, Named}
use Rattle.ep_schedule.specs.World.Event.{Create, SetText, Delete, Login, Visit, Edits, Submit, Inject, Take, Overfull, Late, Push, Hear, Lose, Resume, Stop}
use Rattle.ep_schedule.specs.Kepts.{Kepts as AreClients, nobodies as no_clients}
use Rattle.ep_event.specs.declared.event.Event.{Event as Told}
use Rattle.ep_event.specs.declared.event.Event.TheVariants as told
use Rattle.ep_undo.specs.Undo.{UndoState, redone, undo_edited, undo_hears_rev, undo_lost, undo_resumes, undo_started, undone, with_client}

-- the kept client of each name, with its stacks
abbrev pub Kepts : Type 0
Kepts = Name → UndoState

-- without them
abbrev pub clients_of : Kepts → AreClients
clients_of ks n = (ks n).client

-- before the first event
abbrev pub nobodies : Kepts
nobodies n = undo_started (no_clients n)

-- one name has another kept client
abbrev pub kept_put : Kepts → Name → UndoState → Kepts
kept_put ks n k m = if text_eq m n then k else ks m

-- who is let in starts anew
abbrev pub kept_login_if : PadState → Kepts → Name → Option PadBad → Kepts
kept_login_if pad ks n (Some bad) = ks
kept_login_if pad ks n None = kept_put ks n (undo_started (kept_started (head_doc (newest pad)) (head (newest pad)) (next_session pad)))

abbrev pub kept_login : WorldState → ℕ → Kepts → Name → Actor → Kepts
kept_login w now ks n (Guest c) = ks
kept_login w now ks n Nobody = kept_login_if (opened w.pad now) ks n (login_fault w.pad (grant_of w n false))
kept_login w now ks n (Named m) = kept_login_if (opened w.pad now) ks n (login_fault w.pad (grant_of w n false))

-- an edit that fits its view
abbrev pub kept_edit : Kepts → Name → Edit → Actor → Kepts
kept_edit ks n e Nobody = ks
kept_edit ks n e (Guest c) = ks
kept_edit ks n e (Named m) = if fits e (ks n).client.view then kept_put ks n (undo_edited e (ks n)) else ks

-- what it has after it submits, if it does
abbrev pub kept_after_submit : Kepts → Name → Option KeptClient → Kepts
kept_after_submit ks n None = ks
kept_after_submit ks n (Some k) = kept_put ks n (with_client (ks n) k)

abbrev pub kept_submit : Kepts → Name → Actor → Kepts
kept_submit ks n Nobody = ks
kept_submit ks n (Guest c) = ks
kept_submit ks n (Named m) = kept_after_submit ks n (kept_submitted (ks n).client)

-- a client hears the first of its queue down
abbrev pub kept_hear_first : Kepts → Name → List Down → Kepts
kept_hear_first ks n [] = ks
kept_hear_first ks n (Closing word ∷ down) = kept_put ks n (undo_lost (ks n))
kept_hear_first ks n (Spent r ∷ down) = kept_put ks n (with_client (ks n) (kept_nop (ks n).client))
kept_hear_first ks n (Revision v ∷ down) = kept_put ks n (undo_hears_rev v.change v.session (ks n))

abbrev pub kept_hear : Kepts → Name → Actor → Kepts
kept_hear ks n Nobody = ks
kept_hear ks n (Guest c) = ks
kept_hear ks n (Named m) = kept_hear_first ks n m.conn.down

-- a client is lost
abbrev pub kept_lose : Kepts → Name → Actor → Kepts
kept_lose ks n Nobody = ks
kept_lose ks n (Guest c) = ks
kept_lose ks n (Named m) = kept_put ks n (undo_lost (ks n))

-- who is not refused is connected again
abbrev pub kept_resume_if : PadState → Kepts → Name → Option PadBad → Kepts
kept_resume_if pad ks n None = kept_put ks n (undo_resumes (next_session pad) (head (newest pad)) (ks n))
kept_resume_if pad ks n (Some bad) = kept_put ks n (undo_lost (ks n))

abbrev pub kept_resume : WorldState → Kepts → Name → Actor → Kepts
kept_resume w ks n Nobody = ks
kept_resume w ks n (Guest c) = ks
kept_resume w ks n (Named m) = kept_resume_if w.pad ks n (resume_fault w.pad (grant_of w n false) (ks n).client.rev (Some m.birth) None)

-- what the kept clients are after an event, where an edit is one that the user makes
abbrev pub kept_happens : WorldState → Kepts → Event → Kepts
kept_happens w ks (Create now text) = ks
kept_happens w ks (SetText now text) = ks
kept_happens w ks Delete = ks
kept_happens w ks (Login now n) = kept_login w now ks n (w.actors n)
kept_happens w ks (Visit now n read_only) = ks
kept_happens w ks (Edits n e) = kept_edit ks n e (w.actors n)
kept_happens w ks (Submit n) = kept_submit ks n (w.actors n)
kept_happens w ks (Inject n base read) = ks
kept_happens w ks (Take now n) = ks
kept_happens w ks (Overfull n) = ks
kept_happens w ks (Late now n) = ks
kept_happens w ks (Push n) = ks
kept_happens w ks (Hear n) = kept_hear ks n (w.actors n)
kept_happens w ks (Lose n) = kept_lose ks n (w.actors n)
kept_happens w ks (Resume n) = kept_resume w ks n (w.actors n)
kept_happens w ks (Stop now who kept) = λ n. undo_lost (ks n)

-- a client takes an edit back, or makes one again: to the rules it is an edit that fits its view
abbrev pub kept_remake : (UndoState → UndoState) → Kepts → Name → Edit → Actor → Kepts
kept_remake step ks n e Nobody = ks
kept_remake step ks n e (Guest c) = ks
kept_remake step ks n e (Named m) = if fits e (ks n).client.view then kept_put ks n (step (ks n)) else ks

abbrev pub kept_remade : WorldState → (UndoState → UndoState) → Kepts → Event → Kepts
kept_remade w step ks (Edits n e) = kept_remake step ks n e (w.actors n)
kept_remade w step ks e = ks

-- what they are after what was asked for, which comes to this event
abbrev pub kept_steps : WorldState → Kepts → Told → Event → Kepts
kept_steps w ks (told.Undo n) e = kept_remade w undone ks e
kept_steps w ks (told.Redo n) e = kept_remade w redone ks e
kept_steps w ks asked e = kept_happens w ks e
