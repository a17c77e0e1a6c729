-- The clients as they are kept, beside the world: what each does at an event, of what it is told.
use Rattle.std.specs.Prelude.{◌≡◌, ℕ, false, if◌then◌else◌, List, [], ◌∷◌, Option, Some, None}
use Rattle.ep_units.specs.Text.{text_eq}
use Rattle.ep_cs.specs.Edit.{Edit}
use Rattle.ep_history.specs.History.{head, head_doc}
use Rattle.ep_cs.specs.EditFits.{fits}
use Rattle.ep_history.specs.Pad.{PadState, birth_at, newest, next_session}
use Rattle.ep_history.specs.declared.pad_bad.PadBad.{PadBad}
use Rattle.ep_history.specs.Refusals.{login_fault, resume_fault}
use Rattle.ep_history.specs.Entry.{opened}
use Rattle.ep_history.specs.Client.{ClientState, submitted}
use Rattle.ep_history.specs.Kept.{KeptClient, kept_started, kept_edited, kept_submitted, kept_submission, kept_nop, kept_heard, kept_lost, kept_resumes, Keeps}
use Rattle.ep_schedule.specs.World.{Name, Down, Member, Actor, WorldState, Event, grant_of, happens}
use Rattle.ep_schedule.specs.World.Down.{Revision, Spent, Closing}
use Rattle.ep_schedule.specs.World.Actor.{Nobody, Guest, Named}
use Rattle.ep_schedule.specs.World.Event.{Create, SetText, Delete, Login, Visit, Edits, Submit, Inject, Take, Overfull, Late, Push, Hear, Lose, Resume, Stop}

-- the kept client of each name
abbrev pub Kepts : Type 0
Kepts = Name → KeptClient

-- one name has another kept client
abbrev pub kept_put : Kepts → Name → KeptClient → Kepts
kept_put ks n k m = if text_eq m n then k else ks m

-- who is let in starts anew
abbrev pub kept_login_if : PadState → Kepts → Name → Option PadBad → Kepts
kept_login_if pad ks n (Some bad) = ks
kept_login_if pad ks n None = kept_put ks n (kept_started (head_doc (newest pad)) (head (newest pad)) (next_session pad))

-- a client that enters starts with what it is welcomed with
abbrev pub kept_login : WorldState → ℕ → Kepts → Name → Actor → Kepts
kept_login w now ks n (Guest c) = ks
kept_login w now ks n Nobody = kept_login_if (opened w.pad now) ks n (login_fault w.pad (grant_of w n false))
kept_login w now ks n (Named m) = kept_login_if (opened w.pad now) ks n (login_fault w.pad (grant_of w n false))

-- an edit that fits its view
abbrev pub kept_edit : Kepts → Name → Edit → Actor → Kepts
kept_edit ks n e Nobody = ks
kept_edit ks n e (Guest c) = ks
kept_edit ks n e (Named m) = if fits e (ks n).view then kept_put ks n (kept_edited e (ks n)) else ks

-- what it has after it submits, if it does
abbrev pub kept_after_submit : Kepts → Name → Option KeptClient → Kepts
kept_after_submit ks n None = ks
kept_after_submit ks n (Some k) = kept_put ks n k

-- a client submits
abbrev pub kept_submit : Kepts → Name → Actor → Kepts
kept_submit ks n Nobody = ks
kept_submit ks n (Guest c) = ks
kept_submit ks n (Named m) = kept_after_submit ks n (kept_submitted (ks n))

-- a client hears the first of its queue down
abbrev pub kept_hear_first : Kepts → Name → List Down → Kepts
kept_hear_first ks n [] = ks
kept_hear_first ks n (Closing word ∷ down) = kept_put ks n (kept_lost (ks n))
kept_hear_first ks n (Spent r ∷ down) = kept_put ks n (kept_nop (ks n))
kept_hear_first ks n (Revision v ∷ down) = kept_put ks n (kept_heard v (ks n))

-- a client hears
abbrev pub kept_hear : Kepts → Name → Actor → Kepts
kept_hear ks n Nobody = ks
kept_hear ks n (Guest c) = ks
kept_hear ks n (Named m) = kept_hear_first ks n m.conn.down

-- a client is lost
abbrev pub kept_lose : Kepts → Name → Actor → Kepts
kept_lose ks n Nobody = ks
kept_lose ks n (Guest c) = ks
kept_lose ks n (Named m) = kept_put ks n (kept_lost (ks n))

-- who is not refused is connected again
abbrev pub kept_resume_if : PadState → Kepts → Name → Option PadBad → Kepts
kept_resume_if pad ks n None = kept_put ks n (kept_resumes (next_session pad) (head (newest pad)) (ks n))
kept_resume_if pad ks n (Some bad) = kept_put ks n (kept_lost (ks n))

-- a client resumes
abbrev pub kept_resume : WorldState → Kepts → Name → Actor → Kepts
kept_resume w ks n Nobody = ks
kept_resume w ks n (Guest c) = ks
kept_resume w ks n (Named m) = kept_resume_if w.pad ks n (resume_fault w.pad (grant_of w n false) (ks n).rev (Some m.birth) None)

-- what the kept clients are after an event
abbrev pub kept_happens : WorldState → Kepts → Event → Kepts
kept_happens w ks (Create now text) = ks
kept_happens w ks (SetText now text) = ks
kept_happens w ks Delete = ks
kept_happens w ks (Login now n) = kept_login w now ks n (w.actors n)
kept_happens w ks (Visit now n read_only) = ks
kept_happens w ks (Edits n e) = kept_edit ks n e (w.actors n)
kept_happens w ks (Submit n) = kept_submit ks n (w.actors n)
kept_happens w ks (Inject n base read) = ks
kept_happens w ks (Take now n) = ks
kept_happens w ks (Overfull n) = ks
kept_happens w ks (Late now n) = ks
kept_happens w ks (Push n) = ks
kept_happens w ks (Hear n) = kept_hear ks n (w.actors n)
kept_happens w ks (Lose n) = kept_lose ks n (w.actors n)
kept_happens w ks (Resume n) = kept_resume w ks n (w.actors n)
kept_happens w ks (Stop now who kept) = λ n. kept_lost (ks n)

-- after a whole schedule
abbrev pub run_kept : List Event → WorldState → Kepts → Kepts
run_kept [] w ks = ks
run_kept (e ∷ es) w ks = run_kept es (happens w e) (kept_happens w ks e)

-- before the first event
abbrev pub nobodies : Kepts
nobodies n = kept_started [] 0 (record { epoch = 0; count = 0 })

-- ---- that they stand for the clients

-- a kept client stands for the client of an actor
abbrev pub KeepsActor : PadState → Actor → KeptClient → Type 0
KeepsActor pad Nobody k = Unit {0}
KeepsActor pad (Guest c) k = Unit {0}
KeepsActor pad (Named m) k = Keeps (birth_at pad m.birth) m.client k

-- each kept client stands for the world's
abbrev pub AreKept : WorldState → Kepts → Type 0
AreKept w ks = (n : Name) → KeepsActor w.pad (w.actors n) (ks n)

-- both submit nothing, or the same
abbrev pub IsSameSubmission : Option ClientState → Option KeptClient → Type 0
IsSameSubmission None None = Unit {0}
IsSameSubmission None (Some k) = ⊥
IsSameSubmission (Some c) None = ⊥
IsSameSubmission (Some c) (Some k) = c.sent ≡ Some (kept_submission k)

-- each submits what the definition says
abbrev pub AreSubmittedAlike : WorldState → Kepts → Type 0
AreSubmittedAlike w ks = (n : Name) (m : Member) → w.actors n ≡ Named m → IsSameSubmission (submitted (birth_at w.pad m.birth) m.client) (kept_submitted (ks n))
