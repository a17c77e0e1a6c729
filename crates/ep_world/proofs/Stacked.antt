-- Without their stacks the clients do what the rules say of them.
use Rattle.std.proofs.Common.{◌≡◌, ℕ, Bool, true, false, List, [], ◌∷◌, Option, Some, None, if◌then◌else◌, refl, ap, ◌∙◌}
use mathlib.Core.Path.{fun_ext}
use Rattle.ep_units.specs.Text.{text_eq}
use Rattle.ep_cs.specs.Edit.{Edit}
use Rattle.ep_cs.specs.EditFits.{fits}
use Rattle.ep_cs.specs.Fits.{is_identity}
use Rattle.ep_history.specs.Entry.{opened}
use Rattle.ep_history.specs.History.{head, head_doc}
use Rattle.ep_history.specs.Kept.{KeptClient, is_kept_own, kept_dropped, kept_edited, kept_heard, kept_nop, kept_other, kept_own, kept_started, kept_submitted}
use Rattle.ep_invert.specs.Inverse.{inverse}
use Rattle.ep_history.specs.Pad.{PadState, newest, next_session}
use Rattle.ep_history.specs.Refusals.{login_fault, resume_fault}
use Rattle.ep_history.specs.declared.pad_bad.PadBad.{PadBad}
use Rattle.ep_history.specs.declared.record.Record.{Record}
use Rattle.ep_history.specs.declared.rev.Rev.{Rev}
use Rattle.ep_schedule.specs.World.{Name, Down, Actor, WorldState, Event, grant_of}
use Rattle.ep_schedule.specs.World.Down.{Revision, Spent, Closing}
use Rattle.ep_schedule.specs.World.Actor.{Nobody, Guest, Named}
use Rattle.ep_schedule.specs.World.Event.{Create, SetText, Delete, Login, Visit, Edits, Submit, Inject, Take, Overfull, Late, Push, Hear, Lose, Resume, Stop}
use Rattle.ep_schedule.specs.Kepts.{kept_put as client_put, kept_login_if as client_login_if, kept_login as client_login, kept_edit as client_edit, kept_after_submit as client_after_submit, kept_submit as client_submit, kept_hear_first as client_hear_first, kept_hear as client_hear, kept_lose as client_lose, kept_resume_if as client_resume_if, kept_resume as client_resume, kept_happens as client_happens, Kepts as AreClients}
use Rattle.ep_event.specs.declared.event.Event.{Event as Told}
use Rattle.ep_event.specs.declared.event.Event.TheVariants as told
use Rattle.ep_undo.specs.Undo.{UndoState, pushed, redone, redone_by, top, undo_edited, undo_hears_rev, undo_lost, undo_other, undo_resumes, undo_started, undone, undone_by, with_client}
use Rattle.ep_world.specs.Events.{event_at, kept_happened, made_top, of_client}
use Rattle.ep_world.specs.Kepts.{Kepts, clients_of, kept_after_submit, kept_edit, kept_happens, kept_hear, kept_hear_first, kept_login, kept_login_if, kept_lose, kept_put, kept_remake, kept_resume, kept_resume_if, kept_steps, kept_submit}
use Rattle.ep_world.specs.Standing.{overfull_at}

-- after an event of the rules, where there is one
abbrev pub client_happened : WorldState → AreClients → Option Event → AreClients
client_happened w ks None = ks
client_happened w ks (Some e) = client_happens w ks e

-- ---- one step each

put-of : (ks : Kepts) (n : Name) (k : UndoState) → clients_of (kept_put ks n k) ≡ client_put (clients_of ks) n k.client
put-of ks n k = fun_ext (λ m. go m (text_eq m n))
  where
    go : (m : Name) (t : Bool) → (if t then k else ks m).client ≡ (if t then k.client else (ks m).client)
    go m true = refl
    go m false = refl

edited-of : (e : Edit) (k : UndoState) → (undo_edited e k).client ≡ kept_edited e k.client
edited-of e k = go (is_identity e)
  where
    go : (b : Bool) → (if b then with_client k (kept_edited e k.client) else record { client = kept_edited e k.client; undos = pushed (inverse e k.client.view) k.undos; redos = [] }).client ≡ kept_edited e k.client
    go true = refl
    go false = refl

heard-of : (v : Rev) (k : UndoState) → (undo_hears_rev v.change v.session k).client ≡ kept_heard v k.client
heard-of v k = go (is_kept_own v.session k.client.sent_in)
  where
    go : (b : Bool) → (if b then with_client k (kept_own k.client) else undo_other v.change.edit k).client ≡ (if b then kept_own k.client else kept_dropped (kept_other v.change.edit k.client))
    go true = refl
    go false = refl

login-if-of : (pad : PadState) (ks : Kepts) (n : Name) (f : Option PadBad) → clients_of (kept_login_if pad ks n f) ≡ client_login_if pad (clients_of ks) n f
login-if-of pad ks n (Some b) = refl
login-if-of pad ks n None = put-of ks n (undo_started (kept_started (head_doc (newest pad)) (head (newest pad)) (next_session pad)))

login-of : (w : WorldState) (now : ℕ) (ks : Kepts) (n : Name) (a : Actor) → clients_of (kept_login w now ks n a) ≡ client_login w now (clients_of ks) n a
login-of w now ks n (Guest c) = refl
login-of w now ks n Nobody = login-if-of (opened w.pad now) ks n (login_fault w.pad (grant_of w n false))
login-of w now ks n (Named m) = login-if-of (opened w.pad now) ks n (login_fault w.pad (grant_of w n false))

remake-of : (step : UndoState → UndoState) (ks : Kepts) (n : Name) (e : Edit) (a : Actor) → (step (ks n)).client ≡ kept_edited e (ks n).client
    → clients_of (kept_remake step ks n e a) ≡ client_edit (clients_of ks) n e a
remake-of step ks n e Nobody h = refl
remake-of step ks n e (Guest c) h = refl
remake-of step ks n e (Named m) h = go (fits e (ks n).client.view)
  where
    go : (b : Bool) → clients_of (if b then kept_put ks n (step (ks n)) else ks) ≡ (if b then client_put (clients_of ks) n (kept_edited e (ks n).client) else clients_of ks)
    go true = put-of ks n (step (ks n)) ∙ ap (client_put (clients_of ks) n) h
    go false = refl

edit-of : (ks : Kepts) (n : Name) (e : Edit) (a : Actor) → clients_of (kept_edit ks n e a) ≡ client_edit (clients_of ks) n e a
edit-of ks n e Nobody = refl
edit-of ks n e (Guest c) = refl
edit-of ks n e (Named m) = remake-of (undo_edited e) ks n e (Named m) (edited-of e (ks n))

after-submit-of : (ks : Kepts) (n : Name) (o : Option KeptClient) → clients_of (kept_after_submit ks n o) ≡ client_after_submit (clients_of ks) n o
after-submit-of ks n None = refl
after-submit-of ks n (Some k) = put-of ks n (with_client (ks n) k)

submit-of : (ks : Kepts) (n : Name) (a : Actor) → clients_of (kept_submit ks n a) ≡ client_submit (clients_of ks) n a
submit-of ks n Nobody = refl
submit-of ks n (Guest c) = refl
submit-of ks n (Named m) = after-submit-of ks n (kept_submitted (ks n).client)

hear-first-of : (ks : Kepts) (n : Name) (ds : List Down) → clients_of (kept_hear_first ks n ds) ≡ client_hear_first (clients_of ks) n ds
hear-first-of ks n [] = refl
hear-first-of ks n (Closing word ∷ ds) = put-of ks n (undo_lost (ks n))
hear-first-of ks n (Spent r ∷ ds) = put-of ks n (with_client (ks n) (kept_nop (ks n).client))
hear-first-of ks n (Revision v ∷ ds) = put-of ks n (undo_hears_rev v.change v.session (ks n)) ∙ ap (client_put (clients_of ks) n) (heard-of v (ks n))

hear-of : (ks : Kepts) (n : Name) (a : Actor) → clients_of (kept_hear ks n a) ≡ client_hear (clients_of ks) n a
hear-of ks n Nobody = refl
hear-of ks n (Guest c) = refl
hear-of ks n (Named m) = hear-first-of ks n m.conn.down

lose-of : (ks : Kepts) (n : Name) (a : Actor) → clients_of (kept_lose ks n a) ≡ client_lose (clients_of ks) n a
lose-of ks n Nobody = refl
lose-of ks n (Guest c) = refl
lose-of ks n (Named m) = put-of ks n (undo_lost (ks n))

resume-if-of : (pad : PadState) (ks : Kepts) (n : Name) (f : Option PadBad) → clients_of (kept_resume_if pad ks n f) ≡ client_resume_if pad (clients_of ks) n f
resume-if-of pad ks n None = put-of ks n (undo_resumes (next_session pad) (head (newest pad)) (ks n))
resume-if-of pad ks n (Some b) = put-of ks n (undo_lost (ks n))

resume-of : (w : WorldState) (ks : Kepts) (n : Name) (a : Actor) → clients_of (kept_resume w ks n a) ≡ client_resume w (clients_of ks) n a
resume-of w ks n Nobody = refl
resume-of w ks n (Guest c) = refl
resume-of w ks n (Named m) = resume-if-of w.pad ks n (resume_fault w.pad (grant_of w n false) (ks n).client.rev (Some m.birth) None)

happens-of : (w : WorldState) (ks : Kepts) (e : Event) → clients_of (kept_happens w ks e) ≡ client_happens w (clients_of ks) e
happens-of w ks (Create now text) = refl
happens-of w ks (SetText now text) = refl
happens-of w ks Delete = refl
happens-of w ks (Login now n) = login-of w now ks n (w.actors n)
happens-of w ks (Visit now n read_only) = refl
happens-of w ks (Edits n e) = edit-of ks n e (w.actors n)
happens-of w ks (Submit n) = submit-of ks n (w.actors n)
happens-of w ks (Inject n base read) = refl
happens-of w ks (Take now n) = refl
happens-of w ks (Overfull n) = refl
happens-of w ks (Late now n) = refl
happens-of w ks (Push n) = refl
happens-of w ks (Hear n) = hear-of ks n (w.actors n)
happens-of w ks (Lose n) = lose-of ks n (w.actors n)
happens-of w ks (Resume n) = resume-of w ks n (w.actors n)
happens-of w ks (Stop now who kept) = refl

-- ---- what is asked for

-- neither an undo nor a redo
abbrev is_plain : Told → Bool
is_plain (told.Undo n) = false
is_plain (told.Redo n) = false
is_plain e = true

plain-steps : (w : WorldState) (ks : Kepts) (e : Told) (x : Event) → is_plain e ≡ true → kept_steps w ks e x ≡ kept_happens w ks x
plain-steps w ks (told.Undo n) x h = absurd cc
plain-steps w ks (told.Redo n) x h = absurd cc
plain-steps w ks (told.Create text) x h = refl
plain-steps w ks (told.SetText text) x h = refl
plain-steps w ks told.Delete x h = refl
plain-steps w ks (told.Login n) x h = refl
plain-steps w ks (told.Guest n read_only) x h = refl
plain-steps w ks (told.Edit n e) x h = refl
plain-steps w ks (told.Submit n) x h = refl
plain-steps w ks (told.Inject n base change) x h = refl
plain-steps w ks (told.Take n) x h = refl
plain-steps w ks (told.Late n) x h = refl
plain-steps w ks (told.Push n) x h = refl
plain-steps w ks (told.Hear n) x h = refl
plain-steps w ks (told.Lose n) x h = refl
plain-steps w ks (told.Resume n) x h = refl
plain-steps w ks (told.Stop at) x h = refl

plain-of : (w : WorldState) (ks : Kepts) (e : Told) (o : Option Event) → is_plain e ≡ true → clients_of (kept_happened w ks e o) ≡ client_happened w (clients_of ks) o
plain-of w ks e None h = refl
plain-of w ks e (Some x) h = ap clients_of (plain-steps w ks e x h) ∙ happens-of w ks x

module _ (w : WorldState) (ks : Kepts) (n : Name) where
  undo-of : (a : Actor) → clients_of (kept_happened w ks (told.Undo n) (of_client None (λ m. made_top n (top (ks n).undos)) a))
      ≡ client_happened w (clients_of ks) (of_client None (λ m. made_top n (top (ks n).undos)) a)
  undo-of Nobody = refl
  undo-of (Guest c) = refl
  undo-of (Named m) = go (ks n).undos refl
    where
      go : (us : List Edit) → (ks n).undos ≡ us → clients_of (kept_happened w ks (told.Undo n) (made_top n (top us))) ≡ client_happened w (clients_of ks) (made_top n (top us))
      go [] e = refl
      go (u ∷ us) e = remake-of undone ks n u (w.actors n) (ap (λ xs. (undone_by (ks n) xs).client) e)

  redo-of : (a : Actor) → clients_of (kept_happened w ks (told.Redo n) (of_client None (λ m. made_top n (top (ks n).redos)) a))
      ≡ client_happened w (clients_of ks) (of_client None (λ m. made_top n (top (ks n).redos)) a)
  redo-of Nobody = refl
  redo-of (Guest c) = refl
  redo-of (Named m) = go (ks n).redos refl
    where
      go : (us : List Edit) → (ks n).redos ≡ us → clients_of (kept_happened w ks (told.Redo n) (made_top n (top us))) ≡ client_happened w (clients_of ks) (made_top n (top us))
      go [] e = refl
      go (u ∷ us) e = remake-of redone ks n u (w.actors n) (ap (λ xs. (redone_by (ks n) xs).client) e)

pub event-of : (w : WorldState) (ks : Kepts) (now : ℕ) (kept : Bool) (e : Told) → clients_of (kept_happened w ks e (event_at w ks now kept e)) ≡ client_happened w (clients_of ks) (event_at w ks now kept e)
event-of w ks now kept (told.Undo n) = undo-of w ks n (w.actors n)
event-of w ks now kept (told.Redo n) = redo-of w ks n (w.actors n)
event-of w ks now kept (told.Create text) = refl
event-of w ks now kept (told.SetText text) = refl
event-of w ks now kept told.Delete = refl
event-of w ks now kept (told.Login n) = login-of w now ks n (w.actors n)
event-of w ks now kept (told.Guest n read_only) = refl
event-of w ks now kept (told.Edit n e) = plain-of w ks (told.Edit n e) (event_at w ks now kept (told.Edit n e)) refl
event-of w ks now kept (told.Submit n) = submit-of ks n (w.actors n)
event-of w ks now kept (told.Inject n base change) = refl
event-of w ks now kept (told.Take n) = refl
event-of w ks now kept (told.Late n) = refl
event-of w ks now kept (told.Push n) = refl
event-of w ks now kept (told.Hear n) = hear-of ks n (w.actors n)
event-of w ks now kept (told.Lose n) = lose-of ks n (w.actors n)
event-of w ks now kept (told.Resume n) = resume-of w ks n (w.actors n)
event-of w ks now kept (told.Stop at) = refl

pub overfull-of : (rs : List Record) (w : WorldState) (ks : Kepts) (now : ℕ) (kept : Bool) (e : Told) → clients_of (kept_happened w ks e (overfull_at rs w now kept e)) ≡ client_happened w (clients_of ks) (overfull_at rs w now kept e)
overfull-of rs w ks now kept (told.Take n) = plain-of w ks (told.Take n) (overfull_at rs w now kept (told.Take n)) refl
overfull-of rs w ks now kept (told.Resume n) = lose-of ks n (w.actors n)
overfull-of rs w ks now kept (told.Stop at) = refl
overfull-of rs w ks now kept (told.Undo n) = refl
overfull-of rs w ks now kept (told.Redo n) = refl
overfull-of rs w ks now kept (told.Create text) = refl
overfull-of rs w ks now kept (told.SetText text) = refl
overfull-of rs w ks now kept told.Delete = refl
overfull-of rs w ks now kept (told.Login n) = refl
overfull-of rs w ks now kept (told.Guest n read_only) = refl
overfull-of rs w ks now kept (told.Edit n e) = refl
overfull-of rs w ks now kept (told.Submit n) = refl
overfull-of rs w ks now kept (told.Inject n base change) = refl
overfull-of rs w ks now kept (told.Late n) = refl
overfull-of rs w ks now kept (told.Push n) = refl
overfull-of rs w ks now kept (told.Hear n) = refl
overfull-of rs w ks now kept (told.Lose n) = refl
