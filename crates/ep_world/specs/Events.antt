-- What an event of a script asks for, as an event of the world.
use Rattle.std.specs.Prelude.{ℕ, Bool, true, false, not, Option, Some, None}
use Rattle.ep_units.specs.Text.{Text, is_well_formed}
use Rattle.ep_cs.specs.Doc.{Doc}
use Rattle.ep_cs.specs.Edit.{Edit}
use Rattle.ep_invert.specs.declared.bad.SpliceBad.{SpliceBad}
use Rattle.ep_history.specs.Client.{view}
use Rattle.ep_history.specs.Pad.{PadState, birth_at}
use Rattle.ep_schedule.specs.World.{Name, Member, Actor, WorldState, Event, happens}
use Rattle.ep_schedule.specs.World.Actor.{Nobody, Guest, Named}
use Rattle.ep_schedule.specs.World.Event.{Create, SetText, Delete, Login, Visit, Edits, Submit, Inject, Take, Late, Push, Hear, Lose, Resume, Stop}
use Rattle.ep_undo.specs.Undo.{top}
use Rattle.ep_world.specs.Kepts.{Kepts, kept_steps}
use Rattle.ep_members.specs.declared.undoing.Remake.{Remake}
use Rattle.ep_members.specs.declared.undoing.Remake.TheVariants as remake
use Rattle.ep_event.specs.declared.event.Local.{Local}
use Rattle.ep_local.specs.Local.{is_local_text, local_bad, local_edit}
use Rattle.ep_event.specs.declared.event.StopAt.{StopAt}
use Rattle.ep_event.specs.declared.event.Event.{Event as Told}
use Rattle.ep_event.specs.declared.event.Event.TheVariants as told

-- what f says of a client, and this of anyone else
abbrev pub of_client : {A : Type 0} → A → (Member → A) → Actor → A
of_client d f Nobody = d
of_client d f (Guest c) = d
of_client d f (Named m) = f m

-- what a client sees
abbrev pub view_of : PadState → Member → Doc
view_of pad m = view (birth_at pad m.birth) m.client

-- ---- events

-- a local edit is an event only where it is an edit of what the client sees
abbrev pub edit_if : Text → Local → Doc → Option SpliceBad → Option Event
edit_if n e doc None = Some (Edits n (local_edit e doc))
edit_if n e doc (Some why) = None

abbrev pub edit_at : WorldState → Text → Local → Member → Option Event
edit_at w n e m = edit_if n e (view_of w.pad m) (local_bad e (view_of w.pad m))

-- what an undo, or a redo, makes is the top of a stack, where it has one
abbrev pub made_top : Text → Option Edit → Option Event
made_top n None = None
made_top n (Some u) = Some (Edits n u)

-- whose take a stop comes into
abbrev pub stopped_name : Option StopAt → Option Text
stopped_name None = None
stopped_name (Some at) = Some at.name

-- the event that is asked for at a moment, where there is one. What is taken back, or made again, the clients tell as they are
-- kept. Of a stop the disk decides whether the record of the take that it came into is kept.
abbrev pub event_at : WorldState → Kepts → ℕ → Bool → Told → Option Event
event_at w ks now kept (told.Create text) = Some (Create now text)
event_at w ks now kept (told.SetText text) = Some (SetText now text)
event_at w ks now kept told.Delete = Some Delete
event_at w ks now kept (told.Login n) = Some (Login now n)
event_at w ks now kept (told.Guest n read_only) = Some (Visit now n read_only)
event_at w ks now kept (told.Edit n e) = of_client None (edit_at w n e) (w.actors n)
event_at w ks now kept (told.Undo n) = of_client None (λ m. made_top n (top (ks n).undos)) (w.actors n)
event_at w ks now kept (told.Redo n) = of_client None (λ m. made_top n (top (ks n).redos)) (w.actors n)
event_at w ks now kept (told.Submit n) = Some (Submit n)
event_at w ks now kept (told.Inject n base change) = Some (Inject n base change)
event_at w ks now kept (told.Take n) = Some (Take now n)
event_at w ks now kept (told.Late n) = Some (Late now n)
event_at w ks now kept (told.Push n) = Some (Push n)
event_at w ks now kept (told.Hear n) = Some (Hear n)
event_at w ks now kept (told.Lose n) = Some (Lose n)
event_at w ks now kept (told.Resume n) = Some (Resume n)
event_at w ks now kept (told.Stop at) = Some (Stop now (stopped_name at) kept)

-- what is asked for by an undo, or a redo
abbrev pub remake_event : Remake → Name → Told
remake_event remake.Undo n = told.Undo n
remake_event remake.Redo n = told.Redo n

-- the world, and the clients as they are kept, after an event, where there is one
abbrev pub happened : WorldState → Option Event → WorldState
happened w None = w
happened w (Some e) = happens w e

abbrev pub kept_happened : WorldState → Kepts → Told → Option Event → Kepts
kept_happened w ks asked None = ks
kept_happened w ks asked (Some e) = kept_steps w ks asked e

-- ---- whose it is

abbrev pub is_client : Actor → Bool
is_client a = of_client false (λ m. true) a

abbrev pub is_guest : Actor → Bool
is_guest Nobody = false
is_guest (Guest c) = true
is_guest (Named m) = false

abbrev pub is_nobody : Actor → Bool
is_nobody Nobody = true
is_nobody (Guest c) = false
is_nobody (Named m) = false

abbrev pub is_stoppable : WorldState → Option StopAt → Bool
is_stoppable w None = true
is_stoppable w (Some at) = not (is_nobody (w.actors at.name))

-- the name is of the kind that the event needs
abbrev pub is_known : WorldState → Told → Bool
is_known w (told.Create text) = true
is_known w (told.SetText text) = true
is_known w told.Delete = true
is_known w (told.Login n) = not (is_guest (w.actors n))
is_known w (told.Guest n read_only) = not (is_client (w.actors n))
is_known w (told.Edit n e) = is_client (w.actors n)
is_known w (told.Undo n) = is_client (w.actors n)
is_known w (told.Redo n) = is_client (w.actors n)
is_known w (told.Submit n) = is_client (w.actors n)
is_known w (told.Inject n base change) = is_guest (w.actors n)
is_known w (told.Take n) = not (is_nobody (w.actors n))
is_known w (told.Late n) = is_client (w.actors n)
is_known w (told.Push n) = is_client (w.actors n)
is_known w (told.Hear n) = is_client (w.actors n)
is_known w (told.Lose n) = is_client (w.actors n)
is_known w (told.Resume n) = is_client (w.actors n)
is_known w (told.Stop at) = is_stoppable w at

-- ---- its texts

-- what an event brings is a text
abbrev pub has_text : Told → Bool
has_text (told.Create text) = is_well_formed text
has_text (told.SetText text) = is_well_formed text
has_text (told.Edit n e) = is_local_text e
has_text e = true
