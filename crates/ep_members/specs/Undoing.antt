-- What a client's edits of what it sees come to, and taking them back and making them again.
use Rattle.std.specs.Prelude.{◌≡◌, true, Option, Some, None}
use Rattle.ep_cs.specs.Change.{Change, stamped}
use Rattle.ep_cs.specs.Doc.{Doc, text_of}
use Rattle.ep_cs.specs.Edit.{Edit}
use Rattle.ep_cs.specs.EditFits.{fits}
use Rattle.ep_invert.specs.declared.bad.SpliceBad.{SpliceBad}
use Rattle.ep_units.specs.Text.{Text}
use Rattle.ep_event.specs.declared.event.Local.{Local}
use Rattle.ep_event.specs.declared.shown.Shown.{Shown}
use Rattle.ep_event.specs.declared.shown.Shown.TheVariants as shown
use Rattle.ep_event.specs.declared.shown.Verb.{Verb}
use Rattle.ep_event.specs.declared.shown.Verb.TheVariants as verb
use Rattle.ep_local.specs.Local.{local_bad, local_edit}
use Rattle.ep_undo.specs.Undo.{UndoState, redone, top, undo_edited, undone}
use Rattle.ep_members.specs.declared.member.Member.{Member}
use Rattle.ep_members.specs.declared.undoing.Remake.{Remake}
use Rattle.ep_members.specs.declared.undoing.Remake.TheVariants as remake

-- a client makes the edit of what it sees, which fits that; or why the edit is none, and it is as before
abbrev pub EditsView : Local → UndoState → UndoState → Option SpliceBad → Type 0
EditsView e old new None =
    (local_bad e old.client.view ≡ None) × (fits (local_edit e old.client.view) old.client.view ≡ true) × (new ≡ undo_edited (local_edit e old.client.view) old)
EditsView e old new (Some why) = (local_bad e old.client.view ≡ Some why) × (new ≡ old)

-- so of a client with its connections
abbrev pub Edits : Local → Member → Member → Option SpliceBad → Type 0
Edits e old new bad = (k : UndoState) × (new ≡ record old { client = k }) × EditsView e old.client k bad

-- ---- taking back, and making again

abbrev pub remade_verb : Remake → Verb
remade_verb remake.Undo = verb.Undo
remade_verb remake.Redo = verb.Redo

-- the edit that is made
abbrev pub to_make : Remake → UndoState → Option Edit
to_make remake.Undo s = top s.undos
to_make remake.Redo s = top s.redos

-- the client behind it
abbrev pub remade : Remake → UndoState → UndoState
remade remake.Undo s = undone s
remade remake.Redo s = redone s

-- a change that was made, or none
abbrev pub shows_made_again : Verb → Text → Option Change → Shown
shows_made_again v n None = shown.Nothing v n
shows_made_again v n (Some c) = shown.Remade v n c

-- what is taken back or made again, as a change of what the client sees; or that there is nothing
abbrev pub shows_remade : Verb → Text → Doc → Option Edit → Shown
shows_remade v n doc None = shown.Nothing v n
shows_remade v n doc (Some u) = shown.Remade v n (stamped u (text_of doc))

-- it fits the view, where there is one
abbrev pub FitsIf : Option Edit → Doc → Type 0
FitsIf None doc = Unit {0}
FitsIf (Some u) doc = fits u doc ≡ true

-- the edit that is asked for was made, where there is one, and is shown as a change of what the client saw
abbrev pub Remade : Remake → Text → UndoState → UndoState → Shown → Type 0
Remade r n old new s =
    (new ≡ remade r old) × FitsIf (to_make r old) old.client.view × (s ≡ shows_remade (remade_verb r) n old.client.view (to_make r old))

-- so of a client with its connections
abbrev pub Remakes : Remake → Text → Member → Member → Shown → Type 0
Remakes r n old new s = (k : UndoState) × (new ≡ record old { client = k }) × Remade r n old.client k s
