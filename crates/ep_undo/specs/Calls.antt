-- What happens to such a client, one call after the other.
use Rattle.std.specs.Prelude.{◌≡◌, ℕ, zero, suc, Bool, true, false, not, List, [], ◌∷◌, if◌then◌else◌}
use Rattle.ep_units.specs.declared.session.Session.{Session}
use Rattle.ep_cs.specs.Change.{Change}
use Rattle.ep_cs.specs.Doc.{Doc}
use Rattle.ep_cs.specs.Edit.{Edit}
use Rattle.ep_cs.specs.EditFits.{fits}
use Rattle.ep_cs.specs.Fits.{Fits, is_identity}
use Rattle.ep_cs.specs.NormalRuns.{IsNormal}
use Rattle.ep_history.specs.Kept.{KeptClient, is_kept_own}
use Rattle.ep_client.specs.declared.heard.Heard.{Heard}
use Rattle.ep_client.specs.declared.heard.Heard.TheVariants.{Commit, Nop, Rev}
use Rattle.ep_undo.specs.Undo.{UndoState, undo_edited, undo_hears, undo_submitted, undo_lost, undo_resumes, undone, redone}
use Rattle.ep_client.specs.Hearing.{shown_change}

-- a call of such a client
pub data Call : Type 0 where
  Edits : Change → Call
  Hears : Heard → Call
  Submits : Call
  Loses : Call
  Resumes : Session → ℕ → Call
  Undoes : Call
  Redoes : Call

-- what it makes of the client
abbrev pub called : Call → UndoState → UndoState
called (Edits c) s = undo_edited c.edit s
called (Hears h) s = undo_hears h s
called Submits s = undo_submitted s
called Loses s = undo_lost s
called (Resumes session told) s = undo_resumes session told s
called Undoes s = undone s
called Redoes s = redone s

abbrev pub all_called : List Call → UndoState → UndoState
all_called [] s = s
all_called (c ∷ cs) s = all_called cs (called c s)

-- ---- edits, and nothing heard of others

-- whether it is another's revision
abbrev pub is_others : Heard → KeptClient → Bool
is_others (Rev rev change session) k = not (is_kept_own session k.sent_in)
is_others _ k = false

-- an edit that can be made of the view, or a call that leaves the view as it is
abbrev pub IsQuiet : Call → UndoState → Type 0
IsQuiet (Edits c) s = IsNormal c × Fits c s.client.view
IsQuiet (Hears h) s = is_others h s.client ≡ false
IsQuiet Undoes s = ⊥
IsQuiet Redoes s = ⊥
IsQuiet _ s = Unit {0}

abbrev pub AreQuiet : List Call → UndoState → Type 0
AreQuiet [] s = Unit {0}
AreQuiet (c ∷ cs) s = IsQuiet c s × AreQuiet cs (called c s)

-- the view before an edit that alters something
abbrev pub before_edit : Edit → Doc → List Doc → List Doc
before_edit e doc docs = if is_identity e then docs else doc ∷ docs

abbrev pub before_call : Call → Doc → List Doc → List Doc
before_call (Edits c) doc docs = before_edit c.edit doc docs
before_call _ doc docs = docs

-- the views before the edits that altered something
abbrev pub views_before : List Call → UndoState → List Doc
views_before [] s = []
views_before (c ∷ cs) s = before_call c s.client.view (views_before cs (called c s))

-- so many are taken back, and made again
abbrev pub all_undone : ℕ → UndoState → UndoState
all_undone zero s = s
all_undone (suc n) s = all_undone n (undone s)

-- the views after each of so many undos, and redos
abbrev pub views_back : ℕ → UndoState → List Doc
views_back zero s = []
views_back (suc n) s = (undone s).client.view ∷ views_back n (undone s)

abbrev pub views_again : ℕ → UndoState → List Doc
views_again zero s = []
views_again (suc n) s = (redone s).client.view ∷ views_again n (redone s)

-- ---- one edit, and then nothing but what is heard

-- another's revision that it hears fits its document, and a submission that became nothing alters nothing
abbrev pub CanHear : Heard → KeptClient → Type 0
CanHear (Commit rev) k = Unit {0}
CanHear (Nop rev) k = is_identity k.sent ≡ true
CanHear (Rev rev change session) k = is_kept_own session k.sent_in ≡ false → fits change.edit k.doc ≡ true

-- an edit that alters nothing, or a call that is no edit, undo or redo
abbrev pub IsLater : Call → UndoState → Type 0
IsLater (Edits c) s = (is_identity c.edit ≡ true) × (fits c.edit s.client.view ≡ true)
IsLater (Hears h) s = CanHear h s.client
IsLater Undoes s = ⊥
IsLater Redoes s = ⊥
IsLater _ s = Unit {0}

abbrev pub AreLater : List Call → UndoState → Type 0
AreLater [] s = Unit {0}
AreLater (c ∷ cs) s = IsLater c s × AreLater cs (called c s)

-- what others changed of the view, in order
abbrev pub heard_rev : Change → Session → UndoState → List Edit → List Edit
heard_rev change session s ds = if is_kept_own session s.client.sent_in then ds else shown_change change.edit s.client ∷ ds

abbrev pub call_changes : Call → UndoState → List Edit → List Edit
call_changes (Hears (Rev rev change session)) s ds = heard_rev change session s ds
call_changes _ s ds = ds

abbrev pub changes_heard : List Call → UndoState → List Edit
changes_heard [] s = []
changes_heard (c ∷ cs) s = call_changes c s (changes_heard cs (called c s))
