-- Worked rows of undo and redo, computed from the definitions.
use Rattle.std.proofs.Common.{◌≡◌, true, ℕ, zero, suc, [], length, Option, Some, None, refl}
use Rattle.std.specs.Prelude.{codes}
use Rattle.ep_units.specs.Base36.{write36}
use Rattle.ep_units.specs.Text.{Text}
use Rattle.ep_units.specs.declared.session.Session.{Session}
use Rattle.ep_cs.specs.Change.{stamped}
use Rattle.ep_cs.specs.Doc.{text_of}
use Rattle.ep_cs.specs.Edit.{Edit, apply, compose}
use Rattle.ep_cs.specs.Follow.{follow}
use Rattle.ep_cs.specs.Plain.{plain}
use Rattle.ep_cs.specs.Spelling.{plain_spelling}
use Rattle.ep_cs.specs.Splice.{splice}
use Rattle.ep_history.specs.Kept.{kept_started}
use Rattle.ep_client.specs.declared.heard.Heard.TheVariants.{Commit, Rev}
use Rattle.ep_undo.specs.Undo.{UndoState, undo_started, undo_edited, undo_hears, undo_submitted, undone, redone, top}

abbrev session : ℕ → Session
session count = record { epoch = 1; count = count }

-- a client at revision 0 of a text
abbrev on : Text → UndoState
on text = undo_started (kept_started (plain text) 0 (session 1))

-- it inserts a text, or deletes so many units
abbrev inserting : ℕ → Text → UndoState → UndoState
inserting at text s = undo_edited (splice (length s.client.view) at 0 (plain text)) s

abbrev deleting : ℕ → ℕ → UndoState → UndoState
deleting at units s = undo_edited (splice (length s.client.view) at units []) s

-- it submits, and hears that revision as committed
abbrev committed : ℕ → UndoState → UndoState
committed rev s = undo_hears (Commit rev) (undo_submitted s)

-- another's revision, which changes this text
abbrev hearing : ℕ → Text → Edit → UndoState → UndoState
hearing rev text e s = undo_hears (Rev rev (stamped e text) (session 2)) s

-- how an edit of the view is spelled, and what is shown
abbrev spelt : Option Edit → UndoState → Text
spelt None s = codes "none"
spelt (Some e) s = plain_spelling (stamped e (text_of s.client.view))

abbrev undo_line : UndoState → Text
undo_line s = spelt (top s.undos) s

abbrev redo_line : UndoState → Text
redo_line s = spelt (top s.redos) s

abbrev shown : UndoState → Text
shown s = text_of s.client.view

-- "ab": XY is inserted at 1 and committed, another inserts a Z at 2
abbrev row : UndoState
row = hearing 2 (codes "aXYb\n") (splice 5 2 0 (plain (codes "Z"))) (committed 1 (inserting 1 (codes "XY") (on (codes "ab\n"))))

row_undo : undo_line row ≡ codes "Z:6<2=1-1=1-1$"
unfolding write36
row_undo = refl

row_undone : shown (undone row) ≡ codes "aZb\n"
row_undone = refl

row_redo : redo_line (undone row) ≡ codes "Z:4>2=1+1=1+1$XY"
unfolding write36
row_redo = refl

row_redone : shown (redone (undone row)) ≡ codes "aXZYb\n"
row_redone = refl

row_no_more : redo_line (redone (undone row)) ≡ codes "none"
row_no_more = refl

-- "abc": the b is deleted, another deletes the a
abbrev deleted : UndoState
deleted = hearing 2 (codes "ac\n") (splice 3 0 1 []) (committed 1 (deleting 1 1 (on (codes "abc\n"))))

deleted_undo : undo_line deleted ≡ codes "Z:2>1+1$b"
unfolding write36
deleted_undo = refl

deleted_undone : shown (undone deleted) ≡ codes "bc\n"
deleted_undone = refl

-- "b": an a is inserted and deleted, and two undos
abbrev both : UndoState
both = deleting 0 1 (inserting 0 (codes "a") (on (codes "b\n")))

first_undo : undo_line both ≡ codes "Z:2>1+1$a"
unfolding write36
first_undo = refl

second_undo : undo_line (undone both) ≡ codes "Z:3<1-1$"
unfolding write36
second_undo = refl

both_undone : shown (undone (undone both)) ≡ codes "b\n"
both_undone = refl

-- it inserts an x, so many times
abbrev long_ago : ℕ → UndoState → UndoState
long_ago zero s = s
long_ago (suc n) s = long_ago n (inserting 0 (codes "x") s)

-- no more than a hundred can be taken back
no_more_than_100 : length (long_ago 102 (on (codes "\n"))).undos ≡ 100
no_more_than_100 = refl

-- joining two changes before an edit goes behind them isn't the same: the order at a gap looks at all that stands there
abbrev line : Edit
line = splice 1 0 0 (plain (codes "\n"))

abbrev before_line : Edit
before_line = splice 2 0 0 (plain (codes "x"))

abbrev typed : Edit
typed = splice 1 0 0 (plain (codes "y"))

one_by_one : text_of (apply (follow true before_line (follow true line typed)) (apply before_line (apply line (plain (codes "\n"))))) ≡ codes "xy\n\n"
one_by_one = refl

joined : text_of (apply (follow true (compose line before_line) typed) (apply (compose line before_line) (plain (codes "\n")))) ≡ codes "x\ny\n"
joined = refl
