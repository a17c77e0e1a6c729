-- What is printed of what is shown.
use Rattle.std.specs.Prelude.{ℕ, Bool, true, false, List, [], ◌∷◌, ◌++◌, codes, Option, Some, None}
use Rattle.std.specs.Fmt.{decimal}
use Rattle.ep_units.specs.Text.{Text}
use Rattle.ep_units.specs.Utf8.{utf8_of}
use Rattle.ep_cs.specs.Doc.{text_of}
use Rattle.ep_event.specs.declared.shown.Verb.{Verb}
use Rattle.ep_event.specs.declared.shown.Verb.TheVariants as verb
use Rattle.ep_event.specs.declared.shown.State.{State}
use Rattle.ep_event.specs.declared.shown.State.TheVariants as state
use Rattle.ep_event.specs.declared.shown.Ended.{Ended}
use Rattle.ep_event.specs.declared.shown.Ended.TheVariants as ended
use Rattle.ep_event.specs.declared.shown.Shown.{Shown}
use Rattle.ep_event.specs.declared.shown.Shown.TheVariants as shown
use Rattle.ep_print.specs.Texts.{quoted, change_out}
use Rattle.ep_print.specs.Marks.{attribs_out, pool_out}
use Rattle.ep_print.specs.Reasons.{session_out, reason_out}

abbrev pub verb_out : Verb → List ℕ
verb_out verb.Create = codes "create"
verb_out verb.Set = codes "set"
verb_out verb.Drop = codes "drop"
verb_out verb.Login = codes "login"
verb_out verb.Guest = codes "guest"
verb_out verb.Reader = codes "reader"
verb_out verb.Insert = codes "insert"
verb_out verb.Delete = codes "delete"
verb_out verb.Format = codes "format"
verb_out verb.Undo = codes "undo"
verb_out verb.Redo = codes "redo"
verb_out verb.Inject = codes "inject"
verb_out verb.Submit = codes "submit"
verb_out verb.Take = codes "take"
verb_out verb.Late = codes "late"
verb_out verb.Push = codes "push"
verb_out verb.Hear = codes "hear"
verb_out verb.Lose = codes "lose"
verb_out verb.Resume = codes "resume"
verb_out verb.Crash = codes "crash"
verb_out verb.Head = codes "head"
verb_out verb.Text = codes "text"
verb_out verb.Marks = codes "marks"

abbrev pub state_out : State → List ℕ
state_out state.Clean = codes "clean"
state_out state.Sent = codes "sent"
state_out state.Local = codes "local"
state_out state.Both = codes "both"

abbrev pub ended_out : Ended → List ℕ
ended_out ended.BadChangeset = codes "badChangeset"
ended_out ended.Full = codes "full"
ended_out ended.UserDup = codes "userdup"
ended_out ended.Deleted = codes "deleted"

-- a name before further words, where there is one
abbrev pub with_name : Option Text → List (List ℕ) → List (List ℕ)
with_name None words = words
with_name (Some name) words = utf8_of name ∷ words

-- the word before a change that lacked the final newline
abbrev pub with_fixed : Bool → List (List ℕ) → List (List ℕ)
with_fixed false words = words
with_fixed true words = codes "fixed" ∷ words

-- what stands between a line's single spaces; texts, changes and JSON may have spaces of their own
abbrev pub words : Shown → List (List ℕ)
words (shown.Created change) = codes "create" ∷ codes "rev" ∷ codes "0" ∷ change_out change ∷ []
words (shown.Set rev fixed change) = codes "set" ∷ codes "rev" ∷ decimal rev ∷ with_fixed fixed (change_out change ∷ [])
words (shown.Entered verb name session rev) = verb_out verb ∷ utf8_of name ∷ session_out session ∷ codes "rev" ∷ decimal rev ∷ []
words (shown.Done verb name) = verb_out verb ∷ with_name name (codes "ok" ∷ [])
words (shown.Nothing verb name) = verb_out verb ∷ utf8_of name ∷ codes "none" ∷ []
words (shown.Refused verb name why) = verb_out verb ∷ with_name name (codes "refused" ∷ reason_out why ∷ [])
words (shown.Attr number) = codes "attr" ∷ decimal number ∷ []
words (shown.Remade verb name change) = verb_out verb ∷ utf8_of name ∷ change_out change ∷ []
words (shown.Submitted name base change) = codes "submit" ∷ utf8_of name ∷ codes "base" ∷ decimal base ∷ change_out change ∷ []
words (shown.Taken verb name rev fixed change) = verb_out verb ∷ utf8_of name ∷ codes "rev" ∷ decimal rev ∷ with_fixed fixed (change_out change ∷ [])
words (shown.Noted verb name rev) = verb_out verb ∷ utf8_of name ∷ codes "nop" ∷ decimal rev ∷ []
words (shown.Pushed name rev) = codes "push" ∷ utf8_of name ∷ decimal rev ∷ []
words (shown.Committed name rev) = codes "hear" ∷ utf8_of name ∷ codes "commit" ∷ decimal rev ∷ []
words (shown.Heard name rev) = codes "hear" ∷ utf8_of name ∷ codes "new" ∷ decimal rev ∷ []
words (shown.Closed verb name word) = verb_out verb ∷ utf8_of name ∷ codes "closed" ∷ ended_out word ∷ []
words (shown.Resumed name session head) = codes "resume" ∷ utf8_of name ∷ session_out session ∷ codes "head" ∷ decimal head ∷ []
words (shown.Crashed epoch None) = codes "crash" ∷ codes "epoch" ∷ decimal epoch ∷ codes "absent" ∷ []
words (shown.Crashed epoch (Some head)) = codes "crash" ∷ codes "epoch" ∷ decimal epoch ∷ codes "head" ∷ decimal head ∷ []
words (shown.View name rev state doc) = codes "show" ∷ utf8_of name ∷ codes "rev" ∷ decimal rev ∷ state_out state ∷ quoted (text_of doc) ∷ []
words (shown.Head rev doc) = codes "head" ∷ decimal rev ∷ quoted (text_of doc) ∷ []
words (shown.Text rev doc) = codes "text" ∷ decimal rev ∷ quoted (text_of doc) ∷ []
words (shown.Gone verb) = verb_out verb ∷ codes "gone" ∷ []
words (shown.TextGone rev) = codes "text" ∷ decimal rev ∷ codes "gone" ∷ []
words (shown.NoRev rev head) = codes "text" ∷ decimal rev ∷ codes "norev" ∷ decimal head ∷ []
words (shown.HeadMarks rev doc) = codes "marks" ∷ decimal rev ∷ attribs_out doc ∷ pool_out doc ∷ []
words (shown.ViewMarks name doc) = codes "marks" ∷ utf8_of name ∷ attribs_out doc ∷ pool_out doc ∷ []

-- a line's words with single spaces between them, and LF behind
abbrev pub line : List (List ℕ) → List ℕ
line [] = 10 ∷ []
line (w ∷ []) = w ++ 10 ∷ []
line (w ∷ v ∷ ws) = w ++ 32 ∷ line (v ∷ ws)

-- a line of output
abbrev pub printed : Shown → List ℕ
printed s = line (words s)
