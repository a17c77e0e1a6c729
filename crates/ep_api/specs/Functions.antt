-- What each function does: its calls of the directory and of pads, in their order, and what it tells of their answers.
use Rattle.std.specs.Prelude.{ℕ, ◌/◌, Bool, true, false, List, [], ◌∷◌, Option, Result, Ok, Err}
use Rattle.ep_units.specs.Text.{Text}
use Rattle.ep_units.specs.PadId.{has_group}
use Rattle.ep_cs.specs.Doc.{Doc, text_of}
use Rattle.ep_groups.specs.declared.entries.DirEntry.TheVariants as dir
use Rattle.ep_groups.specs.declared.entries.DirReply.TheVariants as said
use Rattle.ep_history.specs.declared.pad_bad.PadBad.{PadBad}
use Rattle.ep_history.specs.declared.pad_bad.PadBad.TheVariants.{Gone}
use Rattle.ep_step.specs.declared.telling.Committed.{Committed}
use Rattle.ep_pad_state.specs.declared.answers.PadStatus.{PadStatus}
use Rattle.ep_pad.specs.Halls.{want}
use Rattle.ep_pad.specs.declared.entries.PadEntry.TheVariants as pad
use Rattle.ep_pad.specs.declared.entries.PadReply.TheVariants as replied
use Rattle.ep_ask.specs.declared.bad.ApiBad.{ApiBad}
use Rattle.ep_ask.specs.declared.call.Call.{Call}
use Rattle.ep_ask.specs.declared.call.Call.TheVariants as call
use Rattle.ep_ask.specs.declared.answer.Data.{Data}
use Rattle.ep_ask.specs.declared.answer.Data.TheVariants as answer
use Rattle.ep_ask.specs.declared.param.Param.{Param}
use Rattle.ep_ask.specs.declared.param.Param.TheVariants.{PadId, PadName}
use Rattle.ep_api.specs.Causes.{of_pad, with_cause}
use Rattle.ep_api.specs.Tasks.{Task, ◌>>=◌, ask, copied, done, draw, if_so, visit}

-- ---- visits of pads

-- a pad is made where it is absent; one that exists already is told by the parameter that names it
abbrev pub create : Param → Text → Text → ℕ → Task ℕ
create which id text now = visit (want id true) (pad.Create text now) replied.Birth (with_cause (of_pad which))

abbrev pub delete : Text → ℕ → Task (Unit {0})
delete id now = visit (want id false) (pad.Delete now) replied.Done (with_cause (of_pad PadId))

-- an absent pad is passed over
abbrev pub or_absent : Result (Unit {0}) PadBad → Result (Unit {0}) ApiBad
or_absent (Ok done) = Ok tt
or_absent (Err Gone) = Ok tt
or_absent (Err why) = Err (of_pad PadId why)

abbrev pub delete_if_there : Text → ℕ → Task (Unit {0})
delete_if_there id now = visit (want id false) (pad.Delete now) replied.Done or_absent

abbrev pub set_public : Text → Bool → Task (Unit {0})
set_public id on = visit (want id false) (pad.SetPublic on) replied.Done (with_cause (of_pad PadId))

abbrev pub text : Text → Option ℕ → Task Doc
text id rev = visit (want id false) (pad.Text rev) replied.Text (with_cause (of_pad PadId))

abbrev pub set_text : Text → Text → ℕ → Task Committed
set_text id t now = visit (want id false) (pad.SetText t now) replied.Committed (with_cause (of_pad PadId))

abbrev pub status : Text → Task PadStatus
status id = visit (want id false) pad.Status replied.Status (with_cause (of_pad PadId))

abbrev pub delete_all : ℕ → List Text → Task (Unit {0})
delete_all now [] = done tt
delete_all now (id ∷ ids) = delete_if_there id now >>= λ _. delete_all now ids

-- ---- calls of the directory behind them

abbrev pub take_off : Text → Task Data
take_off id = ask (dir.DropGroupPad id) said.Done >>= λ _. done answer.Nothing

-- a group's pad is taken off its list
abbrev pub off_list : Text → Task Data
off_list id = if_so (has_group id) (take_off id) (done answer.Nothing)

abbrev pub drop_group : Text → Task Data
drop_group group = ask (dir.DeleteGroup group) said.Done >>= λ _. done answer.Nothing

abbrev pub read_only : Text → Task Data
read_only id = do
  d ← draw
  r ← ask (dir.ReadOnly id d) said.Text
  done (answer.ReadOnly r)

-- ---- functions

-- the directory counts in seconds
abbrev pub seconds : ℕ → ℕ
seconds now = now / 1000

-- What a call does at a moment, in milliseconds
abbrev pub task_of : ℕ → Call → Task Data
task_of now call.CreateGroup = do
  d ← draw
  id ← ask (dir.CreateGroup d) said.Text
  done (answer.Group id)
task_of now (call.CreateGroupIfNotExistsFor mapper) = do
  d ← draw
  id ← ask (dir.GroupFor mapper d) said.Text
  done (answer.Group id)
task_of now (call.DeleteGroup group) = do
  ids ← ask (dir.GroupPads group) said.Pads
  deleted ← delete_all now ids
  drop_group group
task_of now (call.ListPads group) = ask (dir.GroupPads group) said.Pads >>= λ ids. done (answer.Pads ids)
task_of now call.ListAllGroups = ask dir.Groups said.Texts >>= λ ids. done (answer.Groups ids)
task_of now (call.CreateGroupPad group name t) = do
  id ← ask (dir.AddGroupPad group name) said.Pad
  birth ← create PadName id t now
  done (answer.Pad id)
task_of now (call.CreateAuthor name) = do
  d ← draw
  id ← ask (dir.CreateAuthor name d) said.Text
  done (answer.Author id)
task_of now (call.CreateAuthorIfNotExistsFor mapper name) = do
  d ← draw
  id ← ask (dir.AuthorFor mapper name d) said.Text
  done (answer.Author id)
task_of now (call.GetAuthorName author) = ask (dir.AuthorName author) said.Text >>= λ name. done (answer.AuthorName name)
task_of now (call.CreateSession group author until) = do
  d ← draw
  id ← ask (dir.CreateSession (record { group = group; author = author; valid_until = until; at = seconds now; drawn = d })) said.Text
  done (answer.Session id)
task_of now (call.DeleteSession id) = ask (dir.DeleteSession id) said.Done >>= λ _. done answer.Nothing
task_of now (call.GetSessionInfo id) = ask (dir.Session id) said.Session >>= λ s. done (answer.Info s)
task_of now (call.ListSessionsOfGroup group) = ask (dir.SessionsOfGroup group) said.Sessions >>= λ ss. done (answer.Infos ss)
task_of now (call.ListSessionsOfAuthor author) = ask (dir.SessionsOfAuthor author) said.Sessions >>= λ ss. done (answer.Infos ss)
task_of now (call.CreatePad id t) = create PadId id t now >>= λ _. done answer.Nothing
task_of now (call.DeletePad id) = delete id now >>= λ _. off_list id
task_of now (call.GetText id rev) = text id rev >>= λ doc. copied (answer.Text (text_of doc))
task_of now (call.SetText id t) = set_text id t now >>= λ _. done answer.Nothing
task_of now (call.GetRevisionsCount id) = status id >>= λ s. done (answer.Revisions s.head)
task_of now (call.GetLastEdited id) = status id >>= λ s. done (answer.LastEdited s.edited)
task_of now (call.PadUsersCount id) = status id >>= λ s. done (answer.Users s.live)
task_of now (call.GetReadOnlyId id) = status id >>= λ _. read_only id
task_of now (call.SetPublicStatus id on) = set_public id on >>= λ _. done answer.Nothing
task_of now (call.GetPublicStatus id) = status id >>= λ s. done (answer.Public s.public)
task_of now call.CheckToken = done answer.Nothing
