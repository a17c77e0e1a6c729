-- What is asked of a pad, and what it does then, while neither its store nor memory fails.
use Rattle.std.specs.Prelude.{ℕ, suc, Bool, true, if◌then◌else◌, [], length, Option, Some, None, Result}
use Rattle.ep_units.specs.Text.{Text, is_well_formed}
use Rattle.ep_units.specs.declared.session.Session.{Session}
use Rattle.ep_units.specs.declared.grant.Grant.{Grant}
use Rattle.ep_cs.specs.Doc.{Doc}
use Rattle.ep_cs.specs.Change.{Change}
use Rattle.ep_cs.specs.EditFits.{is_edit}
use Rattle.ep_history.specs.Pad.{PadState, with_session, leave, create, delete, set_public}
use Rattle.ep_history.specs.Refusals.{login_fault, resume_fault}
use Rattle.ep_history.specs.Entry.{opened}
use Rattle.ep_history.specs.Accept.{refusal, at_head, committed}
use Rattle.ep_history.specs.Server.{create_fault, set_head, set_fault, set_text, gone_fault}
use Rattle.ep_history.specs.Readings.{Fetched, Piece, PadStatus, Welcome, CatchUp, Committed, dead_fault, fetch, fetch_fault, text, text_fault, history, history_fault, status, welcome, catch_up, revised, commit}
use Rattle.ep_history.specs.Records.{accept_record, create_record, set_record}
use Rattle.ep_history.specs.declared.pad_bad.PadBad.{PadBad}
use Rattle.ep_history.specs.declared.record.Record.{Record}
use Rattle.ep_history.specs.declared.record.Record.TheVariants as record_of

-- the calls of a pad. The last number of those that enter or change it is the moment.
pub data Entry : Type 0 where
  -- by a grant
  Login : Grant → ℕ → Entry
  -- by a grant, at a revision; the birth and the author that are named
  Resume : Grant → ℕ → Option ℕ → Option Text → ℕ → Entry
  -- a session's change of a base
  Accept : Session → ℕ → Change → ℕ → Entry
  -- a session's next revisions behind this one, and the Nops behind so many
  Fetch : Session → ℕ → ℕ → Entry
  Leave : Session → Entry
  Create : Text → ℕ → Entry
  SetText : Text → ℕ → Entry
  Delete : ℕ → Entry
  SetPublic : Bool → Entry
  -- of a revision, or of the head
  ReadText : Option ℕ → Entry
  -- for a session, from a revision on, so many more
  ReadHistory : Session → ℕ → ℕ → Entry
  ReadStatus : Entry

-- the answers to them
pub data Answer : Type 0 where
  LoginAnswer : Welcome → Answer
  ResumeAnswer : CatchUp → Answer
  CommitAnswer : Committed → Answer
  FetchAnswer : Fetched → Answer
  BirthAnswer : ℕ → Answer
  TextAnswer : Doc → Answer
  HistoryAnswer : Piece → Answer
  StatusAnswer : PadStatus → Answer
  Done : Answer

-- an answer, or why there is none
abbrev pub Reply : Type 0
Reply = Result Answer PadBad

-- what an entry comes to: a refusal; an answer, and the pad then; or the same once a record is kept
pub data Outcome : Type 0 where
  Refuses : PadBad → Outcome
  Answers : Answer → PadState → Outcome
  Records : Record → Answer → PadState → Outcome

-- refused for this reason, where there is one
abbrev pub unless : Option PadBad → Outcome → Outcome
unless (Some bad) o = Refuses bad
unless None o = o

-- who logs in enters the pad, which is made where it is absent
abbrev pub logs_in : PadState → Grant → ℕ → Outcome
logs_in pad g now =
    let there = opened pad now in
    let answer = LoginAnswer (welcome there g) in
    let next = with_session there g.author g.read_only in
    if pad.present then Answers answer next else Records (create_record pad now []) answer next

-- what each entry comes to
abbrev pub outcome : PadState → Entry → Outcome
outcome pad (Login g now) = unless (login_fault pad g) (logs_in pad g now)
outcome pad (Resume g rev birth author now) =
    unless (resume_fault pad g rev birth author) (Answers (ResumeAnswer (catch_up pad)) (with_session pad g.author g.read_only))
outcome pad (Accept s base c now) =
    unless (refusal pad s base c) (Records (accept_record pad s now base c) (CommitAnswer (commit pad (at_head pad base c.edit))) (committed pad s now base c))
outcome pad (Fetch s from told) = unless (fetch_fault pad s from) (Answers (FetchAnswer (fetch pad s from told)) pad)
outcome pad (Leave s) = unless (dead_fault pad s) (Answers Done (leave pad s))
outcome pad (Create text now) =
    unless (create_fault pad text) (Records (create_record pad now text) (BirthAnswer (suc (length pad.births))) (create pad now text))
outcome pad (SetText text now) =
    unless (set_fault pad text) (Records (set_record pad now text) (CommitAnswer (revised pad (set_head pad text))) (set_text pad now text))
outcome pad (Delete now) = unless (gone_fault pad) (Records (record_of.Delete now) Done (delete pad))
outcome pad (SetPublic on) = unless (gone_fault pad) (Records (record_of.Public on) Done (set_public pad on))
outcome pad (ReadText rev) = unless (text_fault pad rev) (Answers (TextAnswer (text pad rev)) pad)
outcome pad (ReadHistory s start count) = unless (history_fault pad s start) (Answers (HistoryAnswer (history pad start count)) pad)
outcome pad ReadStatus = unless (gone_fault pad) (Answers (StatusAnswer (status pad)) pad)

-- whether what an entry brings is a text, or an edit: no other can be recorded
abbrev pub is_recordable : Entry → Bool
is_recordable (Accept s base c now) = is_edit c.edit
is_recordable (Create text now) = is_well_formed text
is_recordable (SetText text now) = is_well_formed text
is_recordable e = true
