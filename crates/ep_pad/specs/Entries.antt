-- Entries and replies of a program, as the rules say them, and which reply an entry has.
use Rattle.std.specs.Prelude.{◌≡◌, ◌≤◌, true}
use Rattle.ep_units.specs.Text.{is_well_formed}
use Rattle.ep_history.specs.Entries.{Entry, Reply}
use Rattle.ep_history.specs.Entries.Entry.{Login, Resume, Accept, Fetch, Leave, Create, SetText, Delete, SetPublic, ReadText, ReadHistory, ReadStatus}
use Rattle.ep_history.specs.Entries.Answer.{LoginAnswer, ResumeAnswer, CommitAnswer, FetchAnswer, BirthAnswer, TextAnswer, HistoryAnswer, StatusAnswer, Done}
use Rattle.ep_step.specs.Telling.{told_by}
use Rattle.ep_pad_state.specs.Answering.{welcome_of, catch_up_of, fetched_of, piece_of, status_of}
use Rattle.ep_pad.specs.Standing.{replied}
use Rattle.ep_pad.specs.declared.entries.PadEntry.{PadEntry}
use Rattle.ep_pad.specs.declared.entries.PadEntry.TheVariants as asked
use Rattle.ep_pad.specs.declared.entries.PadReply.{PadReply}
use Rattle.ep_pad.specs.declared.entries.PadReply.TheVariants as reply

abbrev pub entry_of : PadEntry → Entry
entry_of (asked.Login grant now) = Login grant now
entry_of (asked.Resume grant rev birth author now) = Resume grant rev birth author now
entry_of (asked.Accept session base change now) = Accept session base change now
entry_of (asked.Fetch session from told) = Fetch session from told
entry_of (asked.Leave session) = Leave session
entry_of (asked.Create text now) = Create text now
entry_of (asked.SetText text now) = SetText text now
entry_of (asked.Delete now) = Delete now
entry_of (asked.SetPublic on) = SetPublic on
entry_of (asked.Text rev) = ReadText rev
entry_of (asked.History session start count) = ReadHistory session start count
entry_of asked.Status = ReadStatus

abbrev pub reply_of : PadReply → Reply
reply_of (reply.Welcome r) = replied (λ x. LoginAnswer (welcome_of x)) r
reply_of (reply.CatchUp r) = replied (λ x. ResumeAnswer (catch_up_of x)) r
reply_of (reply.Committed r) = replied (λ x. CommitAnswer (told_by x)) r
reply_of (reply.Fetched r) = replied (λ x. FetchAnswer (fetched_of x)) r
reply_of (reply.Done r) = replied (λ _. Done) r
reply_of (reply.Birth r) = replied BirthAnswer r
reply_of (reply.Text r) = replied TextAnswer r
reply_of (reply.Piece r) = replied (λ x. HistoryAnswer (piece_of x)) r
reply_of (reply.Status r) = replied (λ x. StatusAnswer (status_of x)) r

-- what a call asks of its caller: a text is one, and no piece of a history has more revisions than this
abbrev pub MayAsk : Entry → Type 0
MayAsk (Create text now) = is_well_formed text ≡ true
MayAsk (SetText text now) = is_well_formed text ≡ true
MayAsk (ReadHistory session start count) = count ≤ 10000
MayAsk e = Unit {0}

-- the reply is of the kind that the entry asks for, also where it is a refusal
abbrev pub Suits : PadEntry → PadReply → Type 0
Suits (asked.Login grant now) r = (x : _) × (r ≡ reply.Welcome x)
Suits (asked.Resume grant rev birth author now) r = (x : _) × (r ≡ reply.CatchUp x)
Suits (asked.Accept session base change now) r = (x : _) × (r ≡ reply.Committed x)
Suits (asked.Fetch session from told) r = (x : _) × (r ≡ reply.Fetched x)
Suits (asked.Leave session) r = (x : _) × (r ≡ reply.Done x)
Suits (asked.Create text now) r = (x : _) × (r ≡ reply.Birth x)
Suits (asked.SetText text now) r = (x : _) × (r ≡ reply.Committed x)
Suits (asked.Delete now) r = (x : _) × (r ≡ reply.Done x)
Suits (asked.SetPublic on) r = (x : _) × (r ≡ reply.Done x)
Suits (asked.Text rev) r = (x : _) × (r ≡ reply.Text x)
Suits (asked.History session start count) r = (x : _) × (r ≡ reply.Piece x)
Suits asked.Status r = (x : _) × (r ≡ reply.Status x)
