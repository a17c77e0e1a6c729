-- The words of a refusal.
use Rattle.std.specs.Prelude.{ℕ, List, ◌∷◌, ◌++◌, codes}
use Rattle.std.specs.Fmt.{decimal}
use Rattle.ep_units.specs.declared.session.Session.{Session}
use Rattle.ep_cs.specs.declared.bad.FitBad.{FitBad}
use Rattle.ep_cs.specs.declared.bad.FitBad.TheVariants as fit
use Rattle.ep_csread.specs.declared.bad.ReadBad.{ReadBad}
use Rattle.ep_csread.specs.declared.bad.ReadBad.TheVariants as read
use Rattle.ep_history.specs.declared.seat.Why.{Why}
use Rattle.ep_history.specs.declared.seat.Why.TheVariants as why
use Rattle.ep_history.specs.declared.pad_bad.PadBad.{PadBad}
use Rattle.ep_history.specs.declared.pad_bad.PadBad.TheVariants as pad
use Rattle.ep_event.specs.declared.shown.Reason.{Reason}
use Rattle.ep_event.specs.declared.shown.Reason.TheVariants as reason

-- a session's epoch and count
abbrev pub session_out : Session → List ℕ
session_out s = decimal s.epoch ++ 46 ∷ decimal s.count

-- a text spells no change
abbrev pub read_out : ReadBad → List ℕ
read_out (read.Syntax at) = codes "read syntax " ++ decimal at
read_out (read.Number at) = codes "read number " ++ decimal at
read_out (read.NoAttr number) = codes "read noattr " ++ decimal number
read_out (read.Bank need has) = codes "read bank " ++ (decimal need ++ 32 ∷ decimal has)
read_out (read.Lines op) = codes "read lines " ++ decimal op
read_out read.Length = codes "read length"
read_out (read.Pair at) = codes "read pair " ++ decimal at
read_out read.NoMemory = codes "read memory"

-- a change doesn't fit
abbrev pub fit_out : FitBad → List ℕ
fit_out (fit.OldLen has says) = codes "fit oldlen " ++ (decimal has ++ 32 ∷ decimal says)
fit_out (fit.Newlines op) = codes "fit newlines " ++ decimal op
fit_out (fit.CutsPair at) = codes "fit cutspair " ++ decimal at

-- a session isn't live
abbrev pub dead_out : Why → List ℕ
dead_out (why.Replaced s) = codes "dead replaced " ++ session_out s
dead_out (why.Deleted birth) = codes "dead deleted"
dead_out (why.Reopened epoch) = codes "dead reopened " ++ decimal epoch
dead_out why.Left = codes "dead left"

-- the pad refuses; that the client is ahead, and what the last four say, is shown of no line today
abbrev pub pad_out : PadBad → List ℕ
pad_out (pad.Dead w) = dead_out w
pad_out (pad.Denied rule) = codes "denied " ++ decimal rule
pad_out (pad.Full sessions) = codes "full " ++ decimal sessions
pad_out pad.Gone = codes "gone"
pad_out (pad.BadRev head) = codes "badrev " ++ decimal head
pad_out (pad.NoRev head) = codes "norev " ++ decimal head
pad_out pad.Exists = codes "exists"
pad_out pad.ReadOnly = codes "readonly"
pad_out (pad.NoBase head) = codes "nobase " ++ decimal head
pad_out (pad.Author op) = codes "author " ++ decimal op
pad_out (pad.Fit bad) = fit_out bad
pad_out (pad.TooLong units) = codes "toolong " ++ decimal units
pad_out (pad.JournalFull bytes) = codes "full " ++ decimal bytes
pad_out (pad.Store faults) = codes "store " ++ decimal faults
pad_out pad.Foreign = codes "foreign"
pad_out (pad.BadRecord place) = codes "record " ++ decimal place
pad_out pad.NoMemory = codes "memory"

abbrev pub reason_out : Reason → List ℕ
reason_out (reason.Read bad) = read_out bad
reason_out (reason.Pad bad) = pad_out bad
reason_out reason.Place = codes "place"
reason_out (reason.CutsPair at) = codes "cutspair " ++ decimal at
