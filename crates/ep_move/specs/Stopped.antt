-- Working words of private contracts: why nothing came in, and what is written of it.
use Rattle.std.specs.Prelude.{◌≡◌, ◌⊎◌, ℕ, ◌-◌, ◌≤◌, Bool, List, length, Option, Some}
use Rattle.ep_units.specs.Text.{Text}
use Rattle.ep_outside.specs.Disk.{Contents}
use Rattle.ep_outside.specs.Outside.{Takes, TakesPart}
use Rattle.ep_journal.specs.File.{stands_for}
use Rattle.ep_journal.specs.Held.{Stands}
use Rattle.ep_journal.specs.Journal.{IsReady, disk_of, limit_of}
use Rattle.ep_journal.specs.declared.journal.Journal.{Journal}
use Rattle.ep_journal.specs.declared.journal_bad.JournalBad.{JournalBad}
use Rattle.ep_journal.specs.declared.journal_bad.JournalBad.TheVariants as journal_bad
use Rattle.ep_import.specs.Imported.{Said}
use Rattle.ep_import.specs.declared.bad.ImportBad.{ImportBad}
use Rattle.ep_import.specs.declared.bad.ImportBad.TheVariants as bad
use Rattle.ep_put.specs.declared.bad.PutBad.{PutBad}
use Rattle.ep_put.specs.declared.bad.PutBad.TheVariants as put_bad
use Rattle.ep_move.specs.Lines.{imported, refusal}
use Rattle.ep_move.specs.Moving.{IsUntaken, most_file}
use Rattle.ep_move.specs.Text.{IsCut, most_read}
use Rattle.ep_move.specs.declared.lines.Reason.{Reason}
use Rattle.ep_move.specs.declared.lines.Reason.TheVariants as reason
use Rattle.ep_move.specs.declared.moved.Moved.{Moved}
use Rattle.ep_move.specs.declared.moved.Moved.TheVariants as moved
use Rattle.ep_move.specs.declared.stop.Stop.{Stop}
use Rattle.ep_move.specs.declared.stop.Stop.TheVariants as stop

abbrev pub stop_by_import : ImportBad → Stop
stop_by_import (bad.TooBig n) = stop.Refused (reason.TooBig n)
stop_by_import bad.NotJson = stop.Refused reason.NotJson
stop_by_import (bad.Shape place) = stop.Refused (reason.Shape place)
stop_by_import (bad.Revision n) = stop.Refused (reason.Revision n)
stop_by_import bad.Replay = stop.Refused reason.Replay
stop_by_import bad.NoMemory = stop.NoMemory

abbrev pub stop_by_journal : JournalBad → Stop
stop_by_journal journal_bad.Foreign = stop.Refused reason.Foreign
stop_by_journal (journal_bad.Disk n) = stop.DiskFault
stop_by_journal (journal_bad.Full n) = stop.NoMemory
stop_by_journal journal_bad.NoMemory = stop.NoMemory

abbrev pub stop_by_put : PutBad → Stop
stop_by_put put_bad.Exists = stop.Refused reason.Exists
stop_by_put (put_bad.TooLong n) = stop.Refused (reason.TooLong n)
stop_by_put (put_bad.Full n) = stop.Refused (reason.Full n)
stop_by_put (put_bad.Disk n) = stop.DiskFault
stop_by_put put_bad.NoMemory = stop.NoMemory

-- a reason has its cause, and so has the fault of a device
abbrev pub StopsBy : (Reason → Type 0) → Type 0 → Type 0 → Stop → Type 0
StopsBy Because source disk (stop.Refused why) = Because why
StopsBy Because source disk stop.SourceFault = source
StopsBy Because source disk stop.DiskFault = disk
StopsBy Because source disk stop.NoMemory = Unit {0}

-- too much was read
abbrev pub StopsLong : Option (List ℕ) → Option (List ℕ) → Reason → Type 0
StopsLong old new why = (why ≡ reason.TooBig most_read) × IsCut old new

-- an open journal over a disk
pub record IsOver {D : Type 0} (told : D → Option Contents) (is_steady : D → Bool) (failures : D → ℕ) (disk : D) (j : Journal D) : Type 0 where
  pub ready : IsReady told j
  pub limit : limit_of j ≡ most_file
  pub stands : (c : Contents) → told disk ≡ Some c → Stands (told (disk_of j)) (stands_for c.seen)
  pub steady : is_steady (disk_of j) ≡ is_steady disk
  pub later : failures disk ≤ failures (disk_of j)

-- what is written of it: the line of a reason, or a beginning of it, or nothing
abbrev pub WritesStop : Text → Option (List ℕ) → Option (List ℕ) → Stop → Moved → Type 0
WritesStop id held now (stop.Refused why) moved.Refused = Takes held now (refusal id why)
WritesStop id held now (stop.Refused why) moved.SinkFault = TakesPart held now (refusal id why)
WritesStop id held now (stop.Refused why) moved.NoMemory = now ≡ held
WritesStop id held now stop.SourceFault moved.SourceFault = now ≡ held
WritesStop id held now stop.DiskFault moved.DiskFault = now ≡ held
WritesStop id held now stop.NoMemory moved.NoMemory = now ≡ held
WritesStop id held now why end = ⊥

-- a line was written, or a beginning of it
abbrev pub SaysLine : List ℕ → Option (List ℕ) → Option (List ℕ) → Moved → Type 0
SaysLine line held now moved.All = Takes held now line
SaysLine line held now moved.SinkFault = TakesPart held now line
SaysLine line held now end = ⊥

-- a history was put, or why not was written, or a beginning of either line, or nothing
abbrev pub PutsAndSays : Text → Option Contents → Said → Option (List ℕ) → Option (List ℕ) → Moved → Type 0
PutsAndSays id told said held now moved.All = Takes held now (imported (length said.revs - 1))
PutsAndSays id told said held now moved.Refused = (why : Reason) × IsUntaken told said why × Takes held now (refusal id why)
PutsAndSays id told said held now moved.SinkFault =
    TakesPart held now (imported (length said.revs - 1))
    ⊎ ((why : Reason) × IsUntaken told said why × TakesPart held now (refusal id why))
PutsAndSays id told said held now moved.SourceFault = ⊥
PutsAndSays id told said held now end = now ≡ held
