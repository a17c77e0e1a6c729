-- A history that is put, or why it isn't.
use Rattle.std.proofs.Common.{◌≡◌, ℕ, ◌<◌, Bool, List, [], length, Option, Some, None, inl, refl, ap, ◌∙◌, subst, arith}
use Rattle.ep_outside.specs.Disk.{Contents, IsSure}
use Rattle.ep_journal.specs.File.{stands_for}
use Rattle.ep_journal.specs.Held.{HasCount, IsForeign, Stands}
use Rattle.ep_journal.specs.Journal.{count_of, disk_of, limit_of}
use Rattle.ep_journal.specs.Refusals.{OpenRefused}
use Rattle.ep_journal.specs.declared.journal.Journal.{Journal}
use Rattle.ep_journal.specs.declared.journal_bad.JournalBad.{JournalBad}
use Rattle.ep_journal.specs.declared.journal_bad.JournalBad.TheVariants as journal_bad
use Rattle.ep_journal.proofs.Keeping.{counted}
use Rattle.ep_import.specs.Imported.{Said}
use Rattle.ep_put.specs.Putting.{PutRefused, history_records}
use Rattle.ep_put.specs.Whole.{full_with}
use Rattle.ep_put.specs.declared.bad.PutBad.{PutBad}
use Rattle.ep_put.specs.declared.bad.PutBad.TheVariants as put_bad
use Rattle.ep_verify.proofs.Rereading.{journal}
use Rattle.ep_move.specs.Moving.{Fails, IsUntaken}
use Rattle.ep_move.specs.Stopped.{IsOver, StopsBy, stop_by_journal, stop_by_put}
use Rattle.ep_move.specs.declared.stop.Stop.{Stop}
use Rattle.ep_move.specs.declared.stop.Stop.TheVariants as stop
use Rattle.ep_move.proofs.Causes.{risen_since}

-- a disk whose journal isn't opened
pub unopened : {D : Type 0} (is_steady stops_alone : D → Bool) (left : D → Option ℕ) (told : Option Contents) (disk : D) (before now : ℕ) (why : JournalBad)
    → OpenRefused (IsForeign told) (IsSure is_steady stops_alone left disk) before now why → StopsBy (λ r. (s : Said) → IsUntaken told s r) ⊥ (Fails (is_steady disk) before now) (stop_by_journal why)
unopened is_steady stops_alone left told disk before now journal_bad.Foreign h = λ s c is. subst IsForeign is h
unopened is_steady stops_alone left told disk before now (journal_bad.Disk n) h = record { risen = h.risen; unsure = λ e. h.unsure (inl e) }
unopened is_steady stops_alone left told disk before now (journal_bad.Full n) h = absurd h
unopened is_steady stops_alone left told disk before now journal_bad.NoMemory h = tt

-- a file that holds a record doesn't stand for none
held_some : {D : Type 0} (told : D → Option Contents) (is_steady : D → Bool) (failures : D → ℕ) (disk : D) (j : Journal D) → IsOver told is_steady failures disk j → 0 < count_of j
    → (c : Contents) → told disk ≡ Some c → stands_for c.seen ≡ Some [] → ⊥
held_some told is_steady failures disk j over some c is none = go (told (disk_of j)) (over.stands c is) (counted (told (disk_of j)) j.gates.items j.gate (count_of j) over.ready.held refl)
  where
    go : (o : Option Contents) → Stands o (stands_for c.seen) → HasCount o (count_of j) → ⊥
    go None stands count = stands
    go (Some d) stands count = let are = (journal d.seen [] (stands ∙ none)).are in let n = ap length are in absurd (omega (arith, n, count, some))

-- a history that an opened journal doesn't take
pub unput : {D : Type 0} (told : D → Option Contents) (is_steady stops_alone : D → Bool) (left : D → Option ℕ) (failures : D → ℕ) (disk : D) (j : Journal D) (s : Said) (now : ℕ) (why : PutBad)
    → IsOver told is_steady failures disk j → PutRefused (count_of j) (limit_of j) s.revs s.public (IsSure is_steady stops_alone left (disk_of j)) (failures (disk_of j)) now why
    → StopsBy (IsUntaken (told disk) s) ⊥ (Fails (is_steady disk) (failures disk) now) (stop_by_put why)
unput told is_steady stops_alone left failures disk j s now put_bad.Exists over h = held_some told is_steady failures disk j over h
unput told is_steady stops_alone left failures disk j s now (put_bad.TooLong n) over h = h.1
unput told is_steady stops_alone left failures disk j s now (put_bad.Full n) over h = subst (λ (limit : ℕ). full_with limit (history_records s.revs s.public) ≡ Some n) over.limit h.2
unput told is_steady stops_alone left failures disk j s now (put_bad.Disk n) over h = record {
  risen = risen_since (failures disk) (failures (disk_of j)) now over.later h.2.risen;
  unsure = λ e. h.2.unsure (inl (over.steady ∙ e));
}
unput told is_steady stops_alone left failures disk j s now put_bad.NoMemory over h = tt

pub stops_said : (told : Option Contents) (s : Said) (F : Type 0) (why : Stop) → StopsBy (λ r. (x : Said) → IsUntaken told x r) ⊥ F why → StopsBy (IsUntaken told s) ⊥ F why
stops_said told s F (stop.Refused why) h = h s
stops_said told s F stop.SourceFault h = h
stops_said told s F stop.DiskFault h = h
stops_said told s F stop.NoMemory h = tt

-- where a disk stands for records it tells a file
pub told_some : (o : Option Contents) (r : Option (List (List ℕ))) → Stands o r → (d : Contents) × (o ≡ Some d)
told_some None r h = absurd h
told_some (Some d) r h = (d, refl)
