-- A journal's refusal as a pad's.
use Rattle.std.proofs.Common.{◌≡◌, ℕ, refl}
use Rattle.ep_journal.specs.Refusals as journal
use Rattle.ep_journal.specs.declared.journal_bad.JournalBad.{JournalBad}
use Rattle.ep_journal.specs.declared.journal_bad.JournalBad.TheVariants.{Disk, Full, NoMemory}
use Rattle.ep_journal.specs.declared.journal_bad.JournalBad.TheVariants as bad
use Rattle.ep_history.specs.declared.pad_bad.PadBad.TheVariants.{Foreign}
use Rattle.ep_pad_file.specs.Refusals.{same_cause}

pub foreign_is : (why : JournalBad) → same_cause why ≡ Foreign → why ≡ bad.Foreign
foreign_is (Disk n) is = absurd (cc)
foreign_is bad.Foreign is = refl
foreign_is (Full n) is = absurd (cc)
foreign_is NoMemory is = absurd (cc)

pub foreign_cause : (why : JournalBad) (foreign sure : Type 0) (before now : ℕ) → journal.OpenRefused foreign sure before now why → same_cause why ≡ Foreign → foreign
foreign_cause (Disk n) foreign sure before now cause is = absurd (cc)
foreign_cause bad.Foreign foreign sure before now cause is = cause
foreign_cause (Full n) foreign sure before now cause is = absurd cause
foreign_cause NoMemory foreign sure before now cause is = absurd (cc)
