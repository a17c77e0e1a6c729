-- Why verdicts are not written, and what is written then.
use Rattle.std.specs.Prelude.{ℕ, ◌≡◌, ◌⊎◌, List, Option}
use Rattle.ep_outside.specs.Disk.{Contents}
use Rattle.ep_verify.specs.declared.verify_bad.VerifyBad.{VerifyBad}
use Rattle.ep_verify.specs.declared.verify_bad.VerifyBad.TheVariants as verify
use Rattle.ep_verdicts.specs.Written.{WritesPart}
use Rattle.ep_verdicts.specs.declared.verdicts_bad.VerdictsBad.{VerdictsBad}
use Rattle.ep_verdicts.specs.declared.verdicts_bad.VerdictsBad.TheVariants.{Shelf, Disk, Sink, NoMemory}

-- a shelf that is not judged has no verdicts to write
abbrev pub bad_of : {D : Type 0} → VerifyBad D → VerdictsBad D
bad_of (verify.Shelf n) = Shelf n
bad_of (verify.Disk d) = Disk d
bad_of verify.NoMemory = NoMemory

-- what is known where the shelf failed, of a disk of it that failed, and where the sink failed
abbrev pub IsCause : {D : Type 0} → (ℕ → Type 0) → (D → Type 0) → Type 0 → VerdictsBad D → Type 0
IsCause shelf_failed disk_failed sink_failed (Shelf n) = shelf_failed n
IsCause shelf_failed disk_failed sink_failed (Disk d) = disk_failed d
IsCause shelf_failed disk_failed sink_failed Sink = sink_failed
IsCause shelf_failed disk_failed sink_failed NoMemory = Unit {0}

-- after a fault of the shelf or a disk the sink is as it was, after one of the sink it has a beginning of the lines, and
-- after want of memory it is as it was or has a beginning of them
abbrev pub Leaves : {K D : Type 0} → (K → Option (List ℕ)) → Option (List (List ℕ)) → (List ℕ → Option Contents) → K → K → VerdictsBad D → Type 0
Leaves held names told old new (Shelf n) = new ≡ old
Leaves held names told old new (Disk d) = new ≡ old
Leaves held names told old new Sink = WritesPart names told (held old) (held new)
Leaves held names told old new NoMemory = (new ≡ old) ⊎ WritesPart names told (held old) (held new)
