use Rattle.std.proofs.Common.{sym, subst}
use Rattle.ep_import.specs.Imported.{Said}
use Rattle.ep_move.specs.Moving.{Fails, IsUntaken}
use Rattle.ep_move.specs.Stopped.{StopsBy}
use Rattle.ep_move.proofs.Untaken.{unopened}
use Rattle.ep_move.proofs.putting.journal_on.Goals as goal

pub returns-in-Err-clause-stops : goal.returns-in-Err-clause-stops
returns-in-Err-clause-stops g c =
    let disk = c.args.disk in
    let told = g.D.Disk.told disk in
    let now = g.D.Device.failures c.in-Err.refused.back in
    subst (λ s. StopsBy (λ r. (x : Said) → IsUntaken told x r) ⊥ (Fails (g.D.Device.is_steady disk) (g.D.Device.failures disk) now) s) (sym c.stop_of_journal.ensures)
    (unopened g.D.Device.is_steady g.D.Disk.stops_alone g.D.Disk.left told disk (g.D.Device.failures disk) now c.in-Err.refused.why c.in-Err.ensures.refused)
