use Rattle.std.proofs.Common.{subst, sym, Option}
use Rattle.ep_outside.specs.Disk.{Contents}
use Rattle.ep_journal.specs.File.{stands_for}
use Rattle.ep_journal.specs.Held.{Stands}
use Rattle.ep_journal.proofs.Repairing.{mended_stands}
use Rattle.ep_journal.proofs.journal.Journal.open.Goals as goal

pub returns-in-Ok-clause-records : goal.returns-in-Ok-clause-records
returns-in-Ok-clause-records g c k told =
    subst (λ (o : Option Contents). Stands o (stands_for k.seen)) (sym (c.in-Ok.ensures.file k told)) (mended_stands k.seen (c.in-Ok.ensures.native k told))
