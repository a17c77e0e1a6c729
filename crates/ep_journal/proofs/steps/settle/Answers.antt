use Rattle.ep_journal.proofs.Syncing.{sync_keeps}
use Rattle.ep_journal.proofs.steps.settle.Goals as goal

pub returns-clause-synced : goal.returns-clause-synced
returns-clause-synced g c k d told now = sync_keeps _ _ _ k d c.sync.ensures.syncs told now
