use Rattle.ep_invert.proofs.Restored.{back_exactly}
use Rattle.ep_invert.proofs.laws.restores_what_was_altered.Goals as goal

pub returns : goal.returns
returns c m d key is = back_exactly m d key is
