use Rattle.ep_history.proofs.Recorded.{next-apart}
use Rattle.ep_history.proofs.Sound.{legal-sound, next-sound}
use Rattle.ep_history.proofs.record_laws.records_keep_pads_sound.Goals as goal

pub returns : goal.returns
returns c = record { legal = legal-sound; next = next-sound; apart = next-apart }
