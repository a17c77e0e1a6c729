use Rattle.ep_cs.proofs.Pairs.{compose_keeps_pairs, follow_keeps_pairs}
use Rattle.ep_cs.proofs.laws.pairs_are_kept.Goals as goal

pub returns : goal.returns
returns c = record { composed = compose_keeps_pairs; followed = follow_keeps_pairs }
