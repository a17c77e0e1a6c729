use Rattle.ep_cs.proofs.Splices.{length-splice, splice-nothing, apply-splice, apply-splice-plain}
use Rattle.ep_cs.proofs.laws.splice_replaces.Goals as goal

pub returns : goal.returns
returns c = record { length = length-splice; nothing = splice-nothing; document = apply-splice; text = apply-splice-plain }
