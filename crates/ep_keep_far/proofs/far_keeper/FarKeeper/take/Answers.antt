use Rattle.std.proofs.Common.{refl, sym}
use Rattle.ep_keep_far.proofs.Telling.{hears_then, met_then, says_then}
use Rattle.ep_keep_far.proofs.far_keeper.FarKeeper.take.Goals as goal

pub invariant_of-self-2 : goal.invariant_of-self-2
invariant_of-self-2 g c = record { met = met_then _ c.slots.ensures.looked.1 c.pop_known-answer.ensures.received.0 c.args.self.now.is_lost }

pub returns-clause-said : goal.returns-clause-said
returns-clause-said g c =
    let self = c.args.self.now in
    says_then _ c.slots.ensures.looked.1 c.pop_known-answer.ensures.received.0 g.K.Keeper.told self.is_lost c.into_said.result self.met c.pop_known-answer.ensures.allowed c.into_said.ensures

pub returns-clause-heard : goal.returns-clause-heard
returns-clause-heard g c = (refl, hears_then _ c.slots.ensures.looked.1 c.pop_known-answer.ensures.received.0 c.into_said.result (sym c.into_said.ensures))
