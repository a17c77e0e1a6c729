use Rattle.std.proofs.Common.{arith}
use Rattle.ep_history.proofs.Answered.{normal-edit}
use Rattle.ep_pad_state.proofs.Readying.{two-at-most, step-ends}
use Rattle.ep_pad_state.proofs.birth.Birth.revisions.Goals as goal

pub returns-clause-grows : goal.returns-clause-grows
returns-clause-grows c =
    let two = two-at-most c.into_revs.result in
    record {
      follow = c.into_revs.ensures.made _ _ c.requires.step c.requires.fits;
      ends = step-ends c.into_revs.result _ _ _ (c.into_revs.ensures.revs _ _ c.requires.step);
      room = omega (arith, two);
    }

pub returns-clause-edit : goal.returns-clause-edit
returns-clause-edit c = normal-edit _ c.ops-normal.ensures.normal
