use Rattle.std.proofs.Common.{arith, inl, refl}
use Rattle.ep_invert.proofs.Answered.{length-paint}
use Rattle.ep_invert.proofs.Cut.{paint_nothing}
use Rattle.ep_invert.proofs.Painted.{apply-paint}
use Rattle.ep_invert.proofs.laws.paint_sets_attributes.Goals as goal

pub returns : goal.returns
returns c = record {
  length = length-paint;
  nothing = λ n at m h. paint_nothing n at 0 m (omega arith) (inl refl);
  document = apply-paint;
}
