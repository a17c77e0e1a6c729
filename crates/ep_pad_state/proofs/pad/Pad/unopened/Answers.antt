use Rattle.std.proofs.Common.{[], refl}
use Rattle.ep_history.proofs.Sound.{legal-sound}
use Rattle.ep_pad_state.proofs.pad.Pad.unopened.Goals as goal

pub returns : goal.returns
returns c = record {
  keeps = record { limits = refl; seats = c.new.ensures _ refl refl; births = refl; public = refl; last = (refl, refl) };
  sound = legal-sound c.args.limits [] tt;
}
