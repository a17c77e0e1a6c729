use Rattle.std.proofs.Common.{refl, [], ◌∷◌}
use Rattle.ep_session.specs.Session.{Greet, nowhere}
use Rattle.ep_session.proofs.Turning.{turn_law, first_keeps}
use Rattle.ep_session.proofs.laws.tells_before_hearing.Goals as goal

pub returns : goal.returns
returns c drawn log more g n out r = turn_law log nowhere (Greet drawn ∷ []) [] g n more out refl (first_keeps drawn) r
