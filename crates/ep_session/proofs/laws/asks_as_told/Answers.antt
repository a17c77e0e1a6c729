use Rattle.std.proofs.Common.{refl, [], ◌∷◌}
use Rattle.ep_session.specs.Session.{Greet, nowhere}
use Rattle.ep_session.proofs.Acting.{act_law}
use Rattle.ep_session.proofs.laws.asks_as_told.Goals as goal

pub returns : goal.returns
returns c drawn log out r = act_law nowhere (Greet drawn ∷ []) log out refl r
