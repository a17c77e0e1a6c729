use Rattle.std.proofs.Common.{[], ◌∷◌}
use Rattle.ep_session.specs.Session.{Greet, nowhere}
use Rattle.ep_session.proofs.Sent.{sent_law}
use Rattle.ep_session.proofs.laws.sends_its_output.Goals as goal

pub returns : goal.returns
returns c drawn log out r = sent_law nowhere (Greet drawn ∷ []) log out tt r
