use Rattle.std.proofs.Common.{refl}
use Rattle.ep_session.specs.Session.{Greet, nowhere}
use Rattle.ep_session.proofs.Cursor.{open_law}
use Rattle.ep_session.proofs.laws.cursor_counts.Goals as goal

pub returns : goal.returns
returns c drawn log out r = open_law nowhere (Greet drawn) log out tt refl r
