use Rattle.ep_session.proofs.Refusing.{no_login, no_return}
use Rattle.ep_session.proofs.laws.refuses_where_none_is.Goals as goal

pub returns-clause-login : goal.returns-clause-login
returns-clause-login c pad grant absent none = no_login pad grant absent none

pub returns-clause-resume : goal.returns-clause-resume
returns-clause-resume c pad grant again absent room = no_return pad grant again absent room
