use Rattle.ep_pool.proofs.Back.{either, one, one_cause}
use Rattle.ep_pool.proofs.laws.a_value_has_one_answer.Goals as goal

pub returns-clause-pool : goal.returns-clause-pool
returns-clause-pool c = one

pub returns-clause-cause : goal.returns-clause-cause
returns-clause-cause c = one_cause

pub returns-clause-either : goal.returns-clause-either
returns-clause-either c = either
