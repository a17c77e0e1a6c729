use Rattle.std.proofs.lemmas.Result.{err_from_is_err_and}
use Rattle.ep_api.proofs.Doing.{goes, stops}
use Rattle.ep_api.proofs.both.read_only_id.Goals as goal

pub returns-in_err-_status-clause-does : goal.returns-in_err-_status-clause-does
returns-in_err-_status-clause-does g c =
    let p = err_from_is_err_and c.from_residual.result c.from_residual.ensures.1 in
    rw (p.1, p.2) (stops _ _ _ _ _ (c.in_err-_status.ensures.visits _ _))

pub returns-clause-does : goal.returns-clause-does
returns-clause-does g c =
    goes _ _ _ _ _ _ _ (c.in_ok-_status.ensures.visits _ _) (c.read_only.ensures.does _ _)
