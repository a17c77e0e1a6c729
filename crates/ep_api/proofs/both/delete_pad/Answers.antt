use Rattle.std.proofs.lemmas.Result.{err_from_is_err_and}
use Rattle.ep_api.proofs.Doing.{goes, stops}
use Rattle.ep_api.proofs.both.delete_pad.Goals as goal

pub returns-in_err-delete-clause-does : goal.returns-in_err-delete-clause-does
returns-in_err-delete-clause-does g c =
    let p = err_from_is_err_and c.from_residual.result c.from_residual.ensures.1 in
    rw (p.1, p.2) (λ t. stops _ _ _ _ _ (c.in_err-delete.ensures.visits _ t))

pub returns-clause-does : goal.returns-clause-does
returns-clause-does g c =
    λ t. goes _ _ _ _ _ _ _ (c.in_ok-delete.ensures.visits _ t) (c.off_list.ensures.does t _ _)
