use Rattle.std.proofs.lemmas.Result.{err_from_is_err_and}
use Rattle.ep_api.proofs.Doing.{goes, stops}
use Rattle.ep_api.proofs.Listed.{of_list}
use Rattle.ep_api.proofs.both.delete_group.Goals as goal

pub returns-in_err-ids-clause-does : goal.returns-in_err-ids-clause-does
returns-in_err-ids-clause-does g c =
    let p = err_from_is_err_and c.from_residual.result c.from_residual.ensures.1 in
    rw (p.1, p.2) (λ t. stops _ _ _ _ _ (c.in_err-ids.ensures.does t _ _))

pub returns-in_err-delete_each-clause-does : goal.returns-in_err-delete_each-clause-does
returns-in_err-delete_each-clause-does g c =
    let p = err_from_is_err_and c.from_residual-in_err-delete_each.result c.from_residual-in_err-delete_each.ensures.1 in
    rw (p.1, p.2) (λ t. goes _ _ _ _ _ _ _ (c.in_ok-ids.ensures.does t _ _) (stops _ _ _ _ _ (of_list _ _ _ _ _ _ c.as_slice.ensures (c.in_err-delete_each.ensures.visits _ t))))

pub returns-clause-does : goal.returns-clause-does
returns-clause-does g c =
    λ t. goes _ _ _ _ _ _ _ (c.in_ok-ids.ensures.does t _ _) (goes _ _ _ _ _ _ _ (of_list _ _ _ _ _ _ c.as_slice.ensures (c.in_ok-delete_each.ensures.visits _ t)) (c.drop_group.ensures.does t _ _))
