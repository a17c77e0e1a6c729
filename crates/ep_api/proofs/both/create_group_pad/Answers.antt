use Rattle.std.proofs.Common.{refl}
use Rattle.std.proofs.lemmas.Result.{err_from_is_err_and}
use Rattle.ep_api.proofs.Doing.{ends, goes, stops}
use Rattle.ep_api.proofs.both.create_group_pad.Goals as goal

pub returns-in_err-id-clause-does : goal.returns-in_err-id-clause-does
returns-in_err-id-clause-does g c =
    let p = err_from_is_err_and c.from_residual.result c.from_residual.ensures.1 in
    rw (p.1, p.2) (λ t. stops _ _ _ _ _ (c.in_err-id.ensures.does t _ _))

pub returns-in_err-_birth-clause-does : goal.returns-in_err-_birth-clause-does
returns-in_err-_birth-clause-does g c =
    let p = err_from_is_err_and c.from_residual-in_err-_birth.result c.from_residual-in_err-_birth.ensures.1 in
    rw (p.1, p.2) (λ t. goes _ _ _ _ _ _ _ (c.in_ok-id.ensures.does t _ _) (stops _ _ _ _ _ (c.in_err-_birth.ensures.visits _ t)))

pub returns-clause-does : goal.returns-clause-does
returns-clause-does g c =
    λ t. goes _ _ _ _ _ _ _ (c.in_ok-id.ensures.does t _ _) (ends _ _ _ _ _ _ (c.in_ok-_birth.ensures.visits _ t) (refl, refl))
