use Rattle.std.proofs.Common.{refl}
use Rattle.std.proofs.lemmas.Result.{err_from_is_err_and}
use Rattle.ep_api.proofs.Doing.{ends, stops}
use Rattle.ep_api.proofs.pads.set_public_status.Goals as goal

pub returns-in_err-set_public-clause-does : goal.returns-in_err-set_public-clause-does
returns-in_err-set_public-clause-does g c =
    let p = err_from_is_err_and c.from_residual.result c.from_residual.ensures.1 in
    rw (p.1, p.2) (λ desk t. stops _ _ _ _ _ (c.in_err-set_public.ensures.visits desk t))

pub returns-clause-does : goal.returns-clause-does
returns-clause-does g c = λ desk t. ends _ _ _ _ _ _ (c.in_ok-set_public.ensures.visits desk t) (refl, refl)
