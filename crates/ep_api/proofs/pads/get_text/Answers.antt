use Rattle.std.proofs.Common.{ap, inl, inr, refl, Ok, Err}
use Rattle.std.proofs.lemmas.Result.{err_from_is_err_and}
use Rattle.ep_units.specs.Text.{Text}
use Rattle.ep_ask.specs.declared.answer.Data.TheVariants as answer
use Rattle.ep_api.proofs.Doing.{ends, stops}
use Rattle.ep_api.proofs.pads.get_text.Goals as goal

pub returns-in_err-doc-clause-does : goal.returns-in_err-doc-clause-does
returns-in_err-doc-clause-does g c =
    let p = err_from_is_err_and c.from_residual.result c.from_residual.ensures.1 in
    rw (p.1, p.2) (λ desk t. stops _ _ _ _ _ (c.in_err-doc.ensures.visits desk t))

pub returns-in_err-text-clause-does : goal.returns-in_err-text-clause-does
returns-in_err-text-clause-does g c =
    let p = err_from_is_err_and c.from_residual-in_err-text.result c.from_residual-in_err-text.ensures.1 in
    rw (p.1) (λ desk t. ends _ _ _ _ _ _ (c.in_ok-doc.ensures.visits desk t) (refl, inr (ap Err p.2)))

pub returns-clause-does : goal.returns-clause-does
returns-clause-does g c = λ desk t. ends _ _ _ _ _ _ (c.in_ok-doc.ensures.visits desk t) (refl, inl (ap (λ (t : Text). Ok (answer.Text t)) c.in_ok-text.ensures))
