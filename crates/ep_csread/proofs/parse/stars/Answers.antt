use Rattle.std.proofs.Common.{◌∙◌, sym}
use Rattle.std.proofs.lemmas.Result.{err_from_is_err_and}
use Rattle.ep_csread.specs.Syntax.{begins_star, star_at, stars_at}
use Rattle.ep_csread.proofs.Many.{goes_on, ends, is_done}
use Rattle.ep_csread.proofs.Shorter.{star_shortens}
use Rattle.ep_csread.proofs.parse.stars.Goals as goal

pub returns-in_err-next : goal.returns-in_err-next
returns-in_err-next c =
    let p = err_from_is_err_and c.from_residual.result c.from_residual.ensures.1 in
    rw (p.1, p.2) (ends begins_star star_at c.in_err-next.field-0.0 c.stars.stars.items c.stars.rest.now (stars_at c.args.text.now) (sym c.begins_star.ensures ∙ c.stars-test.true) c.in_err-next.ensures c.stars.invariant)

pub stars-smaller : goal.stars-smaller
stars-smaller c = star_shortens.shorter c.stars.rest.now (c.in_ok-next.next, c.in_ok-next.after.now) (sym c.begins_star.ensures ∙ c.stars-test.true) c.in_ok-next.ensures

pub stars-preserved : goal.stars-preserved
stars-preserved c =
    rw c.in_ok-push.ensures.items
    (goes_on begins_star star_at star_shortens c.stars.stars.items c.stars.rest.now c.in_ok-next.next c.in_ok-next.after.now (stars_at c.args.text.now) (sym c.begins_star.ensures ∙ c.stars-test.true) c.in_ok-next.ensures c.stars.invariant)

pub returns : goal.returns
returns c = is_done begins_star star_at c.stars.stars.items c.stars.rest.now (stars_at c.args.text.now) (sym c.begins_star.ensures ∙ c.stars-test.false) c.stars.invariant
