use Rattle.std.proofs.Common.{◌∙◌, refl, sym}
use Rattle.ep_move.proofs.rereading.Reread.created.Goals as goal

pub returns : goal.returns
returns c =
    let may = c.may_bear.ensures.0 c.if-not-may_bear.false in
    let formed = sym c.well_formed-else-not-may_bear.ensures ∙ c.if-not-well_formed.false in
    let cleaned = c.in_ok-is_clean.ensures.0 c.if-not-branch.false in
    (may, formed, cleaned, refl, refl, refl, record { last = c.in_ok-first.first; is = refl; revs = c.in_ok-first.ensures.revs; doc = c.in_ok-first.ensures.doc })
