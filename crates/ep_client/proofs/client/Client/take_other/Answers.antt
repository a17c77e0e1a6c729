use Rattle.std.proofs.Common.{refl, sym, ap, subst}
use Rattle.ep_cs.specs.Edit.{apply}
use Rattle.ep_cs.specs.Change.{Change}
use Rattle.ep_cs.specs.Fits.{Fits}
use Rattle.ep_history.specs.Kept.{KeptClient}
use Rattle.ep_client.proofs.Keeping.{held-other}
use Rattle.ep_client.proofs.client.Client.take_other.Goals as goal

pub invariant_of-self : goal.invariant_of-self
invariant_of-self c =
    let inv = c.self.invariant in
    let old = c.self.inside in
    let d = apply old.sent.edit old.doc in
    let edit = λ (x : Change). x.edit in
    let f : Fits c.args.change.now old.doc = subst (λ (k : KeptClient). Fits c.args.change.now k.doc) (sym c.self.view_is) c.requires.fits in
    let fb = c.in_ok-below.ensures.fits old.doc inv.sent f in
    held-other old _ c.args.change.now c.in_ok-below.below c.in_ok-shown.shown inv f
    fb (ap edit (c.in_ok-below.ensures.exact old.doc inv.sent f))
    (c.in_ok-sent.ensures.fits old.doc f inv.sent) (ap edit (c.in_ok-sent.ensures.exact old.doc f inv.sent))
    (ap edit (c.in_ok-shown.ensures.exact d inv.local fb))
    (c.in_ok-local.ensures.fits d fb inv.local) (ap edit (c.in_ok-local.ensures.exact d fb inv.local))
    c.in_ok-doc.ensures c.in_ok-view.ensures refl
