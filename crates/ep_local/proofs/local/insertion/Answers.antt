use Rattle.ep_local.proofs.Locals.{is-insertion}
use Rattle.ep_local.proofs.local.insertion.Goals as goal

pub returns-in-Some : goal.returns-in-Some
returns-in-Some c =
    let s = c.splice in
    is-insertion c.args.doc.now c.args.at c.args.text.now c.none.result s.result c.none.ensures s.ensures.change s.ensures.fits s.ensures.refused
