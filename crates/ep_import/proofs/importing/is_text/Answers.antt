use Rattle.ep_import.proofs.Told.{text_told}
use Rattle.ep_import.proofs.importing.is_text.Goals as goal

pub returns-in-Ok : goal.returns-in-Ok
returns-in-Ok c =
    text_told c.args.pool.now.pairs c.in_ok-text.text c.in_ok-attribs.attribs c.args.text.now c.args.attribs.now _ c.in-Ok.change _ c.args.doc.now c.in_ok-text.ensures.units c.in_ok-attribs.ensures.units c.in-Ok.ensures.change c.in_ok-insertion-in-Ok.ensures
    c.same_change.ensures
