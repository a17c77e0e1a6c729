use Rattle.std.proofs.Common.{[], sym, subst}
use Rattle.std.proofs.lemmas.Result.{IfOk-weaker}
use Rattle.ep_attr.specs.AttrMap.{none, after}
use Rattle.ep_cs.specs.Edit.{inserts}
use Rattle.ep_cs.specs.Runs.{cells}
use Rattle.ep_cs.specs.Draft.{Draft}
use Rattle.ep_invert.specs.Writing.{GoesOn}
use Rattle.ep_invert.proofs.Writes.{text_inserted}
use Rattle.ep_invert.proofs.writing.insert_text.Goals as goal

pub returns : goal.returns
returns c =
    let text = c.args.text.now in
    let m = c.args.attrs.now in
    IfOk-weaker c.insert.result _ _ (λ _ e. subst (λ (d : Draft). GoesOn c.args.out.now d (inserts (cells (after none m) text)) []) (sym e) (text_inserted c.args.out.now text m)) c.insert.ensures.ok
