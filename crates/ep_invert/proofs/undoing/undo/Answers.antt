use Rattle.std.proofs.Common.{sym, subst, take}
use Rattle.std.proofs.lemmas.Result.{IfOk-weaker}
use Rattle.ep_cs.specs.Draft.{Draft}
use Rattle.ep_cs.specs.Runs.{passed as passed_by}
use Rattle.ep_cs.specs.declared.op.Kind.TheVariants as kind
use Rattle.ep_invert.specs.Undoing.{undone, left_by}
use Rattle.ep_invert.specs.Writing.{GoesOn}
use Rattle.ep_invert.proofs.Pieces.{as_kind, lines_new, new_dropped}
use Rattle.ep_invert.proofs.undoing.undo.Goals as goal

pub drop_units-requires-clause-lined : goal.drop_units-requires-clause-lined
drop_units-requires-clause-lined c =
    let r = c.args.run.now in
    lines_new r.units r.lines r.text.now c.args.rest.now c.args.out.now (as_kind r.kind kind.Insert r.units r.lines r.text.now c.args.rest.now c.args.out.now c.in-Insert.is c.requires)

pub returns-in-Insert-clause-written : goal.returns-in-Insert-clause-written
returns-in-Insert-clause-written c =
    let r = c.args.run.now in
    let d = c.args.out.now in
    let cs = c.args.rest.now in
    IfOk-weaker c.drop_units.result _ _ (λ _ e. subst (λ (x : Draft). GoesOn d x (undone r.kind r.units r.attrs.now (take (passed_by r.kind r.units) cs)) (left_by r.kind r.text.now (take (passed_by r.kind r.units) cs))) (sym e)
    (new_dropped r.kind r.units r.lines r.attrs.now r.text.now cs d c.in-Insert.is (as_kind r.kind kind.Insert r.units r.lines r.text.now cs d c.in-Insert.is c.requires))) c.drop_units.ensures.ok
