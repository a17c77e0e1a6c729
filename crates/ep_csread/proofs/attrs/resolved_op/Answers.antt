use Rattle.std.proofs.Common.{◌∙◌, ap}
use Rattle.ep_attr.specs.AttrMap.{AttrMap}
use Rattle.ep_cs.specs.declared.op.Op.{Op}
use Rattle.ep_csread.proofs.Named.{shared_map}
use Rattle.ep_csread.proofs.attrs.resolved_op.Goals as goal
use Rattle.ep_csread.proofs.attrs.resolved_op.Goals.{in-Some+in_ok-attrs-in-Some, in-None+in_ok-attrs-in-None}

pub returns : goal.returns
returns c =
    let o = c.args.op.now in
    let made_with : AttrMap → Op = λ m. record { kind = o.kind; units = o.units.value; lines = o.lines.value; attrs = m } in
    ap made_with (elim c.match-alike.branch [
      | in-Some+in_ok-attrs-in-Some w ↦
          w.attrs-is ∙ w.in_ok-attrs-in-Some.ensures
          ∙ shared_map c.args.pool.now.pairs c.args.before.now c.args.made.now w.in-Some.j o w.index-made-j.result c.requires.made w.in-Some.ensures.inside w.in-Some.ensures.kind w.in-Some.ensures.stars
      | in-None+in_ok-attrs-in-None w ↦ w.attrs-is ∙ w.in_ok-attrs-in-None.ensures
    ])
