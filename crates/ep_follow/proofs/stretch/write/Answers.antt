use Rattle.std.proofs.Common.{◌∙◌, sym}
use Rattle.ep_attr.specs.AttrMap.{none}
use Rattle.ep_attr.proofs.SameMap.{exact_map}
use Rattle.ep_follow.proofs.Stretches.{kept_bare, both_keep}
use Rattle.ep_follow.proofs.stretch.write.Goals as goal

pub returns-then-is_none : goal.returns-then-is_none
returns-then-is_none c =
    let h = c.args.head.now in
    let q = c.args.later.now in
    let n = c.args.part.units in
    let l = c.args.part.lines in
    let bare = exact_map q.attrs.now none (sym c.is_none.ensures ∙ c.if-is_none.true) in
    both_keep h.kind q.kind c.args.out.now c.keep_bare.new.self n l h.attrs.now q.attrs.now c.in_default.not-Drop-0 c.in_default.not-Drop-1
    (kept_bare c.args.out.now c.keep_bare.new.self n l h.attrs.now q.attrs.now bare c.keep_bare.ensures)
