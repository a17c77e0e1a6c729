use Rattle.std.proofs.Common.{◌∙◌, reverse, ap, sym, subst, arith}
use Rattle.ep_cs.specs.Runs.{cells, all_inserted}
use Rattle.ep_cs.specs.Normal.{put_cells}
use Rattle.ep_cs.specs.NormalRuns.{AreLined}
use Rattle.ep_cs.proofs.Roomy.{lined_cells}
use Rattle.ep_cs.proofs.Stretches.{cut_stretches, inserted_cells}
use Rattle.ep_cs.proofs.normal.put_text.Goals as goal

pub put_stretch-requires-3-clause-room : goal.put_stretch-requires-3-clause-room
put_stretch-requires-3-clause-room c =
    omega (arith, ap all_inserted c.in_ok-put_stretch-3.ensures, inserted_cells c.in_ok-copy.field-0 c.split_at.result.1.now (reverse c.args.ops.now.items), c.requires.room, c.split_at.ensures.front_len, c.split_at.ensures.back_len, c.last_line.ensures.within)

pub put_stretch-requires-3-clause-lines : goal.put_stretch-requires-3-clause-lines
put_stretch-requires-3-clause-lines c =
    subst AreLined (sym c.in_ok-put_stretch-3.ensures) (lined_cells (cells c.in_ok-copy.field-0 c.split_at.result.1.now) (reverse c.args.ops.now.items) c.requires.lines)

pub returns : goal.returns
returns c =
    let m = c.args.attrs in
    let k = c.last_line.result in
    let us = c.args.text.now in
    let os = reverse c.args.ops.now.items in
    c.in_ok-put_stretch-4.ensures ∙ ap (put_cells (cells m c.split_at.result.0.now)) c.in_ok-put_stretch-3.ensures
    ∙ (λ i. put_cells (cells m (c.split_at.ensures.front i)) (put_cells (cells (c.in_ok-copy.ensures i) (c.split_at.ensures.back i)) os))
    ∙ sym (cut_stretches m k us os)
