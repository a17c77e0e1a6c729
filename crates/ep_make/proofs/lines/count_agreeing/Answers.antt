use Rattle.std.proofs.Common.{◌+◌, ap, ◌∙◌, arith}
use Rattle.ep_make.specs.Lines.{seen_by}
use Rattle.ep_make.proofs.Seen.{as_number, at_most_one, seen_more}
use Rattle.ep_make.proofs.lines.count_agreeing.Goals as goal

pub overflow_add-agreeing : goal.overflow_add-agreeing
overflow_add-agreeing g c = omega (arith, c.loop-k.invariant.few, at_most_one c.sees.result c.from-agreeing.result c.from-agreeing.ensures)

pub loop-k-preserved : goal.loop-k-preserved
loop-k-preserved g c = record {
  few = omega (arith, c.loop-k.invariant.few, at_most_one c.sees.result c.from-agreeing.result c.from-agreeing.ensures);
  counts = λ w at.
      ap (λ i. c.loop-k.agreeing + i) (c.from-agreeing.ensures ∙ as_number c.sees.result)
      ∙ seen_more w c.args.doc.now c.loop-k.k c.in_ok-name.name c.sees.result c.loop-k.agreeing c.in_ok-name.ensures (c.sees.ensures w at) (c.loop-k.invariant.counts w at);
}

pub returns : goal.returns
returns g c = λ w at. c.loop-k.invariant.counts w at ∙ ap (λ j. seen_by w c.args.doc.now j) (omega arith)
