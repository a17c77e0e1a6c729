use Rattle.std.proofs.Common.{sym, subst}
use Rattle.ep_block_parts.specs.Spans.{AddsCells}
use Rattle.ep_block_parts.proofs.Spans.{adds_one, taken_front}
use Rattle.ep_block_parts.proofs.within.take_span.Goals as goal

pub returns-in_ok-add_span-in-Some-clause-done : goal.returns-in_ok-add_span-in-Some-clause-done
returns-in_ok-add_span-in-Some-clause-done c =
    let s = c.in-Some.stretch in
    subst (λ cs. AddsCells c.args.spans.now.items cs c.add_span.new.spans.items)
    (sym (taken_front s.attrs.now s.text.now c.args.rest.now c.take.new.self c.in-Some.ensures.0))
    (adds_one c.args.spans.now.items c.add_span.new.spans.items s.attrs.now s.text.now c.in-Some.ensures.1 c.in_ok-add_span-in-Some.ensures)
