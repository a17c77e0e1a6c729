use Rattle.std.proofs.Common.{◌≡◌, ◌++◌, List, length, ap, ◌∙◌, refl, arith, length-append}
use Rattle.ep_cs.specs.Doc.{Cell}
use Rattle.ep_cs.specs.Runs.{cells}
use Rattle.ep_block_parts.specs.declared.span.Span.{Span}
use Rattle.ep_block_parts.specs.Spans.{all_units, cells_of}
use Rattle.ep_block_parts.proofs.Spans.{length_spans, added_spans, added_units, added_cells}
use Rattle.ep_block_parts.proofs.parts.Parts.push.Goals as goal

pub join_span-requires : goal.join_span-requires
join_span-requires c =
    let p = c.self.inside in
    omega (arith, c.self.invariant.whole, length_spans p.spans.items p.text c.self.invariant.whole, ap length c.self.view_is, c.requires.short)

pub invariant_of-self-in-Ok : goal.invariant_of-self-in-Ok
invariant_of-self-in-Ok c =
    let p = c.self.inside in
    let s : Span = record { units = length c.args.text.now; attrs = c.args.attrs.now } in
    let ts = c.join_span.new.spans.items in
    let text : c.push_all.new.self ≡ p.text ++ c.args.text.now = c.in_ok-push_all.ensures.ok in
    let whole : all_units ts ≡ length c.push_all.new.self = omega (arith, added_units p.spans.items ts s c.in-Ok.ensures, c.self.invariant.whole, ap length text, length-append p.text c.args.text.now) in
    record {
      spans = added_spans p.spans.items ts s c.in-Ok.ensures c.self.invariant.spans c.requires.some;
      whole = whole;
      short = omega (arith, ap length text, length-append p.text c.args.text.now, length_spans p.spans.items p.text c.self.invariant.whole, ap length c.self.view_is, c.requires.short);
    }

pub returns-in-Ok : goal.returns-in-Ok
returns-in-Ok c =
    let p = c.self.inside in
    let s : Span = record { units = length c.args.text.now; attrs = c.args.attrs.now } in
    let ts = c.join_span.new.spans.items in
    ap (cells_of ts) c.in_ok-push_all.ensures.ok ∙ added_cells p.spans.items ts s p.text c.args.text.now c.in-Ok.ensures c.self.invariant.whole refl
    ∙ ap (λ (cs : List Cell). cs ++ cells c.args.attrs.now c.args.text.now) c.self.view_is
