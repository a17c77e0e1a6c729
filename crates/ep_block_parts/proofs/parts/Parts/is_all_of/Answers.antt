use Rattle.std.proofs.Common.{◌≡◌, ◌∙◌, List, length, get_or, sym, ap, arith}
use Rattle.ep_attr.proofs.SameMap.{exact_map}
use Rattle.ep_cs.specs.Doc.{text_of}
use Rattle.ep_cs.specs.Runs.{cells}
use Rattle.ep_block_parts.specs.declared.span.Span.{Span}
use Rattle.ep_block_parts.proofs.Spans.{only_span, text_spans}
use Rattle.ep_block_parts.proofs.parts.Parts.is_all_of.Goals as goal

pub returns-in-len1 : goal.returns-in-len1
returns-in-len1 c e =
    let p = c.self.inside in
    let ss = p.spans.items in
    let s = c.span-item.result in
    let m = c.args.attrs.now in
    let one : length ss ≡ 1 = omega (arith, c.in-len1.len_at_least, c.in-len1.len_below, ap length c.as_slice.ensures.value) in
    let first : s ≡ get_or ss 0 s = c.span-item.is ∙ ap (λ (xs : List Span). get_or xs 0 s) c.as_slice.ensures.value in
    let text : text_of c.args.self.now ≡ p.text = sym (ap text_of c.self.view_is) ∙ text_spans ss p.text c.self.invariant.whole in
    sym c.self.view_is ∙ only_span ss s p.text one first c.self.invariant.whole
    ∙ ap (λ m. cells m p.text) (exact_map s.attrs m (sym c.eq.ensures ∙ e)) ∙ ap (cells m) (sym text)
