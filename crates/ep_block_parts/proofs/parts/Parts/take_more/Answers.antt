use Rattle.std.proofs.Common.{◌≡◌, ◌++◌, List, length, take, ap, ◌∙◌, arith, length-append, length-take}
use Rattle.std.proofs.lemmas.List.{take-map}
use Rattle.ep_units.specs.Text.{Text}
use Rattle.ep_cs.specs.Doc.{Cell, text_of}
use Rattle.ep_block_parts.specs.Spans.{all_units, cells_of}
use Rattle.ep_block_parts.proofs.Spans.{length_spans, length_text}
use Rattle.ep_block_parts.proofs.parts.Parts.take_more.Goals as goal

pub invariant_of-self-in-Ok : goal.invariant_of-self-in-Ok
invariant_of-self-in-Ok c =
    let p = c.self.inside in
    let cs = take c.args.units c.args.rest.now in
    let adds = c.in-Ok.ensures.done in
    let text : c.push_all.new.self ≡ p.text ++ text_of cs = c.in_ok-push_all.ensures.ok ∙ ap (λ (us : Text). p.text ++ us) (ap (take c.args.units) c.text.ensures ∙ take-map (λ (c : Cell). c.unit) c.args.units c.args.rest.now) in
    let whole : all_units c.take_spans.new.spans.items ≡ length c.push_all.new.self = omega (arith, adds.units, c.self.invariant.whole, ap length text, length-append p.text (text_of cs), length_text cs) in
    record {
      spans = adds.spans c.self.invariant.spans;
      whole = whole;
      short = omega (arith, whole, adds.units, length-take c.args.units c.args.rest.now, c.self.invariant.whole, length_spans p.spans.items p.text c.self.invariant.whole, ap length c.self.view_is, c.requires.short);
    }

pub returns-in-Ok-clause-done : goal.returns-in-Ok-clause-done
returns-in-Ok-clause-done c =
    let p = c.self.inside in
    let cs = take c.args.units c.args.rest.now in
    let text : c.push_all.new.self ≡ p.text ++ text_of cs = c.in_ok-push_all.ensures.ok ∙ ap (λ (us : Text). p.text ++ us) (ap (take c.args.units) c.text.ensures ∙ take-map (λ (c : Cell). c.unit) c.args.units c.args.rest.now) in
    ap (cells_of c.take_spans.new.spans.items) text ∙ c.in-Ok.ensures.done.stand p.text c.self.invariant.whole ∙ ap (λ (ds : List Cell). ds ++ cs) c.self.view_is
