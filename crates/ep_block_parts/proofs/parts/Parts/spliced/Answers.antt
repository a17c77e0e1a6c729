use Rattle.std.proofs.Common.{◌≡◌, ◌∙◌, ◌++◌, refl, IfOk, take, drop, sym, ap, ap₂, subst}
use Rattle.ep_units.specs.Text.{Text}
use Rattle.ep_cs.specs.Doc.{text_of}
use Rattle.ep_cs.specs.Runs.{cells}
use Rattle.ep_block_parts.specs.Splices.{spliced}
use Rattle.ep_block_parts.proofs.Spans.{spliced_alike}
use Rattle.ep_block_parts.proofs.parts.Parts.spliced.Goals as goal

pub returns : goal.returns
returns c =
    let m = c.args.new.attrs.now in
    let new = c.args.new.text.now in
    let all = c.args.self.now in
    let text = c.text.ensures.text in
    let front = c.split_at.ensures.front ∙ ap (take c.args.at) text in
    let behind = c.split_at.ensures.back ∙ ap (drop c.args.at) text in
    let rear = c.split_at-2.ensures.back ∙ ap (drop c.args.dropped) behind in
    subst (λ cs. IfOk c.of_one_map.result (λ p. p ≡ cs))
    (ap₂ (λ (a b : Text). cells m ((a ++ new) ++ b)) front rear ∙ spliced_alike m (text_of all) new c.args.at c.args.dropped
    ∙ ap (spliced c.args.at c.args.dropped (cells m new)) (sym (c.if-not-is_all_of.ensures refl)))
    c.of_one_map.ensures
