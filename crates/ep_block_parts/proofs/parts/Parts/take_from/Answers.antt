use Rattle.std.proofs.Common.{◌≡◌, ◌∙◌, ◌++◌, ◌-◌, List, length, take, sym, ap, subst, append_assoc, OnOk}
use Rattle.ep_cs.specs.Doc.{Cell}
use Rattle.ep_cs.specs.Runs.{cells}
use Rattle.ep_block_parts.proofs.Spans.{taken_on, dropped_on}
use Rattle.ep_block_parts.proofs.parts.Parts.take_from.Goals as goal

pub returns-in_ok-push-in-Some-clause-done : goal.returns-in_ok-push-in-Some-clause-done
returns-in_ok-push-in-Some-clause-done c =
    let f = c.in-Some.first in
    let more = take (c.args.units - length f.text.now) c.take.new.self in
    subst (λ (cs : List Cell). OnOk c.take_more.result (c.take_more.new.self ≡ cs))
    (ap (λ (cs : List Cell). cs ++ more) c.in_ok-push-in-Some.ensures ∙ append_assoc c.args.self.now (cells f.attrs.now f.text.now) more
    ∙ ap (λ (cs : List Cell). c.args.self.now ++ cs) (sym (taken_on f.attrs.now f.text.now c.args.units c.args.rest.now c.take.new.self c.in-Some.ensures.0 c.in-Some.ensures.2)))
    c.take_more.ensures.done

pub returns-in_ok-push-in-Some-clause-rest : goal.returns-in_ok-push-in-Some-clause-rest
returns-in_ok-push-in-Some-clause-rest c =
    let f = c.in-Some.first in
    subst (λ (cs : List Cell). OnOk c.take_more.result (c.take_more.new.rest ≡ cs)) (dropped_on f.attrs.now f.text.now c.args.units c.args.rest.now c.take.new.self c.in-Some.ensures.0 c.in-Some.ensures.2) c.take_more.ensures.rest
